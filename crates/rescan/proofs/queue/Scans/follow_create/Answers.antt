use Rattle.std.proofs.Common.{◌≡◌, true, refl, sym, ◌∙◌, ap, subst}
use Rattle.std.specs.Prelude.{is_some}
use Rattle.fsrm_model.specs.objects.QuotaStates.{head}
use Rattle.fsrm_model.specs.nodes.Tree.{number}
use Rattle.fsrm_model.proofs.nodes.Keeps.{found_folder}
use Rattle.fsrm_base.proofs.Look.{has_found}
use Rattle.rescan.specs.Frontiers.{unvisited}
use Rattle.volume_tree.specs.Volume.{without_node}
use Rattle.rescan.specs.Courses.{Course, Scanning, Goes, left}
use Rattle.rescan.proofs.queued.Following.{kept_going, goes_idle, goes_on, created_follows}
use Rattle.rescan.proofs.queued.Leaving.{folder_back}
use Rattle.rescan.proofs.queue.Scans.follow_create.Goals as goal

pub on_resize-requires-clause-stands : goal.on_resize-requires-clause-stands
on_resize-requires-clause-stands g c =
    let row = has_found number c.args.node c.args.tree.now.nodes c.requires.there in
    (c.on_create.ensures.follows row.row row.is).stands

pub invariant_of-self : goal.invariant_of-self
invariant_of-self g c =
    let some : is_some (head c.self.inside.queue.items) ≡ true = ap (λ (k : Course). is_some (head k.queue)) c.self.view_is ∙ sym c.if-is_scanning.ensures.active in
    let row = has_found number c.args.node c.args.tree.now.nodes c.requires.there in
    let made = c.on_create.ensures.follows row.row row.is in
    let last = c.on_resize.ensures.follows in
    record {
      kept = kept_going c.self.inside.queue.items c.self.inside.frontier c.on_resize.new.self some (last.folder ∙ made.folder) (last.room ∙ made.room) c.self.invariant.kept;
      memory = c.self.invariant.memory;
    }

pub returns-then-is_scanning-clause-follows : goal.returns-then-is_scanning-clause-follows
returns-then-is_scanning-clause-follows g c =
    let v = c.args.tree.now in
    let some : is_some (head c.self.inside.queue.items) ≡ true = ap (λ (k : Course). is_some (head k.queue)) c.self.view_is ∙ sym c.if-is_scanning.ensures.active in
    let row = has_found number c.args.node v.nodes c.requires.there in
    let rest = unvisited (without_node v c.args.node).nodes c.self.inside.frontier in
    subst (λ (k : Course). Goes k (record { queue = c.self.inside.queue.items; front = c.on_resize.new.self }) v (λ scanned. left (without_node v c.args.node).nodes k)) c.self.view_is
    (goes_on v (record { queue = c.self.inside.queue.items; front = c.self.inside.frontier }) c.on_resize.new.self (λ scanned. rest) c.self.invariant.kept.active some
    (λ n h. folder_back v.nodes c.args.node n ((subst (Scanning (without_node v c.args.node)) (sym c.self.view_is) c.requires.scanning).folders n h))
    (created_follows v c.args.node c.args.bytes row.row c.self.inside.frontier c.on_create.new.self c.on_resize.new.self rest c.requires.volume c.requires.own (sym (found_folder v.nodes c.args.node row.row row.is) ∙ c.requires.file) (c.on_create.ensures.follows row.row row.is) c.on_resize.ensures.follows))

pub returns-else-is_scanning-clause-follows : goal.returns-else-is_scanning-clause-follows
returns-else-is_scanning-clause-follows g c =
    let v = c.args.tree.now in
    let s = c.requires.scanning in
    goes_idle v c.args.self.now (λ scanned. left (without_node v c.args.node).nodes c.args.self.now) s.active (sym c.if-is_scanning.ensures.active) (c.if-is_scanning.ensures.idle refl) c.requires.volume s.fits
    (λ n h. folder_back v.nodes c.args.node n (s.folders n h))
