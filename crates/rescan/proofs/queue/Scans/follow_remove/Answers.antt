use Rattle.std.proofs.Common.{◌≡◌, ◌≤◌, true, refl, sym, ◌∙◌, ap, subst}
use Rattle.std.specs.Prelude.{is_some}
use Rattle.fsrm_model.specs.values.Limits.{longest_file}
use Rattle.fsrm_base.specs.Numbers.{without_number}
use Rattle.fsrm_model.specs.objects.QuotaStates.{head}
use Rattle.fsrm_model.specs.nodes.Tree.{number}
use Rattle.fsrm_base.proofs.Look.{has_found}
use Rattle.rescan.specs.Frontiers.{unvisited}
use Rattle.volume_tree.specs.Volume.{without_node}
use Rattle.rescan.specs.Courses.{Course, Scanning, Goes, left}
use Rattle.rescan.proofs.queued.Following.{goes_idle, goes_on, kept_going, removed_follows, stands_active}
use Rattle.rescan.proofs.queued.Leaving.{file_apart, file_children, folder_stays, volume_without}
use Rattle.rescan.proofs.queued.Lengths.{own_stands, row_length}
use Rattle.fsrm_model.proofs.nodes.OwnLaws.{file_inner}
use Rattle.rescan.proofs.queue.Scans.follow_remove.Goals as goal

pub on_resize-requires-clause-old : goal.on_resize-requires-clause-old
on_resize-requires-clause-old g c =
    let row = has_found number c.args.node c.args.tree.now.nodes c.requires.there in
    subst (λ k. k ≤ longest_file) (c.requires.own row.row row.is) (row_length c.args.tree.now.size c.args.tree.now.nodes c.args.node row.row c.requires.scanning.volume row.is)

pub on_resize-requires-clause-stands : goal.on_resize-requires-clause-stands
on_resize-requires-clause-stands g c =
    let some : is_some (head c.self.inside.queue.items) ≡ true = ap (λ (k : Course). is_some (head k.queue)) c.self.view_is ∙ sym c.if-is_scanning.ensures.active in
    own_stands c.args.tree.now c.self.inside.frontier c.args.node c.args.bytes
    (stands_active c.args.tree.now (record { queue = c.self.inside.queue.items; front = c.self.inside.frontier }) (subst (Scanning c.args.tree.now) (sym c.self.view_is) c.requires.scanning) some)
    c.requires.own

pub on_remove-requires-clause-inner : goal.on_remove-requires-clause-inner
on_remove-requires-clause-inner g c = file_inner c.args.tree.now.size c.args.tree.now.nodes c.args.node c.requires.scanning.volume c.requires.file

pub on_remove-requires-clause-leaf : goal.on_remove-requires-clause-leaf
on_remove-requires-clause-leaf g c = file_children c.args.tree.now.size c.args.tree.now.nodes c.args.node c.requires.scanning.volume c.requires.file

pub invariant_of-self : goal.invariant_of-self
invariant_of-self g c =
    let v = c.args.tree.now in
    let some : is_some (head c.self.inside.queue.items) ≡ true = ap (λ (k : Course). is_some (head k.queue)) c.self.view_is ∙ sym c.if-is_scanning.ensures.active in
    let volume = c.requires.scanning.volume in
    let emptied = c.on_resize.ensures.follows in
    let gone = c.on_remove.ensures.follows (volume_without v.size v.nodes c.args.node volume c.requires.there (file_inner v.size v.nodes c.args.node volume c.requires.file) (file_children v.size v.nodes c.args.node volume c.requires.file)) in
    record {
      kept = kept_going c.self.inside.queue.items c.self.inside.frontier c.on_remove.new.self some (gone.folder ∙ emptied.folder) (gone.room ∙ emptied.room) c.self.invariant.kept;
      memory = c.self.invariant.memory;
    }

pub returns-then-is_scanning-clause-follows : goal.returns-then-is_scanning-clause-follows
returns-then-is_scanning-clause-follows g c volume =
    let v = c.args.tree.now in
    let w = without_node v c.args.node in
    let some : is_some (head c.self.inside.queue.items) ≡ true = ap (λ (k : Course). is_some (head k.queue)) c.self.view_is ∙ sym c.if-is_scanning.ensures.active in
    subst (λ (k : Course). Goes k (record { queue = c.self.inside.queue.items; front = c.on_remove.new.self }) w (λ scanned. without_number c.args.node (left v.nodes k))) c.self.view_is
    (goes_on w (record { queue = c.self.inside.queue.items; front = c.self.inside.frontier }) c.on_remove.new.self (λ scanned. without_number c.args.node (unvisited v.nodes c.self.inside.frontier)) c.self.invariant.kept.active some
    (λ n h.
    let folder = (subst (Scanning v) (sym c.self.view_is) c.requires.scanning).folders n h in
    folder_stays v.nodes c.args.node n (file_apart v.nodes c.args.node n c.requires.file folder) folder)
    (removed_follows v w c.args.node c.self.inside.frontier c.on_resize.new.self c.on_remove.new.self c.on_resize.ensures.follows (c.on_remove.ensures.follows volume)))

pub returns-else-is_scanning-clause-follows : goal.returns-else-is_scanning-clause-follows
returns-else-is_scanning-clause-follows g c volume =
    let v = c.args.tree.now in
    let s = c.requires.scanning in
    goes_idle (without_node v c.args.node) c.args.self.now (λ scanned. without_number c.args.node (left v.nodes c.args.self.now)) s.active (sym c.if-is_scanning.ensures.active) (c.if-is_scanning.ensures.idle refl) volume s.fits
    (λ n h. folder_stays v.nodes c.args.node n (file_apart v.nodes c.args.node n c.requires.file (s.folders n h)) (s.folders n h))
