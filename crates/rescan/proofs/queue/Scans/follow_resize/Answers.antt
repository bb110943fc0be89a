use Rattle.std.proofs.Common.{◌≡◌, ◌≤◌, true, refl, sym, ◌∙◌, ap, subst}
use Rattle.std.specs.Prelude.{is_some}
use Rattle.fsrm_model.specs.nodes.FileOps.{resized}
use Rattle.fsrm_model.specs.values.Limits.{longest_file}
use Rattle.fsrm_model.specs.objects.QuotaStates.{head}
use Rattle.fsrm_model.specs.nodes.Tree.{number}
use Rattle.fsrm_model.proofs.nodes.Keeps.{folder-change}
use Rattle.fsrm_base.proofs.Look.{has_found}
use Rattle.rescan.specs.Frontiers.{unvisited}
use Rattle.volume_tree.specs.Volume.{with_length}
use Rattle.rescan.specs.Courses.{Course, Scanning, Goes, left}
use Rattle.rescan.proofs.queued.Following.{goes_idle, goes_on, stands_active}
use Rattle.rescan.proofs.queued.Lengths.{own_stands, resized_follows, row_length}
use Rattle.rescan.proofs.queue.Scans.follow_resize.Goals as goal

pub on_resize-requires-clause-old : goal.on_resize-requires-clause-old
on_resize-requires-clause-old g c =
    let row = has_found number c.args.node c.args.tree.now.nodes c.requires.there in
    subst (λ k. k ≤ longest_file) (c.requires.own row.row row.is) (row_length c.args.tree.now.size c.args.tree.now.nodes c.args.node row.row c.requires.scanning.volume row.is)

pub on_resize-requires-clause-stands : goal.on_resize-requires-clause-stands
on_resize-requires-clause-stands g c =
    let some : is_some (head c.self.inside.queue.items) ≡ true = ap (λ (k : Course). is_some (head k.queue)) c.self.view_is ∙ sym c.if-is_scanning.ensures.active in
    own_stands c.args.tree.now c.self.inside.frontier c.args.node c.args.old
    (stands_active c.args.tree.now (record { queue = c.self.inside.queue.items; front = c.self.inside.frontier }) (subst (Scanning c.args.tree.now) (sym c.self.view_is) c.requires.scanning) some)
    c.requires.own

pub returns-then-is_scanning-clause-follows : goal.returns-then-is_scanning-clause-follows
returns-then-is_scanning-clause-follows g c moment volume =
    let v = c.args.tree.now in
    let w = with_length v c.args.node c.args.new moment in
    let some : is_some (head c.self.inside.queue.items) ≡ true = ap (λ (k : Course). is_some (head k.queue)) c.self.view_is ∙ sym c.if-is_scanning.ensures.active in
    subst (λ (k : Course). Goes k (record { queue = c.self.inside.queue.items; front = c.on_resize.new.self }) w (λ scanned. left v.nodes k)) c.self.view_is
    (goes_on w (record { queue = c.self.inside.queue.items; front = c.self.inside.frontier }) c.on_resize.new.self (λ scanned. unvisited v.nodes c.self.inside.frontier) c.self.invariant.kept.active some
    (λ n h. folder-change v.nodes c.args.node n (resized c.args.new moment) (λ r. refl) (λ r. refl) ∙ (subst (Scanning v) (sym c.self.view_is) c.requires.scanning).folders n h)
    (resized_follows v c.self.inside.frontier c.on_resize.new.self c.args.node c.args.new moment c.on_resize.ensures.follows volume))

pub returns-else-is_scanning-clause-follows : goal.returns-else-is_scanning-clause-follows
returns-else-is_scanning-clause-follows g c moment volume =
    let v = c.args.tree.now in
    let s = c.requires.scanning in
    goes_idle (with_length v c.args.node c.args.new moment) c.args.self.now (λ scanned. left v.nodes c.args.self.now) s.active (sym c.if-is_scanning.ensures.active) (c.if-is_scanning.ensures.idle refl) volume s.fits
    (λ n h. folder-change v.nodes c.args.node n (resized c.args.new moment) (λ r. refl) (λ r. refl) ∙ s.folders n h)
