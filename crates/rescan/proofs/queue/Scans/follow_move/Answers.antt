use Rattle.std.proofs.Common.{◌≡◌, true, refl, sym, ◌∙◌, ap, subst}
use Rattle.std.specs.Prelude.{is_some}
use Rattle.fsrm_model.specs.nodes.FileOps.{placed}
use Rattle.fsrm_model.specs.objects.QuotaStates.{head}
use Rattle.fsrm_model.specs.objects.Scan.{unvisited_moved}
use Rattle.fsrm_model.proofs.nodes.Keeps.{folder-change}
use Rattle.rescan.specs.Frontiers.{unvisited}
use Rattle.volume_tree.specs.Volume.{with_place}
use Rattle.rescan.specs.Courses.{Course, Scanning, Goes, left}
use Rattle.rescan.proofs.queued.Following.{goes_idle, goes_on, kept_going}
use Rattle.rescan.proofs.queue.Scans.follow_move.Goals as goal

pub invariant_of-self : goal.invariant_of-self
invariant_of-self g c =
    let some : is_some (head c.self.inside.queue.items) ≡ true = ap (λ (k : Course). is_some (head k.queue)) c.self.view_is ∙ sym c.if-is_scanning.ensures.active in
    record {
      kept = kept_going c.self.inside.queue.items c.self.inside.frontier c.on_move.new.self some c.on_move.ensures.scan c.on_move.ensures.room c.self.invariant.kept;
      memory = c.self.invariant.memory;
    }

pub returns-then-is_scanning-clause-follows : goal.returns-then-is_scanning-clause-follows
returns-then-is_scanning-clause-follows g c name volume =
    let v = c.args.tree.now in
    let w = with_place v c.args.node c.args.folder name in
    let some : is_some (head c.self.inside.queue.items) ≡ true = ap (λ (k : Course). is_some (head k.queue)) c.self.view_is ∙ sym c.if-is_scanning.ensures.active in
    subst (λ (k : Course). Goes k (record { queue = c.self.inside.queue.items; front = c.on_move.new.self }) w (λ scanned. unvisited_moved v.nodes w.nodes scanned c.args.node c.args.folder (left v.nodes k))) c.self.view_is
    (goes_on w (record { queue = c.self.inside.queue.items; front = c.self.inside.frontier }) c.on_move.new.self (λ scanned. unvisited_moved v.nodes w.nodes scanned c.args.node c.args.folder (unvisited v.nodes c.self.inside.frontier)) c.self.invariant.kept.active some
    (λ n h. folder-change v.nodes c.args.node n (placed c.args.folder name) (λ r. refl) (λ r. refl) ∙ (subst (Scanning v) (sym c.self.view_is) c.requires.scanning).folders n h)
    (c.on_move.ensures.follows name volume))

pub returns-else-is_scanning-clause-follows : goal.returns-else-is_scanning-clause-follows
returns-else-is_scanning-clause-follows g c name volume =
    let v = c.args.tree.now in
    let w = with_place v c.args.node c.args.folder name in
    let s = c.requires.scanning in
    goes_idle w c.args.self.now (λ scanned. unvisited_moved v.nodes w.nodes scanned c.args.node c.args.folder (left v.nodes c.args.self.now)) s.active (sym c.if-is_scanning.ensures.active) (c.if-is_scanning.ensures.idle refl) volume s.fits
    (λ n h. folder-change v.nodes c.args.node n (placed c.args.folder name) (λ r. refl) (λ r. refl) ∙ s.folders n h)
