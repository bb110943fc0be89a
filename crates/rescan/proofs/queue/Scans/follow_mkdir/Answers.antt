use Rattle.std.proofs.Common.{◌≡◌, true, refl, sym, ◌∙◌, ap, subst}
use Rattle.std.specs.Prelude.{is_some}
use Rattle.fsrm_model.specs.objects.QuotaStates.{head}
use Rattle.fsrm_model.specs.objects.Scan.{unvisited_with}
use Rattle.fsrm_model.specs.nodes.Tree.{number}
use Rattle.fsrm_model.proofs.nodes.Keeps.{found_folder}
use Rattle.fsrm_base.proofs.Look.{has_found}
use Rattle.rescan.specs.Frontiers.{unvisited}
use Rattle.volume_tree.specs.Volume.{without_node}
use Rattle.rescan.specs.Courses.{Course, Scanning, Goes, left}
use Rattle.rescan.proofs.queued.Following.{kept_going, goes_idle, goes_on}
use Rattle.rescan.proofs.queued.Leaving.{folder_back}
use Rattle.rescan.proofs.queued.Lengths.{own_follows}
use Rattle.rescan.proofs.followed.ChangeLaws.{folder_length}
use Rattle.rescan.proofs.queue.Scans.follow_mkdir.Goals as goal

pub invariant_of-self : goal.invariant_of-self
invariant_of-self c =
    let some : is_some (head c.self.inside.queue.items) ≡ true = ap (λ (k : Course). is_some (head k.queue)) c.self.view_is ∙ sym c.if-is_scanning.ensures.active in
    let row = has_found number c.args.node c.args.tree.now.nodes c.requires.there in
    let f = c.on_create.ensures.follows row.row row.is in
    record {
      kept = kept_going c.self.inside.queue.items c.self.inside.frontier c.on_create.new.self some f.folder f.room c.self.invariant.kept;
      memory = c.self.invariant.memory;
    }

pub returns-then-is_scanning : goal.returns-then-is_scanning
returns-then-is_scanning c =
    record {
      follows = λ row found.
          let v = c.args.tree.now in
          let some : is_some (head c.self.inside.queue.items) ≡ true = ap (λ (k : Course). is_some (head k.queue)) c.self.view_is ∙ sym c.if-is_scanning.ensures.active in
          let rest = unvisited (without_node v c.args.node).nodes c.self.inside.frontier in
          subst (λ (k : Course). Goes k (record { queue = c.self.inside.queue.items; front = c.on_create.new.self }) v (λ scanned. unvisited_with row (left (without_node v c.args.node).nodes k))) c.self.view_is
          (goes_on v (record { queue = c.self.inside.queue.items; front = c.self.inside.frontier }) c.on_create.new.self (λ scanned. unvisited_with row rest) c.self.invariant.kept.active some
          (λ n h. folder_back v.nodes c.args.node n ((subst (Scanning (without_node v c.args.node)) (sym c.self.view_is) c.requires.scanning).folders n h))
          (own_follows v c.self.inside.frontier c.on_create.new.self (unvisited_with row rest) c.args.node 0 c.requires.volume (λ r e. folder_length v.size v.nodes c.args.node r c.requires.volume e (sym (found_folder v.nodes c.args.node r e) ∙ c.requires.folder)) (c.on_create.ensures.follows row found)));
    }

pub returns-else-is_scanning : goal.returns-else-is_scanning
returns-else-is_scanning c =
    let v = c.args.tree.now in
    let s = c.requires.scanning in
    record {
      follows = λ row found.
          goes_idle v c.args.self.now (λ scanned. unvisited_with row (left (without_node v c.args.node).nodes c.args.self.now)) s.active (sym c.if-is_scanning.ensures.active) (c.if-is_scanning.ensures.idle refl) c.requires.volume s.fits
          (λ n h. folder_back v.nodes c.args.node n (s.folders n h));
    }
