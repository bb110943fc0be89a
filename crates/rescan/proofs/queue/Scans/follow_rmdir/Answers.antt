use Rattle.std.proofs.Common.{◌≡◌, true, refl, sym, ◌∙◌, ap, subst}
use Rattle.std.specs.Prelude.{is_some}
use Rattle.fsrm_base.specs.Numbers.{is_in, without_number}
use Rattle.fsrm_model.specs.objects.QuotaStates.{head}
use Rattle.fsrm_model.proofs.nodes.Keeps.{found_folder}
use Rattle.rescan.specs.Frontiers.{unvisited}
use Rattle.volume_tree.specs.Volume.{without_node}
use Rattle.rescan.specs.Courses.{Course, Scanning, Goes, left}
use Rattle.rescan.proofs.queued.Following.{absent_apart, goes_idle, goes_on, kept_going, not_scanned, stands_active}
use Rattle.rescan.proofs.queued.Leaving.{folder_stays, volume_without}
use Rattle.rescan.proofs.queued.Lengths.{own_stands}
use Rattle.rescan.proofs.followed.ChangeLaws.{folder_length}
use Rattle.rescan.proofs.queue.Scans.follow_rmdir.Goals as goal

pub on_remove-requires-clause-other : goal.on_remove-requires-clause-other
on_remove-requires-clause-other c =
    let some : is_some (head c.self.inside.queue.items) ≡ true = ap (λ (k : Course). is_some (head k.queue)) c.self.view_is ∙ sym c.if-is_scanning.ensures.active in
    not_scanned c.args.tree.now (record { queue = c.self.inside.queue.items; front = c.self.inside.frontier }) c.args.node (subst (Scanning c.args.tree.now) (sym c.self.view_is) c.requires.scanning) some
    (ap (λ (k : Course). is_in k.queue c.args.node) c.self.view_is ∙ c.requires.absent)

pub on_remove-requires-clause-stands : goal.on_remove-requires-clause-stands
on_remove-requires-clause-stands c =
    let v = c.args.tree.now in
    let some : is_some (head c.self.inside.queue.items) ≡ true = ap (λ (k : Course). is_some (head k.queue)) c.self.view_is ∙ sym c.if-is_scanning.ensures.active in
    own_stands v c.self.inside.frontier c.args.node 0
    (stands_active v (record { queue = c.self.inside.queue.items; front = c.self.inside.frontier }) (subst (Scanning v) (sym c.self.view_is) c.requires.scanning) some)
    (λ r e. folder_length v.size v.nodes c.args.node r c.requires.scanning.volume e (sym (found_folder v.nodes c.args.node r e) ∙ c.requires.folder))

pub invariant_of-self : goal.invariant_of-self
invariant_of-self c =
    let v = c.args.tree.now in
    let some : is_some (head c.self.inside.queue.items) ≡ true = ap (λ (k : Course). is_some (head k.queue)) c.self.view_is ∙ sym c.if-is_scanning.ensures.active in
    let f = c.on_remove.ensures.follows (volume_without v.size v.nodes c.args.node c.requires.scanning.volume c.requires.there c.requires.inner c.requires.leaf) in
    record {
      kept = kept_going c.self.inside.queue.items c.self.inside.frontier c.on_remove.new.self some f.folder f.room c.self.invariant.kept;
      memory = c.self.invariant.memory;
    }

pub returns-then-is_scanning : goal.returns-then-is_scanning
returns-then-is_scanning c =
    record {
      follows = λ volume.
          let v = c.args.tree.now in
          let w = without_node v c.args.node in
          let some : is_some (head c.self.inside.queue.items) ≡ true = ap (λ (k : Course). is_some (head k.queue)) c.self.view_is ∙ sym c.if-is_scanning.ensures.active in
          subst (λ (k : Course). Goes k (record { queue = c.self.inside.queue.items; front = c.on_remove.new.self }) w (λ scanned. without_number c.args.node (left v.nodes k))) c.self.view_is
          (goes_on w (record { queue = c.self.inside.queue.items; front = c.self.inside.frontier }) c.on_remove.new.self (λ scanned. without_number c.args.node (unvisited v.nodes c.self.inside.frontier)) c.self.invariant.kept.active some
          (λ n h. folder_stays v.nodes c.args.node n (absent_apart c.self.inside.queue.items c.args.node n (ap (λ (k : Course). is_in k.queue c.args.node) c.self.view_is ∙ c.requires.absent) h) ((subst (Scanning v) (sym c.self.view_is) c.requires.scanning).folders n h))
          (c.on_remove.ensures.follows volume));
    }

pub returns-else-is_scanning : goal.returns-else-is_scanning
returns-else-is_scanning c =
    let v = c.args.tree.now in
    let s = c.requires.scanning in
    record {
      follows = λ volume.
          goes_idle (without_node v c.args.node) c.args.self.now (λ scanned. without_number c.args.node (left v.nodes c.args.self.now)) s.active (sym c.if-is_scanning.ensures.active) (c.if-is_scanning.ensures.idle refl) volume s.fits
          (λ n h. folder_stays v.nodes c.args.node n (absent_apart c.args.self.now.queue c.args.node n c.requires.absent h) (s.folders n h));
    }
