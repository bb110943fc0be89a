use Rattle.std.proofs.Common.{◌≡◌, ◌+◌, ◌<◌, ◌-◌, List, ℕ, [], ◌∷◌, sym, ◌∙◌, ap, subst, arith, None}
use Rattle.std.specs.Prelude.{drop, is_some, sum_by}
use Rattle.fsrm_base.proofs.TestLaws.{clash}
use Rattle.rescan.specs.Frontiers.{Front}
use Rattle.fsrm_model.specs.store.Capacities.{is_cluster}
use Rattle.fsrm_base.specs.Numbers.{with_number, without_number, with_numbers}
use Rattle.fsrm_model.specs.values.Space.{space}
use Rattle.fsrm_model.specs.nodes.Tree.{children}
use Rattle.number_set.proofs.TakenLaws.{first_in, none_first, taken_is}
use Rattle.rescan.specs.Visits.{folders_in}
use Rattle.rescan.proofs.moved.Ahead.{ahead, top_ahead, open_ahead, whole_ahead}
use Rattle.rescan.proofs.moved.Leaving.{Leaving, Tracked, begin, finish, pass_top, same_room}
use Rattle.rescan.proofs.moved.Opening.{opened, pass_open, enough_left}
use Rattle.rescan.proofs.frontier.Frontier.leave.Goals as goal

pub loop-next-init : goal.loop-next-init
loop-next-init g c =
    let K = c.args.tree.now.size in
    let nodes = c.args.tree.now.nodes in
    let f = c.args.self.now in
    let x = c.args.node in
    let t : Tracked K nodes f x = record { volume = c.requires.volume; tops = c.requires.tops; folder = c.requires.folder; visited = c.requires.visited; enough = c.requires.counted } in
    let waiting : c.insert.new.self.members ≡ x ∷ [] = ap (λ s. s.members) c.insert.ensures ∙ ap (with_number x) c.self.invariant.still in
    let tops : c.self.inside.tops.members ≡ f.tops = ap (λ v. v.tops) c.self.view_is in
    let sum : c.self.inside.sum ≡ f.sum = ap (λ v. v.sum) c.self.view_is in
    let room : c.self.inside.tops.bound ≡ f.room.nodes = ap (λ v. v.room.nodes) c.self.view_is in
    record {
      walk = subst (λ (ns : List ℕ). Leaving K nodes f x ns c.insert.new.self.members c.self.inside.sum) (sym tops)
          (subst (λ (ns : List ℕ). Leaving K nodes f x f.tops ns c.self.inside.sum) (sym waiting)
          (subst (λ (s : ℕ). Leaving K nodes f x f.tops (x ∷ []) s) (sym sum) (begin K nodes f x t)));
      folder = ap (λ v. v.folder) c.self.view_is;
      bound = room;
      cluster = ap (λ v. v.room.cluster) c.self.view_is;
      room = ap (λ s. s.bound) c.insert.ensures ∙ (c.self.invariant.bounds ∙ room);
      looks = omega (arith, ap (ahead nodes) waiting, whole_ahead K nodes x c.requires.volume);
    }

pub loop-next-smaller-then-contains : goal.loop-next-smaller-then-contains
loop-next-smaller-then-contains g c =
    let K = c.args.tree.now.size in
    let nodes = c.args.tree.now.nodes in
    let waiting = c.loop-next.self-inside.waiting.members in
    let less = top_ahead K nodes c.args.self.now c.args.node c.loop-next.self-inside.tops.members waiting c.loop-next.self-inside.sum c.in-Some.next c.requires.volume c.loop-next.invariant.walk (first_in c.in-Some.next waiting (sym c.in-Some.ensures.least)) in
    let now : c.take_least.new.self.members ≡ without_number c.in-Some.next waiting = ap (λ s. s.members) (taken_is c.loop-next.self-inside.waiting c.take_least.new.self c.in-Some.next c.loop-next.invariant.walk.ascending (sym c.in-Some.ensures.least) c.take_least.ensures.rest) in
    subst (λ (ns : List ℕ). ahead nodes ns < ahead nodes waiting) (sym now) less

pub loop-next-preserved-then-contains : goal.loop-next-preserved-then-contains
loop-next-preserved-then-contains g c =
    let K = c.args.tree.now.size in
    let nodes = c.args.tree.now.nodes in
    let f = c.args.self.now in
    let x = c.args.node in
    let n = c.in-Some.next in
    let waiting = c.loop-next.self-inside.waiting.members in
    let tops = c.loop-next.self-inside.tops.members in
    let sum = c.loop-next.self-inside.sum in
    let t : Tracked K nodes f x = record { volume = c.requires.volume; tops = c.requires.tops; folder = c.requires.folder; visited = c.requires.visited; enough = c.requires.counted } in
    let here = first_in n waiting (sym c.in-Some.ensures.least) in
    let less = top_ahead K nodes f x tops waiting sum n c.requires.volume c.loop-next.invariant.walk here in
    let now : c.take_least.new.self.members ≡ without_number n waiting = ap (λ s. s.members) (taken_is c.loop-next.self-inside.waiting c.take_least.new.self c.in-Some.next c.loop-next.invariant.walk.ascending (sym c.in-Some.ensures.least) c.take_least.ensures.rest) in
    let left : c.remove.new.self.members ≡ without_number n tops = ap (λ s. s.members) c.remove.ensures in
    let walk = pass_top K nodes f x tops waiting sum n t c.loop-next.invariant.walk here (sym c.contains.ensures ∙ c.if-contains.true) in
    record {
      walk = subst (λ (ns : List ℕ). Leaving K nodes f x ns c.take_least.new.self.members sum) (sym left)
          (subst (λ (ns : List ℕ). Leaving K nodes f x (without_number n tops) ns sum) (sym now) walk);
      folder = c.loop-next.invariant.folder;
      bound = ap (λ s. s.bound) c.remove.ensures ∙ c.loop-next.invariant.bound;
      cluster = c.loop-next.invariant.cluster;
      room = ap (λ s. s.bound) c.take_least.ensures.rest ∙ c.loop-next.invariant.room;
      looks = omega (arith, ap (ahead nodes) now, less, c.loop-next.invariant.looks);
    }

pub overflow_sub-self : goal.overflow_sub-self
overflow_sub-self g c =
    let K = c.args.tree.now.size in
    let nodes = c.args.tree.now.nodes in
    let f = c.args.self.now in
    let x = c.args.node in
    let waiting = c.loop-next.self-inside.waiting.members in
    let t : Tracked K nodes f x = record { volume = c.requires.volume; tops = c.requires.tops; folder = c.requires.folder; visited = c.requires.visited; enough = c.requires.counted } in
    let most = enough_left K nodes f x c.loop-next.self-inside.tops.members waiting c.loop-next.self-inside.sum c.in-Some.next t c.loop-next.invariant.walk (first_in c.in-Some.next waiting (sym c.in-Some.ensures.least)) (sym c.contains.ensures ∙ c.if-contains.false) in
    omega (arith, most, c.enter_children.ensures.bytes)

pub loop-next-smaller : goal.loop-next-smaller
loop-next-smaller g c =
    let K = c.args.tree.now.size in
    let nodes = c.args.tree.now.nodes in
    let n = c.in-Some.next in
    let waiting = c.loop-next.self-inside.waiting.members in
    let step = open_ahead K nodes c.args.self.now c.args.node c.loop-next.self-inside.tops.members waiting c.loop-next.self-inside.sum n c.requires.volume c.loop-next.invariant.walk (first_in n waiting (sym c.in-Some.ensures.least)) in
    let less : ahead nodes (opened nodes n waiting) < ahead nodes waiting = omega (arith, step) in
    let now : c.enter_children.new.set.members ≡ opened nodes n waiting = ap (λ s. s.members) c.enter_children.ensures.set ∙ ap (λ s. with_numbers (folders_in nodes n) s.members) (taken_is c.loop-next.self-inside.waiting c.take_least.new.self c.in-Some.next c.loop-next.invariant.walk.ascending (sym c.in-Some.ensures.least) c.take_least.ensures.rest) in
    subst (λ (ns : List ℕ). ahead nodes ns < ahead nodes waiting) (sym now) less

pub loop-next-preserved : goal.loop-next-preserved
loop-next-preserved g c =
    let K = c.args.tree.now.size in
    let nodes = c.args.tree.now.nodes in
    let f = c.args.self.now in
    let x = c.args.node in
    let n = c.in-Some.next in
    let waiting = c.loop-next.self-inside.waiting.members in
    let tops = c.loop-next.self-inside.tops.members in
    let sum = c.loop-next.self-inside.sum in
    let sum2 = sum - c.enter_children.result in
    let t : Tracked K nodes f x = record { volume = c.requires.volume; tops = c.requires.tops; folder = c.requires.folder; visited = c.requires.visited; enough = c.requires.counted } in
    let here = first_in n waiting (sym c.in-Some.ensures.least) in
    let lacks = sym c.contains.ensures ∙ c.if-contains.false in
    let step = open_ahead K nodes f x tops waiting sum n c.requires.volume c.loop-next.invariant.walk here in
    let now : c.enter_children.new.set.members ≡ opened nodes n waiting = ap (λ s. s.members) c.enter_children.ensures.set ∙ ap (λ s. with_numbers (folders_in nodes n) s.members) (taken_is c.loop-next.self-inside.waiting c.take_least.new.self c.in-Some.next c.loop-next.invariant.walk.ascending (sym c.in-Some.ensures.least) c.take_least.ensures.rest) in
    let most = enough_left K nodes f x tops waiting sum n t c.loop-next.invariant.walk here lacks in
    let rest : sum2 + sum_by (space K) (children nodes n) ≡ sum = omega (arith, most, c.enter_children.ensures.bytes) in
    record {
      walk = subst (λ (ns : List ℕ). Leaving K nodes f x tops ns sum2) (sym now) (pass_open K nodes f x tops waiting sum sum2 n t c.loop-next.invariant.walk here lacks rest);
      folder = c.loop-next.invariant.folder;
      bound = c.loop-next.invariant.bound;
      cluster = c.loop-next.invariant.cluster;
      room = ap (λ s. s.bound) c.enter_children.ensures.set ∙ (ap (λ s. s.bound) c.take_least.ensures.rest ∙ c.loop-next.invariant.room);
      looks = omega (arith, ap (ahead nodes) now, step, c.loop-next.invariant.looks, c.enter_children.ensures.looks);
    }

pub invariant_of-self : goal.invariant_of-self
invariant_of-self g c =
    let active : c.loop-next.self-inside.folder ≡ None → ⊥ = λ h. clash (is_some c.args.self.now.folder) c.requires.tops.active (ap is_some (sym c.loop-next.invariant.folder ∙ h)) in
    record {
      bounds = ap (λ s. s.bound) c.take_least.ensures.rest ∙ (c.loop-next.invariant.room ∙ sym c.loop-next.invariant.bound);
      still = ap (λ s. s.members) c.take_least.ensures.rest ∙ ap (drop 1) (none_first c.loop-next.self-inside.waiting.members (sym c.in_default.ensures.least));
      no_tops = λ h. absurd (active h);
      no_sum = λ h. absurd (active h);
      legal = ap is_cluster (c.loop-next.invariant.cluster ∙ sym (ap (λ (f : Front). f.room.cluster) c.self.view_is)) ∙ c.self.invariant.legal;
    }

pub returns-clause-leaves : goal.returns-clause-leaves
returns-clause-leaves g c =
    let K = c.args.tree.now.size in
    let nodes = c.args.tree.now.nodes in
    let inside = c.loop-next.self-inside in
    let new : Front = record { room = record { nodes = inside.tops.bound; cluster = inside.cluster }; folder = inside.folder; tops = inside.tops.members; sum = inside.sum } in
    let none = none_first inside.waiting.members (sym c.in_default.ensures.least) in
    finish K nodes c.args.self.now new c.args.node
    (subst (λ (ns : List ℕ). Leaving K nodes c.args.self.now c.args.node inside.tops.members ns inside.sum) none c.loop-next.invariant.walk)
    (same_room c.args.self.now.room inside.tops.bound inside.cluster c.loop-next.invariant.bound c.loop-next.invariant.cluster) c.loop-next.invariant.folder
