use Rattle.std.proofs.Common.{◌≡◌, ◌+◌, ◌<◌, true, List, ℕ, [], ◌∷◌, sym, ◌∙◌, ap, subst, arith}
use Rattle.fsrm_base.specs.Numbers.{with_number, without_number, with_numbers}
use Rattle.fsrm_model.specs.store.Capacities.{is_capacity}
use Rattle.fsrm_model.specs.nodes.Tree.{usage}
use Rattle.number_set.specs.Numbers.{Numbers}
use Rattle.number_set.proofs.TakenLaws.{first_in, none_first, taken_is}
use Rattle.rescan.specs.Frontiers.{Front}
use Rattle.rescan.specs.Visits.{folders_in}
use Rattle.rescan.proofs.counted.FitLaws.{usage_small}
use Rattle.rescan.proofs.moved.Ahead.{ahead, open_ahead, top_ahead, whole_ahead}
use Rattle.rescan.proofs.moved.Leaving.{left}
use Rattle.rescan.proofs.moved.Opening.{opened}
use Rattle.rescan.proofs.moved.Summing.{Summing, begin_sum, counter_small, counter_sum, open_small, open_sum, whole, whole_sum}
use Rattle.rescan.proofs.frontier.Frontier.sum_below.Goals as goal

pub loop-next-init : goal.loop-next-init
loop-next-init g c =
    let K = c.args.tree.now.size in
    let nodes = c.args.tree.now.nodes in
    let x = c.args.folder in
    let waiting : c.insert.new.self.members ≡ x ∷ [] = ap (λ (s : Numbers). s.members) c.insert.ensures ∙ ap (with_number x) c.self.invariant.still in
    record {
      sums = subst (λ (ns : List ℕ). Summing K nodes x ns 0) (sym waiting) (begin_sum K nodes x c.requires.volume c.requires.folder);
      front = c.self.view_is;
      room = ap (λ (s : Numbers). s.bound) c.insert.ensures ∙ (c.self.invariant.bounds ∙ ap (λ (f : Front). f.room.nodes) c.self.view_is);
      looks = omega (arith, ap (ahead nodes) waiting, whole_ahead K nodes x c.requires.volume);
    }

pub overflow_add-sum : goal.overflow_add-sum
overflow_add-sum g c =
    let K = c.args.tree.now.size in
    let nodes = c.args.tree.now.nodes in
    let x = c.args.folder in
    let n = c.in-Some.next in
    let waiting = c.loop-next.self-inside.waiting.members in
    let legal : is_capacity K ≡ true = ap is_capacity (sym c.capacity-size.ensures.size) ∙ c.capacity-size.ensures.legal in
    let is : c.in-Some-used.bytes ≡ usage K nodes n = c.requires.counters.each n c.in-Some-used.bytes (sym c.used.ensures ∙ c.in-Some-used.is) in
    let small = counter_small K nodes x n waiting c.loop-next.sum c.in-Some-used.bytes c.requires.volume c.loop-next.invariant.sums (first_in n waiting (sym c.in-Some.ensures.least)) is in
    let most = usage_small K nodes x c.requires.volume legal in
    omega (arith, small, most)

pub loop-next-smaller-in-Some-used : goal.loop-next-smaller-in-Some-used
loop-next-smaller-in-Some-used g c =
    let K = c.args.tree.now.size in
    let nodes = c.args.tree.now.nodes in
    let x = c.args.folder in
    let n = c.in-Some.next in
    let waiting = c.loop-next.self-inside.waiting.members in
    let walk = c.loop-next.invariant.sums.walk in
    let less = top_ahead K nodes (whole K nodes x) x [] waiting (left K nodes (whole K nodes x) waiting) n c.requires.volume walk (first_in n waiting (sym c.in-Some.ensures.least)) in
    let now : c.take_least.new.self.members ≡ without_number n waiting = ap (λ (s : Numbers). s.members) (taken_is c.loop-next.self-inside.waiting c.take_least.new.self n walk.ascending (sym c.in-Some.ensures.least) c.take_least.ensures.rest) in
    subst (λ (ns : List ℕ). ahead nodes ns < ahead nodes waiting) (sym now) less

pub loop-next-preserved-in-Some-used : goal.loop-next-preserved-in-Some-used
loop-next-preserved-in-Some-used g c =
    let K = c.args.tree.now.size in
    let nodes = c.args.tree.now.nodes in
    let x = c.args.folder in
    let n = c.in-Some.next in
    let waiting = c.loop-next.self-inside.waiting.members in
    let sum = c.loop-next.sum in
    let bytes = c.in-Some-used.bytes in
    let walk = c.loop-next.invariant.sums.walk in
    let here = first_in n waiting (sym c.in-Some.ensures.least) in
    let less = top_ahead K nodes (whole K nodes x) x [] waiting (left K nodes (whole K nodes x) waiting) n c.requires.volume walk here in
    let now : c.take_least.new.self.members ≡ without_number n waiting = ap (λ (s : Numbers). s.members) (taken_is c.loop-next.self-inside.waiting c.take_least.new.self n walk.ascending (sym c.in-Some.ensures.least) c.take_least.ensures.rest) in
    record {
      sums = subst (λ (ns : List ℕ). Summing K nodes x ns (sum + bytes)) (sym now)
          (counter_sum K nodes x n waiting sum bytes c.requires.volume c.loop-next.invariant.sums here (c.requires.counters.each n bytes (sym c.used.ensures ∙ c.in-Some-used.is)));
      front = c.loop-next.invariant.front;
      room = ap (λ (s : Numbers). s.bound) c.take_least.ensures.rest ∙ c.loop-next.invariant.room;
      looks = omega (arith, ap (ahead nodes) now, less, c.loop-next.invariant.looks);
    }

pub overflow_add-sum-in_default-used : goal.overflow_add-sum-in_default-used
overflow_add-sum-in_default-used g c =
    let K = c.args.tree.now.size in
    let nodes = c.args.tree.now.nodes in
    let x = c.args.folder in
    let n = c.in-Some.next in
    let waiting = c.loop-next.self-inside.waiting.members in
    let legal : is_capacity K ≡ true = ap is_capacity (sym c.capacity-size.ensures.size) ∙ c.capacity-size.ensures.legal in
    let small = open_small K nodes x n waiting c.loop-next.sum c.enter_children-sum.result c.requires.volume c.loop-next.invariant.sums (first_in n waiting (sym c.in-Some.ensures.least)) c.enter_children-sum.ensures.bytes in
    let most = usage_small K nodes x c.requires.volume legal in
    omega (arith, small, most)

pub loop-next-smaller : goal.loop-next-smaller
loop-next-smaller g c =
    let K = c.args.tree.now.size in
    let nodes = c.args.tree.now.nodes in
    let x = c.args.folder in
    let n = c.in-Some.next in
    let waiting = c.loop-next.self-inside.waiting.members in
    let walk = c.loop-next.invariant.sums.walk in
    let step = open_ahead K nodes (whole K nodes x) x [] waiting (left K nodes (whole K nodes x) waiting) n c.requires.volume walk (first_in n waiting (sym c.in-Some.ensures.least)) in
    let less : ahead nodes (opened nodes n waiting) < ahead nodes waiting = omega (arith, step) in
    let now : c.enter_children-sum.new.set.members ≡ opened nodes n waiting = ap (λ (s : Numbers). s.members) c.enter_children-sum.ensures.set ∙ ap (λ (s : Numbers). with_numbers (folders_in nodes n) s.members) (taken_is c.loop-next.self-inside.waiting c.take_least.new.self n walk.ascending (sym c.in-Some.ensures.least) c.take_least.ensures.rest) in
    subst (λ (ns : List ℕ). ahead nodes ns < ahead nodes waiting) (sym now) less

pub loop-next-preserved : goal.loop-next-preserved
loop-next-preserved g c =
    let K = c.args.tree.now.size in
    let nodes = c.args.tree.now.nodes in
    let x = c.args.folder in
    let n = c.in-Some.next in
    let waiting = c.loop-next.self-inside.waiting.members in
    let sum = c.loop-next.sum in
    let bytes = c.enter_children-sum.result in
    let walk = c.loop-next.invariant.sums.walk in
    let here = first_in n waiting (sym c.in-Some.ensures.least) in
    let step = open_ahead K nodes (whole K nodes x) x [] waiting (left K nodes (whole K nodes x) waiting) n c.requires.volume walk here in
    let now : c.enter_children-sum.new.set.members ≡ opened nodes n waiting = ap (λ (s : Numbers). s.members) c.enter_children-sum.ensures.set ∙ ap (λ (s : Numbers). with_numbers (folders_in nodes n) s.members) (taken_is c.loop-next.self-inside.waiting c.take_least.new.self n walk.ascending (sym c.in-Some.ensures.least) c.take_least.ensures.rest) in
    record {
      sums = subst (λ (ns : List ℕ). Summing K nodes x ns (sum + bytes)) (sym now)
          (open_sum K nodes x n waiting sum bytes c.requires.volume c.requires.folder c.loop-next.invariant.sums here c.enter_children-sum.ensures.bytes);
      front = c.loop-next.invariant.front;
      room = ap (λ (s : Numbers). s.bound) c.enter_children-sum.ensures.set ∙ (ap (λ (s : Numbers). s.bound) c.take_least.ensures.rest ∙ c.loop-next.invariant.room);
      looks = omega (arith, ap (ahead nodes) now, step, c.loop-next.invariant.looks, c.enter_children-sum.ensures.looks);
    }

pub returns-clause-sum : goal.returns-clause-sum
returns-clause-sum g c =
    let K = c.args.tree.now.size in
    let nodes = c.args.tree.now.nodes in
    let x = c.args.folder in
    whole_sum K nodes x c.loop-next.sum
    (subst (λ (ns : List ℕ). Summing K nodes x ns c.loop-next.sum) (none_first c.loop-next.self-inside.waiting.members (sym c.in_default.ensures.least)) c.loop-next.invariant.sums)
