use Rattle.std.proofs.Common.{ℕ, ◌<◌, ◌++◌, List, length, ap, sym, ◌∙◌, arith}
use Rattle.std.proofs.lemmas.List.{append-nil}
use Rattle.number_set.specs.Numbers.{Numbers}
use Rattle.number_set.proofs.TakenLaws.{first_taken, none_first}
use Rattle.rescan.proofs.unvisited.SetLaws.{listed_more}
use Rattle.rescan.proofs.visits.drained.Goals as goal

pub loop-least-preserved : goal.loop-least-preserved
loop-least-preserved c =
    let left = ap (λ (s : Numbers). s.members) c.take_least.ensures.rest in
    ap (λ (ns : List ℕ). ns ++ c.take_least.new.self.members) c.in_ok-push.ensures.ok
    ∙ listed_more c.loop-least.list c.args.set.now.members c.loop-least.set.members c.take_least.new.self.members c.in-Some.least (sym c.in-Some.ensures.least) left c.loop-least.invariant

pub loop-least-smaller : goal.loop-least-smaller
loop-least-smaller c =
    let left = ap (λ (s : Numbers). length s.members) c.take_least.ensures.rest in
    let split = ap length (first_taken c.in-Some.least c.loop-least.set.members (sym c.in-Some.ensures.least)) in
    let less : length c.take_least.new.self.members < length c.loop-least.set.members = omega (arith, left, split) in
    less

pub returns : goal.returns
returns c =
    sym (append-nil c.loop-least.list)
    ∙ (ap (λ (ns : List ℕ). c.loop-least.list ++ ns) (sym (none_first c.loop-least.set.members (sym c.in_default.ensures.least)))
    ∙ c.loop-least.invariant)
