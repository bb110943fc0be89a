use Rattle.std.proofs.Common.{ℕ, ◌++◌, List, length, ap, sym, ◌∙◌, arith}
use Rattle.std.proofs.lemmas.List.{append-nil}
use Rattle.number_set.specs.Numbers.{Numbers}
use Rattle.number_set.proofs.TakenLaws.{first_taken, none_first}
use Rattle.file_jobs.proofs.FindLaws.{listed_more}
use Rattle.file_jobs.proofs.finding.members.Goals as goal

pub loop-number-preserved : goal.loop-number-preserved
loop-number-preserved c =
    let rest = ap (λ (s : Numbers). s.members) c.take_least.ensures.rest in
    ap (λ (ns : List ℕ). ns ++ c.take_least.new.self.members) c.in_ok-push.ensures.items
    ∙ (listed_more c.loop-number.numbers.items c.loop-number.set.members c.take_least.new.self.members c.in-Some.number (sym c.in-Some.ensures.least) rest
    ∙ c.loop-number.invariant)

pub loop-number-smaller : goal.loop-number-smaller
loop-number-smaller c =
    let rest = ap (λ (s : Numbers). length s.members) c.take_least.ensures.rest in
    let split = ap length (first_taken c.in-Some.number c.loop-number.set.members (sym c.in-Some.ensures.least)) in
    omega (arith, rest, split)

pub returns : goal.returns
returns c =
    sym (append-nil c.loop-number.numbers.items)
    ∙ (ap (λ (ns : List ℕ). c.loop-number.numbers.items ++ ns) (sym (none_first c.loop-number.set.members (sym c.in_default.ensures.least)))
    ∙ c.loop-number.invariant)
