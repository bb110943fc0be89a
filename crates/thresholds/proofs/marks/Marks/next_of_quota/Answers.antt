use Rattle.std.proofs.Common.{◌≡◌, [], ◌∷◌, MatchOption, is_some, sym, ◌∙◌, ap, subst}
use Rattle.std.specs.List.{list_all}
use Rattle.fsrm_model.specs.declared.command.Act.{Act}
use Rattle.fsrm_model.specs.objects.Acts.{act_before}
use Rattle.number_set.specs.Numbers.{Numbers}
use Rattle.thresholds.specs.Marked.{Marked, act_at, are_there, waiting}
use Rattle.thresholds.proofs.KeptLaws.{less_kept}
use Rattle.thresholds.proofs.OrderLaws.{at_passes, none_waits, there_less, waits_first, waits_later}
use Rattle.thresholds.proofs.marks.Marks.next_of_quota.Goals as goal

pub returns-in_err-number-clause-handed_out : goal.returns-in_err-number-clause-handed_out
returns-in_err-number-clause-handed_out c =
    let quotas = c.args.objects.now.quotas in
    let numbers = c.args.self.now.numbers in
    let none = ap (λ (m : Marked). waiting quotas m.numbers) (sym c.self.view_is) ∙ none_waits quotas c.self.inside.numbers.members (sym c.in_err-number.ensures.least) in
    subst (λ o. MatchOption o (waiting quotas numbers ≡ []) (λ (act : Act). waiting quotas numbers ≡ act ∷ waiting quotas c.take_least.new.self.members)) (sym c.from_residual.ensures) none

pub act_at-requires : goal.act_at-requires
act_at-requires c =
    let quotas = c.args.objects.now.quotas in
    at_passes (λ m. is_some (act_at quotas m)) c.self.inside.numbers.members 0 c.in_ok-number.number
    (ap (λ (m : Marked). are_there quotas m.numbers) c.self.view_is ∙ c.requires.marked) (sym c.in_ok-number.ensures.least)

pub invariant_of-self : goal.invariant_of-self
invariant_of-self c = less_kept c.self.inside.numbers c.take_least.new.self c.self.inside.log c.self.inside.places c.take_least.ensures.rest c.self.invariant

pub returns-clause-handed_out : goal.returns-clause-handed_out
returns-clause-handed_out c =
    let quotas = c.args.objects.now.quotas in
    let act = c.act_at.result in
    ap (λ (m : Marked). waiting quotas m.numbers) (sym c.self.view_is)
    ∙ (waits_first quotas c.in_ok-number.number act c.act_at.ensures c.self.inside.numbers.members (sym c.in_ok-number.ensures.least)
    ∙ ap (λ (s : Numbers). act ∷ waiting quotas s.members) (sym c.take_least.ensures.rest))

pub returns-clause-first : goal.returns-clause-first
returns-clause-first c =
    let quotas = c.args.objects.now.quotas in
    let act = c.act_at.result in
    ap (λ (s : Numbers). list_all (act_before act) (waiting quotas s.members)) c.take_least.ensures.rest
    ∙ waits_later quotas c.in_ok-number.number act c.act_at.ensures c.self.inside.numbers.members c.requires.orderly (sym c.in_ok-number.ensures.least) c.self.invariant.ascending

pub returns-clause-marked : goal.returns-clause-marked
returns-clause-marked c =
    let quotas = c.args.objects.now.quotas in
    ap (λ (s : Numbers). are_there quotas s.members) c.take_least.ensures.rest
    ∙ there_less quotas c.self.inside.numbers.members (ap (λ (m : Marked). are_there quotas m.numbers) c.self.view_is ∙ c.requires.marked)
