use Rattle.std.proofs.Common.{sym, ◌∙◌}
use Rattle.std.proofs.lemmas.Option.{same_Some}
use Rattle.quota_usage.proofs.ChargeLaws.{both_fits, given_fits, left_both, left_given, left_taken, lost_none, lost_other, lost_own, second_fits, taken_fits}
use Rattle.quota_usage.proofs.OptionTests.{is_number, no_number}
use Rattle.quota_usage.proofs.climb.take.Goals as goal

pub returns-in_default-clause-lost : goal.returns-in_default-clause-lost
returns-in_default-clause-lost g c = λ to gives. lost_none c.args.change.now to c.in_default.is

pub returns-in_default-clause-left : goal.returns-in_default-clause-left
returns-in_default-clause-left g c =
    let change = c.args.change.now in
    left_given c.args.tree.now.nodes change.from change.to change.minus change.plus c.args.counters.now c.in_default.is

pub returns-in_default-clause-fits : goal.returns-in_default-clause-fits
returns-in_default-clause-fits g c = λ to gives.
    let change = c.args.change.now in
    given_fits c.args.tree.now.nodes c.args.counters.now change.from change.to to change.minus change.plus c.in_default.is gives c.requires.fits.fits

pub returns-then-eq-clause-lost : goal.returns-then-eq-clause-lost
returns-then-eq-clause-lost g c = λ to gives.
    let change = c.args.change.now in
    lost_own change to c.in-Some.from c.in-Some.is (is_number change.to c.in-Some.from (sym c.eq.ensures ∙ c.if-eq.true)) gives

pub returns-then-eq-clause-left : goal.returns-then-eq-clause-left
returns-then-eq-clause-left g c =
    let change = c.args.change.now in
    left_both c.args.tree.now.nodes change.from change.to c.in-Some.from change.minus change.plus c.args.counters.now c.in-Some.is (is_number change.to c.in-Some.from (sym c.eq.ensures ∙ c.if-eq.true))

pub climb-requires-clause-fits : goal.climb-requires-clause-fits
climb-requires-clause-fits g c =
    let change = c.args.change.now in
    taken_fits c.args.tree.now.nodes c.args.counters.now change.from change.to c.in-Some.from change.minus change.plus c.in-Some.is c.requires.fits.fits

pub returns-clause-lost : goal.returns-clause-lost
returns-clause-lost g c = λ to gives.
    let change = c.args.change.now in
    lost_other change to c.in-Some.from c.in-Some.is (no_number change.to c.in-Some.from (sym c.eq.ensures ∙ c.if-eq.false)) gives

pub returns-clause-left : goal.returns-clause-left
returns-clause-left g c =
    let change = c.args.change.now in
    left_taken c.args.tree.now.nodes change.from change.to c.in-Some.from change.minus change.plus c.args.counters.now c.climb.new.counters c.in-Some.is c.climb.ensures.made

pub returns-clause-fits : goal.returns-clause-fits
returns-clause-fits g c = λ to gives.
    let change = c.args.change.now in
    second_fits c.args.tree.now.nodes c.args.counters.now c.climb.new.counters change.from change.to c.in-Some.from to change.minus change.plus c.in-Some.is gives c.climb.ensures.made c.requires.fits.fits

pub returns-then-eq-clause-fits : goal.returns-then-eq-clause-fits
returns-then-eq-clause-fits g c = λ to gives.
    let change = c.args.change.now in
    let own = is_number change.to c.in-Some.from (sym c.eq.ensures ∙ c.if-eq.true) in
    both_fits c.args.tree.now.nodes c.args.counters.now change.from change.to c.in-Some.from to change.minus change.plus c.in-Some.is gives (same_Some c.in-Some.from to (sym own ∙ gives)) c.requires.fits.fits
