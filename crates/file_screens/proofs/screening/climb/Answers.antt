use Rattle.std.proofs.Common.{ℕ, List, ◌∷◌, sym, ◌∙◌, ap, arith}
use Rattle.file_screens.specs.Way.{applying_on}
use Rattle.file_screens.proofs.JudgeLaws.{goes_up, judged_all, judged_by, stops_active, stops_excepted}
use Rattle.file_screens.proofs.screening.climb.Goals as goal

pub loop-passive-init : goal.loop-passive-init
loop-passive-init g c = record { apart = c.requires.apart; judged = λ text named. judged_all (applying_on c.args.groups.now c.args.objects.now (c.args.start ∷ c.args.way.now) text); looks = omega arith }

pub returns-then-is_active-clause-judged : goal.returns-then-is_active-clause-judged
returns-then-is_active-clause-judged g c =
    let l = c.loop-passive in
    λ text named.
    stops_active c.args.groups.now c.args.objects.now text l.at l.way l.invariant.apart _ l.passive c.screen_with-found.result
    (c.screen_with-found.ensures text named) (l.invariant.judged text named) c.is_active.result c.is_active.ensures c.if-is_active.true

pub returns-then-is_excepted-clause-judged : goal.returns-then-is_excepted-clause-judged
returns-then-is_excepted-clause-judged g c =
    let l = c.loop-passive in
    λ text named.
    stops_excepted c.args.groups.now c.args.objects.now text l.at l.way l.invariant.apart _ l.passive c.screen_with-found.result
    (c.screen_with-found.ensures text named) (l.invariant.judged text named) c.is_active.result c.is_active.ensures
    c.or-passive.result c.is_excepted.result c.if-is_active.false c.or-passive.ensures (c.is_excepted.ensures text named) c.if-is_excepted.true

pub returns-in-None-clause-judged : goal.returns-in-None-clause-judged
returns-in-None-clause-judged g c =
    let l = c.loop-passive in
    let next = c.or-passive.result in
    λ text named.
    sym (ap (λ (ns : List ℕ). judged_by next (applying_on c.args.groups.now c.args.objects.now ns text)) c.in-None.ensures.none)
    ∙ goes_up c.args.groups.now c.args.objects.now text l.at l.way l.invariant.apart _ l.passive c.screen_with-found.result
    (c.screen_with-found.ensures text named) (l.invariant.judged text named) c.is_active.result c.is_active.ensures
    next c.is_excepted.result c.if-is_active.false c.or-passive.ensures (c.is_excepted.ensures text named) c.if-is_excepted.false

pub loop-passive-preserved : goal.loop-passive-preserved
loop-passive-preserved g c =
    let l = c.loop-passive in
    let next = c.or-passive.result in
    let is = c.in-Some.ensures.some in
    record {
      apart = c.in-Some.ensures.apart;
      judged = λ text named.
          sym (ap (λ (ns : List ℕ). judged_by next (applying_on c.args.groups.now c.args.objects.now ns text)) is)
          ∙ goes_up c.args.groups.now c.args.objects.now text l.at l.way l.invariant.apart _ l.passive c.screen_with-found.result
          (c.screen_with-found.ensures text named) (l.invariant.judged text named) c.is_active.result c.is_active.ensures
          next c.is_excepted.result c.if-is_active.false c.or-passive.ensures (c.is_excepted.ensures text named) c.if-is_excepted.false;
      looks = omega (arith, c.in-Some.ensures.count, l.invariant.looks);
    }
