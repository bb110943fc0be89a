use Rattle.std.proofs.Common.{List, [], ◌∷◌, ◌++◌, length, refl, sym, ap, subst, ◌∙◌, arith, length-append}
use Rattle.fsrm_model.specs.declared.command.Act.{Act}
use Rattle.fsrm_model.specs.objects.Acts.{IsAct}
use Rattle.fsrm_model.specs.store.Valid.{IsValid}
use Rattle.fsrm_model.specs.texts.ActText.{act_lines}
use Rattle.fsrm_engine.specs.Machine.{Machine}
use Rattle.line_parts.proofs.Sent.{cut_second, none_written, passed_on, told, two_texts}
use Rattle.fsrm_session.proofs.Unshown.{as_err, as_ok}
use Rattle.fsrm_session.proofs.Handing.{keeps_same, keeps_then, alike_same, alike_then, one_handed, all_handed, line_is, lines_are, looks_more, looks_broken}
use Rattle.fsrm_session.proofs.replies.write_acts.Goals as goal

pub loop-act-init : goal.loop-act-init
loop-act-init g c =
    ([], record { size = refl; rows = refl; journal = keeps_same c.args.store.now; stands = alike_same c.args.store.now; count = omega arith; handed = refl; writes = none_written c.args.sink.now g.met.S.Sink.write_same; looks = omega arith })

pub write_act-requires-clause-store : goal.write_act-requires-clause-store
write_act-requires-clause-store g c = subst (λ (m : Machine). IsValid m.size m.rows) (sym c.engine.ensures.lent) c.engine.ensures.valid

pub write_act-requires-clause-named : goal.write_act-requires-clause-named
write_act-requires-clause-named g c = subst (λ (m : Machine). IsAct m.rows c.in-Some.act) (sym c.engine.ensures.lent) c.in-Some.ensures.named

pub loop-act-smaller : goal.loop-act-smaller
loop-act-smaller g c = let shorter = ap (λ (acts : List Act). length acts) c.in-Some.ensures.handed_out in omega (arith, shorter)

pub loop-act-preserved : goal.loop-act-preserved
loop-act-preserved g c =
    let first = c.args.store.now.engine in
    let next = c.next_act.new.self.engine in
    let act = c.in-Some.act in
    let done = c.loop-act.invariant.0 in
    let kept = c.loop-act.invariant.1 in
    let lent = c.engine.result.now in
    let rows = c.next_act.ensures.rows ∙ kept.rows in
    let still = ap (λ (m : Machine). m.rows) c.engine.ensures.lent ∙ rows in (
      done ++ act ∷ [],
      record {
        size = c.next_act.ensures.size ∙ kept.size;
        rows = rows;
        journal = keeps_then kept.journal c.next_act.ensures.journal;
        stands = alike_then kept.stands c.next_act.ensures.stands;
        count = omega (arith, length-append done (act ∷ []));
        handed = one_handed first.waiting done c.loop-act.store.engine.waiting next.waiting act kept.handed c.in-Some.ensures.handed_out;
        writes = two_texts g.met.S.Sink.write_then (line_is first.rows lent.rows done act still) kept.writes c.in_ok-write_act.ensures.writes;
        looks = looks_more first.rows lent.rows done act c.args.steps.now c.loop-act.steps c.write_act.new.steps still kept.looks c.in_ok-write_act.ensures.looks;
      },
    )

pub returns-in_err-write_act-clause-size : goal.returns-in_err-write_act-clause-size
returns-in_err-write_act-clause-size g c = c.next_act.ensures.size ∙ c.loop-act.invariant.1.size

pub returns-in_err-write_act-clause-rows : goal.returns-in_err-write_act-clause-rows
returns-in_err-write_act-clause-rows g c = c.next_act.ensures.rows ∙ c.loop-act.invariant.1.rows

pub returns-in_err-write_act-clause-journal : goal.returns-in_err-write_act-clause-journal
returns-in_err-write_act-clause-journal g c = keeps_then c.loop-act.invariant.1.journal c.next_act.ensures.journal

pub returns-in_err-write_act-clause-stands : goal.returns-in_err-write_act-clause-stands
returns-in_err-write_act-clause-stands g c = alike_then c.loop-act.invariant.1.stands c.next_act.ensures.stands

pub returns-in_err-write_act-clause-writes : goal.returns-in_err-write_act-clause-writes
returns-in_err-write_act-clause-writes g c =
    let first = c.args.store.now.engine in
    let next = c.next_act.new.self.engine in
    let act = c.in-Some.act in
    let done = c.loop-act.invariant.0 in
    let kept = c.loop-act.invariant.1 in
    passed_on c.from_residual.result c.from_residual.ensures.1
    (as_err
    (cut_second _ g.met.S.Sink.write_then
    (lines_are first.rows c.engine.result.now.rows first.waiting done next.waiting act (ap (λ (m : Machine). m.rows) c.engine.ensures.lent ∙ c.next_act.ensures.rows ∙ kept.rows) (one_handed first.waiting done c.loop-act.store.engine.waiting next.waiting act kept.handed c.in-Some.ensures.handed_out))
    kept.writes c.in_err-write_act.ensures.writes))

pub returns-in_err-write_act-clause-looks : goal.returns-in_err-write_act-clause-looks
returns-in_err-write_act-clause-looks g c =
    let first = c.args.store.now.engine in
    let next = c.next_act.new.self.engine in
    let act = c.in-Some.act in
    let done = c.loop-act.invariant.0 in
    let kept = c.loop-act.invariant.1 in
    looks_broken first.rows first.waiting (done ++ act ∷ []) next.waiting c.args.steps.now c.write_act.new.steps (one_handed first.waiting done c.loop-act.store.engine.waiting next.waiting act kept.handed c.in-Some.ensures.handed_out)
    (looks_more first.rows c.engine.result.now.rows done act c.args.steps.now c.loop-act.steps c.write_act.new.steps (ap (λ (m : Machine). m.rows) c.engine.ensures.lent ∙ c.next_act.ensures.rows ∙ kept.rows) kept.looks c.in_err-write_act.ensures.looks)

pub returns-clause-size : goal.returns-clause-size
returns-clause-size g c = c.next_act.ensures.size ∙ c.loop-act.invariant.1.size

pub returns-clause-rows : goal.returns-clause-rows
returns-clause-rows g c = c.next_act.ensures.rows ∙ c.loop-act.invariant.1.rows

pub returns-clause-journal : goal.returns-clause-journal
returns-clause-journal g c = keeps_then c.loop-act.invariant.1.journal c.next_act.ensures.journal

pub returns-clause-stands : goal.returns-clause-stands
returns-clause-stands g c = alike_then c.loop-act.invariant.1.stands c.next_act.ensures.stands

pub returns-clause-idle : goal.returns-clause-idle
returns-clause-idle g c = ap (λ (machine : Machine). machine.waiting) (c.in_default.ensures.none refl) ∙ c.in_default.ensures.handed_out

pub returns-clause-writes : goal.returns-clause-writes
returns-clause-writes g c =
    let first = c.args.store.now.engine in
    let kept = c.loop-act.invariant.1 in
    as_ok (told (ap (act_lines first.rows) (all_handed first.waiting c.loop-act.invariant.0 c.loop-act.store.engine.waiting kept.handed c.in_default.ensures.handed_out)) kept.writes)

pub returns-clause-count : goal.returns-clause-count
returns-clause-count g c =
    let kept = c.loop-act.invariant.1 in
    let all = all_handed c.args.store.now.engine.waiting c.loop-act.invariant.0 c.loop-act.store.engine.waiting kept.handed c.in_default.ensures.handed_out in
    omega (arith, kept.count, ap (λ (acts : List Act). length acts) all)

pub returns-clause-looks : goal.returns-clause-looks
returns-clause-looks g c =
    let first = c.args.store.now.engine in
    looks_broken first.rows first.waiting c.loop-act.invariant.0 c.loop-act.store.engine.waiting c.args.steps.now c.loop-act.steps c.loop-act.invariant.1.handed c.loop-act.invariant.1.looks
