use Rattle.std.proofs.Common.{◌≡◌, ◌∙◌, arith, rules}
use Rattle.std.specs.Prelude.{Err}
use Rattle.fsrm_store.specs.Amortized.{bytes_since}
use Rattle.made_script.specs.Rest.{lines_left}
use Rattle.made_script.specs.declared.tally.Tally.{Tally}
use Rattle.fsrm_session.specs.Spending.{bytes_after}
use Rattle.fsrm_session.specs.Underway.{CanTake}
use Rattle.fsrm_session.proofs.Object.{laws_of}
use Rattle.fsrm_session.proofs.Results.{stops_passed}
use Rattle.fsrm_session.proofs.Spending.{spends_less}
use Rattle.fsrm_modes.specs.Working.{work_turns}
use Rattle.fsrm_modes.proofs.Outcomes.{on_ok}
use Rattle.fsrm_modes.proofs.WorkEnds.{after_stop, lines_spend, lines_stop, sum_full, summed, summed_spends, text_is}
use Rattle.fsrm_modes.proofs.work.sum_up.Goals as goal

pub returns-in_err-tally-clause-runs : goal.returns-in_err-tally-clause-runs
returns-in_err-tally-clause-runs g c =
    let was = c.args.session.now in
    let e = was.store.engine in
    let work = c.new-work.result in
    let now = c.count_lines.new.session in
    let stop = c.in_err-tally.field-0.0 in
    let fault : c.from_residual.result ≡ Err stop = search rules in
    stops_passed c.from_residual.result stop (work_turns e.size e.rows c.args.seed c.args.count) was now c.args.outside.now c.count_lines.new.outside fault
    (lines_stop stop e.size e.rows c.args.seed c.args.count work.number (lines_left work) was now c.args.outside.now c.count_lines.new.outside c.new-work.ensures.first c.new-work.ensures.lines c.in_err-tally.ensures.runs)

pub returns-in_err-tally-clause-looks : goal.returns-in_err-tally-clause-looks
returns-in_err-tally-clause-looks g c =
    let was = c.args.session.now in
    let e = was.store.engine in
    let work = c.new-work.result in
    let now = c.count_lines.new.session in
    let stop = c.in_err-tally.field-0.0 in
    let fault : c.from_residual.result ≡ Err stop = search rules in
    spends_less (work_turns e.size e.rows c.args.seed c.args.count) was c.args.outside.now c.args.steps.now c.args.steps.now c.count_lines.new.steps _ (bytes_after c.from_residual.result now) (omega arith) (after_stop Tally c.from_residual.result stop now fault)
    (lines_spend e.size e.rows c.args.seed c.args.count work.number (lines_left work) was c.args.outside.now c.args.steps.now c.count_lines.new.steps _ c.new-work.ensures.first c.new-work.ensures.lines c.in_err-tally.ensures.looks)

pub returns-in-Ok-clause-runs : goal.returns-in-Ok-clause-runs
returns-in-Ok-clause-runs g c =
    let was = c.args.session.now in
    let e = was.store.engine in
    let work = c.new-work.result in
    let number = work.number in
    let lines = lines_left work in
    let now = c.count_lines.new.session in
    let text = c.deref.result.now in
    summed c.say_summary.result e.size e.rows c.args.seed c.args.count number lines text was now c.say_summary.new.session c.args.outside.now c.count_lines.new.outside c.say_summary.new.outside (laws_of g.met.O.Sink g.met.O.Disk g.met.O.Outside) c.new-work.ensures.first c.new-work.ensures.lines
    (text_is e.size e.rows c.args.seed c.args.count number lines c.in_ok-tally.tally text c.new-work.ensures.first c.new-work.ensures.lines c.in_ok-tally.ensures.tally (c.deref.ensures.value ∙ c.in-Ok.ensures))
    c.in_ok-tally.ensures.runs c.say_summary.ensures.runs

pub returns-in-Ok-clause-ready : goal.returns-in-Ok-clause-ready
returns-in-Ok-clause-ready g c = on_ok c.say_summary.result (λ (h : CanTake g.O.Disk.reads c.say_summary.new.session c.say_summary.new.outside). h.flush) c.say_summary.ensures.ready

pub returns-in-Ok-clause-looks : goal.returns-in-Ok-clause-looks
returns-in-Ok-clause-looks g c =
    let was = c.args.session.now in
    let e = was.store.engine in
    let work = c.new-work.result in
    let number = work.number in
    let lines = lines_left work in
    let text = c.deref.result.now in
    summed_spends e.size e.rows c.args.seed c.args.count number lines text was c.count_lines.new.session c.args.outside.now c.count_lines.new.outside c.args.steps.now c.count_lines.new.steps c.say_summary.new.steps (bytes_after c.say_summary.result c.say_summary.new.session) c.new-work.ensures.first c.new-work.ensures.lines
    (text_is e.size e.rows c.args.seed c.args.count number lines c.in_ok-tally.tally text c.new-work.ensures.first c.new-work.ensures.lines c.in_ok-tally.ensures.tally (c.deref.ensures.value ∙ c.in-Ok.ensures))
    c.in_ok-tally.ensures.runs c.in_ok-tally.ensures.looks c.say_summary.ensures.looks

pub returns-clause-runs : goal.returns-clause-runs
returns-clause-runs g c =
    let was = c.args.session.now in
    let e = was.store.engine in
    let work = c.new-work.result in
    sum_full e.size e.rows c.args.seed c.args.count work.number (lines_left work) was c.count_lines.new.session c.args.outside.now c.count_lines.new.outside (laws_of g.met.O.Sink g.met.O.Disk g.met.O.Outside) c.new-work.ensures.first c.new-work.ensures.lines c.in_ok-tally.ensures.runs

pub returns-clause-looks : goal.returns-clause-looks
returns-clause-looks g c =
    let was = c.args.session.now in
    let e = was.store.engine in
    let work = c.new-work.result in
    lines_spend e.size e.rows c.args.seed c.args.count work.number (lines_left work) was c.args.outside.now c.args.steps.now c.count_lines.new.steps (bytes_since c.count_lines.new.session.store.journal) c.new-work.ensures.first c.new-work.ensures.lines c.in_ok-tally.ensures.looks
