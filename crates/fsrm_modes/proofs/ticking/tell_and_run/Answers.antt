use Rattle.std.proofs.Common.{◌≡◌, arith, rules, subst}
use Rattle.std.specs.Prelude.{Err, MatchResult}
use Rattle.fsrm_engine.specs.Machine.{Machine}
use Rattle.fsrm_session.specs.Members.{members}
use Rattle.fsrm_session.specs.Spending.{bytes_after, Spends}
use Rattle.fsrm_session.specs.Underway.{Goes, Stops}
use Rattle.fsrm_session.proofs.Going.{stops_more}
use Rattle.fsrm_session.proofs.Object.{laws_of}
use Rattle.fsrm_session.proofs.Results.{stops_passed}
use Rattle.fsrm_session.proofs.Spending.{after_fault, spends_first, spends_less, spends_then}
use Rattle.report_schedule.specs.DueJobs.{due_runs, unread_names}
use Rattle.fsrm_modes.specs.Ticks.{commands_turns, tick_turns, unread_turns}
use Rattle.fsrm_modes.proofs.Moving.{after_goes}
use Rattle.fsrm_modes.proofs.ticking.tell_and_run.Goals as goal

pub returns-in_err-tell_unread-clause-runs : goal.returns-in_err-tell_unread-clause-runs
returns-in_err-tell_unread-clause-runs g c =
    let was = c.args.session.now in
    let K = was.store.engine.size in
    let R = was.store.engine.rows in
    let stop = c.in_err-tell_unread.field-0.0 in
    let fault : c.from_residual.result ≡ Err stop = search rules in
    stops_passed c.from_residual.result stop (tick_turns K R c.args.moment) was c.tell_unread.new.session c.args.outside.now c.tell_unread.new.outside fault
    (stops_more stop (unread_turns (unread_names R.jobs)) (commands_turns K 1 (due_runs c.args.moment R.jobs)) was c.tell_unread.new.session c.args.outside.now c.tell_unread.new.outside c.in_err-tell_unread.ensures.runs)

pub returns-clause-runs : goal.returns-clause-runs
returns-clause-runs g c =
    let M = members g.O.Source g.O.Sink g.O.Disk in
    let was = c.args.session.now in
    let K = was.store.engine.size in
    let R = was.store.engine.rows in
    let mid = c.tell_unread.new.session in
    let last = c.run_due.new.session in
    after_goes c.run_due.result (unread_turns (unread_names R.jobs)) (commands_turns K 1 (due_runs c.args.moment R.jobs)) was mid last c.args.outside.now c.tell_unread.new.outside c.run_due.new.outside (laws_of g.met.O.Sink g.met.O.Disk g.met.O.Outside) c.in_ok-tell_unread.ensures.runs
    (subst (λ (m : Machine). MatchResult c.run_due.result
    (λ x. Goes M (commands_turns m.size 1 (due_runs c.args.moment m.rows.jobs)) mid last c.tell_unread.new.outside c.run_due.new.outside)
    (λ e. Stops M e (commands_turns m.size 1 (due_runs c.args.moment m.rows.jobs)) mid last c.tell_unread.new.outside c.run_due.new.outside))
    c.in_ok-tell_unread.ensures.engine c.run_due.ensures.runs)

-- ---- what it takes
pub returns-in_err-tell_unread-clause-looks : goal.returns-in_err-tell_unread-clause-looks
returns-in_err-tell_unread-clause-looks g c =
    let was = c.args.session.now in
    let now = c.tell_unread.new.session in
    let K = was.store.engine.size in
    let R = was.store.engine.rows in
    let stop = c.in_err-tell_unread.field-0.0 in
    let fault : c.from_residual.result ≡ Err stop = search rules in
    spends_less (tick_turns K R c.args.moment) was c.args.outside.now c.args.steps.now c.args.steps.now c.tell_unread.new.steps (bytes_after {T = Unit {0}} (Err stop) now) (bytes_after c.from_residual.result now) (omega arith) (after_fault c.from_residual.result stop now fault)
    (spends_first (unread_turns (unread_names R.jobs)) (commands_turns K 1 (due_runs c.args.moment R.jobs)) was c.args.outside.now c.args.steps.now c.tell_unread.new.steps (bytes_after {T = Unit {0}} (Err stop) now) c.in_err-tell_unread.ensures.looks)

pub returns-clause-looks : goal.returns-clause-looks
returns-clause-looks g c =
    let M = members g.O.Source g.O.Sink g.O.Disk in
    let was = c.args.session.now in
    let K = was.store.engine.size in
    let R = was.store.engine.rows in
    let mid = c.tell_unread.new.session in
    let half = c.tell_unread.new.outside in
    let left = bytes_after c.run_due.result c.run_due.new.session in
    spends_then (unread_turns (unread_names R.jobs)) (commands_turns K 1 (due_runs c.args.moment R.jobs)) was mid c.args.outside.now half c.args.steps.now c.tell_unread.new.steps c.run_due.new.steps left
    c.in_ok-tell_unread.ensures.runs c.in_ok-tell_unread.ensures.looks
    (subst (λ (m : Machine). Spends M (commands_turns m.size 1 (due_runs c.args.moment m.rows.jobs)) mid half c.tell_unread.new.steps c.run_due.new.steps left) c.in_ok-tell_unread.ensures.engine c.run_due.ensures.looks)
