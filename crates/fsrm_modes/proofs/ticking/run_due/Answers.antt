use Rattle.std.proofs.Common.{List, ◌∙◌, ap, subst}
use Rattle.std.specs.Prelude.{MatchResult}
use Rattle.std.specs.List.{list_all}
use Rattle.fsrm_engine.specs.Machine.{Machine}
use Rattle.fsrm_model.specs.declared.command.Command.{Command}
use Rattle.fsrm_model.specs.declared.row.JobRow.{JobRow}
use Rattle.fsrm_model.specs.objects.Jobs.{is_job}
use Rattle.fsrm_model.specs.store.Valued.{is_command}
use Rattle.fsrm_session.specs.Members.{members}
use Rattle.fsrm_session.specs.Spending.{bytes_after, Spends}
use Rattle.fsrm_session.specs.Underway.{Goes, Stops}
use Rattle.fsrm_session.proofs.Object.{laws_of}
use Rattle.fsrm_session.proofs.Spending.{spends_nothing}
use Rattle.report_schedule.specs.DueJobs.{due_runs}
use Rattle.report_schedule.proofs.RunLaws.{runs_legal}
use Rattle.fsrm_modes.specs.Ticks.{commands_turns}
use Rattle.fsrm_modes.proofs.Outcomes.{full_stops}
use Rattle.fsrm_modes.proofs.TickTurns.{valid_jobs}
use Rattle.fsrm_modes.proofs.ticking.run_due.Goals as goal

pub due_runs-requires : goal.due_runs-requires
due_runs-requires g c = ap (λ (l : List JobRow). list_all is_job l) c.objects.ensures.jobs ∙ valid_jobs c.engine.result.now.size c.engine.result.now.rows c.objects.ensures.store

pub take_commands-requires-clause-valid : goal.take_commands-requires-clause-valid
take_commands-requires-clause-valid g c =
    let jobs = ap (λ (l : List JobRow). list_all is_job l) c.objects.ensures.jobs ∙ valid_jobs c.engine.result.now.size c.engine.result.now.rows c.objects.ensures.store in
    ap (λ (l : List Command). list_all is_command l) (c.deref.ensures.value ∙ c.in-Ok.ensures) ∙ runs_legal c.args.moment c.objects.result.now.jobs c.requires.moment jobs

pub returns-in_default-clause-runs : goal.returns-in_default-clause-runs
returns-in_default-clause-runs g c =
    let e = c.args.session.now.store.engine in
    full_stops (commands_turns e.size 1 (due_runs c.args.moment e.rows.jobs)) c.args.session.now c.args.outside.now (laws_of g.met.O.Sink g.met.O.Disk g.met.O.Outside)

pub returns-clause-runs : goal.returns-clause-runs
returns-clause-runs g c =
    let M = members g.O.Source g.O.Sink g.O.Disk in
    let K = c.args.session.now.store.engine.size in
    let jobs = c.objects.ensures.jobs ∙ ap (λ (m : Machine). m.rows.jobs) c.engine.ensures.lent in
    let runs = c.deref.ensures.value ∙ (c.in-Ok.ensures ∙ ap (due_runs c.args.moment) jobs) in
    subst (λ (l : List Command). MatchResult c.take_commands.result (λ x. Goes M (commands_turns K 1 l) c.args.session.now c.take_commands.new.session c.args.outside.now c.take_commands.new.outside) (λ e. Stops M e (commands_turns K 1 l) c.args.session.now c.take_commands.new.session c.args.outside.now c.take_commands.new.outside))
    runs c.take_commands.ensures.runs

-- ---- what it takes
pub returns-in_default-clause-looks : goal.returns-in_default-clause-looks
returns-in_default-clause-looks g c =
    let e = c.args.session.now.store.engine in
    spends_nothing (commands_turns e.size 1 (due_runs c.args.moment e.rows.jobs)) c.args.session.now c.args.outside.now c.args.steps.now

pub returns-clause-looks : goal.returns-clause-looks
returns-clause-looks g c =
    let M = members g.O.Source g.O.Sink g.O.Disk in
    let K = c.args.session.now.store.engine.size in
    let jobs = c.objects.ensures.jobs ∙ ap (λ (m : Machine). m.rows.jobs) c.engine.ensures.lent in
    let runs = c.deref.ensures.value ∙ (c.in-Ok.ensures ∙ ap (due_runs c.args.moment) jobs) in
    subst (λ (l : List Command). Spends M (commands_turns K 1 l) c.args.session.now c.args.outside.now c.args.steps.now c.take_commands.new.steps (bytes_after c.take_commands.result c.take_commands.new.session)) runs c.take_commands.ensures.looks
