use Rattle.std.proofs.Common.{ℕ, List, ◌∙◌, ap, subst}
use Rattle.std.specs.Prelude.{MatchResult}
use Rattle.fsrm_engine.specs.Machine.{Machine}
use Rattle.fsrm_model.specs.declared.row.JobRow.{JobRow}
use Rattle.fsrm_session.specs.Members.{members}
use Rattle.fsrm_session.specs.Spending.{bytes_after, Spends}
use Rattle.fsrm_session.specs.Underway.{Goes, Stops}
use Rattle.fsrm_session.proofs.Object.{laws_of}
use Rattle.fsrm_session.proofs.Spending.{spends_nothing}
use Rattle.report_schedule.specs.DueJobs.{unread_names}
use Rattle.fsrm_modes.specs.Ticks.{unread_turns}
use Rattle.fsrm_modes.proofs.Outcomes.{full_stops}
use Rattle.fsrm_modes.proofs.ticking.tell_unread.Goals as goal

pub returns-in_default-clause-runs : goal.returns-in_default-clause-runs
returns-in_default-clause-runs g c = full_stops (unread_turns (unread_names c.args.session.now.store.engine.rows.jobs)) c.args.session.now c.args.outside.now (laws_of g.met.O.Sink g.met.O.Disk g.met.O.Outside)

pub returns-clause-runs : goal.returns-clause-runs
returns-clause-runs g c =
    let M = members g.O.Source g.O.Sink g.O.Disk in
    let jobs = c.objects.ensures.jobs ∙ ap (λ (m : Machine). m.rows.jobs) c.engine.ensures.lent in
    let names = c.deref.ensures.value ∙ (c.in-Ok.ensures ∙ ap (λ (l : List JobRow). unread_names l) jobs) in
    subst (λ (l : List (List ℕ)). MatchResult c.say_names.result (λ x. Goes M (unread_turns l) c.args.session.now c.say_names.new.session c.args.outside.now c.say_names.new.outside) (λ e. Stops M e (unread_turns l) c.args.session.now c.say_names.new.session c.args.outside.now c.say_names.new.outside))
    names c.say_names.ensures.runs

-- ---- what it takes
pub returns-in_default-clause-looks : goal.returns-in_default-clause-looks
returns-in_default-clause-looks g c = spends_nothing (unread_turns (unread_names c.args.session.now.store.engine.rows.jobs)) c.args.session.now c.args.outside.now c.args.steps.now

pub returns-clause-looks : goal.returns-clause-looks
returns-clause-looks g c =
    let M = members g.O.Source g.O.Sink g.O.Disk in
    let jobs = c.objects.ensures.jobs ∙ ap (λ (m : Machine). m.rows.jobs) c.engine.ensures.lent in
    let names = c.deref.ensures.value ∙ (c.in-Ok.ensures ∙ ap (λ (l : List JobRow). unread_names l) jobs) in
    subst (λ (l : List (List ℕ)). Spends M (unread_turns l) c.args.session.now c.args.outside.now c.args.steps.now c.say_names.new.steps (bytes_after c.say_names.result c.say_names.new.session)) names c.say_names.ensures.looks
