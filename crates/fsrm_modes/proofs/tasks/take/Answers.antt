use Rattle.std.proofs.Common.{ℕ, List, ◌+◌, ◌≤◌, ◌∙◌, ap, subst, sym, arith}
use Rattle.std.specs.Prelude.{Err, Option}
use Rattle.fsrm_model.specs.declared.row.Capacity.{Capacity}
use Rattle.fsrm_model.specs.declared.row.Rows.{Rows}
use Rattle.fsrm_store.specs.Amortized.{bytes_since}
use Rattle.fsrm_session.specs.Spending.{renewing}
use Rattle.fsrm_session.specs.Turns.{bytes_of, looks_of}
use Rattle.fsrm_session.specs.declared.stop.Stop.{Stop}
use Rattle.fsrm_session.proofs.Object.{laws_of}
use Rattle.fsrm_modes.specs.Looks.{left_after}
use Rattle.fsrm_modes.specs.Tasks.{task_cost, task_turns, IsGiven}
use Rattle.fsrm_modes.proofs.OwnEnds.{turns_spent}
use Rattle.fsrm_modes.proofs.Spent.{stop_spent}
use Rattle.fsrm_modes.proofs.TaskRuns.{since_performs, unbegun_performs}
use Rattle.fsrm_modes.proofs.tasks.take.Goals as goal

pub perform-requires-clause-group : goal.perform-requires-clause-group
perform-requires-clause-group g c = c.in-Ok.ensures.group ∙ c.group_of.ensures.group

pub returns-in-Ok-clause-performs : goal.returns-in-Ok-clause-performs
returns-in-Ok-clause-performs g c =
    since_performs c.args.task c.perform.result c.args.session.now c.begin.new.self c.perform.new.session c.args.outside.now c.begin.new.outside c.perform.new.outside (laws_of g.met.O.Sink g.met.O.Disk g.met.O.Outside)
    c.in-Ok.ensures.runs c.begin.ensures.left c.begin.ensures.reads c.in-Ok.ensures.counts.0 c.in-Ok.ensures.counts.1 c.perform.ensures.performs

pub returns-in-Err-clause-performs : goal.returns-in-Err-clause-performs
returns-in-Err-clause-performs g c =
    unbegun_performs (Unit {0}) c.args.task c.in-Err.stop c.from.result c.args.session.now c.begin.new.self c.args.outside.now c.begin.new.outside c.from.ensures c.in-Err.ensures.runs (λ is. c.in-Err.ensures.memory (ap (λ (s : Stop). Err s) is)) c.begin.ensures.left c.begin.ensures.reads c.in-Err.ensures.counts

-- ---- what it takes
pub returns-in-Ok-clause-looks : goal.returns-in-Ok-clause-looks
returns-in-Ok-clause-looks g c K R script before given u most within =
    let task = c.args.task in
    let was = c.args.session.now in
    let mid = c.begin.new.self in
    let cost = task_cost task mid.store.engine.size mid.store.engine.rows in
    let late : c.begin.new.steps + cost ≤ (c.args.steps.now + renewing was.store) + cost = omega (arith, c.begin.ensures.looks) in
    turns_spent (λ (C : Capacity) (S : Rows). task_turns task script C S) (λ (C : Capacity) (S : Rows). task_cost task C S) K R before was mid c.args.outside.now c.begin.new.outside c.args.steps.now (c.begin.new.steps + cost) c.perform.new.steps (left_after c.perform.result c.perform.new.session) most
    c.in-Ok.ensures.runs u late c.in-Ok.ensures.paid (c.perform.ensures.looks script (subst (λ (o : Option (List ℕ)). IsGiven task o script) (sym c.begin.ensures.left) given)) within

pub returns-in-Err-clause-looks : goal.returns-in-Err-clause-looks
returns-in-Err-clause-looks g c K R script before given u most within =
    let store = c.args.session.now.store in
    let turns = task_turns c.args.task script K R in
    stop_spent (Unit {0}) (Unit {0}) c.in-Err.stop c.from.result c.begin.new.self (c.args.steps.now + renewing store) c.begin.new.steps (bytes_since store.journal) (task_cost c.args.task K R) (looks_of R turns) (bytes_of R turns) most
    c.from.ensures c.begin.ensures.looks c.in-Err.ensures.paid
