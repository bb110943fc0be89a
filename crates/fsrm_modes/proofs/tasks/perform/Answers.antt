use Rattle.std.proofs.Common.{◌+◌, subst, sym, arith}
use Rattle.fsrm_modes.specs.Expiry.{expire_cost}
use Rattle.fsrm_modes.specs.Looks.{left_after}
use Rattle.fsrm_modes.specs.Tasks.{IsFit}
use Rattle.fsrm_modes.specs.declared.tasks.Task.TheVariants.{Made, Moves, Jobs}
use Rattle.fsrm_modes.proofs.Outcomes.{on_ok}
use Rattle.fsrm_modes.proofs.TaskRuns.{own_performs, script_performs, script_spends, task_spends}
use Rattle.fsrm_modes.proofs.tasks.perform.Goals as goal

pub move_expired-requires : goal.move_expired-requires
move_expired-requires g c = record { moment = subst IsFit c.in-Moves.is c.requires.fit; ready = rw c.arrange.ensures c.requires.ready }

pub tell_and_run-requires : goal.tell_and_run-requires
tell_and_run-requires g c = record { moment = subst IsFit c.in-Jobs.is c.requires.fit; ready = c.requires.ready }

-- ---- a script
pub returns-in-Script : goal.returns-in-Script
returns-in-Script g c =
    let run = c.read_script in
    let says = run.ensures in
    let was = c.args.session.now in
    let old = c.args.outside.now in
    record {
      performs = script_performs c.args.task c.in-Script.group run.result was run.new.session old run.new.outside c.in-Script.is says.read says.taken says.ready says.stopped says.only says.counts;
      looks = λ script given. script_spends c.args.task c.in-Script.group script was old c.args.steps.now run.new.steps (left_after run.result run.new.session) c.in-Script.is given (says.looks script);
    }

-- ---- turns of the program's own
pub returns-in-Made : goal.returns-in-Made
returns-in-Made g c =
    let run = c.sum_up in
    let says = run.ensures in
    let ended = c.told in
    let was = c.args.session.now in
    let old = c.args.outside.now in
    let own = Made c.in-Made.seed c.in-Made.count in
    record {
      performs = own_performs c.args.task own run.result ended.result was run.new.session old run.new.outside c.in-Made.is tt ended.ensures says.runs says.ready says.memory says.counts says.reads says.left;
      looks = λ script given. task_spends c.args.task own script run.result ended.result was run.new.session old c.args.steps.now c.args.steps.now run.new.steps c.in-Made.is tt ended.ensures (omega arith) says.looks;
    }

pub returns-in-Moves : goal.returns-in-Moves
returns-in-Moves g c =
    let run = c.move_expired in
    let says = run.ensures in
    let ended = c.told-in-Moves in
    let was = c.arrange.new.self in
    let old = c.args.outside.now in
    let own = Moves c.in-Moves.ask in
    rw (sym c.arrange.ensures) (record {
      performs = own_performs c.args.task own run.result ended.result was run.new.session old run.new.outside c.in-Moves.is tt ended.ensures says.runs (on_ok run.result (λ take. take.flush) says.ready) says.memory says.counts says.reads says.left;
      looks = λ script given. task_spends c.args.task own script run.result ended.result was run.new.session old c.args.steps.now (c.args.steps.now + expire_cost was.store.engine.size was.store.engine.rows c.in-Moves.ask.now) run.new.steps c.in-Moves.is tt ended.ensures (omega arith) says.looks;
    })

pub returns-in-Jobs : goal.returns-in-Jobs
returns-in-Jobs g c =
    let run = c.tell_and_run in
    let says = run.ensures in
    let ended = c.told-in-Jobs in
    let was = c.args.session.now in
    let old = c.args.outside.now in
    let own = Jobs c.in-Jobs.moment in
    record {
      performs = own_performs c.args.task own run.result ended.result was run.new.session old run.new.outside c.in-Jobs.is tt ended.ensures says.runs (on_ok run.result (λ take. take.flush) says.ready) says.memory says.counts says.reads says.left;
      looks = λ script given. task_spends c.args.task own script run.result ended.result was run.new.session old c.args.steps.now c.args.steps.now run.new.steps c.in-Jobs.is tt ended.ensures (omega arith) says.looks;
    }
