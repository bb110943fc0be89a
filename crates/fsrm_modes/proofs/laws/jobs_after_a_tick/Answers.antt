use Rattle.fsrm_modes.proofs.TickedJobs.{runs_first, tick_runs, ticks_run}
use Rattle.fsrm_modes.proofs.laws.jobs_after_a_tick.Goals as goal

pub returns-clause-tick : goal.returns-clause-tick
returns-clause-tick c K R moment v m late = tick_runs K R moment v m late

pub returns-clause-ticks : goal.returns-clause-ticks
returns-clause-ticks c K R moments v m up = ticks_run K R moments v m up

pub returns-clause-first : goal.returns-clause-first
returns-clause-first c K R before tick number job v m up there unrun = runs_first K R before tick number job v m up there unrun
