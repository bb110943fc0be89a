use Rattle.fsrm_model.proofs.commands.EachCommand.{screen_refuses}
use Rattle.fsrm_model.proofs.screens.EntryLaws.{screen_reports, entry_noted, none_noted}
use Rattle.fsrm_model.proofs.screens.JudgingLaws.{judges, none_judges}
use Rattle.fsrm_model.proofs.screens.ScreenRuns.{screen_told, screen_runs, none_runs}
use Rattle.fsrm_model.proofs.laws.screens.Goals as goal

pub returns-clause-judges : goal.returns-clause-judges
returns-clause-judges c = judges

pub returns-clause-none : goal.returns-clause-none
returns-clause-none c = none_judges

pub returns-clause-blocks : goal.returns-clause-blocks
returns-clause-blocks c = screen_refuses

pub returns-clause-reports : goal.returns-clause-reports
returns-clause-reports c = screen_reports

pub returns-clause-noted : goal.returns-clause-noted
returns-clause-noted c = entry_noted

pub returns-clause-unnoted : goal.returns-clause-unnoted
returns-clause-unnoted c = none_noted

pub returns-clause-told : goal.returns-clause-told
returns-clause-told c = screen_told

pub returns-clause-runs : goal.returns-clause-runs
returns-clause-runs c = screen_runs

pub returns-clause-unrun : goal.returns-clause-unrun
returns-clause-unrun c = none_runs
