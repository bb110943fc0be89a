use Rattle.fsrm_model.proofs.commands.ReportLaws.{runs_job, shown, refused_still}
use Rattle.fsrm_model.proofs.laws.reports.Goals as goal

pub returns-clause-ran : goal.returns-clause-ran
returns-clause-ran c = runs_job

pub returns-clause-once : goal.returns-clause-once
returns-clause-once c = shown

pub returns-clause-refused : goal.returns-clause-refused
returns-clause-refused c = refused_still
