use Rattle.std.proofs.Common.{refl}
use Rattle.fsrm_model.specs.declared.command.Deed.TheVariants.{Reports}
use Rattle.fsrm_model.specs.declared.command.ReportsDeed.TheVariants.{Generate as ReportsGenerate}
use Rattle.fsrm_engine.proofs.coming.MemoryLaws.{folder_wants}
use Rattle.fsrm_parts.proofs.tables.AnswerLaws.{on_err}
use Rattle.fsrm_engine.proofs.steps.StepLaws.{refused_as}
use Rattle.fsrm_engine.proofs.tables.JobLaws.{report_told}
use Rattle.fsrm_parts.proofs.walks.FoundLaws.{missing}
use Rattle.fsrm_engine.proofs.parts.Parts.make_report.Goals as goal

pub returns-in_default-clause-ok : goal.returns-in_default-clause-ok
returns-in_default-clause-ok g c =
    let p = c.args.self.now in
    refused_as p c.args.moment (Reports (ReportsGenerate c.args.report.now)) c.refused.result _ c.requires.ready.idle c.requires.ready.after
    (missing p.tree.nodes c.args.report.now.scope _ c.in_default.ensures.folder) refl c.refused.ensures

pub returns-in_err-outcome-clause-memory : goal.returns-in_err-outcome-clause-memory
returns-in_err-outcome-clause-memory g c = on_err _ (folder_wants c.args.self.now.tree.nodes c.args.report.now.scope c.in-Some.scope c.in-Some.ensures.folder)

pub returns-clause-ok : goal.returns-clause-ok
returns-clause-ok g c =
    report_told c.args.self.now c.args.moment c.args.report.now c.in-Some.scope c.in_ok-outcome.outcome c.passing.result c.requires.ready.idle c.requires.ready.after c.in-Some.ensures.folder
    c.in_ok-outcome.ensures c.passing.ensures
