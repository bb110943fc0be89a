use Rattle.std.proofs.Common.{refl}
use Rattle.fsrm_model.specs.declared.command.Deed.TheVariants.{Reports}
use Rattle.fsrm_model.specs.declared.command.ReportsDeed.TheVariants.{List as ReportsList}
use Rattle.fsrm_engine.proofs.steps.StepLaws.{told_as}
use Rattle.fsrm_engine.proofs.parts.Parts.list_jobs.Goals as goal

pub returns : goal.returns
returns c = told_as c.args.self.now c.args.moment (Reports ReportsList) c.listing.result c.requires.ready.idle c.requires.ready.after refl refl refl c.listing.ensures
