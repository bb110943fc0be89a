use Rattle.std.proofs.Common.{None, refl, subst, sym}
use Rattle.fsrm_model.specs.declared.command.Deed.TheVariants.{Quota}
use Rattle.fsrm_model.specs.declared.command.QuotaDeed.TheVariants.{List as QuotaList}
use Rattle.fsrm_engine.specs.Machine.{Does}
use Rattle.fsrm_engine.proofs.steps.StepLaws.{told_as}
use Rattle.fsrm_engine.proofs.parts.Parts.quota_list.Goals as goal

pub returns-in-None-clause-ok : goal.returns-in-None-clause-ok
returns-in-None-clause-ok g c =
    subst (λ path. Does c.args.self.now c.args.self.now c.args.moment (Quota (QuotaList path)) c.listing.result) (sym c.in-None.is)
    (told_as c.args.self.now c.args.moment (Quota (QuotaList None)) c.listing.result c.requires.ready.idle c.requires.ready.after refl refl refl c.listing.ensures)
