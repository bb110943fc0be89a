use Rattle.std.proofs.Common.{ℕ, false, Some, refl, ap, sym, ◌∙◌}
use Rattle.fsrm_model.specs.declared.command.Ask.TheVariants.{Quotas}
use Rattle.fsrm_model.specs.declared.command.Deed.TheVariants.{Quota}
use Rattle.fsrm_model.specs.declared.command.Outcome.TheVariants.{Listing}
use Rattle.fsrm_model.specs.declared.command.QuotaDeed.TheVariants.{List as QuotaList}
use Rattle.fsrm_engine.specs.Machine.{rows_of}
use Rattle.fsrm_parts.proofs.walks.PlaceLaws.{target_is}
use Rattle.fsrm_engine.proofs.steps.StepLaws.{refused_as, told_as}
use Rattle.fsrm_engine.proofs.tables.QuotaLaws.{first_bare, quota_due}
use Rattle.fsrm_engine.proofs.parts.Parts.list_one.Goals as goal

pub returns-in-Err-clause-ok : goal.returns-in-Err-clause-ok
returns-in-Err-clause-ok g c =
    refused_as c.args.self.now c.args.moment (Quota (QuotaList (Some c.args.path.now))) c.refused.result _ c.requires.ready.idle c.requires.ready.after c.in-Err.ensures.err (first_bare (rows_of c.args.self.now) c.args.path.now _ c.in-Err.ensures.err) c.refused.ensures

pub returns-clause-ok : goal.returns-clause-ok
returns-clause-ok g c =
    let p = c.args.self.now in
    let at = c.in-Ok.ensures.ok in
    told_as p c.args.moment (Quota (QuotaList (Some c.args.path.now))) c.listing.result c.requires.ready.idle c.requires.ready.after (quota_due (rows_of p) _ _ at) refl refl
    (c.listing.ensures
    ∙ ap (λ (k : ℕ). record { outcome = Listing (Quotas (Some k)); lasting = false }) (sym (target_is p.tree.nodes c.args.path.now _ at.at.resolved)))
