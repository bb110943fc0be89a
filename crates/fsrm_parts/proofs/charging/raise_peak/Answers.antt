use Rattle.std.proofs.Common.{sym, ap, ◌∙◌, List}
use Rattle.std.proofs.lemmas.Option.{same_Some}
use Rattle.std.specs.Option.{option_copied}
use Rattle.std.specs.Prelude.{is_some}
use Rattle.fsrm_base.proofs.Look.{found_has}
use Rattle.fsrm_base.proofs.SortedRows.{has_lent}
use Rattle.fsrm_model.specs.declared.row.QuotaRow.{QuotaRow}
use Rattle.fsrm_model.specs.objects.Quota.{folder_of}
use Rattle.fsrm_parts.proofs.tables.RaiseLaws.{raise_absent, raise_none, raise_used, tables_as}
use Rattle.fsrm_parts.proofs.charging.raise_peak.Goals as goal

pub returns-in_default : goal.returns-in_default
returns-in_default c =
    tables_as c.args.objects.now _ (raise_none c.args.usage.now c.args.objects.now.quotas c.args.folder c.args.moment c.requires (sym c.used.ensures ∙ c.in_default.is))

pub returns-in_default-quota : goal.returns-in_default-quota
returns-in_default-quota c =
    tables_as c.args.objects.now _
    (raise_absent c.args.usage.now c.args.objects.now.quotas c.args.folder c.args.moment
    (sym (has_lent folder_of c.args.folder c.args.objects.now.quotas c.quota.result c.quota.ensures) ∙ ap is_some c.in_default-quota.is))

pub raise_to-requires-clause-there : goal.raise_to-requires-clause-there
raise_to-requires-clause-there c = found_has folder_of c.args.folder c.args.objects.now.quotas c.in-Some-quota.quota.now (sym c.quota.ensures ∙ ap option_copied c.in-Some-quota.is)

pub raise_to-requires-clause-peak : goal.raise_to-requires-clause-peak
raise_to-requires-clause-peak c = λ q found.
    ap (λ (r : QuotaRow). r.peak) (same_Some q c.in-Some-quota.quota.now (sym found ∙ (sym c.quota.ensures ∙ ap option_copied c.in-Some-quota.is)))

pub returns : goal.returns
returns c =
    c.raise_to.ensures
    ∙ ap (λ (quotas : List QuotaRow). record c.args.objects.now { quotas = quotas })
    (raise_used c.args.usage.now c.args.objects.now.quotas c.args.folder c.args.moment c.in-Some.used c.requires (sym c.used.ensures ∙ c.in-Some.is))
