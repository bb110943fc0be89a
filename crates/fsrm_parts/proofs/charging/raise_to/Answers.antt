use Rattle.std.proofs.Common.{List, sym, ap, ◌∙◌, subst, ◌<◌, ◌≤◌}
use Rattle.fsrm_base.proofs.Look.{has_found}
use Rattle.fsrm_model.specs.declared.row.QuotaRow.{QuotaRow}
use Rattle.fsrm_model.specs.objects.Quota.{folder_of}
use Rattle.fsrm_parts.proofs.tables.RaiseLaws.{raise_high, raise_low, tables_as}
use Rattle.fsrm_parts.proofs.charging.raise_to.Goals as goal

pub returns-then-peak-used : goal.returns-then-peak-used
returns-then-peak-used c =
    let f = has_found folder_of c.args.folder c.args.objects.now.quotas c.requires.there in
    c.set_peak.ensures
    ∙ ap (λ (quotas : List QuotaRow). record c.args.objects.now { quotas = quotas })
    (raise_high c.args.objects.now.quotas c.args.folder c.args.moment c.args.used f.row c.requires.ascending f.is (subst (λ peak. peak < c.args.used) (sym (c.requires.peak f.row f.is)) c.if-peak-used.true))

pub returns-else-peak-used : goal.returns-else-peak-used
returns-else-peak-used c =
    let f = has_found folder_of c.args.folder c.args.objects.now.quotas c.requires.there in
    tables_as c.args.objects.now _
    (raise_low c.args.objects.now.quotas c.args.folder c.args.moment c.args.used f.row c.requires.ascending f.is (subst (λ peak. c.args.used ≤ peak) (sym (c.requires.peak f.row f.is)) c.if-peak-used.false))
