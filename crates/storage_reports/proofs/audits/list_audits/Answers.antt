use Rattle.std.proofs.Common.{map, take, sym, ◌∙◌, ap}
use Rattle.std.proofs.lemmas.List.{take-map}
use Rattle.fsrm_model.specs.reports.Reports.{audit_row, audited_from}
use Rattle.storage_reports.proofs.audits.list_audits.Goals as goal

pub returns : goal.returns
returns c =
    let all = audited_from c.args.asked.now c.args.moment 0 c.args.audit.now in
    c.in_ok-rows.ensures
    ∙ (ap (map audit_row) (c.truncate.ensures.items ∙ ap (take c.args.asked.now.max) c.in_ok-places.ensures)
    ∙ sym (take-map audit_row c.args.asked.now.max all))
