use Rattle.std.proofs.Common.{List, ap, sym, ◌∙◌}
use Rattle.std.specs.Option.{option_copied}
use Rattle.fsrm_base.specs.Keyed.{is_ascending}
use Rattle.fsrm_model.specs.declared.row.Threshold.{Threshold}
use Rattle.fsrm_model.specs.objects.Thresholds.{percent_of}
use Rattle.fsrm_parts.proofs.settling.OrderlyQuotas.{row_ascends}
use Rattle.fsrm_parts.proofs.acts.quota_text.Goals as goal

pub threshold_of-requires : goal.threshold_of-requires
threshold_of-requires c =
    ap (λ (ts : List Threshold). is_ascending percent_of ts) c.as_slice.ensures
    ∙ row_ascends c.args.objects.now.quotas c.folder.result c.unwrap-quota.result.now c.requires.orderly (sym c.quota.ensures ∙ ap option_copied c.unwrap-quota.ensures)
