-- Which action of a quota may run.
use Rattle.std.specs.Prelude.{◌≡◌, ℕ, ◌<◌, true, length}
use Rattle.fsrm_base.specs.Keyed.{is_ascending}
use Rattle.fsrm_model.specs.declared.row.QuotaRow.{QuotaRow}
use Rattle.fsrm_model.specs.objects.Thresholds.{actions_at, percent_of}

-- the percentages of a quota ascend, and one of them has an action at a place
pub record HasRun (percent place : ℕ) (quota : QuotaRow) : Type 0 where
  pub ascending : is_ascending percent_of quota.thresholds ≡ true
  pub within : place < length (actions_at quota.thresholds percent)
