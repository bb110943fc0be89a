-- Quotas that a template's change reached.
use Rattle.std.specs.Prelude.{◌≡◌, ℕ, ◌&&◌, not, Bool, List, Option, Some}
use Rattle.std.specs.List.{list_any}
use Rattle.fsrm_base.specs.Keyed.{row_of}
use Rattle.fsrm_model.specs.declared.row.QuotaRow.{QuotaRow}
use Rattle.fsrm_model.specs.declared.row.Threshold.{Threshold}
use Rattle.fsrm_model.specs.objects.Quota.{folder_of}
use Rattle.fsrm_model.specs.objects.Reached.{reaches}
use Rattle.fsrm_model.specs.declared.command.Act.{Act}
use Rattle.fsrm_objects.specs.Tables.{Tables}
use Rattle.quota_usage.specs.declared.change.Counter.{Counter}
use Rattle.quota_usage.specs.Counters.{used_in}
use Rattle.thresholds.specs.Settled.{due_in}

-- the quota of a row's folder has these thresholds now
abbrev pub HasNow : List Threshold → List QuotaRow → QuotaRow → Type 0
HasNow thresholds quotas row = (quota : QuotaRow) → row_of folder_of row.folder quotas ≡ Some quota → quota.thresholds ≡ thresholds

-- whether what is used reaches one of these thresholds by the limit that is now, and didn't by the one before
abbrev pub limit_crosses : ℕ → ℕ → Option ℕ → List Threshold → Bool
limit_crosses before now used thresholds =
    list_any (λ threshold. reaches now threshold.percent used && not (reaches before threshold.percent used)) thresholds

-- the acts that are due of a quota that had this row before a template's change. What it uses stayed
abbrev pub updated_acts : Tables → List Counter → ℕ → ℕ → QuotaRow → List Act
updated_acts tables counters run_limit moment row =
    due_in tables (Some row) (used_in counters row.folder) (used_in counters row.folder) run_limit moment row.folder
