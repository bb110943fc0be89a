-- How the tables of objects are held.
use Rattle.std.specs.Prelude.{◌≡◌, ℕ, ◌≤◌, ◌+◌, ◌*◌, nat_le, true, List, length}
use Rattle.std.specs.List.{list_all}
use Rattle.fsrm_model.specs.declared.row.QuotaRow.{QuotaRow}
use Rattle.fsrm_base.specs.Keyed.{is_ascending}
use Rattle.fsrm_model.specs.values.Limits.{most_quotas, most_thresholds, most_actions, longest_action_text, longest_name, longest_schedule}
use Rattle.fsrm_model.specs.objects.Quota.{folder_of}
use Rattle.fsrm_model.specs.values.Texts.{quota_bytes}

-- the bytes of the texts of a quota, of a screen and of a report job whose lists and texts are as long as they may be
abbrev pub most_quota_bytes : ℕ
most_quota_bytes = most_thresholds * (most_actions * longest_action_text)

abbrev pub most_screen_bytes : ℕ
most_screen_bytes = most_actions * longest_action_text

abbrev pub most_job_bytes : ℕ
most_job_bytes = longest_name + longest_schedule + longest_name

-- each folder has at most one row, and there are no more than may be
pub record AreHeld {X : Type 0} (key : X → ℕ) (most : ℕ) (rows : List X) : Type 0 where
  pub ascending : is_ascending key rows ≡ true
  pub few : length rows ≤ most

-- and each has no more bytes of texts than it may. So the bytes of all texts fit a u32
pub record AreSmall {X : Type 0} (key bytes : X → ℕ) (most most_bytes : ℕ) (rows : List X) : Type 0 where
  pub held : AreHeld key most rows
  pub small : list_all (λ row. nat_le (bytes row) most_bytes) rows ≡ true

abbrev pub AreSmallQuotas : List QuotaRow → Type 0
AreSmallQuotas quotas = AreSmall folder_of quota_bytes most_quotas most_quota_bytes quotas
