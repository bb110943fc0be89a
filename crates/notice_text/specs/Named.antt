-- What a notice names.
use Rattle.std.specs.Prelude.{ℕ, ◌≤◌}
use Rattle.std.specs.List.{All}
use Rattle.fsrm_model.specs.declared.row.Capacity.{Capacity}
use Rattle.fsrm_model.specs.declared.row.Rows.{Rows}
use Rattle.fsrm_model.specs.objects.Acts.{IsAct}
use Rattle.fsrm_model.specs.values.Limits.{latest_moment}
use Rattle.fsrm_model.specs.store.Valid.{IsValid}
use Rattle.notice_text.specs.declared.notice.Notice.{Notice}
use Rattle.notice_text.specs.Notices.{notices}

-- its action is there, and its moment has a date
pub record IsNotice (R : Rows) (notice : Notice) : Type 0 where
  pub act : IsAct R notice.act
  pub moment : notice.moment ≤ latest_moment

abbrev pub notices_are_named : Type 0
notices_are_named = (K : Capacity) (R : Rows) (since : ℕ) → IsValid K R → All (IsNotice R) (notices since R.quotas R.screens)
