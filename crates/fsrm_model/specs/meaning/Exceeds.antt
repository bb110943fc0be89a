-- Which quota refuses that the nodes of a store become others.
use Rattle.std.specs.Prelude.{◌≡◌, ℕ, ◌<◌, true, List, Some}
use Rattle.fsrm_model.specs.declared.row.Capacity.{Capacity}
use Rattle.fsrm_model.specs.declared.row.NodeRow.{NodeRow}
use Rattle.fsrm_model.specs.declared.row.QuotaRow.{QuotaRow}
use Rattle.fsrm_model.specs.declared.row.Rows.{Rows}
use Rattle.fsrm_model.specs.objects.Quota.{quota_of, counts}
use Rattle.fsrm_model.specs.nodes.Tree.{usage, is_under}

-- A folder has a quota that counts and is enforced, and its usage would rise, and above the limit
pub record IsOver (K : Capacity) (R : Rows) (nodes : List NodeRow) (folder : ℕ) (quota : QuotaRow) : Type 0 where
  pub is_there : quota_of R folder ≡ Some quota
  pub counting : counts quota ≡ true
  pub enforced : quota.enforce ≡ true
  pub rises : usage K R.nodes folder < usage K nodes folder
  pub above : quota.limit < usage K nodes folder

-- and it is the deepest such folder
pub record Exceeds (K : Capacity) (R : Rows) (nodes : List NodeRow) (folder would limit : ℕ) : Type 0 where
  pub quota : QuotaRow
  pub is_over : IsOver K R nodes folder quota
  pub would_be : usage K nodes folder ≡ would
  pub limit_is : quota.limit ≡ limit
  pub deepest : (other : ℕ) (its : QuotaRow) → IsOver K R nodes other its → is_under nodes other folder ≡ true
