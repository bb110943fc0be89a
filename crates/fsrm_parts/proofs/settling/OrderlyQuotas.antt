-- The quotas of a store are in order.
use Rattle.std.proofs.Common.{◌≡◌, ℕ, ◌==◌, true, ◌&&◌, not, nat_le, List, length, Some}
use Rattle.std.specs.List.{list_all}
use Rattle.fsrm_base.specs.Keyed.{is_ascending, row_of}
use Rattle.fsrm_base.proofs.Members.{all_found, all_pass}
use Rattle.fsrm_base.proofs.TestLaws.{both, both_true, le_test}
use Rattle.fsrm_model.specs.declared.row.NodeRow.{NodeRow}
use Rattle.fsrm_model.specs.declared.row.QuotaRow.{QuotaRow}
use Rattle.fsrm_model.specs.values.Limits.{most_quotas}
use Rattle.fsrm_model.specs.objects.Quota.{folder_of}
use Rattle.fsrm_model.specs.meaning.Raises.{are_ascending}
use Rattle.fsrm_model.specs.objects.Thresholds.{percent_of, are_too_many, is_threshold}
use Rattle.fsrm_model.specs.store.Valid.{AreQuotas}
use Rattle.thresholds.specs.Settled.{are_orderly, has_orderly_lists}
use Rattle.thresholds.proofs.OrderLaws.{orderly}

pub quotas_orderly : (nodes : List NodeRow) (quotas : List QuotaRow) → AreQuotas nodes quotas → are_orderly quotas ≡ true
quotas_orderly nodes quotas a =
    both_true (is_ascending folder_of quotas && nat_le (length quotas) most_quotas) (list_all has_orderly_lists quotas)
    (both_true (is_ascending folder_of quotas) (nat_le (length quotas) most_quotas) a.ascending (le_test (length quotas) most_quotas a.few))
    (all_pass folder_of has_orderly_lists quotas a.ascending (λ q own. (both (has_orderly_lists q) (list_all is_threshold q.thresholds) (a.thresholds q.folder q own)).0))

pub quotas_ascending : (nodes : List NodeRow) (quotas : List QuotaRow) → AreQuotas nodes quotas → are_ascending quotas ≡ true
quotas_ascending nodes quotas a =
    both_true (is_ascending folder_of quotas) (list_all (λ quota. is_ascending percent_of quota.thresholds) quotas) a.ascending
    (all_pass folder_of (λ quota. is_ascending percent_of quota.thresholds) quotas a.ascending
    (λ q own. (both (is_ascending percent_of q.thresholds) (not (are_too_many q.thresholds)) (both (has_orderly_lists q) (list_all is_threshold q.thresholds) (a.thresholds q.folder q own)).0).0))

-- the thresholds of a quota that is there ascend
pub row_ascends : (quotas : List QuotaRow) (folder : ℕ) (q : QuotaRow) → are_orderly quotas ≡ true → row_of folder_of folder quotas ≡ Some q → is_ascending percent_of q.thresholds ≡ true
row_ascends quotas folder q o found =
    (both (is_ascending percent_of q.thresholds) (not (are_too_many q.thresholds)) (all_found has_orderly_lists (λ r. folder_of r == folder) quotas q (orderly quotas o).lists found)).0
