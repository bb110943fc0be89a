-- The queue of scans has no more folders than there are quotas.
use Rattle.std.proofs.Common.{◌≡◌, ℕ, ◌==◌, ◌<◌, ◌≤◌, inl, inr, true, false, not, List, [], ◌∷◌, ◌||◌, length, sym, ap, ◌∙◌, arith}
use Rattle.fsrm_base.specs.Keyed.{has_row, without_row}
use Rattle.fsrm_base.specs.Numbers.{is_in, each_once}
use Rattle.fsrm_base.proofs.Look.{has_row-without_other}
use Rattle.fsrm_base.proofs.TestLaws.{both, both_true, clash, eq_is, eq_same, is_false, is_or, not_true, or_later}
use Rattle.fsrm_model.specs.values.Limits.{most_quotas}
use Rattle.fsrm_model.specs.objects.Quota.{folder_of}
use Rattle.fsrm_model.specs.store.Valid.{AreQuotas}
use Rattle.fsrm_model.specs.store.ValidScans.{IsQueue}
use Rattle.fsrm_model.specs.declared.row.NodeRow.{NodeRow}
use Rattle.fsrm_model.specs.declared.row.QuotaRow.{QuotaRow}
use Rattle.fsrm_parts.proofs.tables.SumLaws.{fewer}

-- numbers that each stand once are no more than the rows among which they are
once_few : {X : Type 0} (key : X → ℕ) (numbers : List ℕ) (rows : List X) → each_once numbers ≡ true → ((m : ℕ) → is_in numbers m ≡ true → has_row key m rows ≡ true) → length numbers ≤ length rows
once_few key [] rows once each = omega arith
once_few key (n ∷ ns) rows once each =
    let parts = both (not (is_in ns n)) (each_once ns) once in
    let lacks : is_in ns n ≡ false = is_false (is_in ns n) parts.0 in
    let other : (m : ℕ) → is_in ns m ≡ true → (m == n) ≡ false = λ m h. not_true (m == n) (λ e. clash (is_in ns n) (ap (is_in ns) (sym (eq_is m n e)) ∙ h) lacks) in
    let rest = once_few key ns (without_row key n rows) parts.1 (λ m h. has_row-without_other key n m rows (other m h) ∙ each m (or_later (n == m) (is_in ns m) h)) in
    let here : has_row key n rows ≡ true = each n (ap (λ b. b || is_in ns n) (eq_same n)) in
    omega (arith, rest, fewer key n rows here)

pub few_scans : (quotas : List QuotaRow) (queue : List ℕ) → IsQueue quotas queue → length queue ≤ length quotas
few_scans quotas queue is = once_few folder_of queue quotas is.once is.queued

pub few_queued : (nodes : List NodeRow) (quotas : List QuotaRow) (queue : List ℕ) → AreQuotas nodes quotas → IsQueue quotas queue → length queue ≤ most_quotas
few_queued nodes quotas queue are is = omega (arith, are.few, few_scans quotas queue is)

-- so there is room for one more, if it has a quota and doesn't wait
pub few_waits : (nodes : List NodeRow) (quotas : List QuotaRow) (queue : List ℕ) (n : ℕ) → AreQuotas nodes quotas → IsQueue quotas queue → has_row folder_of n quotas ≡ true → is_in queue n ≡ false → length queue < most_quotas
few_waits nodes quotas queue n are is has out =
    let more : length (n ∷ queue) ≤ length quotas = once_few folder_of (n ∷ queue) quotas (both_true (not (is_in queue n)) (each_once queue) (ap not out) is.once) each in
    omega (arith, are.few, more)
  where
    each : (m : ℕ) → is_in (n ∷ queue) m ≡ true → has_row folder_of m quotas ≡ true
    each m h =
        elim (is_or (n == m) (is_in queue m) h) [
          | inl own ↦ ap (λ k. has_row folder_of k quotas) (sym (eq_is n m own)) ∙ has
          | inr other ↦ is.queued m other
        ]
