-- Quotas that are flagged as incomplete.
use Rattle.std.proofs.Common.{◌≡◌, ℕ, ◌==◌, true, false, List, Some, None, refl, ap, sym, ◌∙◌, subst}
use Rattle.std.proofs.lemmas.Option.{same_Some}
use Rattle.std.specs.Prelude.{is_some}
use Rattle.fsrm_base.specs.Keyed.{row_of, is_ascending, with_change}
use Rattle.fsrm_base.proofs.EditedRows.{change_absent}
use Rattle.fsrm_base.proofs.Look.{is_some-find}
use Rattle.fsrm_base.proofs.RowLaws.{change_none, change_same}
use Rattle.fsrm_model.specs.declared.row.QuotaRow.{QuotaRow}
use Rattle.fsrm_model.specs.declared.row.QuotaState.{QuotaState}
use Rattle.fsrm_model.specs.declared.row.QuotaState.TheVariants.{Complete, Disabled, Rebuilding, Incomplete}
use Rattle.fsrm_model.specs.store.Lasting.{flagged, flagged_quota}
use Rattle.fsrm_model.specs.objects.Quota.{folder_of}
use Rattle.fsrm_model.specs.objects.QuotaStates.{in_state, is_rebuilding}

-- one quota
flagged_own : (state : QuotaState) → is_rebuilding state ≡ false → flagged state ≡ state
flagged_own Complete h = refl
flagged_own Disabled h = refl
flagged_own Rebuilding h = absurd (cc h)
flagged_own Incomplete h = refl

pub flag_other : (quotas : List QuotaRow) (folder : ℕ) (q : QuotaRow) → is_ascending folder_of quotas ≡ true → row_of folder_of folder quotas ≡ Some q → is_rebuilding q.state ≡ false → quotas ≡ with_change folder_of folder flagged_quota quotas
flag_other quotas folder q asc found h =
    sym (change_same folder_of folder flagged_quota (λ r. r) quotas asc (λ r at.
    ap (λ s. record r { state = s }) (flagged_own r.state (subst (λ (p : QuotaRow). is_rebuilding p.state ≡ false) (same_Some q r (sym found ∙ at)) h)))
    ∙ change_none folder_of folder quotas)

rebuilding_is : (state : QuotaState) → is_rebuilding state ≡ true → state ≡ Rebuilding
rebuilding_is Complete h = absurd (cc h)
rebuilding_is Disabled h = absurd (cc h)
rebuilding_is Rebuilding h = refl
rebuilding_is Incomplete h = absurd (cc h)

pub flag_rebuilding : (quotas : List QuotaRow) (folder : ℕ) (q : QuotaRow) → is_ascending folder_of quotas ≡ true → row_of folder_of folder quotas ≡ Some q → is_rebuilding q.state ≡ true → with_change folder_of folder (in_state Incomplete) quotas ≡ with_change folder_of folder flagged_quota quotas
flag_rebuilding quotas folder q asc found h =
    sym (change_same folder_of folder flagged_quota (in_state Incomplete) quotas asc (λ r at.
    ap (λ s. record r { state = flagged s }) (ap (λ (p : QuotaRow). p.state) (sym (same_Some q r (sym found ∙ at))) ∙ rebuilding_is q.state h)))

-- and none that isn't there
pub flag_absent : (quotas : List QuotaRow) (folder : ℕ) → row_of folder_of folder quotas ≡ None → quotas ≡ with_change folder_of folder flagged_quota quotas
flag_absent quotas folder h = sym (change_absent folder_of folder flagged_quota quotas (sym (is_some-find (λ q. folder_of q == folder) quotas) ∙ ap is_some h))
