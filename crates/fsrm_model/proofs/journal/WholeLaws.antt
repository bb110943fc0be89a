-- Valid rows are kept as they are exactly if no quota is rebuilding.
use Rattle.std.proofs.Common.{◌≡◌, ℕ, ◌==◌, ◌||◌, true, not, List, [], ◌∷◌, refl, sym, ◌∙◌, ap, subst}
use Rattle.fsrm_base.specs.Numbers.{is_in}
use Rattle.fsrm_base.proofs.Look.{eq_same, has_found}
use Rattle.fsrm_base.proofs.Members.{all_found}
use Rattle.fsrm_base.proofs.TestLaws.{both, both_true, clash}
use Rattle.fsrm_model.specs.declared.row.Capacity.{Capacity}
use Rattle.fsrm_model.specs.declared.row.QuotaRow.{QuotaRow}
use Rattle.fsrm_model.specs.declared.row.QuotaState.{QuotaState}
use Rattle.fsrm_model.specs.declared.row.QuotaState.TheVariants.{Complete, Disabled, Rebuilding, Incomplete}
use Rattle.fsrm_model.specs.declared.row.Rows.{Rows}
use Rattle.fsrm_model.specs.store.Lasting.{flagged, lasting}
use Rattle.fsrm_model.specs.objects.Quota.{folder_of}
use Rattle.fsrm_model.specs.objects.QuotaStates.{head, is_rebuilding}
use Rattle.fsrm_model.specs.store.Replays.{none_rebuilding}
use Rattle.fsrm_model.specs.store.Valid.{IsValid}
use Rattle.fsrm_model.specs.store.ValidScans.{IsQueue, AreLeft}
use Rattle.fsrm_model.proofs.journal.KeptQuotas.{kept, rebuilding_flagged}

state_whole : (state : QuotaState) → not (is_rebuilding state) ≡ true → flagged state ≡ state
state_whole Complete h = refl
state_whole Disabled h = refl
state_whole Rebuilding h = absurd (cc h)
state_whole Incomplete h = refl

quotas_whole : (qs : List QuotaRow) → none_rebuilding qs ≡ true → kept qs ≡ qs
quotas_whole [] h = refl
quotas_whole (q ∷ qs) h =
    let parts : (not (is_rebuilding q.state) ≡ true) × (none_rebuilding qs ≡ true) = both _ _ h in
    ap (λ (state : QuotaState). record q { state = state } ∷ kept qs) (state_whole q.state parts.0) ∙ ap (λ rs. q ∷ rs) (quotas_whole qs parts.1)

-- then no scan waits
none_queued : (quotas : List QuotaRow) (queue : List ℕ) → IsQueue quotas queue → none_rebuilding quotas ≡ true → queue ≡ []
none_queued quotas [] is h = refl
none_queued quotas (n ∷ queue) is h =
    let here : is_in (n ∷ queue) n ≡ true = ap (λ b. b || is_in queue n) (eq_same n) in
    let found = has_found folder_of n quotas (is.queued n here) in
    let waits : is_rebuilding found.row.state ≡ true = sym (is.rebuilding n found.row found.is) ∙ here in
    let counted : not (is_rebuilding found.row.state) ≡ true = all_found (λ q. not (is_rebuilding q.state)) (λ q. folder_of q == n) quotas found.row h found.is in
    absurd (clash _ counted (ap not waits))

pub kept_whole : (K : Capacity) (R : Rows) → IsValid K R → none_rebuilding R.quotas ≡ true → lasting R ≡ R
kept_whole K R s h =
    let queue : R.queue ≡ [] = none_queued R.quotas R.queue s.queue h in
    let unvisited : R.unvisited ≡ [] = subst (λ queue. AreLeft R.nodes (head queue) R.unvisited) queue s.unvisited in
    ap (λ quotas. record R { quotas = quotas; queue = []; unvisited = [] }) (quotas_whole R.quotas h)
    ∙ (ap (λ queue. record R { queue = queue; unvisited = [] }) (sym queue) ∙ ap (λ unvisited. record R { unvisited = unvisited }) (sym unvisited))

-- and of what is kept none is
none_kept : (qs : List QuotaRow) → none_rebuilding (kept qs) ≡ true
none_kept [] = refl
none_kept (q ∷ qs) = both_true (not (is_rebuilding (flagged q.state))) (none_rebuilding (kept qs)) (ap not (rebuilding_flagged q.state)) (none_kept qs)

pub whole_kept : (R : Rows) → lasting R ≡ R → none_rebuilding R.quotas ≡ true
whole_kept R h = subst (λ (rows : Rows). none_rebuilding rows.quotas ≡ true) h (none_kept R.quotas)
