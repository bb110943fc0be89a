-- What is kept of quotas: all but whether a scan waits or was lost. What is done to them, and what is told of them,
-- comes to the same for what is kept of them, as far as that is kept.
use Rattle.std.proofs.Common.{◌≡◌, ℕ, ◌==◌, Bool, true, false, cond, not, List, [], ◌∷◌, refl, sym, ◌∙◌, ap, Some, None, Option, nat_lt}
use Rattle.std.specs.Prelude.{option_map, map, filter, fold, sum_by, is_some, is_none, if◌then◌else◌}
use Rattle.std.specs.Option.{option_map_or}
use Rattle.fsrm_base.specs.Keyed.{row_of, with_row, with_change, without_row}
use Rattle.fsrm_model.specs.declared.row.QuotaRow.{QuotaRow}
use Rattle.fsrm_model.specs.declared.row.QuotaState.{QuotaState}
use Rattle.fsrm_model.specs.declared.row.QuotaState.TheVariants.{Complete, Disabled, Rebuilding, Incomplete}
use Rattle.fsrm_model.specs.objects.AutoApply.{quotas_with}
use Rattle.fsrm_model.specs.store.Lasting.{flagged, flagged_quota}
use Rattle.fsrm_model.specs.objects.Quota.{folder_of, is_complete, counts}
use Rattle.fsrm_model.specs.objects.QuotaStates.{in_state, is_disabled, is_rebuilding}
use Rattle.fsrm_model.specs.values.Texts.{quota_bytes}
use Rattle.fsrm_base.proofs.Look.{find-map}
use Rattle.fsrm_model.proofs.thresholds.KeptLaws.{sum_by-same}

-- ---- states
pub flagged_twice : (state : QuotaState) → flagged (flagged state) ≡ flagged state
flagged_twice Complete = refl
flagged_twice Disabled = refl
flagged_twice Rebuilding = refl
flagged_twice Incomplete = refl

pub complete_flagged : (state : QuotaState) → is_complete (flagged state) ≡ is_complete state
complete_flagged Complete = refl
complete_flagged Disabled = refl
complete_flagged Rebuilding = refl
complete_flagged Incomplete = refl

pub disabled_flagged : (state : QuotaState) → is_disabled (flagged state) ≡ is_disabled state
disabled_flagged Complete = refl
disabled_flagged Disabled = refl
disabled_flagged Rebuilding = refl
disabled_flagged Incomplete = refl

pub rebuilding_flagged : (state : QuotaState) → is_rebuilding (flagged state) ≡ false
rebuilding_flagged Complete = refl
rebuilding_flagged Disabled = refl
rebuilding_flagged Rebuilding = refl
rebuilding_flagged Incomplete = refl

-- ---- quotas
-- what is kept of them
abbrev pub kept : List QuotaRow → List QuotaRow
kept quotas = map flagged_quota quotas

-- the same is kept of both
abbrev pub SameKept : List QuotaRow → List QuotaRow → Type 0
SameKept as' bs = kept as' ≡ kept bs

-- a change of which the same is kept, whether it is one of a quota or of what is kept of it
abbrev pub Keeps : (QuotaRow → QuotaRow) → Type 0
Keeps c = (q : QuotaRow) → flagged_quota (c (flagged_quota q)) ≡ flagged_quota (c q)

pub quota_twice : (q : QuotaRow) → flagged_quota (flagged_quota q) ≡ flagged_quota q
quota_twice q = ap (λ (state : QuotaState). record q { state = state }) (flagged_twice q.state)

pub kept_map : (c : QuotaRow → QuotaRow) → Keeps c → (qs : List QuotaRow) → SameKept (map c (kept qs)) (map c qs)
kept_map c k [] = refl
kept_map c k (q ∷ qs) = ap (λ r. r ∷ kept (map c (kept qs))) (k q) ∙ ap (λ rs. flagged_quota (c q) ∷ rs) (kept_map c k qs)

pub kept_twice : (qs : List QuotaRow) → SameKept (kept qs) qs
kept_twice [] = refl
kept_twice (q ∷ qs) = ap (λ r. r ∷ kept (kept qs)) (quota_twice q) ∙ ap (λ rs. flagged_quota q ∷ rs) (kept_twice qs)

pub kept_change : (folder : ℕ) (c : QuotaRow → QuotaRow) → Keeps c → (qs : List QuotaRow) → SameKept (with_change folder_of folder c (kept qs)) (with_change folder_of folder c qs)
kept_change folder c k qs = kept_map (λ q. if folder_of q == folder then c q else q) (λ q. at q (q.folder == folder)) qs
  where
    at : (q : QuotaRow) (b : Bool) → flagged_quota (cond b (c (flagged_quota q)) (flagged_quota q)) ≡ flagged_quota (cond b (c q) q)
    at q true = k q
    at q false = quota_twice q

pub kept_with : (row : QuotaRow) (qs : List QuotaRow) → SameKept (with_row folder_of row (kept qs)) (with_row folder_of row qs)
kept_with row [] = refl
kept_with row (q ∷ qs) = at (nat_lt row.folder q.folder) (kept_with row qs)
  where
    at : (b : Bool) → SameKept (with_row folder_of row (kept qs)) (with_row folder_of row qs) → kept (cond b (row ∷ flagged_quota q ∷ kept qs) (flagged_quota q ∷ with_row folder_of row (kept qs))) ≡ kept (cond b (row ∷ q ∷ qs) (q ∷ with_row folder_of row qs))
    at true h = ap (λ rs. flagged_quota row ∷ rs) (kept_twice (q ∷ qs))
    at false h = ap (λ r. r ∷ kept (with_row folder_of row (kept qs))) (quota_twice q) ∙ ap (λ rs. flagged_quota q ∷ rs) h

-- without some: what is kept is without them
pub kept_filter : (p : QuotaRow → Bool) → ((q : QuotaRow) → p (flagged_quota q) ≡ p q) → (qs : List QuotaRow) → filter p (kept qs) ≡ kept (filter p qs)
kept_filter p h [] = refl
kept_filter p h (q ∷ qs) =
    ap (λ b. cond b (flagged_quota q ∷ filter p (kept qs)) (filter p (kept qs))) (h q)
    ∙ (ap (λ rs. cond (p q) (flagged_quota q ∷ rs) rs) (kept_filter p h qs) ∙ at (p q))
  where
    at : (b : Bool) → cond b (flagged_quota q ∷ kept (filter p qs)) (kept (filter p qs)) ≡ kept (cond b (q ∷ filter p qs) (filter p qs))
    at true = refl
    at false = refl

pub kept_without : (folder : ℕ) (qs : List QuotaRow) → without_row folder_of folder (kept qs) ≡ kept (without_row folder_of folder qs)
kept_without folder qs = kept_filter (λ q. not (folder_of q == folder)) (λ q. refl) qs

-- ---- of lists of which the same is kept
pub same_change : (folder : ℕ) (c : QuotaRow → QuotaRow) → Keeps c → (as' bs : List QuotaRow) → SameKept as' bs → SameKept (with_change folder_of folder c as') (with_change folder_of folder c bs)
same_change folder c k as' bs h = sym (kept_change folder c k as') ∙ (ap (λ qs. kept (with_change folder_of folder c qs)) h ∙ kept_change folder c k bs)

pub same_with : (row : QuotaRow) (as' bs : List QuotaRow) → SameKept as' bs → SameKept (with_row folder_of row as') (with_row folder_of row bs)
same_with row as' bs h = sym (kept_with row as') ∙ (ap (λ qs. kept (with_row folder_of row qs)) h ∙ kept_with row bs)

pub same_coming : (coming as' bs : List QuotaRow) → SameKept as' bs → SameKept (fold quotas_with as' coming) (fold quotas_with bs coming)
same_coming [] as' bs h = h
same_coming (q ∷ coming) as' bs h = same_coming coming (quotas_with as' q) (quotas_with bs q) (same_with q as' bs h)

-- a quota in a state of which another is kept
pub state_kept : (a b : QuotaState) → flagged a ≡ flagged b → (folder : ℕ) (qs : List QuotaRow) → SameKept (with_change folder_of folder (in_state a) qs) (with_change folder_of folder (in_state b) qs)
state_kept a b e folder [] = refl
state_kept a b e folder (q ∷ qs) =
    ap (λ r. r ∷ kept (with_change folder_of folder (in_state a) qs)) (at (q.folder == folder))
    ∙ ap (λ rs. flagged_quota (if q.folder == folder then in_state b q else q) ∷ rs) (state_kept a b e folder qs)
  where
    at : (c : Bool) → flagged_quota (if c then in_state a q else q) ≡ flagged_quota (if c then in_state b q else q)
    at true = ap (λ (state : QuotaState). record q { state = state }) e
    at false = refl

pub in_state_keeps : (state : QuotaState) → Keeps (in_state state)
in_state_keeps state q = refl

-- ---- what is told of them
pub kept_row : (folder : ℕ) (qs : List QuotaRow) → row_of folder_of folder (kept qs) ≡ option_map flagged_quota (row_of folder_of folder qs)
kept_row folder qs = find-map (λ q. folder_of q == folder) flagged_quota (λ q. refl) qs

pub kept_bytes : (qs : List QuotaRow) → sum_by quota_bytes (kept qs) ≡ sum_by quota_bytes qs
kept_bytes qs = sum_by-same quota_bytes flagged_quota (λ q. refl) qs

pub counts_flagged : (q : QuotaRow) → counts (flagged_quota q) ≡ counts q
counts_flagged q = complete_flagged q.state

-- of what may be there
pub some_flagged : (o : Option QuotaRow) → is_some (option_map flagged_quota o) ≡ is_some o
some_flagged None = refl
some_flagged (Some q) = refl

pub none_flagged : (o : Option QuotaRow) → is_none (option_map flagged_quota o) ≡ is_none o
none_flagged None = refl
none_flagged (Some q) = refl

pub counts_found : (o : Option QuotaRow) → option_map_or counts (option_map flagged_quota o) false ≡ option_map_or counts o false
counts_found None = refl
counts_found (Some q) = counts_flagged q

pub state_found : (o : Option QuotaRow) → option_map_or (λ (q : QuotaRow). q.state) (option_map flagged_quota o) Disabled ≡ flagged (option_map_or (λ (q : QuotaRow). q.state) o Disabled)
state_found None = refl
state_found (Some q) = refl
