-- A command does the same to rows and to what is kept of them. This is proved of each command's work once: the laws
-- that join the machine with its journal follow from it.
use Rattle.std.proofs.Common.{◌≡◌, ℕ, Bool, List, [], ◌∷◌, refl, sym, ◌∙◌, ap, nat_lt}
use Rattle.std.specs.Prelude.{◌+◌, sum_by}
use Rattle.std.proofs.lemmas.List.{length-map}
use Rattle.fsrm_model.specs.declared.command.Outcome.{Outcome}
use Rattle.fsrm_model.specs.declared.command.Refusal.TheVariants.{TableFull, TextsFull}
use Rattle.fsrm_model.specs.declared.row.QuotaRow.{QuotaRow}
use Rattle.fsrm_model.specs.declared.row.Rows.{Rows}
use Rattle.fsrm_model.specs.commands.Check.{Check, ◌when◌, table_full, texts_full}
use Rattle.fsrm_model.specs.store.Lasting.{lasting, flagged, flagged_quota}
use Rattle.fsrm_model.specs.values.Limits.{most_quotas, most_text_bytes}
use Rattle.fsrm_model.specs.values.Texts.{template_bytes, auto_bytes, group_bytes, action_bytes, job_bytes}
use Rattle.fsrm_model.specs.commands.Work.{Work, asks}
use Rattle.fsrm_model.proofs.journal.KeptEnds.{lasting_twice}
use Rattle.fsrm_model.proofs.journal.KeptQuotas.{SameKept, kept_bytes, in_state_keeps, same_change, state_kept}
use Rattle.fsrm_model.specs.declared.row.QuotaState.{QuotaState}
use Rattle.fsrm_model.specs.objects.Quota.{folder_of}
use Rattle.fsrm_model.specs.objects.QuotaStates.{in_state, queued, with_state}
use Rattle.fsrm_base.specs.Keyed.{with_change}

-- the same is kept of these rows and those
pub record RowsAlike (E F : Rows) : Type 0 where
  pub same : lasting F ≡ lasting E

-- what rows are kept as
pub lasting_alike : (E : Rows) → RowsAlike E (lasting E)
lasting_alike E = record { same = lasting_twice E }

-- rows of which the quotas are kept as the same, and the scans whatever they are
pub quotas_alike : (base : Rows) (as' bs : List QuotaRow) (q q' u u' : List ℕ) → SameKept bs as' → RowsAlike (record base { quotas = as'; queue = q; unvisited = u }) (record base { quotas = bs; queue = q'; unvisited = u' })
quotas_alike base as' bs q q' u u' h = record { same = ap (λ quotas. record base { quotas = quotas; queue = []; unvisited = [] }) h }

-- checks, one by one the same
abbrev pub AreSame : List Check → List Check → Type 0
AreSame [] [] = Unit {0}
AreSame [] (b ∷ bs) = ⊥
AreSame (a ∷ as') [] = ⊥
AreSame (a ∷ as') (b ∷ bs) = (a ≡ b) × AreSame as' bs

pub same_checks : (as' bs : List Check) → AreSame as' bs → as' ≡ bs
same_checks [] [] h = refl
same_checks [] (b ∷ bs) h = absurd h
same_checks (a ∷ as') [] h = absurd h
same_checks (a ∷ as') (b ∷ bs) h = ap (λ c. c ∷ as') h.0 ∙ ap (λ cs. b ∷ cs) (same_checks as' bs h.1)

-- a work over rows, and the same command's work over what is kept of them
pub record WorksAlike (w v : Work) : Type 0 where
  pub checks : AreSame v.checks w.checks
  pub effect : RowsAlike w.effect v.effect
  pub outcome : v.outcome ≡ w.outcome
  pub lasts : v.lasts ≡ w.lasts
  pub judged : v.judged ≡ w.judged

-- how most are alike
pub alike : {E F : Rows} {checks checks' : List Check} {outcome : Outcome} {lasts : Bool} → RowsAlike E F → AreSame checks' checks → WorksAlike (asks checks E outcome lasts) (asks checks' F outcome lasts)
alike are same = record { checks = same; effect = are; outcome = refl; lasts = refl; judged = refl }

-- what the tables and the texts hold, of rows that are kept as the same
table_lasting : (E : Rows) → table_full (lasting E) ≡ table_full E
table_lasting E = ap (λ n. TableFull when nat_lt most_quotas n) (length-map E.quotas flagged_quota)

pub table_same : {E F : Rows} → RowsAlike E F → table_full F ≡ table_full E
table_same {E} {F} are = sym (table_lasting F) ∙ (ap table_full are.same ∙ table_lasting E)

texts_lasting : (E : Rows) → texts_full (lasting E) ≡ texts_full E
texts_lasting E =
    ap (λ n. TextsFull when nat_lt most_text_bytes (n + sum_by template_bytes E.templates + sum_by auto_bytes E.autos + sum_by group_bytes E.groups + sum_by (λ screen. action_bytes screen.actions) E.screens + sum_by job_bytes E.jobs)) (kept_bytes E.quotas)

pub texts_same : {E F : Rows} → RowsAlike E F → texts_full F ≡ texts_full E
texts_same {E} {F} are = sym (texts_lasting F) ∙ (ap texts_full are.same ∙ texts_lasting E)

-- a state that a folder's quota gets, of which the same is kept
pub with_state_alike : (R : Rows) (folder : ℕ) (a b : QuotaState) → flagged b ≡ flagged a → (as' bs : List QuotaRow) → SameKept bs as' → RowsAlike (with_state (record R { quotas = as' }) folder a) (with_state (record (lasting R) { quotas = bs }) folder b)
with_state_alike R folder a b e as' bs h =
    quotas_alike R (with_change folder_of folder (in_state a) as') (with_change folder_of folder (in_state b) bs) (queued R.queue folder a) (queued [] folder b) R.unvisited []
    (state_kept b a e folder bs ∙ same_change folder (in_state a) (in_state_keeps a) bs as' h)
