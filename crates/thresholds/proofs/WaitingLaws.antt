-- The acts that wait: those that are marked more, and what a run leaves of them.
use Rattle.std.proofs.Common.{◌≡◌, ℕ, ◌==◌, Bool, true, false, cond, ◌||◌, ◌&&◌, List, [], ◌∷◌, Option, Some, None, refl, sym, ◌∙◌, ap, is_some, slice_get, nat_lt, option_map}
use Rattle.std.proofs.lemmas.Option.{slice_get-map}
use Rattle.std.specs.Prelude.{map}
use Rattle.std.specs.List.{list_any, list_all, cons_option}
use Rattle.std.specs.Option.{option_and_then, option_map_or}
use Rattle.fsrm_base.specs.Keyed.{with_row}
use Rattle.fsrm_base.specs.Numbers.{itself, is_in, with_number}
use Rattle.fsrm_base.proofs.EditedTests.{list_all-with_row}
use Rattle.fsrm_base.proofs.TestLaws.{eq_is}
use Rattle.fsrm_model.specs.declared.command.Act.{Act}
use Rattle.fsrm_model.specs.declared.command.Subject.{Subject}
use Rattle.fsrm_model.specs.declared.command.Subject.TheVariants.{Quota}
use Rattle.fsrm_model.specs.declared.row.Action.{Action}
use Rattle.fsrm_model.specs.declared.row.QuotaRow.{QuotaRow}
use Rattle.fsrm_model.specs.declared.row.Threshold.{Threshold}
use Rattle.fsrm_model.specs.objects.Acts.{has_act, same_subject}
use Rattle.fsrm_model.specs.objects.DueActions.{act_of}
use Rattle.fsrm_model.specs.objects.Runs.{run_actions, run_threshold, run_quota}
use Rattle.fsrm_model.proofs.thresholds.RunLaws.{with_run, run_at}
use Rattle.thresholds.specs.Marked.{act_at, act_in, waiting, are_there, quota_place, threshold_place, action_place}

-- ---- of each number
-- whether its act is of the action at a place of a subject
abbrev pub is_of : Subject → ℕ → Option Act → Bool
is_of subject place act = option_map_or (λ (a : Act). same_subject a.subject subject && (a.place == place)) act false

pub has-waiting : (quotas : List QuotaRow) (numbers : List ℕ) (subject : Subject) (place : ℕ) → has_act (waiting quotas numbers) subject place ≡ list_any (λ n. is_of subject place (act_at quotas n)) numbers
has-waiting quotas [] subject place = refl
has-waiting quotas (n ∷ numbers) subject place = at (act_at quotas n) (has-waiting quotas numbers subject place)
  where
    at : (o : Option Act) → has_act (waiting quotas numbers) subject place ≡ list_any (λ n. is_of subject place (act_at quotas n)) numbers → has_act (cons_option o (waiting quotas numbers)) subject place ≡ (is_of subject place o || list_any (λ n. is_of subject place (act_at quotas n)) numbers)
    at None rest = rest
    at (Some act) rest = ap (λ b. (same_subject act.subject subject && (act.place == place)) || b) rest

-- ---- one number more
or_moved : (a b c : Bool) → (a || (b || c)) ≡ (b || (a || c))
or_moved true true c = refl
or_moved true false c = refl
or_moved false true c = refl
or_moved false false c = refl

any-with_row : (p : ℕ → Bool) (n : ℕ) (numbers : List ℕ) → list_any p (with_row itself n numbers) ≡ (p n || list_any p numbers)
any-with_row p n [] = refl
any-with_row p n (m ∷ numbers) = at (nat_lt n m) (any-with_row p n numbers)
  where
    at : (b : Bool) → list_any p (with_row itself n numbers) ≡ (p n || list_any p numbers) → list_any p (cond b (n ∷ m ∷ numbers) (m ∷ with_row itself n numbers)) ≡ (p n || (p m || list_any p numbers))
    at true h = refl
    at false h = ap (λ b. p m || b) h ∙ or_moved (p m) (p n) (list_any p numbers)

any_member : (p : ℕ → Bool) (n : ℕ) (numbers : List ℕ) → is_in numbers n ≡ true → list_any p numbers ≡ (p n || list_any p numbers)
any_member p n [] h = cc
any_member p n (m ∷ numbers) h = at (m == n) refl h (any_member p n numbers)
  where
    twice : (b c : Bool) → (b || c) ≡ (b || (b || c))
    twice true c = refl
    twice false c = refl

    at : (b : Bool) → (m == n) ≡ b → (b || is_in numbers n) ≡ true → (is_in numbers n ≡ true → list_any p numbers ≡ (p n || list_any p numbers)) → (p m || list_any p numbers) ≡ (p n || (p m || list_any p numbers))
    at true e h rest = twice (p m) (list_any p numbers) ∙ ap (λ k. p k || (p m || list_any p numbers)) (eq_is m n e)
    at false e h rest = ap (λ b. p m || b) (rest h) ∙ or_moved (p m) (p n) (list_any p numbers)

any-with : (p : ℕ → Bool) (n : ℕ) (numbers : List ℕ) → list_any p (with_number n numbers) ≡ (p n || list_any p numbers)
any-with p n numbers = at (is_in numbers n) refl
  where
    at : (b : Bool) → is_in numbers n ≡ b → list_any p (cond b numbers (with_row itself n numbers)) ≡ (p n || list_any p numbers)
    at true e = any_member p n numbers e
    at false e = any-with_row p n numbers

all-with : (p : ℕ → Bool) (n : ℕ) (numbers : List ℕ) → p n ≡ true → list_all p numbers ≡ true → list_all p (with_number n numbers) ≡ true
all-with p n numbers own h = at (is_in numbers n)
  where
    at : (b : Bool) → list_all p (cond b numbers (with_row itself n numbers)) ≡ true
    at true = h
    at false = list_all-with_row itself p n numbers own h

pub has-with : (quotas : List QuotaRow) (n : ℕ) (numbers : List ℕ) (subject : Subject) (place : ℕ) → has_act (waiting quotas (with_number n numbers)) subject place ≡ (has_act (waiting quotas numbers) subject place || has_act (waiting quotas (n ∷ [])) subject place)
has-with quotas n numbers subject place =
    has-waiting quotas (with_number n numbers) subject place
    ∙ (any-with (λ m. is_of subject place (act_at quotas m)) n numbers
    ∙ (turned (is_of subject place (act_at quotas n)) (list_any (λ m. is_of subject place (act_at quotas m)) numbers)
    ∙ (ap (λ b. b || (is_of subject place (act_at quotas n) || false)) (sym (has-waiting quotas numbers subject place))
    ∙ ap (λ b. has_act (waiting quotas numbers) subject place || b) (sym (has-waiting quotas (n ∷ []) subject place)))))
  where
    turned : (a b : Bool) → (a || b) ≡ (b || (a || false))
    turned true true = refl
    turned true false = refl
    turned false true = refl
    turned false false = refl

pub there-with : (quotas : List QuotaRow) (n : ℕ) (numbers : List ℕ) → is_some (act_at quotas n) ≡ true → are_there quotas numbers ≡ true → are_there quotas (with_number n numbers) ≡ true
there-with quotas n numbers own h = all-with (λ m. is_some (act_at quotas m)) n numbers own h

-- ---- a run changes no act
pub same_kind : (moment : ℕ) (b : Bool) (action : Action) → (with_run moment b action).kind ≡ action.kind
same_kind moment true action = refl
same_kind moment false action = refl

module _ (moment : ℕ) (acts : List Act) (number : ℕ) where
  of_threshold : (folder : ℕ) (t : Threshold) → option_map (λ action. act_of (Quota folder t.percent) (action_place number, action)) (slice_get (run_actions moment acts (Quota folder t.percent) t.actions) (action_place number)) ≡ option_map (λ action. act_of (Quota folder t.percent) (action_place number, action)) (slice_get t.actions (action_place number))
  of_threshold folder t =
      ap (option_map (λ action. act_of (Quota folder t.percent) (action_place number, action))) (run_at moment acts (Quota folder t.percent) t.actions (action_place number))
      ∙ at (slice_get t.actions (action_place number))
    where
      at : (o : Option Action) → option_map (λ action. act_of (Quota folder t.percent) (action_place number, action)) (option_map (with_run moment (has_act acts (Quota folder t.percent) (action_place number))) o) ≡ option_map (λ action. act_of (Quota folder t.percent) (action_place number, action)) o
      at None = refl
      at (Some action) = ap (λ kind. Some (record { subject = Quota folder t.percent; place = action_place number; kind = kind })) (same_kind moment (has_act acts (Quota folder t.percent) (action_place number)) action)

  of_quota : (quota : QuotaRow) → act_in (run_quota moment acts quota) number ≡ act_in quota number
  of_quota quota =
      ap (option_and_then (λ (t : Threshold). option_map (λ action. act_of (Quota quota.folder t.percent) (action_place number, action)) (slice_get t.actions (action_place number)))) (slice_get-map (run_threshold moment acts quota.folder) quota.thresholds (threshold_place number))
      ∙ at (slice_get quota.thresholds (threshold_place number))
    where
      at : (o : Option Threshold) → option_and_then (λ (t : Threshold). option_map (λ action. act_of (Quota quota.folder t.percent) (action_place number, action)) (slice_get t.actions (action_place number))) (option_map (run_threshold moment acts quota.folder) o) ≡ option_and_then (λ (t : Threshold). option_map (λ action. act_of (Quota quota.folder t.percent) (action_place number, action)) (slice_get t.actions (action_place number))) o
      at None = refl
      at (Some t) = of_threshold quota.folder t

  pub act_run : (quotas : List QuotaRow) → act_at (map (run_quota moment acts) quotas) number ≡ act_at quotas number
  act_run quotas =
      ap (option_and_then (λ quota. act_in quota number)) (slice_get-map (run_quota moment acts) quotas (quota_place number))
      ∙ at (slice_get quotas (quota_place number))
    where
      at : (o : Option QuotaRow) → option_and_then (λ quota. act_in quota number) (option_map (run_quota moment acts) o) ≡ option_and_then (λ quota. act_in quota number) o
      at None = refl
      at (Some quota) = of_quota quota

pub waiting_run : (moment : ℕ) (acts : List Act) (quotas : List QuotaRow) (numbers : List ℕ) → waiting (map (run_quota moment acts) quotas) numbers ≡ waiting quotas numbers
waiting_run moment acts quotas [] = refl
waiting_run moment acts quotas (n ∷ numbers) =
    ap (λ o. cons_option o (waiting (map (run_quota moment acts) quotas) numbers)) (act_run moment acts n quotas)
    ∙ ap (cons_option (act_at quotas n)) (waiting_run moment acts quotas numbers)

pub there_run : (moment : ℕ) (acts : List Act) (quotas : List QuotaRow) (numbers : List ℕ) → are_there (map (run_quota moment acts) quotas) numbers ≡ are_there quotas numbers
there_run moment acts quotas [] = refl
there_run moment acts quotas (n ∷ numbers) =
    ap (λ o. is_some o && are_there (map (run_quota moment acts) quotas) numbers) (act_run moment acts n quotas)
    ∙ ap (λ b. is_some (act_at quotas n) && b) (there_run moment acts quotas numbers)
