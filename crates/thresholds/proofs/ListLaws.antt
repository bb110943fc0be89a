-- The acts of the first actions, and of the first thresholds, and of one more.
use Rattle.std.proofs.Common.{◌≡◌, ℕ, zero, suc, ◌+◌, Bool, true, false, cond, List, [], ◌∷◌, ◌++◌, length, take, Some, refl, ◌∙◌, ap, arith, slice_get}
use Rattle.std.proofs.lemmas.List.{append-nil, map-append}
use Rattle.std.proofs.lemmas.List.Concat.{flat_map-append}
use Rattle.std.proofs.lemmas.List.Elements.{filter-append}
use Rattle.std.specs.Prelude.{map, filter, flat_map, if◌then◌else◌}
use Rattle.std.specs.List.{enumerate_from}
use Rattle.fsrm_model.specs.declared.command.Act.{Act}
use Rattle.fsrm_model.specs.declared.command.Subject.{Subject}
use Rattle.fsrm_model.specs.declared.command.Subject.TheVariants.{Quota}
use Rattle.fsrm_model.specs.declared.row.Action.{Action}
use Rattle.fsrm_model.specs.declared.row.Threshold.{Threshold}
use Rattle.fsrm_model.specs.objects.DueActions.{ready, act_of, ready_acts}

-- one more item
pub take_next : {X : Type 0} (xs : List X) (k : ℕ) (x : X) → slice_get xs k ≡ Some x → take (k + 1) xs ≡ take k xs ++ x ∷ []
take_next [] k x h = cc
take_next (y ∷ xs) zero x h = cc
take_next (y ∷ xs) (suc k) x h = ap (λ n. take n (y ∷ xs)) (next k) ∙ ap (λ more. y ∷ more) (take_next xs k x h)
  where
    next : (k : ℕ) → suc k + 1 ≡ suc (k + 1)
    next k = omega arith

pub taken : {X : Type 0} (xs : List X) (j : ℕ) (x : X) → slice_get xs j ≡ Some x → length (take j xs) ≡ j
taken [] j x e = cc
taken (y ∷ xs) zero x e = refl
taken (y ∷ xs) (suc j) x e = ap suc (taken xs j x e)

-- ---- actions
enumerated-append : {X : Type 0} (n : ℕ) (xs : List X) (x : X) → enumerate_from n (xs ++ x ∷ []) ≡ enumerate_from n xs ++ (n + length xs, x) ∷ []
enumerated-append n [] x = ap (λ m. (m, x) ∷ []) (start n)
  where
    start : (n : ℕ) → n ≡ n + 0
    start n = omega arith
enumerated-append n (y ∷ xs) x = ap (λ more. (n, y) ∷ more) (enumerated-append (n + 1) xs x ∙ ap (λ m. enumerate_from (n + 1) xs ++ (m, x) ∷ []) (next n (length xs)))
  where
    next : (n k : ℕ) → (n + 1) + k ≡ n + suc k
    next n k = omega arith

pub ready_acts-append : (run_limit moment : ℕ) (subject : Subject) (actions : List Action) (action : Action) → ready_acts run_limit moment subject (actions ++ action ∷ []) ≡ ready_acts run_limit moment subject actions ++ (if ready run_limit moment action then act_of subject (length actions, action) ∷ [] else [])
ready_acts-append run_limit moment subject actions action =
    ap (λ all. map (act_of subject) (filter may all)) (enumerated-append 0 actions action)
    ∙ (ap (map (act_of subject)) (filter-append may (enumerate_from 0 actions) ((0 + length actions, action) ∷ []))
    ∙ (map-append (act_of subject) (filter may (enumerate_from 0 actions)) (filter may ((0 + length actions, action) ∷ []))
    ∙ ap (λ more. ready_acts run_limit moment subject actions ++ more) (at (ready run_limit moment action) ∙ ap (λ n. if ready run_limit moment action then act_of subject (n, action) ∷ [] else []) start)))
  where
    may : ℕ × Action → Bool
    may at = ready run_limit moment at.1

    start : 0 + length actions ≡ length actions
    start = omega arith

    at : (b : Bool) → map (act_of subject) (cond b ((0 + length actions, action) ∷ []) []) ≡ cond b (act_of subject (0 + length actions, action) ∷ []) []
    at true = refl
    at false = refl

-- ---- thresholds
abbrev pub acts_of_threshold : ℕ → ℕ → ℕ → Threshold → List Act
acts_of_threshold run_limit moment folder threshold = ready_acts run_limit moment (Quota folder threshold.percent) threshold.actions

-- the acts of some thresholds of a quota
abbrev pub acts_of : (ℕ → Bool) → ℕ → ℕ → ℕ → List Threshold → List Act
acts_of passes run_limit moment folder thresholds =
    flat_map (acts_of_threshold run_limit moment folder) (filter (λ threshold. passes threshold.percent) thresholds)

pub acts_of-append : (passes : ℕ → Bool) (run_limit moment folder : ℕ) (thresholds : List Threshold) (threshold : Threshold) → acts_of passes run_limit moment folder (thresholds ++ threshold ∷ []) ≡ acts_of passes run_limit moment folder thresholds ++ (if passes threshold.percent then acts_of_threshold run_limit moment folder threshold else [])
acts_of-append passes run_limit moment folder thresholds threshold =
    ap (flat_map own) (filter-append may thresholds (threshold ∷ []))
    ∙ (flat_map-append own (filter may thresholds) (filter may (threshold ∷ []))
    ∙ ap (λ more. acts_of passes run_limit moment folder thresholds ++ more) (at (passes threshold.percent)))
  where
    own : Threshold → List Act
    own t = acts_of_threshold run_limit moment folder t

    may : Threshold → Bool
    may t = passes t.percent

    at : (b : Bool) → flat_map own (cond b (threshold ∷ []) []) ≡ cond b (own threshold) []
    at true = append-nil (own threshold)
    at false = refl
