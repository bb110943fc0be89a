-- Which actions are due: exactly those that may run of the thresholds that are crossed.
use Rattle.std.proofs.Common.{◌≡◌, ℕ, zero, suc, ◌+◌, ◌<◌, ◌==◌, Bool, true, false, cond, ◌||◌, ◌&&◌, List, [], ◌∷◌, refl, sym, ◌∙◌, ap, arith, Some, None, Option}
use Rattle.std.proofs.lemmas.Bool.Decides.{nat_tests}
use Rattle.std.proofs.lemmas.List.Folds.{list_any-append}
use Rattle.std.specs.Prelude.{map, filter, flat_map, slice_get}
use Rattle.std.specs.List.{list_any, list_all, enumerate_from, AllByRecursion}
use Rattle.std.specs.Option.{option_map_or}
use Rattle.fsrm_model.specs.declared.command.Act.{Act}
use Rattle.fsrm_model.specs.declared.command.Subject.{Subject}
use Rattle.fsrm_model.specs.declared.command.Subject.TheVariants.{Quota}
use Rattle.fsrm_model.specs.declared.row.Action.{Action}
use Rattle.fsrm_model.specs.declared.row.Capacity.{Capacity}
use Rattle.fsrm_model.specs.declared.row.QuotaRow.{QuotaRow}
use Rattle.fsrm_model.specs.declared.row.Rows.{Rows}
use Rattle.fsrm_model.specs.declared.row.Threshold.{Threshold}
use Rattle.fsrm_base.specs.Keyed.{row_of, has_row, is_ascending}
use Rattle.fsrm_model.specs.objects.Acts.{has_act, same_subject, actions_of}
use Rattle.fsrm_model.specs.objects.DueActions.{ready, is_ready_at, act_of, ready_acts, quota_acts, due}
use Rattle.fsrm_model.specs.objects.Quota.{folder_of, quota_of}
use Rattle.fsrm_model.specs.meaning.Raises.{are_ascending}
use Rattle.fsrm_model.specs.objects.Reached.{crossed}
use Rattle.fsrm_model.specs.objects.Thresholds.{percent_of, actions_at}
use Rattle.fsrm_base.proofs.EditedRows.{absent_later, ascending_tail}
use Rattle.fsrm_base.proofs.TestLaws.{both, eq_is, eq_same, and_false}

-- ---- tests of lists that are made of others
pub any-map : {X Y : Type 0} (p : Y → Bool) (f : X → Y) (xs : List X) → list_any p (map f xs) ≡ list_any (λ x. p (f x)) xs
any-map p f [] = refl
any-map p f (x ∷ xs) = ap (λ b. p (f x) || b) (any-map p f xs)

pub any-filter : {X : Type 0} (q p : X → Bool) (xs : List X) → list_any p (filter q xs) ≡ list_any (λ x. q x && p x) xs
any-filter q p [] = refl
any-filter q p (x ∷ xs) = at (q x) (any-filter q p xs)
  where
    at : (b : Bool) → list_any p (filter q xs) ≡ list_any (λ x. q x && p x) xs → list_any p (cond b (x ∷ filter q xs) (filter q xs)) ≡ ((b && p x) || list_any (λ x. q x && p x) xs)
    at true h = ap (λ b. p x || b) h
    at false h = h

pub any-flat_map : {X Y : Type 0} (p : Y → Bool) (f : X → List Y) (xs : List X) → list_any p (flat_map f xs) ≡ list_any (λ x. list_any p (f x)) xs
any-flat_map p f [] = refl
any-flat_map p f (x ∷ xs) = list_any-append p (f x) (flat_map f xs) ∙ ap (λ b. list_any p (f x) || b) (any-flat_map p f xs)

pub any_same : {X : Type 0} (p q : X → Bool) (xs : List X) → AllByRecursion (λ x. p x ≡ q x) xs → list_any p xs ≡ list_any q xs
any_same p q [] h = refl
any_same p q (x ∷ xs) h = ap (λ b. b || list_any p xs) h.0 ∙ ap (λ b. q x || b) (any_same p q xs h.1)

pub each : {X : Type 0} (P : X → Type 0) → ((x : X) → P x) → (xs : List X) → AllByRecursion P xs
each P h [] = tt
each P h (x ∷ xs) = (h x, each P h xs)

-- in ascending rows only the one of a number may pass
pub any_row : {X : Type 0} (key : X → ℕ) (n : ℕ) (q : X → Bool) (rows : List X) → is_ascending key rows ≡ true → list_any (λ r. (key r == n) && q r) rows ≡ option_map_or q (row_of key n rows) false
any_row key n q [] a = refl
any_row {X} key n q (r ∷ rows) a = at (key r == n) refl (any_row key n q rows (ascending_tail key r rows a))
  where
    none : (rs : List X) → has_row key n rs ≡ false → list_any (λ r. (key r == n) && q r) rs ≡ false
    none [] h = refl
    none (s ∷ rs) h = off (key s == n) (has_row key n rs) h (none rs)
      where
        off : (b c : Bool) → (b || c) ≡ false → (c ≡ false → list_any (λ r. (key r == n) && q r) rs ≡ false) → ((b && q s) || list_any (λ r. (key r == n) && q r) rs) ≡ false
        off true c h f = cc
        off false c h f = f h

    alone : (b : Bool) → (b || false) ≡ b
    alone true = refl
    alone false = refl

    at : (b : Bool) → (key r == n) ≡ b → list_any (λ r. (key r == n) && q r) rows ≡ option_map_or q (row_of key n rows) false → ((b && q r) || list_any (λ r. (key r == n) && q r) rows) ≡ option_map_or q (cond b (Some r) (row_of key n rows)) false
    at true e h =
        let le : key r ≡ n = eq_is (key r) n e in
        ap (λ b. q r || b) (none rows (absent_later key n r rows (omega (arith, le)) a)) ∙ alone (q r)
    at false e h = h

-- ---- the acts of a list of actions
past : (n m : ℕ) → m < n → (n == m) ≡ false
past n m h = grind (arith, nat_tests)

none_before : (q : Action → Bool) (n m : ℕ) (actions : List Action) → m < n → list_any (λ (at : ℕ × Action). q at.1 && (at.0 == m)) (enumerate_from n actions) ≡ false
none_before q n m [] h = refl
none_before q n m (action ∷ actions) h =
    ap (λ b. (q action && b) || list_any (λ (at : ℕ × Action). q at.1 && (at.0 == m)) (enumerate_from (n + 1) actions)) (past n m h)
    ∙ (ap (λ b. b || list_any (λ (at : ℕ × Action). q at.1 && (at.0 == m)) (enumerate_from (n + 1) actions)) (and_false (q action))
    ∙ none_before q (n + 1) m actions (omega (arith, h)))

at_place : (q : Action → Bool) (n k : ℕ) (actions : List Action) → list_any (λ (at : ℕ × Action). q at.1 && (at.0 == (n + k))) (enumerate_from n actions) ≡ option_map_or q (slice_get actions k) false
at_place q n k [] = refl
at_place q n zero (action ∷ actions) =
    ap (λ m. list_any (λ (at : ℕ × Action). q at.1 && (at.0 == m)) (enumerate_from n (action ∷ actions))) (omega (arith))
    ∙ (ap (λ b. (q action && b) || list_any (λ (at : ℕ × Action). q at.1 && (at.0 == n)) (enumerate_from (n + 1) actions)) (eq_same n)
    ∙ (ap (λ b. (q action && true) || b) (none_before q (n + 1) n actions (omega arith)) ∙ whole (q action)))
  where
    whole : (b : Bool) → ((b && true) || false) ≡ b
    whole true = refl
    whole false = refl
at_place q n (suc k) (action ∷ actions) =
    ap (λ m. list_any (λ (at : ℕ × Action). q at.1 && (at.0 == m)) (enumerate_from n (action ∷ actions))) moved
    ∙ (ap (λ b. (q action && b) || list_any (λ (at : ℕ × Action). q at.1 && (at.0 == ((n + 1) + k))) (enumerate_from (n + 1) actions)) (below n k)
    ∙ (ap (λ b. b || list_any (λ (at : ℕ × Action). q at.1 && (at.0 == ((n + 1) + k))) (enumerate_from (n + 1) actions)) (and_false (q action))
    ∙ at_place q (n + 1) k actions))
  where
    moved : n + suc k ≡ (n + 1) + k
    moved = omega arith

    below : (n k : ℕ) → (n == ((n + 1) + k)) ≡ false
    below n k = grind (arith, nat_tests)

-- which of them are among the acts
pub ready_run : (run_limit moment : ℕ) (own subject : Subject) (actions : List Action) (place : ℕ) → has_act (ready_acts run_limit moment own actions) subject place ≡ (same_subject own subject && is_ready_at run_limit moment actions place)
ready_run run_limit moment own subject actions place =
    any-map test (act_of own) (filter may all)
    ∙ (any-filter may (λ at. test (act_of own at)) all ∙ (parted (same_subject own subject) ∙ ap (λ b. same_subject own subject && b) (at_start ∙ at_place (ready run_limit moment) 0 place actions)))
  where
    all : List (ℕ × Action)
    all = enumerate_from 0 actions

    may : ℕ × Action → Bool
    may at = ready run_limit moment at.1

    test : Act → Bool
    test act = same_subject act.subject subject && (act.place == place)

    parted : (b : Bool) → list_any (λ (at : ℕ × Action). ready run_limit moment at.1 && (b && (at.0 == place))) all ≡ (b && list_any (λ (at : ℕ × Action). ready run_limit moment at.1 && (at.0 == place)) all)
    parted true = refl
    parted false = any_same _ (λ (at : ℕ × Action). false) all (each _ (λ at. and_false (ready run_limit moment at.1)) all) ∙ never all
      where
        never : (xs : List (ℕ × Action)) → list_any (λ (at : ℕ × Action). false) xs ≡ false
        never [] = refl
        never (x ∷ xs) = never xs

    at_start : list_any (λ (at : ℕ × Action). ready run_limit moment at.1 && (at.0 == place)) all ≡ list_any (λ (at : ℕ × Action). ready run_limit moment at.1 && (at.0 == (0 + place))) all
    at_start = ap (λ m. list_any (λ (at : ℕ × Action). ready run_limit moment at.1 && (at.0 == m)) all) (omega arith)

-- ---- of a quota
pub quota_run : (passes : ℕ → Bool) (run_limit moment : ℕ) (quota : QuotaRow) (folder percent place : ℕ) → is_ascending percent_of quota.thresholds ≡ true → has_act (quota_acts passes run_limit moment quota) (Quota folder percent) place ≡ ((quota.folder == folder) && (passes percent && is_ready_at run_limit moment (actions_at quota.thresholds percent) place))
quota_run passes run_limit moment quota folder percent place a =
    any-flat_map test acts (filter (λ t. passes t.percent) quota.thresholds)
    ∙ (any-filter (λ t. passes t.percent) (λ t. list_any test (acts t)) quota.thresholds
    ∙ (any_same _ (λ t. (percent_of t == percent) && own t) quota.thresholds (each _ one quota.thresholds)
    ∙ (any_row percent_of percent own quota.thresholds a ∙ found (row_of percent_of percent quota.thresholds))))
  where
    test : Act → Bool
    test act = same_subject act.subject (Quota folder percent) && (act.place == place)

    acts : Threshold → List Act
    acts t = ready_acts run_limit moment (Quota quota.folder t.percent) t.actions

    own : Threshold → Bool
    own t = (quota.folder == folder) && (passes percent && is_ready_at run_limit moment t.actions place)

    turned : (a b c d : Bool) → (a && ((b && c) && d)) ≡ (c && (b && (a && d)))
    turned true true c d = refl
    turned true false true d = refl
    turned true false false d = refl
    turned false true true d = refl
    turned false true false d = refl
    turned false false true d = refl
    turned false false false d = refl

    at_percent : (t : Threshold) (b : Bool) → (t.percent == percent) ≡ b → (b && ((quota.folder == folder) && (passes t.percent && is_ready_at run_limit moment t.actions place))) ≡ (b && own t)
    at_percent t true e = ap (λ n. (quota.folder == folder) && (passes n && is_ready_at run_limit moment t.actions place)) (eq_is t.percent percent e)
    at_percent t false e = refl

    one : (t : Threshold) → (passes t.percent && list_any test (acts t)) ≡ ((t.percent == percent) && own t)
    one t =
        ap (λ b. passes t.percent && b) (ready_run run_limit moment (Quota quota.folder t.percent) (Quota folder percent) t.actions place)
        ∙ (turned (passes t.percent) (quota.folder == folder) (t.percent == percent) (is_ready_at run_limit moment t.actions place)
        ∙ at_percent t (t.percent == percent) refl)

    nothing : (a b : Bool) → false ≡ (a && (b && false))
    nothing true b = sym (and_false b)
    nothing false b = refl

    found : (o : Option Threshold) → option_map_or own o false ≡ ((quota.folder == folder) && (passes percent && is_ready_at run_limit moment (option_map_or (λ t. t.actions) o []) place))
    found (Some t) = refl
    found None = nothing (quota.folder == folder) (passes percent)

-- ---- of all quotas
pub ascending_each : (quotas : List QuotaRow) → list_all (λ quota. is_ascending percent_of quota.thresholds) quotas ≡ true → AllByRecursion (λ quota. is_ascending percent_of quota.thresholds ≡ true) quotas
ascending_each [] h = tt
ascending_each (quota ∷ quotas) h = let parts = both _ _ h in (parts.0, ascending_each quotas parts.1)

pub also : {X : Type 0} (P Q : X → Type 0) → ((x : X) → P x → Q x) → (xs : List X) → AllByRecursion P xs → AllByRecursion Q xs
also P Q f [] h = tt
also P Q f (x ∷ xs) h = (f x h.0, also P Q f xs h.1)

pub due_run : (K : Capacity) (before after : Rows) (moment folder percent place : ℕ) → are_ascending after.quotas ≡ true → has_act (due K before after moment) (Quota folder percent) place ≡ (crossed K before after folder percent && is_ready_at after.run_limit moment (actions_of after (Quota folder percent)) place)
due_run K before after moment folder percent place a =
    let parts = both (is_ascending folder_of after.quotas) (list_all (λ quota. is_ascending percent_of quota.thresholds) after.quotas) a in
    any-flat_map test acts after.quotas
    ∙ (any_same (λ quota. list_any test (acts quota)) (λ quota. (folder_of quota == folder) && own quota) after.quotas
    (also _ _ one after.quotas (ascending_each after.quotas parts.1))
    ∙ (any_row folder_of folder own after.quotas parts.0 ∙ found (quota_of after folder)))
  where
    test : Act → Bool
    test act = same_subject act.subject (Quota folder percent) && (act.place == place)

    acts : QuotaRow → List Act
    acts quota = quota_acts (crossed K before after quota.folder) after.run_limit moment quota

    own : QuotaRow → Bool
    own quota = crossed K before after folder percent && is_ready_at after.run_limit moment (actions_at quota.thresholds percent) place

    at_folder : (quota : QuotaRow) (b : Bool) → (quota.folder == folder) ≡ b → (b && (crossed K before after quota.folder percent && is_ready_at after.run_limit moment (actions_at quota.thresholds percent) place)) ≡ (b && own quota)
    at_folder quota true e = ap (λ n. crossed K before after n percent && is_ready_at after.run_limit moment (actions_at quota.thresholds percent) place) (eq_is quota.folder folder e)
    at_folder quota false e = refl

    one : (quota : QuotaRow) → is_ascending percent_of quota.thresholds ≡ true → list_any test (acts quota) ≡ ((folder_of quota == folder) && own quota)
    one quota asc = quota_run (crossed K before after quota.folder) after.run_limit moment quota folder percent place asc ∙ at_folder quota (quota.folder == folder) refl

    found : (o : Option QuotaRow) → option_map_or own o false ≡ (crossed K before after folder percent && is_ready_at after.run_limit moment (option_map_or (λ quota. actions_at quota.thresholds percent) o []) place)
    found (Some quota) = refl
    found None = sym (and_false (crossed K before after folder percent))
