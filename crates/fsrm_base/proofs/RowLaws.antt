-- Rows that ascend by their keys: each is found by its own.
use Rattle.std.proofs.Common.{◌≡◌, ℕ, ◌≤◌, ◌==◌, Bool, true, false, cond, ◌&&◌, List, [], ◌∷◌, Option, Some, refl, ap, ◌∙◌, subst, arith}
use Rattle.std.proofs.lemmas.Option.{same_Some}
use Rattle.std.specs.Prelude.{find, filter, map, if◌then◌else◌}
use Rattle.std.specs.List.{AllByRecursion, list_all}
use Rattle.fsrm_base.specs.Keyed.{row_of, has_row, is_ascending, with_change}
use Rattle.fsrm_base.proofs.EditedRows.{absent_later, ascending_tail}
use Rattle.fsrm_base.proofs.Look.{found_has}
use Rattle.fsrm_base.proofs.TestLaws.{clash, eq_is, eq_same}

-- facts of each item, taken to others
pub each : {X : Type 0} {P Q : X → Type 0} (rows : List X) → ((r : X) → P r → Q r) → AllByRecursion P rows → AllByRecursion Q rows
each [] f h = tt
each (r ∷ rows) f h = (f r h.0, each rows f h.1)

pub own_later : {X : Type 0} (key : X → ℕ) (x : X) (xs : List X) → has_row key (key x) xs ≡ false → (r : X) → row_of key (key r) xs ≡ Some r → row_of key (key r) (x ∷ xs) ≡ Some r
own_later key x xs lacks r h = at (key x == key r) refl
  where
    at : (b : Bool) → (key x == key r) ≡ b → cond b (Some x) (row_of key (key r) xs) ≡ Some r
    at false e = h
    at true e = absurd (clash (has_row key (key x) xs) (ap (λ n. has_row key n xs) (eq_is (key x) (key r) e) ∙ found_has key (key r) xs r h) lacks)

pub own_rows : {X : Type 0} (key : X → ℕ) (rows : List X) → is_ascending key rows ≡ true → AllByRecursion (λ r. row_of key (key r) rows ≡ Some r) rows
own_rows key [] asc = tt
own_rows key (x ∷ xs) asc = (
  ap (λ b. cond b (Some x) (row_of key (key x) xs)) (eq_same (key x)),
  each xs (own_later key x xs (absent_later key (key x) x xs (omega_refl (key x)) asc)) (own_rows key xs (ascending_tail key x xs asc)),
)
  where
    omega_refl : (n : ℕ) → n ≤ n
    omega_refl n = omega arith

-- a fact of each row that is found is one of each row
pub each_found : {X : Type 0} (key : X → ℕ) (P : X → Type 0) (rows : List X) → is_ascending key rows ≡ true → ((r : X) → row_of key (key r) rows ≡ Some r → P r) → AllByRecursion P rows
each_found key P rows asc f = each rows f (own_rows key rows asc)

pub filter_same : {X : Type 0} (p q : X → Bool) (rows : List X) → AllByRecursion (λ r. p r ≡ q r) rows → filter p rows ≡ filter q rows
filter_same p q [] h = refl
filter_same {X} p q (r ∷ rows) h =
    ap (λ b. cond b (r ∷ filter p rows) (filter p rows)) h.0 ∙ ap (λ (rs : List X). cond (q r) (r ∷ rs) rs) (filter_same p q rows h.1)

pub find_same : {X : Type 0} (p q : X → Bool) (rows : List X) → AllByRecursion (λ r. p r ≡ q r) rows → find p rows ≡ find q rows
find_same p q [] h = refl
find_same p q (r ∷ rows) h =
    ap (λ b. cond b (Some r) (find p rows)) h.0 ∙ ap (λ o. cond (q r) (Some r) o) (find_same p q rows h.1)

pub all_same : {X : Type 0} (p q : X → Bool) → ((r : X) → p r ≡ q r) → (rows : List X) → list_all p rows ≡ list_all q rows
all_same p q h [] = refl
all_same p q h (r ∷ rows) = ap (λ b. b && list_all p rows) (h r) ∙ ap (λ b. q r && b) (all_same p q h rows)

pub map_same : {X Y : Type 0} (f g : X → Y) (rows : List X) → AllByRecursion (λ r. f r ≡ g r) rows → map f rows ≡ map g rows
map_same f g [] h = refl
map_same f g (r ∷ rows) h = ap (λ y. y ∷ map f rows) h.0 ∙ ap (λ ys. g r ∷ ys) (map_same f g rows h.1)

pub map_id : {X : Type 0} (f : X → X) (rows : List X) → AllByRecursion (λ r. f r ≡ r) rows → map f rows ≡ rows
map_id f [] h = refl
map_id f (r ∷ rows) h = ap (λ y. y ∷ map f rows) h.0 ∙ ap (λ ys. r ∷ ys) (map_id f rows h.1)

kept_or_not : {X : Type 0} (p : X → Bool) (P : X → Type 0) (r : X) (rs : List X) (b : Bool) → p r ≡ b → (p r ≡ true → P r) → AllByRecursion P rs → AllByRecursion P (cond b (r ∷ rs) rs)
kept_or_not p P r rs true e f h = (f e, h)
kept_or_not p P r rs false e f h = h

-- what passes a filter has what rows have that pass
pub all_filter : {X : Type 0} (p : X → Bool) (P : X → Type 0) (rows : List X) → AllByRecursion (λ r. p r ≡ true → P r) rows → AllByRecursion P (filter p rows)
all_filter p P [] h = tt
all_filter p P (r ∷ rows) h = kept_or_not p P r (filter p rows) (p r) refl h.0 (all_filter p P rows h.1)

first_or_later : {X : Type 0} (P : X → Type 0) (r x : X) (later : Option X) (b : Bool) → P r → (later ≡ Some x → P x) → cond b (Some r) later ≡ Some x → P x
first_or_later P r x later true h f e = subst P (same_Some r x e) h
first_or_later P r x later false h f e = f e

pub find_has : {X : Type 0} (p : X → Bool) (P : X → Type 0) (rows : List X) (x : X) → AllByRecursion P rows → find p rows ≡ Some x → P x
find_has p P [] x h e = cc
find_has p P (r ∷ rows) x h e = first_or_later P r x (find p rows) (p r) h.0 (λ later. find_has p P rows x h.1 later) e

-- a change of one row goes by that row
pub change_same : {X : Type 0} (key : X → ℕ) (n : ℕ) (c d : X → X) (rows : List X) → is_ascending key rows ≡ true → ((r : X) → row_of key n rows ≡ Some r → c r ≡ d r) → with_change key n c rows ≡ with_change key n d rows
change_same {X} key n c d rows asc h =
    map_same (λ r. if key r == n then c r else r) (λ r. if key r == n then d r else r) rows (each_found key _ rows asc (λ r own. at r own (key r == n) refl))
  where
    at : (r : X) → row_of key (key r) rows ≡ Some r → (b : Bool) → (key r == n) ≡ b → cond b (c r) r ≡ cond b (d r) r
    at r own true e = h r (subst (λ k. row_of key k rows ≡ Some r) (eq_is (key r) n e) own)
    at r own false e = refl

pub change_none : {X : Type 0} (key : X → ℕ) (n : ℕ) (rows : List X) → with_change key n (λ r. r) rows ≡ rows
change_none key n [] = refl
change_none key n (r ∷ rows) = ap (λ x. x ∷ with_change key n (λ r. r) rows) (either_way r (key r == n)) ∙ ap (λ rs. r ∷ rs) (change_none key n rows)
  where
    either_way : {X : Type 0} (r : X) (b : Bool) → cond b r r ≡ r
    either_way r true = refl
    either_way r false = refl
