-- What is found in rows of which one is new, changed or gone.
use Rattle.std.proofs.Common.{◌≡◌, ℕ, ◌==◌, Bool, true, false, cond, not, ◌||◌, ◌⊎◌, inl, inr, List, [], ◌∷◌, refl, sym, ◌∙◌, ap, subst, arith, Some, None, Option}
use Rattle.std.proofs.lemmas.Bool.{cases_Bool}
use Rattle.std.proofs.lemmas.Option.{same_Some}
use Rattle.std.specs.Prelude.{find, map, filter, length, unwrap_or, is_some, option_map, if◌then◌else◌}
use Rattle.std.specs.List.{list_any}
use Rattle.fsrm_base.specs.Keyed.{has_row, row_of, with_row, with_change, without_row, is_ascending}
use Rattle.fsrm_base.proofs.EditedRows.{find-with_row, find-with_row_same, absent_later, ascending_tail}
pub use Rattle.fsrm_base.proofs.TestLaws.{eq_is, eq_same, eq_turned, is_or_not, clash, not_true, suc_apart}

some_at : {X : Type 0} (b : Bool) (x : X) (o : Option X) (c : Bool) → is_some o ≡ c → is_some (cond b (Some x) o) ≡ (b || c)
some_at true x o c e = refl
some_at false x o c e = e

pub is_some-find : {X : Type 0} (p : X → Bool) (xs : List X) → is_some (find p xs) ≡ list_any p xs
is_some-find p [] = refl
is_some-find p (x ∷ xs) = some_at (p x) x (find p xs) (list_any p xs) (is_some-find p xs)

-- a row that is found passes
passes_at : {X : Type 0} (p : X → Bool) (x r : X) (o : Option X) (b : Bool) → p x ≡ b → cond b (Some x) o ≡ Some r → (o ≡ Some r → p r ≡ true) → p r ≡ true
passes_at p x r o true e h f = subst (λ y. p y ≡ true) (same_Some x r h) e
passes_at p x r o false e h f = f h

pub found_passes : {X : Type 0} (p : X → Bool) (xs : List X) (r : X) → find p xs ≡ Some r → p r ≡ true
found_passes p [] r h = cc
found_passes p (x ∷ xs) r h = passes_at p x r (find p xs) (p x) refl h (found_passes p xs r)

pub found_key : {X : Type 0} (key : X → ℕ) (n : ℕ) (rows : List X) (r : X) → row_of key n rows ≡ Some r → key r ≡ n
found_key key n rows r h = eq_is (key r) n (found_passes (λ x. key x == n) rows r h)

pub found_has : {X : Type 0} (key : X → ℕ) (n : ℕ) (rows : List X) (r : X) → row_of key n rows ≡ Some r → has_row key n rows ≡ true
found_has key n rows r h = sym (is_some-find (λ x. key x == n) rows) ∙ ap is_some h

-- a row that is there is found
pub record FoundRow {X : Type 0} (o : Option X) : Type 0 where
  pub row : X
  pub is : o ≡ Some row

pub some_row : {X : Type 0} (o : Option X) → is_some o ≡ true → FoundRow o
some_row None h = cc
some_row (Some x) h = record { row = x; is = refl }

pub has_found : {X : Type 0} (key : X → ℕ) (n : ℕ) (rows : List X) → has_row key n rows ≡ true → FoundRow (row_of key n rows)
has_found key n rows h = some_row (row_of key n rows) (is_some-find (λ x. key x == n) rows ∙ h)

pub none_row : {X : Type 0} (o : Option X) → is_some o ≡ false → o ≡ None
none_row None h = refl
none_row (Some x) h = cc

-- what a search by another test finds is found by its number, in ascending rows
own_at : {X : Type 0} (key : X → ℕ) (p : X → Bool) (x r : X) (rows : List X) (b : Bool) → (p x ≡ b) → is_ascending key (x ∷ rows) ≡ true → cond b (Some x) (find p rows) ≡ Some r → (find p rows ≡ Some r → row_of key (key r) rows ≡ Some r) → row_of key (key r) (x ∷ rows) ≡ Some r
own_at key p x r rows true e a h f =
    let is : x ≡ r = same_Some x r h in
    subst (λ y. row_of key (key y) (x ∷ rows) ≡ Some y) is (ap (λ b. cond b (Some x) (row_of key (key x) rows)) (eq_same (key x)))
own_at key p x r rows false e a h f =
    let later : row_of key (key r) rows ≡ Some r = f h in
    let apart : (key x == key r) ≡ false = not_true _ (λ t.
    let le : key x ≡ key r = eq_is _ _ t in
    clash _ (found_has key (key r) rows r later) (absent_later key (key r) x rows (omega arith) a)) in
    ap (λ b. cond b (Some x) (row_of key (key r) rows)) apart ∙ later

pub found_own : {X : Type 0} (key : X → ℕ) (p : X → Bool) (rows : List X) (r : X) → is_ascending key rows ≡ true → find p rows ≡ Some r → row_of key (key r) rows ≡ Some r
found_own key p [] r a h = cc
found_own key p (x ∷ rows) r a h = own_at key p x r rows (p x) refl a h (found_own key p rows r (ascending_tail key x rows a))

-- what a search passes over
lacks_at : {X : Type 0} (key : X → ℕ) (p : X → Bool) (n : ℕ) (x r : X) (o : Option X) (b c : Bool) → p x ≡ b → (b || c) ≡ false → cond (key x == n) (Some x) o ≡ Some r → (c ≡ false → o ≡ Some r → p r ≡ false) → p r ≡ false
lacks_at key p n x r o true c e h g f = cc
lacks_at key p n x r o false c e h g f =
    elim (is_or_not (key x == n)) [
      | inl t ↦ subst (λ y. p y ≡ false) (same_Some x r (sym (ap (λ b. cond b (Some x) o) t) ∙ g)) e
      | inr t ↦ f h (sym (ap (λ b. cond b (Some x) o) t) ∙ g)
    ]

pub found_lacks : {X : Type 0} (key : X → ℕ) (p : X → Bool) (n : ℕ) (rows : List X) (r : X) → list_any p rows ≡ false → row_of key n rows ≡ Some r → p r ≡ false
found_lacks key p n [] r a h = cc
found_lacks key p n (x ∷ rows) r a h = lacks_at key p n x r (row_of key n rows) (p x) (list_any p rows) refl a h (found_lacks key p n rows r)

pub found_any : {X : Type 0} (key : X → ℕ) (p : X → Bool) (n : ℕ) (rows : List X) (r : X) → row_of key n rows ≡ Some r → p r ≡ true → list_any p rows ≡ true
found_any key p n rows r h e = elim (is_or_not (list_any p rows)) [ inl t ↦ t | inr t ↦ absurd (clash _ e (found_lacks key p n rows r t h)) ]

-- after a change of each row that keeps what is looked for
mapped_at : {X : Type 0} (g : X → X) (b : Bool) (x : X) (o' o : Option X) → o' ≡ option_map g o → cond b (Some (g x)) o' ≡ option_map g (cond b (Some x) o)
mapped_at g true x o' o e = refl
mapped_at g false x o' o e = e

pub find-map : {X : Type 0} (p : X → Bool) (g : X → X) → ((r : X) → p (g r) ≡ p r) → (xs : List X) → find p (map g xs) ≡ option_map g (find p xs)
find-map p g h [] = refl
find-map p g h (x ∷ xs) = ap (λ b. cond b (Some (g x)) (find p (map g xs))) (h x) ∙ mapped_at g (p x) x (find p (map g xs)) (find p xs) (find-map p g h xs)

pub changed_key : {X : Type 0} (key : X → ℕ) (n : ℕ) (c : X → X) → ((r : X) → key (c r) ≡ key r) → (b : Bool) (r : X) → key (cond b (c r) r) ≡ key r
changed_key key n c k true r = k r
changed_key key n c k false r = refl

pub row_of-change : {X : Type 0} (key : X → ℕ) (n : ℕ) (c : X → X) → ((r : X) → key (c r) ≡ key r) → (m : ℕ) (rows : List X) → row_of key m (with_change key n c rows) ≡ option_map (λ r. if key r == n then c r else r) (row_of key m rows)
row_of-change key n c k m rows = find-map (λ r. key r == m) (λ r. if key r == n then c r else r) (λ r. ap (λ j. j == m) (changed_key key n c k (key r == n) r)) rows

-- a row that is found after a change was found before
pub record Changed {X : Type 0} (key : X → ℕ) (n : ℕ) (c : X → X) (m : ℕ) (rows : List X) (r : X) : Type 0 where
  pub row : X
  pub found : row_of key m rows ≡ Some row
  pub is : r ≡ (if m == n then c row else row)

mapped_some : {X : Type 0} (g : X → X) (o : Option X) (r : X) → option_map g o ≡ Some r → FoundRow o
mapped_some g None r h = cc
mapped_some g (Some x) r h = record { row = x; is = refl }

pub changed_found : {X : Type 0} (key : X → ℕ) (n : ℕ) (c : X → X) → ((r : X) → key (c r) ≡ key r) → (m : ℕ) (rows : List X) (r : X) → row_of key m (with_change key n c rows) ≡ Some r → Changed key n c m rows r
changed_found key n c k m rows r h =
    let e : option_map (λ r. if key r == n then c r else r) (row_of key m rows) ≡ Some r = sym (row_of-change key n c k m rows) ∙ h in
    let f = mapped_some (λ r. if key r == n then c r else r) (row_of key m rows) r e in
    let is : (if key f.row == n then c f.row else f.row) ≡ r = same_Some _ r (sym (ap (option_map (λ r. if key r == n then c r else r)) f.is) ∙ e) in
    record { row = f.row; found = f.is; is = sym is ∙ ap (λ j. if j == n then c f.row else f.row) (found_key key m rows f.row f.is) }

some_mapped : {X : Type 0} (g : X → X) (o : Option X) → is_some (option_map g o) ≡ is_some o
some_mapped g None = refl
some_mapped g (Some x) = refl

pub has_row-change : {X : Type 0} (key : X → ℕ) (n : ℕ) (c : X → X) → ((r : X) → key (c r) ≡ key r) → (m : ℕ) (rows : List X) → has_row key m (with_change key n c rows) ≡ has_row key m rows
has_row-change key n c k m rows =
    sym (is_some-find (λ x. key x == m) (with_change key n c rows)) ∙ (ap is_some (row_of-change key n c k m rows) ∙ (some_mapped (λ r. if key r == n then c r else r) (row_of key m rows) ∙ is_some-find (λ x. key x == m) rows))

-- without rows that a search doesn't look for
kept_at : {X : Type 0} (p q : X → Bool) (x : X) (xs ys : List X) (bp bq : Bool) → p x ≡ bp → q x ≡ bq → (p x ≡ true → q x ≡ true) → find p ys ≡ find p xs → find p (cond bq (x ∷ ys) ys) ≡ cond bp (Some x) (find p xs)
kept_at p q x xs ys bp true ep eq i h = ap (λ b. cond b (Some x) (find p ys)) ep ∙ ap (λ o. cond bp (Some x) o) h
kept_at p q x xs ys true false ep eq i h = absurd (clash _ (i ep) eq)
kept_at p q x xs ys false false ep eq i h = h

pub find-filter : {X : Type 0} (p q : X → Bool) → ((r : X) → p r ≡ true → q r ≡ true) → (xs : List X) → find p (filter q xs) ≡ find p xs
find-filter p q i [] = refl
find-filter p q i (x ∷ xs) = kept_at p q x xs (filter q xs) (p x) (q x) refl refl (i x) (find-filter p q i xs)

other_kept : {X : Type 0} (key : X → ℕ) (n m : ℕ) → (m == n) ≡ false → (r : X) → (key r == m) ≡ true → not (key r == n) ≡ true
other_kept key n m h r e = rw (eq_is (key r) m e, h) refl

pub row_of-without : {X : Type 0} (key : X → ℕ) (n m : ℕ) (rows : List X) → (m == n) ≡ false → row_of key m (without_row key n rows) ≡ row_of key m rows
row_of-without key n m rows h = find-filter (λ r. key r == m) (λ r. not (key r == n)) (other_kept key n m h) rows

gone_at : {X : Type 0} (p : X → Bool) (x : X) (b : Bool) (ys : List X) → p x ≡ b → list_any p ys ≡ false → list_any p (cond (not b) (x ∷ ys) ys) ≡ false
gone_at p x true ys e h = h
gone_at p x false ys e h = ap (λ b. b || list_any p ys) e ∙ h

pub has_row-without : {X : Type 0} (key : X → ℕ) (n : ℕ) (rows : List X) → has_row key n (without_row key n rows) ≡ false
has_row-without key n [] = refl
has_row-without key n (x ∷ rows) = gone_at (λ r. key r == n) x (key x == n) (without_row key n rows) refl (has_row-without key n rows)

pub has_row-without_other : {X : Type 0} (key : X → ℕ) (n m : ℕ) (rows : List X) → (m == n) ≡ false → has_row key m (without_row key n rows) ≡ has_row key m rows
has_row-without_other key n m rows h =
    sym (is_some-find (λ x. key x == m) (without_row key n rows)) ∙ (ap is_some (row_of-without key n m rows h) ∙ is_some-find (λ x. key x == m) rows)

-- with one more row
pub record New {X : Type 0} (key : X → ℕ) (row : X) (m : ℕ) (rows : List X) (r : X) : Type 0 where
  pub other : ((m ≡ key row) × (r ≡ row)) ⊎ (((m == key row) ≡ false) × (row_of key m rows ≡ Some r))

pub new_found : {X : Type 0} (key : X → ℕ) (row : X) (m : ℕ) (rows : List X) (r : X) → has_row key (key row) rows ≡ false → row_of key m (with_row key row rows) ≡ Some r → New key row m rows r
new_found key row m rows r absent h =
    elim (is_or_not (m == key row)) [
      | inl t ↦
          let is : m ≡ key row = eq_is _ _ t in
          let own : row_of key m (with_row key row rows) ≡ Some row =
          subst (λ j. row_of key j (with_row key row rows) ≡ Some row) (sym is) (find-with_row_same key (λ r. key r == key row) row rows (eq_same (key row)) absent) in
          record { other = inl (is, same_Some r row (sym h ∙ own)) }
      | inr t ↦ record { other = inr (t, sym (find-with_row key (λ r. key r == m) row rows (eq_turned _ _ t)) ∙ h) }
    ]

pub row_of-new_other : {X : Type 0} (key : X → ℕ) (row : X) (m : ℕ) (rows : List X) → (m == key row) ≡ false → row_of key m (with_row key row rows) ≡ row_of key m rows
row_of-new_other key row m rows h = find-with_row key (λ r. key r == m) row rows (eq_turned _ _ h)

pub has_row-new_other : {X : Type 0} (key : X → ℕ) (row : X) (m : ℕ) (rows : List X) → (m == key row) ≡ false → has_row key m (with_row key row rows) ≡ has_row key m rows
has_row-new_other key row m rows h =
    sym (is_some-find (λ x. key x == m) (with_row key row rows)) ∙ (ap is_some (row_of-new_other key row m rows h) ∙ is_some-find (λ x. key x == m) rows)

-- if no row passes, none is found to
pub none_filtered : {X : Type 0} (p : X → Bool) (xs : List X) → length (filter p xs) ≡ 0 → list_any p xs ≡ false
none_filtered p [] h = refl
none_filtered p (x ∷ xs) h = elim (cases_Bool (p x)) [
  | inl e ↦ let kept = rw e at h in absurd (omega (arith, kept))
  | inr e ↦ let rest = rw e at h in rw e (none_filtered p xs rest)
]

-- of what may be there
pub is_some-mapped : {X Y : Type 0} (f : X → Y) (o : Option X) → is_some (option_map f o) ≡ is_some o
is_some-mapped f None = refl
is_some-mapped f (Some x) = refl

pub unwrapped : (o : Option ℕ) → is_some o ≡ true → o ≡ Some (unwrap_or o 0)
unwrapped None h = absurd (clash false h refl)
unwrapped (Some n) h = refl
