-- Tables of rows with names, of which no two are one, stay such when a row comes, changes or goes.
use Rattle.std.proofs.Common.{◌≡◌, ℕ, ◌≤◌, ◌==◌, nat_lt, nat_le, Bool, true, false, cond, not, ◌||◌, ◌&&◌, List, [], ◌∷◌, length, refl, ◌∙◌, ap, subst, arith, Some}
use Rattle.std.specs.Prelude.{filter}
use Rattle.std.specs.List.{list_all, list_any}
use Rattle.fsrm_base.specs.Keyed.{row_of, has_row, is_ascending, with_row, with_change, without_row}
use Rattle.fsrm_base.proofs.EditedRows.{find-with_row_same}
use Rattle.fsrm_base.proofs.EditedTests.{list_all-filter, list_all-with_row, list_any-filter, list_any-with_row}
use Rattle.fsrm_base.proofs.Look.{changed_found, found_has, has_row-new_other}
use Rattle.fsrm_base.proofs.Members.{all_pass, all_found}
use Rattle.fsrm_base.proofs.Order.{ascending-with_row, ascending-change, ascending-filter, length-change}
use Rattle.fsrm_base.proofs.TestLaws.{both, both_true, neither, clash, eq_is, eq_same, is_false, not_true, le_is, le_test}
use Rattle.fsrm_model.specs.values.Name.{is_named, names_differ, same_name}
use Rattle.fsrm_model.proofs.nodes.Keeps.{same_turned}
use Rattle.fsrm_model.proofs.valid.QuotasKept.{filter_few}

-- ---- names that stay apart
turned_apart : (a b : List ℕ) → same_name a b ≡ false → same_name b a ≡ false
turned_apart a b h = not_true _ (λ same. clash _ (same_turned b a same) h)

apart_parts : {X : Type 0} (name : X → List ℕ) (x : X) (xs : List X) → names_differ name (x ∷ xs) ≡ true → (list_any (is_named name (name x)) xs ≡ false) × (names_differ name xs ≡ true)
apart_parts name x xs h =
    let parts = both (not (list_any (is_named name (name x)) xs)) (names_differ name xs) h in
    (is_false (list_any (is_named name (name x)) xs) parts.0, parts.1)

apart_joined : {X : Type 0} (name : X → List ℕ) (x : X) (xs : List X) → list_any (is_named name (name x)) xs ≡ false → names_differ name xs ≡ true → names_differ name (x ∷ xs) ≡ true
apart_joined name x xs none apart = both_true (not (list_any (is_named name (name x)) xs)) (names_differ name xs) (ap not none) apart

apart_placed : {X : Type 0} (name : X → List ℕ) (row x : X) (xs more : List X) (b : Bool) → list_any (is_named name (name row)) (x ∷ xs) ≡ false → names_differ name (x ∷ xs) ≡ true → list_any (is_named name (name x)) more ≡ false → names_differ name more ≡ true → names_differ name (cond b (row ∷ x ∷ xs) (x ∷ more)) ≡ true
apart_placed name row x xs more true none apart its rest = apart_joined name row (x ∷ xs) none apart
apart_placed name row x xs more false none apart its rest = apart_joined name x more its rest

pub apart-with_row : {X : Type 0} (key : X → ℕ) (name : X → List ℕ) (row : X) (xs : List X) → list_any (is_named name (name row)) xs ≡ false → names_differ name xs ≡ true → names_differ name (with_row key row xs) ≡ true
apart-with_row key name row [] none apart = refl
apart-with_row key name row (x ∷ xs) none apart =
    let own = neither (is_named name (name row) x) (list_any (is_named name (name row)) xs) none in
    let parts = apart_parts name x xs apart in
    apart_placed name row x xs (with_row key row xs) (nat_lt (key row) (key x)) none apart
    (list_any-with_row key (is_named name (name x)) row xs (turned_apart (name x) (name row) own.0) parts.0)
    (apart-with_row key name row xs own.1 parts.1)

apart_kept : {X : Type 0} (name : X → List ℕ) (x : X) (xs : List X) (b : Bool) → list_any (is_named name (name x)) xs ≡ false → names_differ name xs ≡ true → names_differ name (cond b (x ∷ xs) xs) ≡ true
apart_kept name x xs true none apart = apart_joined name x xs none apart
apart_kept name x xs false none apart = apart

pub apart-filter : {X : Type 0} (name : X → List ℕ) (q : X → Bool) (xs : List X) → names_differ name xs ≡ true → names_differ name (filter q xs) ≡ true
apart-filter name q [] apart = refl
apart-filter name q (x ∷ xs) apart =
    let parts = apart_parts name x xs apart in
    apart_kept name x (filter q xs) (q x) (list_any-filter (is_named name (name x)) q xs parts.0) (apart-filter name q xs parts.1)

same_name_at : {X : Type 0} (name : X → List ℕ) (c : X → X) → ((x : X) → name (c x) ≡ name x) → (x : X) (b : Bool) → name (cond b (c x) x) ≡ name x
same_name_at name c keeps x true = keeps x
same_name_at name c keeps x false = refl

any-with_change : {X : Type 0} (key : X → ℕ) (name : X → List ℕ) (n : ℕ) (c : X → X) → ((x : X) → name (c x) ≡ name x) → (given : List ℕ) (xs : List X) → list_any (is_named name given) (with_change key n c xs) ≡ list_any (is_named name given) xs
any-with_change key name n c keeps given [] = refl
any-with_change key name n c keeps given (x ∷ xs) =
    ap (λ its. same_name its given || list_any (is_named name given) (with_change key n c xs)) (same_name_at name c keeps x (key x == n))
    ∙ ap (λ b. is_named name given x || b) (any-with_change key name n c keeps given xs)

pub apart-with_change : {X : Type 0} (key : X → ℕ) (name : X → List ℕ) (n : ℕ) (c : X → X) → ((x : X) → name (c x) ≡ name x) → (xs : List X) → names_differ name (with_change key n c xs) ≡ names_differ name xs
apart-with_change key name n c keeps [] = refl
apart-with_change key name n c keeps (x ∷ xs) =
    ap (λ its. not (list_any (is_named name its) (with_change key n c xs)) && names_differ name (with_change key n c xs)) (same_name_at name c keeps x (key x == n))
    ∙ (ap (λ b. not b && names_differ name (with_change key n c xs)) (any-with_change key name n c keeps (name x) xs)
    ∙ ap (λ b. not (list_any (is_named name (name x)) xs) && b) (apart-with_change key name n c keeps xs))

-- ---- tables
abbrev is_named_table : {X : Type 0} → (X → ℕ) → (X → List ℕ) → ℕ → (X → Bool) → List X → Bool
is_named_table key name most sound rows = (is_ascending key rows && nat_le (length rows) most) && (list_all sound rows && names_differ name rows)

pub record IsNamedTable {X : Type 0} (key : X → ℕ) (name : X → List ℕ) (most : ℕ) (sound : X → Bool) (rows : List X) : Type 0 where
  pub ascending : is_ascending key rows ≡ true
  pub few : length rows ≤ most
  pub each : list_all sound rows ≡ true
  pub apart : names_differ name rows ≡ true

pub named_parts : {X : Type 0} (key : X → ℕ) (name : X → List ℕ) (most : ℕ) (sound : X → Bool) (rows : List X) → is_named_table key name most sound rows ≡ true → IsNamedTable key name most sound rows
named_parts key name most sound rows h =
    let halves = both (is_ascending key rows && nat_le (length rows) most) (list_all sound rows && names_differ name rows) h in
    let order = both (is_ascending key rows) (nat_le (length rows) most) halves.0 in
    let rest = both (list_all sound rows) (names_differ name rows) halves.1 in
    record { ascending = order.0; few = le_is (length rows) most order.1; each = rest.0; apart = rest.1 }

pub named_joined : {X : Type 0} (key : X → ℕ) (name : X → List ℕ) (most : ℕ) (sound : X → Bool) (rows : List X) → IsNamedTable key name most sound rows → is_named_table key name most sound rows ≡ true
named_joined key name most sound rows t =
    both_true (is_ascending key rows && nat_le (length rows) most) (list_all sound rows && names_differ name rows)
    (both_true (is_ascending key rows) (nat_le (length rows) most) t.ascending (le_test (length rows) most t.few))
    (both_true (list_all sound rows) (names_differ name rows) t.each t.apart)

pub named-new : {X : Type 0} (key : X → ℕ) (name : X → List ℕ) (most : ℕ) (sound : X → Bool) (row : X) (rows : List X) → is_named_table key name most sound rows ≡ true → has_row key (key row) rows ≡ false → list_any (is_named name (name row)) rows ≡ false → length (with_row key row rows) ≤ most → sound row ≡ true → is_named_table key name most sound (with_row key row rows) ≡ true
named-new key name most sound row rows h free none few own =
    let t = named_parts key name most sound rows h in
    named_joined key name most sound (with_row key row rows) (record {
      ascending = ascending-with_row key row rows free t.ascending;
      few = few;
      each = list_all-with_row key sound row rows own t.each;
      apart = apart-with_row key name row rows none t.apart;
    })

-- rows in which that of a number was changed
pub each-change : {X : Type 0} (key : X → ℕ) (sound : X → Bool) (n : ℕ) (c : X → X) (rows : List X) → is_ascending key rows ≡ true → ((x : X) → key (c x) ≡ key x) → list_all sound rows ≡ true → ((x : X) → row_of key n rows ≡ Some x → sound x ≡ true → sound (c x) ≡ true) → list_all sound (with_change key n c rows) ≡ true
each-change {X} key sound n c rows ascending keys each is =
    all_pass key sound (with_change key n c rows) (ascending-change key n c keys rows ascending) (λ r own.
    let was = changed_found key n c keys (key r) rows r own in
    ap sound was.is ∙ at (key r) was.row was.found (key r == n) refl)
  where
    at : (m : ℕ) (x : X) → row_of key m rows ≡ Some x → (b : Bool) → (m == n) ≡ b → sound (cond b (c x) x) ≡ true
    at m x found true e = is x (subst (λ k. row_of key k rows ≡ Some x) (eq_is m n e) found) (all_found sound (λ y. key y == m) rows x each found)
    at m x found false e = all_found sound (λ y. key y == m) rows x each found

pub named-change : {X : Type 0} (key : X → ℕ) (name : X → List ℕ) (most : ℕ) (sound : X → Bool) (n : ℕ) (c : X → X) (rows : List X) → is_named_table key name most sound rows ≡ true → ((x : X) → key (c x) ≡ key x) → ((x : X) → name (c x) ≡ name x) → ((x : X) → row_of key n rows ≡ Some x → sound x ≡ true → sound (c x) ≡ true) → is_named_table key name most sound (with_change key n c rows) ≡ true
named-change key name most sound n c rows h keys names is =
    let t = named_parts key name most sound rows h in
    let few = t.few in
    named_joined key name most sound (with_change key n c rows) (record {
      ascending = ascending-change key n c keys rows t.ascending;
      few = omega (arith, few, length-change key n c rows);
      each = each-change key sound n c rows t.ascending keys t.each is;
      apart = apart-with_change key name n c names rows ∙ t.apart;
    })

pub named-without : {X : Type 0} (key : X → ℕ) (name : X → List ℕ) (most : ℕ) (sound : X → Bool) (n : ℕ) (rows : List X) → is_named_table key name most sound rows ≡ true → is_named_table key name most sound (without_row key n rows) ≡ true
named-without key name most sound n rows h =
    let t = named_parts key name most sound rows h in
    let few = t.few in
    named_joined key name most sound (without_row key n rows) (record {
      ascending = ascending-filter key (λ x. not (key x == n)) rows t.ascending;
      few = omega (arith, few, filter_few (λ x. not (key x == n)) rows);
      each = list_all-filter sound (λ x. not (key x == n)) rows t.each;
      apart = apart-filter name (λ x. not (key x == n)) rows t.apart;
    })

-- beside a new row all others are there
pub there-with_row : {X : Type 0} (key : X → ℕ) (row : X) (rows : List X) → has_row key (key row) rows ≡ false → (n : ℕ) → has_row key n rows ≡ true → has_row key n (with_row key row rows) ≡ true
there-with_row {X} key row rows absent n there = at (n == key row) refl
  where
    at : (b : Bool) → (n == key row) ≡ b → has_row key n (with_row key row rows) ≡ true
    at true e =
        ap (λ k. has_row key k (with_row key row rows)) (eq_is n (key row) e)
        ∙ found_has key (key row) (with_row key row rows) row (find-with_row_same key (λ x. key x == key row) row rows (eq_same (key row)) absent)
    at false e = has_row-new_other key row n rows e ∙ there
