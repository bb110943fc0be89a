-- How an entry stands to the place of a name, by its folder and prefix first.
use Rattle.std.proofs.Common.{◌≡◌, ℕ, ◌==◌, ◌&&◌, ◌||◌, nat_lt, Bool, true, false, cond, List, Option, None, Some, Ordering, Less, Equal, Greater, nat_cmp, is_lt, is_eq, refl, sym, ◌∙◌, ap, arith}
use Rattle.std.proofs.lemmas.Bool.Decides.{nat_tests}
use Rattle.std.specs.Ordering.{ordering_then}
use Rattle.std.specs.Prelude.{unwrap_or}
use Rattle.fsrm_model.specs.declared.row.NodeRow.{NodeRow}
use Rattle.fsrm_base.proofs.TestLaws.{clash}
use Rattle.fsrm_model.specs.nodes.Tree.{node_of}
use Rattle.fsrm_model.specs.values.Name.{name_cmp}
use Rattle.name_rules.specs.Prefix.{prefix}
use Rattle.name_rules.proofs.Folds.{is_eq_name_cmp}
use Rattle.name_rules.proofs.PrefixLaws.{prefix_first}
use Rattle.node_order.specs.Entries.{IsOwn}
use Rattle.node_order.specs.Order.{Stands, is_before, is_named}
use Rattle.node_order.specs.declared.entries.Entry.{Entry}

-- an order by numbers first
less_at : (b c : Bool) (o : Ordering) → is_lt (ordering_then (cond b Less (cond c Equal Greater)) o) ≡ (b || (c && is_lt o))
less_at true c o = refl
less_at false true o = refl
less_at false false o = refl

less_then : (p q : ℕ) (o : Ordering) → is_lt (ordering_then (nat_cmp p q) o) ≡ (nat_lt p q || ((p == q) && is_lt o))
less_then p q o = less_at (nat_lt p q) (p == q) o

less_apart : (p q : ℕ) → nat_lt p q ≡ true → (p == q) ≡ false
less_apart p q t = grind (arith, nat_tests)

equal_at : (b c : Bool) (o : Ordering) → (b ≡ true → c ≡ false) → is_eq (ordering_then (cond b Less (cond c Equal Greater)) o) ≡ (c && is_eq o)
equal_at true c o apart = sym (ap (λ t. t && is_eq o) (apart refl))
equal_at false true o apart = refl
equal_at false false o apart = refl

equal_then : (p q : ℕ) (o : Ordering) → is_eq (ordering_then (nat_cmp p q) o) ≡ ((p == q) && is_eq o)
equal_then p q o = equal_at (nat_lt p q) (p == q) o (less_apart p q)

-- of orders one after the other
first_other : (o p : Ordering) → (ordering_then o p ≡ Equal → ⊥) → (q : Ordering) → ordering_then o (ordering_then p q) ≡ ordering_then o p
first_other Less p other q = refl
first_other Equal Less other q = refl
first_other Equal Equal other q = absurd (other refl)
first_other Equal Greater other q = refl
first_other Greater p other q = refl

both_equal : (o p : Ordering) → ordering_then o p ≡ Equal → (q : Ordering) → ordering_then o (ordering_then p q) ≡ q
both_equal Less p e q = cc
both_equal Equal Less e q = cc
both_equal Equal Equal e q = refl
both_equal Equal Greater e q = cc
both_equal Greater p e q = cc

-- orders of numbers as tests
lt_at : (b c : Bool) → is_lt (cond b Less (cond c Equal Greater)) ≡ b
lt_at true c = refl
lt_at false true = refl
lt_at false false = refl

pub lt_cmp : (p q : ℕ) → is_lt (nat_cmp p q) ≡ nat_lt p q
lt_cmp p q = lt_at (nat_lt p q) (p == q)

eq_at : (b c : Bool) → (b ≡ true → c ≡ false) → is_eq (cond b Less (cond c Equal Greater)) ≡ c
eq_at true c apart = sym (apart refl)
eq_at false true apart = refl
eq_at false false apart = refl

eq_cmp : (p q : ℕ) → is_eq (nat_cmp p q) ≡ (p == q)
eq_cmp p q = eq_at (nat_lt p q) (p == q) (less_apart p q)

equal_is : (o : Ordering) → is_eq o ≡ true → o ≡ Equal
equal_is Less h = cc
equal_is Equal h = refl
equal_is Greater h = cc

not_equal : (o : Ordering) → (o ≡ Equal → ⊥) → is_eq o ≡ false
not_equal Less other = refl
not_equal Equal other = absurd (other refl)
not_equal Greater other = refl

-- a node is there, and stands so to the place of a name in a folder
record StandsAs (nodes : List NodeRow) (n folder : ℕ) (name : List ℕ) (order : Ordering) : Type 0 where
  row : NodeRow
  found : node_of nodes n ≡ Some row
  less : is_lt order ≡ is_before row folder name
  equal : is_eq order ≡ is_named row folder name

module _ (nodes : List NodeRow) (e : Entry) (folder front : ℕ) (name : List ℕ) (own : IsOwn nodes e) (is : front ≡ prefix name) where
  all : Ordering
  all = ordering_then (nat_cmp e.parent folder) (ordering_then (nat_cmp e.prefix front) (name_cmp own.row.name name))

  whole : all ≡ ordering_then (nat_cmp own.row.parent folder) (name_cmp own.row.name name)
  unfolding all
  whole =
      ap (λ (n : ℕ). ordering_then (nat_cmp n folder) (ordering_then (nat_cmp e.prefix front) (name_cmp own.row.name name))) own.parent_is
      ∙ (ap (λ (n : ℕ). ordering_then (nat_cmp own.row.parent folder) (ordering_then (nat_cmp n front) (name_cmp own.row.name name))) own.prefix_is
      ∙ (ap (λ (n : ℕ). ordering_then (nat_cmp own.row.parent folder) (ordering_then (nat_cmp (prefix own.row.name) n) (name_cmp own.row.name name))) is
      ∙ ap (ordering_then (nat_cmp own.row.parent folder)) (prefix_first own.row.name name)))

  stands : (o : Ordering) → o ≡ all → StandsAs nodes e.node folder name o
  stands o e' =
      let by = e' ∙ whole in
      record {
        row = own.row;
        found = own.found;
        less = ap is_lt by ∙ less_then own.row.parent folder (name_cmp own.row.name name);
        equal = ap is_eq by ∙ (equal_then own.row.parent folder (name_cmp own.row.name name) ∙ ap (λ t. (own.row.parent == folder) && t) (is_eq_name_cmp own.row.name name));
      }

  tied : ((e.parent == folder) && (e.prefix == front)) ≡ true → ordering_then (nat_cmp e.parent folder) (nat_cmp e.prefix front) ≡ Equal
  tied same = equal_is _ (equal_then e.parent folder (nat_cmp e.prefix front) ∙ (ap (λ t. (e.parent == folder) && t) (eq_cmp e.prefix front) ∙ same))

  -- the names decide if the folder and the prefix are the same
  by_name : (o : Ordering) → ((e.parent == folder) && (e.prefix == front)) ≡ true → o ≡ name_cmp own.row.name name → StandsAs nodes e.node folder name o
  unfolding all
  by_name o same is' = stands o (is' ∙ sym (both_equal (nat_cmp e.parent folder) (nat_cmp e.prefix front) (tied same) (name_cmp own.row.name name)))

  pub stands_named : ((e.parent == folder) && (e.prefix == front)) ≡ true → Equal ≡ name_cmp own.row.name name → Stands nodes e.node folder name None
  stands_named same is' =
      let s = by_name Equal same is' in
      record { row = s.row; found = s.found; before_is = tt; other = tt; named = sym s.equal; not_before = sym s.less }

  pub stands_by_name : (o : Ordering) → ((e.parent == folder) && (e.prefix == front)) ≡ true → o ≡ name_cmp own.row.name name → (o ≡ Equal → ⊥) → Stands nodes e.node folder name (Some (is_lt o))
  stands_by_name o same is' other =
      let s = by_name o same is' in
      record { row = s.row; found = s.found; before_is = s.less; other = sym s.equal ∙ not_equal o other; named = tt; not_before = tt }

  -- else they do
  pub stands_apart : ((e.parent == folder) && (e.prefix == front)) ≡ false → Stands nodes e.node folder name (Some (nat_lt e.parent folder || ((e.parent == folder) && nat_lt e.prefix front)))
  unfolding all
  stands_apart apart =
      let o = ordering_then (nat_cmp e.parent folder) (nat_cmp e.prefix front) in
      let test : is_eq o ≡ false = equal_then e.parent folder (nat_cmp e.prefix front) ∙ (ap (λ t. (e.parent == folder) && t) (eq_cmp e.prefix front) ∙ apart) in
      let other : o ≡ Equal → ⊥ = λ t. clash (is_eq o) (ap is_eq t) test in
      let s = stands o (sym (first_other (nat_cmp e.parent folder) (nat_cmp e.prefix front) other (name_cmp own.row.name name))) in
      record {
        row = s.row;
        found = s.found;
        before_is = sym (less_then e.parent folder (nat_cmp e.prefix front) ∙ ap (λ t. nat_lt e.parent folder || ((e.parent == folder) && t)) (lt_cmp e.prefix front)) ∙ s.less;
        other = sym s.equal ∙ test;
        named = tt;
        not_before = tt;
      }

-- whether a node stands before the place, if one that has the name doesn't
pub known_before : (nodes : List NodeRow) (n folder : ℕ) (name : List ℕ) (o : Option Bool) (s : Stands nodes n folder name o) → unwrap_or o false ≡ is_before s.row folder name
known_before nodes n folder name (Some before) s = s.before_is
known_before nodes n folder name None s = sym s.not_before
