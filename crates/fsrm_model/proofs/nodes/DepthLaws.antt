-- A chain is no longer than the nodes are many.
use Rattle.std.proofs.Common.{◌≡◌, ℕ, zero, suc, ◌<◌, ◌≤◌, ◌==◌, eqb, Bool, true, false, ◌||◌, List, [], ◌∷◌, length, map, refl, sym, ◌∙◌, ap, subst, arith, inl, inr}
use Rattle.std.proofs.lemmas.Bool.Decides.{nat_tests}
use Rattle.std.proofs.lemmas.Map.Made.{length-le_from_is_member}
use Rattle.std.specs.Cmp.{nat_eq_equiv}
use Rattle.std.specs.List.{list_any, AllByRecursion, IsDistinct}
use Rattle.fsrm_model.specs.declared.row.NodeRow.{NodeRow}
use Rattle.fsrm_base.specs.Keyed.{has_row}
use Rattle.fsrm_model.specs.nodes.Tree.{number, parent_of, chain, chain_in}
use Rattle.fsrm_base.proofs.TestLaws.{not_true, is_or, eq_is, not_root}
use Rattle.fsrm_base.specs.Numbers.{is_in}
use Rattle.fsrm_model.proofs.nodes.ChainLaws.{IsTree, Has, stable}

-- every node comes to the root in so many steps
pub record IsRooted (j : ℕ) (nodes : List NodeRow) : Type 0 where
  pub root : Has nodes 0
  pub closed : (n : ℕ) → Has nodes n → Has nodes (parent_of nodes n)
  pub rooted : (n : ℕ) → Has nodes n → is_in (chain_in (suc j) nodes n) 0 ≡ true

pub some_member : (k : ℕ) (nodes : List NodeRow) (n : ℕ) → 0 < length (chain_in k nodes n)
some_member zero nodes n = omega arith
some_member (suc k) nodes zero = omega arith
some_member (suc k) nodes (suc n) = omega arith

-- the chain of a node is the node and its parent's chain
step_up : (j : ℕ) (nodes : List NodeRow) (n : ℕ) → is_in (chain_in (suc j) nodes (suc n)) 0 ≡ true → chain_in (suc j) nodes (suc n) ≡ suc n ∷ chain_in (suc j) nodes (parent_of nodes (suc n))
step_up j nodes n h = ap (λ ns. suc n ∷ ns) (sym (stable j nodes (parent_of nodes (suc n)) (not_root n _ h)))

-- a member's chain is no longer
pub member_shorter : (j : ℕ) (nodes : List NodeRow) → IsRooted j nodes → (most n y : ℕ) → Has nodes n → length (chain_in (suc j) nodes n) ≤ most → is_in (chain_in (suc j) nodes n) y ≡ true → length (chain_in (suc j) nodes y) ≤ length (chain_in (suc j) nodes n)
member_shorter j nodes t zero zero y h l m = absurd (omega arith)
member_shorter j nodes t zero (suc n) y h l m = absurd (omega (arith, ap length (step_up j nodes n (t.rooted (suc n) h))))
member_shorter j nodes t (suc most) zero y h l m =
    let at : is_in (0 ∷ []) y ≡ true = m in
    elim (is_or (0 == y) false at) [ inl e ↦ omega (arith, ap (λ k. length (chain_in (suc j) nodes k)) (eq_is 0 y e)) | inr f ↦ cc ]
member_shorter j nodes t (suc most) (suc n) y h l m =
    let step = step_up j nodes n (t.rooted (suc n) h) in
    let long : length (chain_in (suc j) nodes (suc n)) ≡ suc (length (chain_in (suc j) nodes (parent_of nodes (suc n)))) = ap length step in
    let at : is_in (suc n ∷ chain_in (suc j) nodes (parent_of nodes (suc n))) y ≡ true = subst (λ (ns : List ℕ). is_in ns y ≡ true) step m in
    elim (is_or (suc n == y) (is_in (chain_in (suc j) nodes (parent_of nodes (suc n))) y) at) [
      | inl e ↦ omega (arith, ap (λ k. length (chain_in (suc j) nodes k)) (eq_is (suc n) y e))
      | inr r ↦ omega (arith, member_shorter j nodes t most (parent_of nodes (suc n)) y (t.closed (suc n) h) (omega arith) r)
    ]

-- the node itself is in no chain of its parent
pub not_above : (j : ℕ) (nodes : List NodeRow) → IsRooted j nodes → (n : ℕ) → Has nodes (suc n) → is_in (chain_in (suc j) nodes (parent_of nodes (suc n))) (suc n) ≡ false
not_above j nodes t n h =
    not_true _ (λ m.
    let long : length (chain_in (suc j) nodes (suc n)) ≡ suc (length (chain_in (suc j) nodes (parent_of nodes (suc n)))) = ap length (step_up j nodes n (t.rooted (suc n) h)) in
    let short = member_shorter j nodes t (length (chain_in (suc j) nodes (parent_of nodes (suc n)))) (parent_of nodes (suc n)) (suc n) (t.closed (suc n) h) (omega arith) m in
    absurd (omega (arith, short)))

none_at : (x y : ℕ) (ys : List ℕ) (b : Bool) → (y == x) ≡ b → (b || is_in ys x) ≡ false → (is_in ys x ≡ false → AllByRecursion (λ y. eqb x y ≡ false) ys) → AllByRecursion (λ y. eqb x y ≡ false) (y ∷ ys)
none_at x y ys true e h f = cc
none_at x y ys false e h f = (grind (arith, nat_tests), f h)

none_equal : (x : ℕ) (xs : List ℕ) → is_in xs x ≡ false → AllByRecursion (λ y. eqb x y ≡ false) xs
none_equal x [] h = tt
none_equal x (y ∷ ys) h = none_at x y ys (y == x) refl h (none_equal x ys)

-- a chain has each node once
pub chain_distinct : (j : ℕ) (nodes : List NodeRow) → IsRooted j nodes → (most n : ℕ) → Has nodes n → length (chain_in (suc j) nodes n) ≤ most → IsDistinct eqb (chain_in (suc j) nodes n)
unfolding IsDistinct
chain_distinct j nodes t zero zero h l = absurd (omega arith)
chain_distinct j nodes t zero (suc n) h l = absurd (omega (arith, ap length (step_up j nodes n (t.rooted (suc n) h))))
chain_distinct j nodes t (suc most) zero h l = (tt, tt)
chain_distinct j nodes t (suc most) (suc n) h l =
    let step = step_up j nodes n (t.rooted (suc n) h) in
    let long : length (chain_in (suc j) nodes (suc n)) ≡ suc (length (chain_in (suc j) nodes (parent_of nodes (suc n)))) = ap length step in
    subst (IsDistinct eqb) (sym step)
    (none_equal (suc n) (chain_in (suc j) nodes (parent_of nodes (suc n))) (not_above j nodes t n h), chain_distinct j nodes t most (parent_of nodes (suc n)) (t.closed (suc n) h) (omega arith))

flip_in : (x : ℕ) (xs : List ℕ) → list_any (eqb x) xs ≡ is_in xs x
flip_in x [] = refl
flip_in x (y ∷ ys) =
    let turned : eqb x y ≡ (y == x) = nat_eq_equiv.symm x y in
    ap (λ b. b || list_any (eqb x) ys) turned ∙ ap (λ b. (y == x) || b) (flip_in x ys)

numbers_in : (x : ℕ) (nodes : List NodeRow) → is_in (map number nodes) x ≡ has_row number x nodes
numbers_in x [] = refl
numbers_in x (y ∷ ys) = ap (λ b. (y.number == x) || b) (numbers_in x ys)

length-numbers : (nodes : List NodeRow) → length (map number nodes) ≡ length nodes
length-numbers [] = refl
length-numbers (y ∷ ys) = ap suc (length-numbers ys)

-- if each member of a chain is one of some nodes, the chain has at most as many members as they are
pub chain_fits : (j : ℕ) (nodes : List NodeRow) → IsRooted j nodes → (n : ℕ) → Has nodes n → (some : List NodeRow) → ((x : ℕ) → is_in (chain_in (suc j) nodes n) x ≡ true → Has some x) → length (chain_in (suc j) nodes n) ≤ length some
chain_fits j nodes t n h some each =
    let distinct = chain_distinct j nodes t (length (chain_in (suc j) nodes n)) n h (omega arith) in
    let fits = length-le_from_is_member nat_eq_equiv (chain_in (suc j) nodes n) (map number some) distinct
    (λ q m. flip_in q (map number some) ∙ (numbers_in q some ∙ each q (sym (flip_in q (chain_in (suc j) nodes n)) ∙ m))) in
    omega (arith, fits, length-numbers some)

-- a chain that comes to the root needs no more steps than it has members
pub enough : (k j : ℕ) (nodes : List NodeRow) (n : ℕ) → is_in (chain_in k nodes n) 0 ≡ true → length (chain_in k nodes n) ≤ suc j → chain_in j nodes n ≡ chain_in k nodes n
enough zero zero nodes n h l = refl
enough zero (suc j) nodes zero h l = refl
enough zero (suc j) nodes (suc n) h l = cc (not_root n false h)
enough (suc k) zero nodes zero h l = refl
enough (suc k) zero nodes (suc n) h l = absurd (omega (arith, some_member k nodes (parent_of nodes (suc n))))
enough (suc k) (suc j) nodes zero h l = refl
enough (suc k) (suc j) nodes (suc n) h l = ap (λ ns. suc n ∷ ns) (enough k j nodes (parent_of nodes (suc n)) (not_root n _ h) (omega arith))

-- nodes that are rooted in any number of steps are a tree
pub soon : (j : ℕ) (nodes : List NodeRow) → IsRooted j nodes → ((n x : ℕ) → Has nodes n → is_in (chain_in (suc j) nodes n) x ≡ true → Has nodes x) → IsTree nodes
soon j nodes t each =
    record {
      root = t.root;
      closed = t.closed;
      rooted = λ n h.
          let fits = chain_fits j nodes t n h nodes (λ x m. each n x h m) in
          let same : chain nodes n ≡ chain_in (suc j) nodes n = enough (suc j) (length nodes) nodes n (t.rooted n h) (omega (arith, fits)) in
          subst (λ (ns : List ℕ). is_in ns 0 ≡ true) (sym same) (t.rooted n h);
    }
