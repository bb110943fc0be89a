-- A move leaves what is at and below the moved node.
use Rattle.std.proofs.Common.{◌≡◌, ℕ, zero, suc, ◌+◌, ◌<◌, ◌==◌, Bool, true, false, cond, ◌||◌, inl, inr, List, [], ◌∷◌, ◌++◌, length, length-append, refl, sym, ◌∙◌, ap, subst, arith}
use Rattle.fsrm_model.specs.declared.row.Capacity.{Capacity}
use Rattle.fsrm_model.specs.declared.row.NodeRow.{NodeRow}
use Rattle.fsrm_base.specs.Keyed.{with_change}
use Rattle.fsrm_model.specs.values.Space.{space}
use Rattle.fsrm_model.specs.nodes.Tree.{number, parent_of, chain, is_under, usage}
use Rattle.fsrm_base.proofs.TestLaws.{is_or_not, clash, not_true, eq_is, eq_turned, suc_apart, same_tests}
use Rattle.fsrm_base.specs.Numbers.{is_in}
use Rattle.fsrm_model.proofs.nodes.ChainLaws.{IsTree, Has, share, usage_is, chain_step}
use Rattle.fsrm_base.proofs.EditedRows.{sum_by_same, all_rows}
use Rattle.fsrm_base.proofs.Sums.{sum_by-map}
use Rattle.fsrm_model.proofs.nodes.MoveLaws.{Moves, moved_tree, moved_chain, moved_rooted, before, split_chain, same_any, under_other, own_first, KeepsSpace, in_joined, placed_share}

in_left : (xs ys : List ℕ) (y : ℕ) → is_in xs y ≡ true → is_in (xs ++ ys) y ≡ true
in_left [] ys y h = cc
in_left (x ∷ xs) ys y h = at (x == y) h (in_left xs ys y)
  where
    at : (b : Bool) → (b || is_in xs y) ≡ true → (is_in xs y ≡ true → is_in (xs ++ ys) y ≡ true) → (b || is_in (xs ++ ys) y) ≡ true
    at true h f = refl
    at false h f = f h

in_which : (xs ys : List ℕ) (y : ℕ) → is_in (xs ++ ys) y ≡ (is_in xs y || is_in ys y)
in_which [] ys y = refl
in_which (x ∷ xs) ys y = ap (λ b. (x == y) || b) (in_which xs ys y) ∙ joined (x == y) (is_in xs y) (is_in ys y)
  where
    joined : (a b c : Bool) → (a || (b || c)) ≡ ((a || b) || c)
    joined true b c = refl
    joined false b c = refl

pub chain_root : (nodes : List NodeRow) (x : ℕ) → is_in (chain nodes 0) x ≡ (0 == x)
chain_root [] x = plain (0 == x)
  where
    plain : (b : Bool) → (b || false) ≡ b
    plain true = refl
    plain false = refl
chain_root (r ∷ rows) x = plain (0 == x)
  where
    plain : (b : Bool) → (b || false) ≡ b
    plain true = refl
    plain false = refl

-- a node that isn't the root is below no root alone
inner_of : (nodes : List NodeRow) (x f : ℕ) → (x == 0) ≡ false → is_in (chain nodes f) x ≡ true → (f == 0) ≡ false
inner_of nodes x zero i h = absurd (clash (0 == x) (sym (chain_root nodes x) ∙ h) (eq_turned x 0 i))
inner_of nodes x (suc f) i h = suc_apart f

-- what is above a member is above
pub above_all : (nodes : List NodeRow) → IsTree nodes → (x f n : ℕ) → (x == 0) ≡ false → Has nodes f → Has nodes n → is_in (chain nodes n) f ≡ true → is_in (chain nodes f) x ≡ true → is_in (chain nodes n) x ≡ true
above_all nodes t x f n i hf hn below above =
    let s : chain nodes n ≡ before f (chain nodes n) ++ chain nodes f = split_chain nodes t f (length nodes) n (inner_of nodes x f i above) hf (t.rooted n hn) below in
    ap (λ ns. is_in ns x) s ∙ in_joined (before f (chain nodes n)) (chain nodes f) x above

before_length : (f n : ℕ) (ns : List ℕ) → (n == f) ≡ false → 0 < length (before f (n ∷ ns))
before_length f n ns h = subst (λ ms. 0 < length ms) (sym (ap (λ b. cond b [] (n ∷ before f ns)) h)) (omega arith)

-- a chain is at least as long as that of a node above, and longer if it is another node
pub above_shorter : (nodes : List NodeRow) → IsTree nodes → (f x : ℕ) → (f == 0) ≡ false → Has nodes f → Has nodes x → is_in (chain nodes x) f ≡ true → (x == f) ≡ false → length (chain nodes f) < length (chain nodes x)
above_shorter nodes t f zero i hf hx h e = absurd (clash (0 == f) (sym (chain_root nodes f) ∙ h) e)
above_shorter nodes t f (suc x) i hf hx h e =
    let s : chain nodes (suc x) ≡ before f (chain nodes (suc x)) ++ chain nodes f = split_chain nodes t f (length nodes) (suc x) i hf (t.rooted (suc x) hx) h in
    let step : chain nodes (suc x) ≡ suc x ∷ chain nodes (parent_of nodes (suc x)) = chain_step nodes x (t.rooted (suc x) hx) in
    let some : 0 < length (before f (chain nodes (suc x))) = subst (λ ns. 0 < length (before f ns)) (sym step) (before_length f (suc x) (chain nodes (parent_of nodes (suc x))) e) in
    omega (arith, ap length s, length-append (before f (chain nodes (suc x))) (chain nodes f), some)

-- two nodes of which each is at or below the other are one
pub each_above : (nodes : List NodeRow) → IsTree nodes → (x f : ℕ) → (x == 0) ≡ false → Has nodes x → Has nodes f → is_in (chain nodes f) x ≡ true → is_in (chain nodes x) f ≡ true → (x == f) ≡ true
each_above nodes t x f i hx hf up down =
    elim (is_or_not (x == f)) [
      | inl e ↦ e
      | inr e ↦ absurd (omega (
        arith,
        above_shorter nodes t f x (inner_of nodes x f i up) hf hx down e,
        above_shorter nodes t x f i hx hf up (eq_turned x f e),
      ))
    ]

-- a folder at or below the moved node has the same nodes below it
at_below : (old : List NodeRow) (x d f n : ℕ) → (x == f) ≡ is_in (chain old x) f → is_in (chain old d) f ≡ false → is_in (before x (chain old n) ++ x ∷ chain old d) f ≡ is_in (before x (chain old n) ++ chain old x) f
at_below old x d f n own lacks =
    in_which (before x (chain old n)) (x ∷ chain old d) f
    ∙ (ap (λ b. is_in (before x (chain old n)) f || b) (ap (λ b. (x == f) || b) lacks ∙ (alone (x == f) ∙ own)) ∙ sym (in_which (before x (chain old n)) (chain old x) f))
  where
    alone : (b : Bool) → (b || false) ≡ b
    alone true = refl
    alone false = refl

pub below_moved : (old new : List NodeRow) (x d : ℕ) (m : Moves old new x d) → (f n : ℕ) → Has old f → is_in (chain old f) x ≡ true → Has old n → is_in (chain new n) f ≡ is_in (chain old n) f
below_moved old new x d m f n hf above hn =
    elim (is_or_not (is_in (chain old n) x)) [
      | inl b ↦
          let has : Has new n = m.numbers n ∙ hn in
          let whole : chain new n ≡ before x (chain old n) ++ x ∷ chain old d =
          same_any (length new) (length old + suc (length old)) new n ((moved_tree old new x d m).rooted n has) (moved_rooted old new x d m n hn) ∙ moved_chain old new x d m (length old) n b in
          let was : chain old n ≡ before x (chain old n) ++ chain old x = split_chain old m.tree x (length old) n m.is_inner m.has_moved (m.tree.rooted n hn) b in
          let own : (x == f) ≡ is_in (chain old x) f = same_tests (x == f) (is_in (chain old x) f)
          (λ e. subst (λ j. is_in (chain old x) j ≡ true) (eq_is x f e) (own_first (length old) old x))
          (λ e. each_above old m.tree x f m.is_inner m.has_moved hf above e) in
          let lacks : is_in (chain old d) f ≡ false = not_true _ (λ e. clash _ (above_all old m.tree x f d m.is_inner hf m.has_folder e above) m.apart) in
          ap (λ ns. is_in ns f) whole ∙ (at_below old x d f n own lacks ∙ ap (λ ns. is_in ns f) (sym was))
      | inr b ↦ ap (λ ns. is_in ns f) (under_other old new x d m n b)
    ]

-- the usage of each folder at or below the moved node stays
pub usage-moved_below : (K : Capacity) (old : List NodeRow) (x d : ℕ) (c : NodeRow → NodeRow) → KeepsSpace K c → Moves old (with_change number x c old) x d → (f : ℕ) → Has old f → is_under old x f ≡ true → usage K (with_change number x c old) f ≡ usage K old f
usage-moved_below K old x d c k m f hf above =
    let new = with_change number x c old in
    usage_is K new f
    ∙ (sum_by-map (share K new f) (λ r. cond (r.number == x) (c r) r) old
    ∙ (sum_by_same (λ r. share K new f (cond (r.number == x) (c r) r)) (share K old f) old
    (all_rows number (λ r. share K new f (cond (r.number == x) (c r) r) ≡ share K old f r) old (λ r h. placed_share K new f c k (r.number == x) r ∙ ap (λ b. cond b (space K r) 0) (below_moved old new x d m f r.number hf above h)))
    ∙ sym (usage_is K old f)))
