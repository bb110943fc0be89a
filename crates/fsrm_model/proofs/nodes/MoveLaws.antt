-- What a move does to chains and sums.
use Rattle.std.proofs.Common.{◌≡◌, ℕ, zero, suc, ◌+◌, ◌==◌, Bool, true, false, cond, ◌||◌, List, [], ◌∷◌, ◌++◌, length, refl, sym, ◌∙◌, ap, subst, arith, inl, inr}
use Rattle.std.proofs.lemmas.Bool.Decides.{nat_tests}
use Rattle.std.proofs.lemmas.List.Sums.{sum_by-cons}
use Rattle.std.specs.Prelude.{sum_by, if◌then◌else◌}
use Rattle.std.specs.List.{AllByRecursion}
use Rattle.fsrm_model.specs.declared.row.Capacity.{Capacity}
use Rattle.fsrm_model.specs.declared.row.NodeRow.{NodeRow}
use Rattle.fsrm_base.specs.Keyed.{has_row, with_change}
use Rattle.fsrm_model.specs.values.Space.{space}
use Rattle.fsrm_model.specs.nodes.Tree.{number, parent_of, chain, chain_in, is_under, usage}
use Rattle.fsrm_base.proofs.TestLaws.{is_or_not, clash, not_true, is_or, neither, or_later, or_false, eq_is, eq_same, not_root}
use Rattle.fsrm_base.specs.Numbers.{is_in}
use Rattle.fsrm_model.proofs.nodes.ChainLaws.{IsTree, Has, stable, same_chain, share, usage_is}
use Rattle.fsrm_base.proofs.EditedRows.{sum_by_same, all_rows}
use Rattle.fsrm_model.proofs.nodes.DepthLaws.{soon}
use Rattle.fsrm_base.proofs.Sums.{sum_by-add, sum_by-map}

-- more steps, any number
pub stable_by : (j k : ℕ) (nodes : List NodeRow) (n : ℕ) → is_in (chain_in k nodes n) 0 ≡ true → chain_in (j + k) nodes n ≡ chain_in k nodes n
stable_by zero k nodes n h = let i : 0 + k ≡ k = omega arith in ap (λ i. chain_in i nodes n) i
stable_by (suc j) k nodes n h =
    let e : chain_in (j + k) nodes n ≡ chain_in k nodes n = stable_by j k nodes n h in
    let at : is_in (chain_in (j + k) nodes n) 0 ≡ true = subst (λ (ns : List ℕ). is_in ns 0 ≡ true) (sym e) h in
    let i : suc j + k ≡ suc (j + k) = omega arith in
    ap (λ i. chain_in i nodes n) i ∙ (stable (j + k) nodes n at ∙ e)

-- the members before a number
abbrev pub before : ℕ → List ℕ → List ℕ
before x [] = []
before x (n ∷ ns) = cond (n == x) [] (n ∷ before x ns)

-- what a move changes: the parent of one node, which is the root of no chain of its new folder
pub record Moves (old new : List NodeRow) (moved folder : ℕ) : Type 0 where
  pub tree : IsTree old
  pub has_moved : Has old moved
  pub has_folder : Has old folder
  pub is_inner : (moved == 0) ≡ false
  pub apart : is_in (chain old folder) moved ≡ false
  pub size : length new ≡ length old
  pub numbers : (n : ℕ) → has_row number n new ≡ has_row number n old
  pub up : parent_of new moved ≡ folder
  pub others : (n : ℕ) → (n == moved) ≡ false → parent_of new n ≡ parent_of old n

-- the new folder's chain stays
pub folder_chain : (old new : List NodeRow) (x d : ℕ) → Moves old new x d → chain_in (length old) new d ≡ chain old d
folder_chain old new x d m = same_chain (length old) old new x m.others d m.apart

-- a chain without the moved node stays
pub other_chain : (old new : List NodeRow) (x d : ℕ) → Moves old new x d → (n : ℕ) → is_in (chain old n) x ≡ false → chain_in (length old) new n ≡ chain old n
other_chain old new x d m n h = same_chain (length old) old new x m.others n h

-- a chain with it: the members before it, the node, and its new folder's chain
moved_at : (old new : List NodeRow) (x d k n : ℕ) → Moves old new x d → (b : Bool) → (suc n == x) ≡ b → (b || is_in (chain_in k old (parent_of old (suc n))) x) ≡ true
    → (is_in (chain_in k old (parent_of old (suc n))) x ≡ true → chain_in (k + suc (length old)) new (parent_of old (suc n)) ≡ before x (chain_in k old (parent_of old (suc n))) ++ x ∷ chain old d)
    → suc n ∷ chain_in (k + suc (length old)) new (parent_of new (suc n)) ≡ cond b [] (suc n ∷ before x (chain_in k old (parent_of old (suc n)))) ++ x ∷ chain old d
moved_at old new x d k n m true e h f =
    let is : suc n ≡ x = eq_is (suc n) x e in
    let rooted : is_in (chain_in (length old) new d) 0 ≡ true = subst (λ (ns : List ℕ). is_in ns 0 ≡ true) (sym (folder_chain old new x d m)) (m.tree.rooted d m.has_folder) in
    let up : parent_of new (suc n) ≡ d = ap (parent_of new) is ∙ m.up in
    let one_more : k + suc (length old) ≡ suc k + length old = omega arith in
    let steps : chain_in (k + suc (length old)) new d ≡ chain old d =
    ap (λ i. chain_in i new d) one_more ∙ (stable_by (suc k) (length old) new d rooted ∙ folder_chain old new x d m) in
    ap (λ p. suc n ∷ chain_in (k + suc (length old)) new p) up ∙ (ap (λ ns. suc n ∷ ns) steps ∙ ap (λ y. y ∷ chain old d) is)
moved_at old new x d k n m false e h f =
    ap (λ p. suc n ∷ chain_in (k + suc (length old)) new p) (m.others (suc n) e) ∙ ap (λ ns. suc n ∷ ns) (f h)

not_zero : (x : ℕ) → (x == 0) ≡ false → ((0 == x) || false) ≡ true → ⊥
not_zero x e h = grind (arith, nat_tests)

pub moved_chain : (old new : List NodeRow) (x d : ℕ) → Moves old new x d → (k n : ℕ) → is_in (chain_in k old n) x ≡ true → chain_in (k + suc (length old)) new n ≡ before x (chain_in k old n) ++ x ∷ chain old d
moved_chain old new x d m zero zero h = absurd (not_zero x m.is_inner h)
moved_chain old new x d m zero (suc n) h =
    let test : (suc n == x) ≡ true = or_false (suc n == x) h in
    let is : suc n ≡ x = eq_is (suc n) x test in
    let up : parent_of new (suc n) ≡ d = ap (parent_of new) is ∙ m.up in
    let i : 0 + suc (length old) ≡ suc (length old) = omega arith in
    ap (λ i. chain_in i new (suc n)) i
    ∙ (ap (λ p. suc n ∷ chain_in (length old) new p) up
    ∙ (ap (λ ns. suc n ∷ ns) (folder_chain old new x d m)
    ∙ (ap (λ y. y ∷ chain old d) is ∙ ap (λ b. cond b [] (suc n ∷ []) ++ x ∷ chain old d) (sym test))))
moved_chain old new x d m (suc k) zero h = absurd (not_zero x m.is_inner h)
moved_chain old new x d m (suc k) (suc n) h =
    let i : suc k + suc (length old) ≡ suc (k + suc (length old)) = omega arith in
    ap (λ i. chain_in i new (suc n)) i ∙ moved_at old new x d k n m (suc n == x) refl h (moved_chain old new x d m k (parent_of old (suc n)))

-- what is in a joined chain
pub in_joined : (xs ys : List ℕ) (y : ℕ) → is_in ys y ≡ true → is_in (xs ++ ys) y ≡ true
in_joined [] ys y h = h
in_joined (x ∷ xs) ys y h = or_true (x == y) (is_in (xs ++ ys) y) (in_joined xs ys y h)
  where
    or_true : (a b : Bool) → b ≡ true → (a || b) ≡ true
    or_true true b h = refl
    or_true false b h = h

-- after a move every node comes to the root in twice the steps
pub moved_rooted : (old new : List NodeRow) (x d : ℕ) → Moves old new x d → (n : ℕ) → Has old n → is_in (chain_in (length old + suc (length old)) new n) 0 ≡ true
moved_rooted old new x d m n h =
    elim (is_or_not (is_in (chain old n) x)) [
      | inl has ↦ subst (λ (ns : List ℕ). is_in ns 0 ≡ true) (sym (moved_chain old new x d m (length old) n has))
          (in_joined (before x (chain old n)) (x ∷ chain old d) 0 (or_later (x == 0) _ (m.tree.rooted d m.has_folder)))
      | inr lacks ↦
          let e = other_chain old new x d m n lacks in
          let at : is_in (chain_in (length old) new n) 0 ≡ true = subst (λ (ns : List ℕ). is_in ns 0 ≡ true) (sym e) (m.tree.rooted n h) in
          let i : length old + suc (length old) ≡ suc (length old) + length old = omega arith in
          subst (λ (ns : List ℕ). is_in ns 0 ≡ true) (sym (ap (λ i. chain_in i new n) i ∙ stable_by (suc (length old)) (length old) new n at)) at
    ]

pub members_has : (nodes : List NodeRow) → ((n : ℕ) → Has nodes n → Has nodes (parent_of nodes n)) → (k n y : ℕ) → Has nodes n → is_in (chain_in k nodes n) y ≡ true → Has nodes y
members_has nodes closed zero n y h m = subst (Has nodes) (eq_is n y (or_false (n == y) m)) h
members_has nodes closed (suc k) zero y h m = subst (Has nodes) (eq_is 0 y (or_false (0 == y) m)) h
members_has nodes closed (suc k) (suc n) y h m =
    elim (is_or (suc n == y) _ m) [
      | inl e ↦ subst (Has nodes) (eq_is (suc n) y e) h
      | inr r ↦ members_has nodes closed k (parent_of nodes (suc n)) y (closed (suc n) h) r
    ]

moved_closed : (old new : List NodeRow) (x d : ℕ) → Moves old new x d → (n : ℕ) → Has old n → Has old (parent_of new n)
moved_closed old new x d m n h =
    elim (is_or_not (n == x)) [
      | inl e ↦ subst (Has old) (sym (ap (parent_of new) (eq_is n x e) ∙ m.up)) m.has_folder
      | inr e ↦ subst (Has old) (sym (m.others n e)) (m.tree.closed n h)
    ]

to_new : (old new : List NodeRow) (x d : ℕ) → Moves old new x d → (n : ℕ) → Has old n → Has new n
to_new old new x d m n h = m.numbers n ∙ h

to_old : (old new : List NodeRow) (x d : ℕ) → Moves old new x d → (n : ℕ) → Has new n → Has old n
to_old old new x d m n h = sym (m.numbers n) ∙ h

-- the nodes after a move are a tree
pub moved_tree : (old new : List NodeRow) (x d : ℕ) → Moves old new x d → IsTree new
moved_tree old new x d m =
    let steps = length old in
    let i : suc (steps + steps) ≡ steps + suc steps = omega arith in
    let closed : (n : ℕ) → Has new n → Has new (parent_of new n) = λ n h. to_new old new x d m _ (moved_closed old new x d m n (to_old old new x d m n h)) in
    soon (steps + steps) new
    (record {
      root = to_new old new x d m 0 m.tree.root;
      closed = closed;
      rooted = λ n h. subst (λ (j : ℕ). is_in (chain_in j new n) 0 ≡ true) (sym i) (moved_rooted old new x d m n (to_old old new x d m n h));
    })
    (λ n y h r. members_has new closed (suc (steps + steps)) n y h r)

-- two chains of a node that come to the root are one
pub same_any : (a b : ℕ) (nodes : List NodeRow) (n : ℕ) → is_in (chain_in a nodes n) 0 ≡ true → is_in (chain_in b nodes n) 0 ≡ true → chain_in a nodes n ≡ chain_in b nodes n
same_any a b nodes n h g =
    let i : b + a ≡ a + b = omega arith in
    sym (stable_by b a nodes n h) ∙ (ap (λ j. chain_in j nodes n) i ∙ stable_by a b nodes n g)

-- the chain of a node below x: the members before x, and x's chain
split_at : (nodes : List NodeRow) → IsTree nodes → (x k n : ℕ) → Has nodes x → (b : Bool) → (suc n == x) ≡ b → is_in (chain_in (suc k) nodes (suc n)) 0 ≡ true → (b || is_in (chain_in k nodes (parent_of nodes (suc n))) x) ≡ true
    → (is_in (chain_in k nodes (parent_of nodes (suc n))) x ≡ true → chain_in k nodes (parent_of nodes (suc n)) ≡ before x (chain_in k nodes (parent_of nodes (suc n))) ++ chain nodes x)
    → chain_in (suc k) nodes (suc n) ≡ cond b [] (suc n ∷ before x (chain_in k nodes (parent_of nodes (suc n)))) ++ chain nodes x
split_at nodes t x k n hx true e r h f =
    let is : suc n ≡ x = eq_is (suc n) x e in
    let at : is_in (chain_in (suc k) nodes x) 0 ≡ true = subst (λ (j : ℕ). is_in (chain_in (suc k) nodes j) 0 ≡ true) is r in
    ap (chain_in (suc k) nodes) is ∙ same_any (suc k) (length nodes) nodes x at (t.rooted x hx)
split_at nodes t x k n hx false e r h f = ap (λ ns. suc n ∷ ns) (f h)

no_root : (n : ℕ) → (suc n == 0) ≡ true → ⊥
no_root n e = grind (arith, nat_tests)

pub split_chain : (nodes : List NodeRow) → IsTree nodes → (x k n : ℕ) → (x == 0) ≡ false → Has nodes x → is_in (chain_in k nodes n) 0 ≡ true → is_in (chain_in k nodes n) x ≡ true → chain_in k nodes n ≡ before x (chain_in k nodes n) ++ chain nodes x
split_chain nodes t x zero zero i hx r h = absurd (not_zero x i h)
split_chain nodes t x zero (suc n) i hx r h = absurd (no_root n (or_false (suc n == 0) r))
split_chain nodes t x (suc k) zero i hx r h = absurd (not_zero x i h)
split_chain nodes t x (suc k) (suc n) i hx r h =
    split_at nodes t x k n hx (suc n == x) refl r h (split_chain nodes t x k (parent_of nodes (suc n)) i hx (not_root n _ r))

-- a member with fewer steps is one with more
in_more : (k : ℕ) (nodes : List NodeRow) (n y : ℕ) → is_in (chain_in k nodes n) y ≡ true → is_in (chain_in (suc k) nodes n) y ≡ true
in_more zero nodes zero y h = h
in_more zero nodes (suc n) y h = or_first (suc n == y) _ (or_false (suc n == y) h)
  where
    or_first : (a b : Bool) → a ≡ true → (a || b) ≡ true
    or_first true b e = refl
    or_first false b e = cc
in_more (suc k) nodes zero y h = h
in_more (suc k) nodes (suc n) y h =
    elim (is_or (suc n == y) _ h) [
      | inl e ↦ ap (λ a. a || is_in (chain_in (suc k) nodes (parent_of nodes (suc n))) y) e
      | inr r ↦ or_later (suc n == y) _ (in_more k nodes (parent_of nodes (suc n)) y r)
    ]

in_any : (j k : ℕ) (nodes : List NodeRow) (n y : ℕ) → is_in (chain_in k nodes n) y ≡ true → is_in (chain_in (j + k) nodes n) y ≡ true
in_any zero k nodes n y h = let i : 0 + k ≡ k = omega arith in subst (λ (i : ℕ). is_in (chain_in i nodes n) y ≡ true) (sym i) h
in_any (suc j) k nodes n y h =
    let i : suc j + k ≡ suc (j + k) = omega arith in
    subst (λ (i : ℕ). is_in (chain_in i nodes n) y ≡ true) (sym i) (in_more (j + k) nodes n y (in_any j k nodes n y h))

-- a folder whose chain lacks x isn't before x
before_at : (x f n : ℕ) (ns : List ℕ) (b : Bool) → (n == x) ≡ b → (b ≡ false → (n == f) ≡ false) → (b ≡ false → is_in (before x ns) f ≡ false) → is_in (cond b [] (n ∷ before x ns)) f ≡ false
before_at x f n ns true e p g = refl
before_at x f n ns false e p g = ap (λ b. b || is_in (before x ns) f) (p refl) ∙ g refl

later_in : (n x : ℕ) (b : Bool) → (n == x) ≡ false → ((n == x) || b) ≡ true → b ≡ true
later_in n x b e h = sym (ap (λ a. a || b) e) ∙ h

pub before_lacks : (nodes : List NodeRow) (x f : ℕ) → ((k : ℕ) → is_in (chain_in k nodes f) x ≡ true → ⊥) → (k n : ℕ) → is_in (chain_in k nodes n) x ≡ true → is_in (before x (chain_in k nodes n)) f ≡ false
before_lacks nodes x f lacks zero n h =
    before_at x f n [] (n == x) refl
    (λ e. not_true _ (λ t. clash (n == x) (or_false (n == x) h) e)) (λ e. refl)
before_lacks nodes x f lacks (suc k) zero h =
    before_at x f 0 [] (0 == x) refl
    (λ e. not_true _ (λ t. clash (0 == x) (or_false (0 == x) h) e)) (λ e. refl)
before_lacks nodes x f lacks (suc k) (suc n) h =
    before_at x f (suc n) (chain_in k nodes (parent_of nodes (suc n))) (suc n == x) refl
    (λ e. not_true _ (λ t. lacks (suc k) (subst (λ (j : ℕ). is_in (chain_in (suc k) nodes j) x ≡ true) (eq_is (suc n) f t) h)))
    (λ e. before_lacks nodes x f lacks k (parent_of nodes (suc n)) (later_in (suc n) x _ e h))

in_append : (xs ys : List ℕ) (y : ℕ) → is_in xs y ≡ false → is_in (xs ++ ys) y ≡ is_in ys y
in_append [] ys y h = refl
in_append (x ∷ xs) ys y h =
    let parts : ((x == y) ≡ false) × (is_in xs y ≡ false) = neither _ _ h in
    ap (λ b. b || is_in (xs ++ ys) y) parts.0 ∙ in_append xs ys y parts.1

-- a folder that isn't at or below the moved node
pub record Outside (nodes : List NodeRow) (x f : ℕ) : Type 0 where
  pub has : Has nodes f
  pub lacks : is_in (chain nodes f) x ≡ false

never : (nodes : List NodeRow) → IsTree nodes → (x f : ℕ) → Outside nodes x f → (k : ℕ) → is_in (chain_in k nodes f) x ≡ true → ⊥
never nodes t x f o k h =
    let big : is_in (chain_in (length nodes + k) nodes f) x ≡ true = in_any (length nodes) k nodes f x h in
    let i : length nodes + k ≡ k + length nodes = omega arith in
    let whole : chain_in (length nodes + k) nodes f ≡ chain nodes f = ap (λ j. chain_in j nodes f) i ∙ stable_by k (length nodes) nodes f (t.rooted f o.has) in
    clash _ (subst (λ (ns : List ℕ). is_in ns x ≡ true) whole big) o.lacks

-- whether such a folder has a node below it: before the move and after it
pub under_before : (nodes : List NodeRow) → IsTree nodes → (x f n : ℕ) → (x == 0) ≡ false → Has nodes x → Outside nodes x f → Has nodes n → is_in (chain nodes n) x ≡ true → is_in (chain nodes n) f ≡ is_in (chain nodes x) f
under_before nodes t x f n i hx o h below =
    ap (λ ns. is_in ns f) (split_chain nodes t x (length nodes) n i hx (t.rooted n h) below)
    ∙ in_append (before x (chain nodes n)) (chain nodes x) f (before_lacks nodes x f (never nodes t x f o) (length nodes) n below)

pub own_first : (k : ℕ) (nodes : List NodeRow) (x : ℕ) → is_in (chain_in k nodes x) x ≡ true
own_first zero nodes x = ap (λ b. b || false) (eq_same x)
own_first (suc k) nodes zero = refl
own_first (suc k) nodes (suc x) = ap (λ b. b || is_in (chain_in k nodes (parent_of nodes (suc x))) (suc x)) (eq_same (suc x))

own_chain : (nodes : List NodeRow) (x : ℕ) → is_in (chain nodes x) x ≡ true
own_chain nodes x = own_first (length nodes) nodes x

pub under_after : (old new : List NodeRow) (x d : ℕ) (m : Moves old new x d) → (f n : ℕ) → Outside old x f → Has old n → is_in (chain old n) x ≡ true → is_in (chain new n) f ≡ is_in (chain old d) f
under_after old new x d m f n o h below =
    let t = moved_tree old new x d m in
    let steps = length old + suc (length old) in
    let whole : chain new n ≡ before x (chain old n) ++ x ∷ chain old d =
    same_any (length new) steps new n (t.rooted n (to_new old new x d m n h)) (moved_rooted old new x d m n h) ∙ moved_chain old new x d m (length old) n below in
    let apart : (x == f) ≡ false = not_true _ (λ e. clash _ (subst (λ (j : ℕ). is_in (chain old j) x ≡ true) (eq_is x f e) (own_chain old x)) o.lacks) in
    ap (λ ns. is_in ns f) whole
    ∙ (in_append (before x (chain old n)) (x ∷ chain old d) f (before_lacks old x f (never old m.tree x f o) (length old) n below)
    ∙ ap (λ b. b || is_in (chain old d) f) apart)

pub under_other : (old new : List NodeRow) (x d : ℕ) → Moves old new x d → (n : ℕ) → is_in (chain old n) x ≡ false → chain new n ≡ chain old n
under_other old new x d m n lacks = ap (λ k. chain_in k new n) m.size ∙ other_chain old new x d m n lacks

nothing : (b : Bool) → cond {A = ℕ} b 0 0 ≡ 0
nothing true = refl
nothing false = refl

sum_by-zero : {X : Type 0} (p : X → Bool) (xs : List X) → sum_by (λ x. cond (p x) 0 0) xs ≡ 0
sum_by-zero p [] = refl
sum_by-zero p (x ∷ xs) = omega (arith, sum_by-cons (λ x. cond (p x) 0 0) x xs, nothing (p x), sum_by-zero p xs)

-- the share of each node below x, if a test holds
only_where : (K : Capacity) (nodes : List NodeRow) (x : ℕ) (b : Bool) → sum_by (λ r. cond (is_in (chain nodes r.number) x) (cond b (space K r) 0) 0) nodes ≡ cond b (usage K nodes x) 0
only_where K nodes x true = sym (usage_is K nodes x)
only_where K nodes x false = sum_by-zero (λ r. is_in (chain nodes r.number) x) nodes

-- one node's shares before and after the move
one_share : (s : ℕ) (below : Bool) (u u' ux ud : Bool) → (below ≡ true → u' ≡ ud) → (below ≡ true → u ≡ ux) → (below ≡ false → u' ≡ u) → cond u' s 0 + cond below (cond ux s 0) 0 ≡ cond u s 0 + cond below (cond ud s 0) 0
one_share s true u u' ux ud after was same =
    omega (arith, ap (λ b. cond b s 0) (after refl), ap (λ b. cond b s 0) (was refl))
one_share s false u u' ux ud after was same = omega (arith, ap (λ b. cond b s 0) (same refl))

-- a change of one node's place
pub record KeepsSpace (K : Capacity) (c : NodeRow → NodeRow) : Type 0 where
  pub same_number : (r : NodeRow) → (c r).number ≡ r.number
  pub same_space : (r : NodeRow) → space K (c r) ≡ space K r

pub placed_share : (K : Capacity) (new : List NodeRow) (f : ℕ) (c : NodeRow → NodeRow) → KeepsSpace K c → (b : Bool) (r : NodeRow) → share K new f (cond b (c r) r) ≡ share K new f r
placed_share K new f c k true r = ap (λ n. cond (is_in (chain new n) f) (space K (c r)) 0) (k.same_number r) ∙ ap (λ s. cond (is_in (chain new r.number) f) s 0) (k.same_space r)
placed_share K new f c k false r = refl

-- a move takes the moved node's usage from each folder on its old chain, and gives it to each on its new one
pub usage-moved : (K : Capacity) (old : List NodeRow) (x d : ℕ) (c : NodeRow → NodeRow) → KeepsSpace K c → Moves old (with_change number x c old) x d → (f : ℕ) → Outside old x f
    → usage K (with_change number x c old) f + (if is_under old f x then usage K old x else 0) ≡ usage K old f + (if is_under old f d then usage K old x else 0)
usage-moved K old x d c k m f o =
    let new = with_change number x c old in
    let below : NodeRow → Bool = λ r. is_in (chain old r.number) x in
    let now : NodeRow → ℕ = λ r. share K new f r in
    let was : NodeRow → ℕ = λ r. share K old f r in
    let taken : NodeRow → ℕ = λ r. cond (below r) (cond (is_under old f x) (space K r) 0) 0 in
    let given : NodeRow → ℕ = λ r. cond (below r) (cond (is_under old f d) (space K r) 0) 0 in
    let each : AllByRecursion (λ r. now r + taken r ≡ was r + given r) old =
    all_rows number (λ r. now r + taken r ≡ was r + given r) old (λ r h.
    one_share (space K r) (below r) (is_in (chain old r.number) f) (is_in (chain new r.number) f) (is_under old f x) (is_under old f d)
    (λ e. under_after old new x d m f r.number o h e)
    (λ e. under_before old m.tree x f r.number m.is_inner m.has_moved o h e)
    (λ e. ap (λ ns. is_in ns f) (under_other old new x d m r.number e))) in
    let whole = sum_by_same (λ r. now r + taken r) (λ r. was r + given r) old each in
    let mapped : usage K new f ≡ sum_by now old =
    usage_is K new f ∙ (sum_by-map now (λ r. cond (r.number == x) (c r) r) old
    ∙ sum_by_same _ now old (all_rows number (λ r. now (cond (r.number == x) (c r) r) ≡ now r) old (λ r h. placed_share K new f c k (r.number == x) r))) in
    omega (arith, mapped, usage_is K old f, whole, sum_by-add now taken old, sum_by-add was given old, only_where K old x (is_under old f x), only_where K old x (is_under old f d))
