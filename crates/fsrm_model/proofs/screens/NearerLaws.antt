-- Of the folders on a way up, those that are nearer than one of them are exactly those strictly below it.
use Rattle.std.proofs.Common.{◌≡◌, ℕ, zero, suc, ◌==◌, inl, inr, Bool, true, false, not, ◌||◌, List, [], ◌∷◌, length, Option, Some, None, refl, sym, ◌∙◌, ap, subst}
use Rattle.std.proofs.lemmas.List.Sums.{take_while-cons}
use Rattle.std.specs.Option.{option_map_or}
use Rattle.fsrm_base.specs.Numbers.{is_in}
use Rattle.fsrm_base.proofs.Look.{found_has}
use Rattle.fsrm_base.proofs.TestLaws.{is_or_not, clash, is_or, neither, or_later, or_false, eq_is, eq_turned, not_root}
use Rattle.fsrm_model.specs.declared.row.NodeRow.{NodeRow}
use Rattle.fsrm_model.specs.objects.Screens.{nearer}
use Rattle.fsrm_model.specs.nodes.Tree.{number, node_of, parent_of, chain_in, chain}
use Rattle.fsrm_model.proofs.nodes.Below.{chain_root, each_above}
use Rattle.fsrm_model.proofs.nodes.ChainLaws.{Has, IsTree, chain_in_has}
use Rattle.fsrm_model.proofs.nodes.MoveLaws.{same_any, own_first}

pub nearer_next : (d n : ℕ) (ns : List ℕ) → (n == d) ≡ false → nearer d (n ∷ ns) ≡ n ∷ nearer d ns
nearer_next d n ns e = take_while-cons (λ f. not (f == d)) n ns ∙ rw e refl

pub nearer_own : (d n : ℕ) (ns : List ℕ) → (n == d) ≡ true → nearer d (n ∷ ns) ≡ []
nearer_own d n ns e = take_while-cons (λ f. not (f == d)) n ns ∙ rw e refl

later : (n x : ℕ) (b : Bool) → (n == x) ≡ false → ((n == x) || b) ≡ true → b ≡ true
later n x b e h = sym (ap (λ a. a || b) e) ∙ h

-- ---- each way up leads to the root, also that of a number that no node has
root_in : (k : ℕ) (nodes : List NodeRow) → is_in (chain_in k nodes 0) 0 ≡ true
root_in zero nodes = refl
root_in (suc k) nodes = refl

rooted_by : (nodes : List NodeRow) → IsTree nodes → (n : ℕ) (o : Option NodeRow) → node_of nodes n ≡ o → is_in (chain nodes n) 0 ≡ true
rooted_by nodes t n (Some r) e = t.rooted n (found_has number n nodes r e)
rooted_by [] t n None e = absurd (cc t.root)
rooted_by (x ∷ xs) t zero None e = refl
rooted_by (x ∷ xs) t (suc n) None e =
    let up : parent_of (x ∷ xs) (suc n) ≡ 0 = ap (λ o. option_map_or (λ (node : NodeRow). node.parent) o 0) e in
    or_later (suc n == 0) (is_in (chain_in (length xs) (x ∷ xs) (parent_of (x ∷ xs) (suc n))) 0)
    (ap (λ p. is_in (chain_in (length xs) (x ∷ xs) p) 0) up ∙ root_in (length xs) (x ∷ xs))

-- so a way up in other steps is the same, if it comes to the root
whole : (nodes : List NodeRow) → IsTree nodes → (k n : ℕ) → is_in (chain_in k nodes n) 0 ≡ true → chain_in k nodes n ≡ chain nodes n
whole nodes t k n h = same_any k (length nodes) nodes n h (rooted_by nodes t n (node_of nodes n) refl)

-- ---- of two folders on a way up one that isn't nearer than the other is at or above it
one_above : (nodes : List NodeRow) (n s f : ℕ) → is_in (n ∷ []) s ≡ true → is_in (n ∷ []) f ≡ true → is_in (chain nodes s) f ≡ true
one_above nodes n s f hs hf =
    let same : s ≡ f = sym (eq_is n s (or_false (n == s) hs)) ∙ eq_is n f (or_false (n == f) hf) in
    subst (λ j. is_in (chain nodes s) j ≡ true) same (own_first (length nodes) nodes s)

above_in : (nodes : List NodeRow) → IsTree nodes → (k n s f : ℕ) → is_in (chain_in k nodes n) 0 ≡ true → is_in (chain_in k nodes n) s ≡ true → is_in (chain_in k nodes n) f ≡ true → is_in (nearer s (chain_in k nodes n)) f ≡ false → is_in (chain nodes s) f ≡ true
above_in nodes t zero n s f r hs hf h = one_above nodes n s f hs hf
above_in nodes t (suc k) zero s f r hs hf h = one_above nodes 0 s f hs hf
above_in nodes t (suc k) (suc n) s f r hs hf h =
    let rest = chain_in k nodes (parent_of nodes (suc n)) in
    elim (is_or_not (suc n == s)) [
      | inl here ↦ subst (λ j. is_in (chain nodes j) f ≡ true) (eq_is (suc n) s here) (ap (λ ns. is_in ns f) (sym (whole nodes t (suc k) (suc n) r)) ∙ hf)
      | inr apart ↦
          let none = neither (suc n == f) (is_in (nearer s rest) f) (ap (λ ns. is_in ns f) (sym (nearer_next s (suc n) rest apart)) ∙ h) in
          above_in nodes t k (parent_of nodes (suc n)) s f (not_root n (is_in rest 0) r) (later (suc n) s (is_in rest s) apart hs) (later (suc n) f (is_in rest f) none.0 hf) none.1
    ]

pub not_nearer : (nodes : List NodeRow) → IsTree nodes → (n s f : ℕ) → is_in (chain nodes n) s ≡ true → is_in (chain nodes n) f ≡ true → is_in (nearer s (chain nodes n)) f ≡ false → is_in (chain nodes s) f ≡ true
not_nearer nodes t n s f hs hf h = above_in nodes t (length nodes) n s f (rooted_by nodes t n (node_of nodes n) refl) hs hf h

-- ---- one that is nearer is on the way, and strictly below
pub record IsBetween (nodes : List NodeRow) (way : List ℕ) (s f : ℕ) : Type 0 where
  pub on : is_in way f ≡ true
  pub below : is_in (chain nodes f) s ≡ true
  pub apart : (f == s) ≡ false

none_nearer : (n s f : ℕ) (ns : List ℕ) → (n == s) ≡ true → is_in (nearer s (n ∷ ns)) f ≡ true → ⊥
none_nearer n s f ns e h = let never : is_in [] f ≡ true = ap (λ ms. is_in ms f) (sym (nearer_own s n ns e)) ∙ h in cc never

between_in : (nodes : List NodeRow) → IsTree nodes → (k n s f : ℕ) → is_in (chain_in k nodes n) 0 ≡ true → is_in (chain_in k nodes n) s ≡ true → is_in (nearer s (chain_in k nodes n)) f ≡ true → IsBetween nodes (chain_in k nodes n) s f
between_in nodes t zero n s f r hs h = absurd (none_nearer n s f [] (or_false (n == s) hs) h)
between_in nodes t (suc k) zero s f r hs h = absurd (none_nearer 0 s f [] (or_false (0 == s) hs) h)
between_in nodes t (suc k) (suc n) s f r hs h =
    let rest = chain_in k nodes (parent_of nodes (suc n)) in
    elim (is_or_not (suc n == s)) [
      | inl here ↦ absurd (none_nearer (suc n) s f rest here h)
      | inr apart ↦
          let front : is_in (suc n ∷ nearer s rest) f ≡ true = ap (λ ns. is_in ns f) (sym (nearer_next s (suc n) rest apart)) ∙ h in
          elim (is_or (suc n == f) (is_in (nearer s rest) f) front) [
            | inl first ↦
                let same : suc n ≡ f = eq_is (suc n) f first in
                record {
                  on = ap (λ b. b || is_in rest f) first;
                  below = subst (λ j. is_in (chain nodes j) s ≡ true) same (ap (λ ns. is_in ns s) (sym (whole nodes t (suc k) (suc n) r)) ∙ hs);
                  apart = subst (λ j. (j == s) ≡ false) same apart;
                }
            | inr next ↦
                let more = between_in nodes t k (parent_of nodes (suc n)) s f (not_root n (is_in rest 0) r) (later (suc n) s (is_in rest s) apart hs) next in
                record { on = or_later (suc n == f) (is_in rest f) more.on; below = more.below; apart = more.apart }
          ]
    ]

pub between : (nodes : List NodeRow) → IsTree nodes → (n s f : ℕ) → is_in (chain nodes n) s ≡ true → is_in (nearer s (chain nodes n)) f ≡ true → IsBetween nodes (chain nodes n) s f
between nodes t n s f hs h = between_in nodes t (length nodes) n s f (rooted_by nodes t n (node_of nodes n) refl) hs h

-- and the other way round
never_both : (nodes : List NodeRow) → IsTree nodes → (s f : ℕ) → Has nodes s → is_in (chain nodes f) s ≡ true → is_in (chain nodes s) f ≡ true → (f == s) ≡ false → ⊥
never_both nodes t s f has below above apart =
    elim (is_or_not (s == 0)) [
      | inl root ↦
          let zero_is : s ≡ 0 = eq_is s 0 root in
          let at : (0 == f) ≡ true = sym (chain_root nodes f) ∙ subst (λ j. is_in (chain nodes j) f ≡ true) zero_is above in
          clash (s == f) (subst (λ j. (j == f) ≡ true) (sym zero_is) at) (eq_turned f s apart)
      | inr inner ↦
          clash (s == f) (each_above nodes t s f inner has (chain_in_has nodes t (length nodes) s f has above) below above) (eq_turned f s apart)
    ]

pub is_nearer : (nodes : List NodeRow) → IsTree nodes → (n s f : ℕ) → Has nodes s → is_in (chain nodes n) s ≡ true → IsBetween nodes (chain nodes n) s f → is_in (nearer s (chain nodes n)) f ≡ true
is_nearer nodes t n s f has hs b =
    elim (is_or_not (is_in (nearer s (chain nodes n)) f)) [
      | inl near ↦ near
      | inr far ↦ absurd (never_both nodes t s f has b.below (not_nearer nodes t n s f hs b.on far) b.apart)
    ]
