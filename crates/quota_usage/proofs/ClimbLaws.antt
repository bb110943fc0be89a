-- Steps of the way up.
use Rattle.std.proofs.Common.{◌≡◌, ℕ, zero, suc, ◌+◌, ◌<◌, ◌≤◌, ◌^◌, ◌==◌, Bool, true, false, cond, ◌||◌, inl, inr, List, [], ◌∷◌, length, Option, Some, None, refl, sym, ◌∙◌, ap, subst, arith}
use Rattle.std.specs.Prelude.{drop, is_some, option_map, if◌then◌else◌}
use Rattle.std.specs.Option.{option_or}
use Rattle.fsrm_model.specs.declared.row.NodeRow.{NodeRow}
use Rattle.fsrm_base.specs.Keyed.{row_of, with_change}
use Rattle.fsrm_model.specs.nodes.Tree.{above, parent_of, chain_in, chain, is_under}
use Rattle.fsrm_base.proofs.TestLaws.{is_or, is_or_not, eq_is, eq_same, or_later, clash, not_true}
use Rattle.fsrm_model.proofs.nodes.ChainLaws.{IsTree, Has}
use Rattle.fsrm_base.specs.Numbers.{is_in}
use Rattle.fsrm_model.proofs.nodes.Below.{above_all}
use Rattle.fsrm_model.proofs.nodes.Climbs.{above_root, along, climb, own_then_above, under_own, under_up}
use Rattle.fsrm_base.proofs.ChangedRows.{changed_rows}
use Rattle.fsrm_base.proofs.Look.{find-map, found_key, row_of-change}
use Rattle.quota_usage.specs.Climb.{amended, amended_counter, IsFirst, IsNearest}
use Rattle.quota_usage.specs.Counters.{counted, used_in}
use Rattle.quota_usage.specs.declared.change.Counter.{Counter}
use Rattle.quota_usage.specs.declared.change.Exceeded.{Exceeded}
use Rattle.fsrm_model.proofs.nodes.DepthLaws.{some_member}

-- the parent of a node on the way is on the way
pub on_up : (nodes : List NodeRow) → IsTree nodes → (start n : ℕ) → Has nodes start → Has nodes n → (n ≡ 0 → ⊥) → is_under nodes n start ≡ true → is_under nodes (parent_of nodes n) start ≡ true
on_up nodes t start n hs hn i on =
    let p = parent_of nodes n in
    let own : is_under nodes p n ≡ true = ap (λ ns. is_in ns p) (climb nodes t n hn i) ∙ or_later (n == p) _ (under_own nodes p) in
    elim (is_or_not (p == 0)) [
      | inl e ↦ subst (λ j. is_under nodes j start ≡ true) (sym (eq_is p 0 e)) (t.rooted start hs)
      | inr e ↦ above_all nodes t p n start e hn hs on own
    ]

-- a way up passes no more nodes than there are, and one
chain_most : (k : ℕ) (nodes : List NodeRow) (n : ℕ) → length (chain_in k nodes n) ≤ k + 1
chain_most zero nodes n = omega arith
chain_most (suc k) nodes zero = omega arith
chain_most (suc k) nodes (suc n) = omega (arith, chain_most k nodes (parent_of nodes (suc n)))

pub height_most : (nodes : List NodeRow) (n : ℕ) → length (chain nodes n) ≤ length nodes + 1
height_most nodes n = chain_most (length nodes) nodes n

pub height_root : (nodes : List NodeRow) → length (chain nodes 0) ≡ 1
height_root [] = refl
height_root (r ∷ rows) = refl

pub height_some : (nodes : List NodeRow) (n : ℕ) → 0 < length (chain nodes n)
height_some nodes n = some_member (length nodes) nodes n

pub height_up : (nodes : List NodeRow) → IsTree nodes → (n : ℕ) → Has nodes n → (n ≡ 0 → ⊥) → length (chain nodes n) ≡ length (chain nodes (parent_of nodes n)) + 1
height_up nodes t n h i = let e = ap length (climb nodes t n h i) in omega (arith, e)

-- a step of the way, from a node to its parent
pub record IsStep (nodes : List NodeRow) (at up : ℕ) : Type 0 where
  pub there : Has nodes up
  pub lower : length (chain nodes at) ≡ length (chain nodes up) + 1
  pub on : (start : ℕ) → Has nodes start → is_under nodes at start ≡ true → is_under nodes up start ≡ true

pub step_up : (nodes : List NodeRow) → IsTree nodes → (at up : ℕ) → Has nodes at → (at ≡ 0 → ⊥) → up ≡ parent_of nodes at → IsStep nodes at up
step_up nodes t at up h i is =
    subst (λ (n : ℕ). IsStep nodes at n) (sym is)
    (record { there = t.closed at h; lower = height_up nodes t at h i; on = λ start hs on. on_up nodes t start at hs h i on })

-- a changed counter is of the same folder
pub own_key : (minus plus : ℕ) (b : Bool) (r : Counter) → counted (cond b (amended_counter minus plus r) r) ≡ counted r
own_key minus plus true r = refl
own_key minus plus false r = refl

-- no counter of these folders passes 2^64 - 1
pub record FitAll (counters : List Counter) (ns : List ℕ) (minus plus : ℕ) : Type 0 where
  pub fits : (folder bytes : ℕ) → is_in ns folder ≡ true → used_in counters folder ≡ Some bytes → amended minus plus bytes < 2 ^ 64

pub fits_first : (counters : List Counter) (way rest : List ℕ) (at minus plus : ℕ) → way ≡ at ∷ rest → FitAll counters way minus plus → (bytes : ℕ) → used_in counters at ≡ Some bytes → amended minus plus bytes < 2 ^ 64
fits_first counters way rest at minus plus is f bytes used =
    f.fits at bytes (ap (λ (ns : List ℕ). is_in ns at) is ∙ ap (λ b. b || is_in rest at) (eq_same at)) used

pub fits_later : (counters : List Counter) (way rest : List ℕ) (at minus plus : ℕ) → way ≡ at ∷ rest → FitAll counters way minus plus → FitAll counters rest minus plus
fits_later counters way rest at minus plus is f = record {
  fits = λ folder bytes on used. f.fits folder bytes (ap (λ (ns : List ℕ). is_in ns folder) is ∙ or_later (at == folder) _ on) used;
}

-- the counter of another folder is as it was
other_at : (minus plus n m : ℕ) → (m == n) ≡ false → (counters : List Counter) (o : Option Counter) → row_of counted m counters ≡ o → option_map (λ (r : Counter). if counted r == n then amended_counter minus plus r else r) o ≡ o
other_at minus plus n m apart counters None found = refl
other_at minus plus n m apart counters (Some r) found =
    ap (λ b. Some (cond b (amended_counter minus plus r) r)) (ap (λ k. k == n) (found_key counted m counters r found) ∙ apart)

used_other : (minus plus n m : ℕ) → (m == n) ≡ false → (counters : List Counter) → used_in (with_change counted n (amended_counter minus plus) counters) m ≡ used_in counters m
used_other minus plus n m apart counters =
    ap (option_map (λ (r : Counter). r.bytes))
    (row_of-change counted n (amended_counter minus plus) (λ r. refl) m counters
    ∙ other_at minus plus n m apart counters (row_of counted m counters) refl)

apart_from : (n m : ℕ) (ns : List ℕ) → is_in ns n ≡ false → is_in ns m ≡ true → (m == n) ≡ false
apart_from n m ns lacks has = not_true _ (λ e. clash (is_in ns n) (subst (λ k. is_in ns k ≡ true) (eq_is m n e) has) lacks)

pub fits_rest : (counters new : List Counter) (way rest : List ℕ) (at minus plus : ℕ) → way ≡ at ∷ rest → is_in rest at ≡ false → new ≡ with_change counted at (amended_counter minus plus) counters → FitAll counters way minus plus → FitAll new rest minus plus
fits_rest counters new way rest at minus plus is lacks made f = record {
  fits = λ folder bytes on used.
      f.fits folder bytes (ap (λ (ns : List ℕ). is_in ns folder) is ∙ or_later (at == folder) _ on)
      (sym (ap (λ (now : List Counter). used_in now folder) made ∙ used_other minus plus at folder (apart_from at folder rest lacks on) counters) ∙ used);
}

-- its own is what its change makes of it
own_at : (f : Counter → Counter) (g : Counter → ℕ) → ((r : Counter) → (f r).bytes ≡ g r) → (n : ℕ) (counters : List Counter) (o : Option Counter) → row_of counted n counters ≡ o → option_map (λ (r : Counter). r.bytes) (option_map (λ (r : Counter). if counted r == n then f r else r) o) ≡ option_map g o
own_at f g tells n counters None found = refl
own_at f g tells n counters (Some r) found =
    ap (λ b. Some (cond b (f r) r).bytes) (ap (λ k. k == n) (found_key counted n counters r found) ∙ eq_same n) ∙ ap Some (tells r)

pub used_own : (f : Counter → Counter) (g : Counter → ℕ) → ((r : Counter) → counted (f r) ≡ counted r) → ((r : Counter) → (f r).bytes ≡ g r) → (n : ℕ) (counters : List Counter) → used_in (with_change counted n f counters) n ≡ option_map g (row_of counted n counters)
used_own f g keeps tells n counters =
    ap (option_map (λ (r : Counter). r.bytes)) (row_of-change counted n f keeps n counters)
    ∙ own_at f g tells n counters (row_of counted n counters) refl

-- and that of a folder that is none of these
pub used_apart : (minus plus : ℕ) (ns : List ℕ) (n : ℕ) → is_in ns n ≡ false → (counters : List Counter) → used_in (changed_rows counted (amended_counter minus plus) ns counters) n ≡ used_in counters n
used_apart minus plus ns n lacks counters =
    ap (option_map (λ (r : Counter). r.bytes))
    (find-map (λ (r : Counter). counted r == n) change (λ r. ap (λ k. k == n) (own_key minus plus (is_in ns (counted r)) r)) counters
    ∙ same (row_of counted n counters) refl)
  where
    change : Counter → Counter
    change r = if is_in ns (counted r) then amended_counter minus plus r else r

    same : (o : Option Counter) → row_of counted n counters ≡ o → option_map change o ≡ o
    same None found = refl
    same (Some r) found = ap (λ b. Some (cond b (amended_counter minus plus r) r)) (ap (is_in ns) (found_key counted n counters r found) ∙ lacks)

-- what is refused on the way
pub passes_up : (nodes : List NodeRow) → IsTree nodes → (refusal : ℕ → Option Exceeded) (start at up : ℕ) → Has nodes at → (at ≡ 0 → ⊥) → up ≡ parent_of nodes at → refusal at ≡ None → ((f : ℕ) → is_under nodes f start ≡ true → is_under nodes f at ≡ false → refusal f ≡ None) → (f : ℕ) → is_under nodes f start ≡ true → is_under nodes f up ≡ false → refusal f ≡ None
passes_up nodes t refusal start at up h i u here below f on off =
    elim (is_or_not (at == f)) [
      | inl e ↦ ap refusal (sym (eq_is at f e)) ∙ here
      | inr e ↦ below f on (under_up nodes t f at h i (λ s. clash _ (subst (λ j. (at == j) ≡ true) s (own at)) e) ∙ (ap (λ j. is_under nodes f j) (sym u) ∙ off))
    ]
  where
    own : (n : ℕ) → (n == n) ≡ true
    own n = eq_same n

pub first_here : (nodes : List NodeRow) (refusal : ℕ → Option Exceeded) (start at : ℕ) (e : Exceeded) → Some e ≡ refusal at → is_under nodes at start ≡ true → ((f : ℕ) → is_under nodes f start ≡ true → is_under nodes f at ≡ false → refusal f ≡ None) → IsFirst nodes refusal start e
first_here nodes refusal start at e is on below = record { place = at; on = on; refused = sym is; below = below }

-- the first refusal in a list of folders
abbrev pub first_in : (ℕ → Option Exceeded) → List ℕ → Option Exceeded
first_in refusal [] = None
first_in refusal (n ∷ ns) = option_or (refusal n) (first_in refusal ns)

pub first_stops : (refusal : ℕ → Option Exceeded) (way rest : List ℕ) (at : ℕ) (o whole : Option Exceeded) → way ≡ at ∷ rest → o ≡ refusal at → is_some o ≡ true → first_in refusal way ≡ whole → o ≡ whole
first_stops refusal way rest at None whole is here some left = cc
first_stops refusal way rest at (Some e) whole is here some left = sym (ap (first_in refusal) is ∙ ap (λ o. option_or o (first_in refusal rest)) (sym here)) ∙ left

pub first_goes : (refusal : ℕ → Option Exceeded) (way rest : List ℕ) (at : ℕ) (o whole : Option Exceeded) → way ≡ at ∷ rest → o ≡ refusal at → is_some o ≡ false → first_in refusal way ≡ whole → first_in refusal rest ≡ whole
first_goes refusal way rest at None whole is here none left = sym (ap (first_in refusal) is ∙ ap (λ o. option_or o (first_in refusal rest)) (sym here)) ∙ left
first_goes refusal way rest at (Some e) whole is here none left = cc

-- on the way up from a node, that is the refusal of the nearest one that refuses
none_at : (refusal : ℕ → Option Exceeded) (n : ℕ) (ns : List ℕ) (folder : ℕ) (o : Option Exceeded) → refusal n ≡ o → option_or o (first_in refusal ns) ≡ None → is_in (n ∷ ns) folder ≡ true → (first_in refusal ns ≡ None → is_in ns folder ≡ true → refusal folder ≡ None) → refusal folder ≡ None
none_at refusal n ns folder None here none on later = elim (is_or _ _ on) [ inl e ↦ ap refusal (sym (eq_is n folder e)) ∙ here | inr on ↦ later none on ]
none_at refusal n ns folder (Some e) here none on later = cc

none_refuse : (refusal : ℕ → Option Exceeded) (ns : List ℕ) → first_in refusal ns ≡ None → (folder : ℕ) → is_in ns folder ≡ true → refusal folder ≡ None
none_refuse refusal [] none folder on = cc
none_refuse refusal (n ∷ ns) none folder on = none_at refusal n ns folder (refusal n) refl none on (λ none on. none_refuse refusal ns none folder on)

pub first_found : (nodes : List NodeRow) → IsTree nodes → (refusal : ℕ → Option Exceeded) (exceeded : Exceeded) (start : ℕ) → Has nodes start → first_in refusal (chain nodes start) ≡ Some exceeded → IsFirst nodes refusal start exceeded
first_found nodes t refusal exceeded =
    along (λ n. first_in refusal (chain nodes n) ≡ Some exceeded → IsFirst nodes refusal n exceeded) nodes t
    (λ found. here 0 (refusal 0) refl (sym (ap (first_in refusal) (own_then_above nodes 0)) ∙ found) (λ none. let nothing : first_in refusal (above nodes 0) ≡ None = ap (first_in refusal) (above_root nodes) in cc))
    (λ n h inner up found.
    let step = climb nodes t n h inner in
    here n (refusal n) refl (sym (ap (first_in refusal) (own_then_above nodes n)) ∙ found)
    (λ none.
    let first = up (ap (first_in refusal) (sym (ap (drop 1) step)) ∙ none.1) in
    record {
      place = first.place;
      on = ap (λ (ns : List ℕ). is_in ns first.place) step ∙ or_later (n == first.place) _ first.on;
      refused = first.refused;
      below = λ f on off.
          elim (is_or _ _ (sym (ap (λ (ns : List ℕ). is_in ns f) step) ∙ on)) [
            | inl e ↦ ap refusal (sym (eq_is n f e)) ∙ none.0
            | inr later ↦ first.below f later off
          ];
    }))
  where
    here : (n : ℕ) (o : Option Exceeded) → refusal n ≡ o → option_or o (first_in refusal (above nodes n)) ≡ Some exceeded → ((refusal n ≡ None) × (first_in refusal (above nodes n) ≡ Some exceeded) → IsFirst nodes refusal n exceeded) → IsFirst nodes refusal n exceeded
    here n (Some e) is found above = record { place = n; on = under_own nodes n; refused = is ∙ found; below = λ f on off. absurd (clash _ on off) }
    here n None is found above = above (is, found)

pub nearest : (nodes : List NodeRow) → IsTree nodes → (refusal : ℕ → Option Exceeded) (start : ℕ) (o : Option Exceeded) → Has nodes start → first_in refusal (chain nodes start) ≡ o → IsNearest nodes refusal start o
nearest nodes t refusal start None h is = none_refuse refusal (chain nodes start) is
nearest nodes t refusal start (Some e) h is = first_found nodes t refusal e start h is
