-- Where a node stands in a scan, from the way up to the root.
use Rattle.std.proofs.Common.{◌≡◌, ℕ, ◌==◌, Bool, true, false, cond, ◌||◌, List, ◌∷◌, Some, refl, sym, ◌∙◌, ap, subst, inl, inr}
use Rattle.fsrm_model.specs.declared.row.NodeRow.{NodeRow}
use Rattle.fsrm_base.specs.Numbers.{is_in}
use Rattle.fsrm_model.specs.nodes.Tree.{is_under}
use Rattle.fsrm_base.proofs.TestLaws.{is_apart, is_or_not, clash, not_true, eq_is}
use Rattle.fsrm_model.proofs.nodes.ChainLaws.{IsTree, Has}
use Rattle.fsrm_model.proofs.nodes.Below.{chain_root, each_above}
use Rattle.std.specs.Prelude.{unwrap_or}
use Rattle.std.specs.List.{list_any}
use Rattle.fsrm_model.proofs.nodes.Climbs.{under_own}
use Rattle.fsrm_model.proofs.valid.ValidLaws.{folder_has}
use Rattle.rescan.specs.declared.standing.Standing.{Standing}
use Rattle.rescan.specs.declared.standing.Standing.TheVariants.{Outside, Visited, Unvisited}
use Rattle.rescan.specs.Frontiers.{Front, scanned, has_above}
use Rattle.rescan.specs.Standings.{standing}
use Rattle.rescan.specs.Tops.{AreTops}
use Rattle.rescan.proofs.unvisited.Tops.{above_own, above_of}
use Rattle.fsrm_base.proofs.Look.{unwrapped}

-- the standing, from its two tests
abbrev stands_at : Bool → Bool → Standing
stands_at above below = cond above Unvisited (cond below Visited Outside)

at_tests : (a b a' b' : Bool) → a ≡ a' → b ≡ b' → stands_at a b ≡ stands_at a' b'
at_tests a b a' b' e g = ap (λ x. stands_at x b) e ∙ ap (λ x. stands_at a' x) g

pub at_top : (nodes : List NodeRow) (f : Front) (n at : ℕ) → has_above nodes f.tops n ≡ has_above nodes f.tops at → is_in f.tops at ≡ true → Unvisited ≡ standing nodes f n
at_top nodes f n at above top = sym (at_tests _ (is_under nodes (scanned f) n) true (is_under nodes (scanned f) n) (above ∙ above_own nodes f.tops at top) refl)

-- a top above the scanned folder is that folder
top_above : (nodes : List NodeRow) (f : Front) → IsTree nodes → AreTops nodes f → (top : ℕ) → Has nodes (scanned f) → Has nodes top → is_in f.tops top ≡ true → is_under nodes top (scanned f) ≡ true → top ≡ scanned f
top_above nodes f t a top hs ht member above =
    elim (is_or_not (top == 0)) [
      | inl e ↦
          let is : top ≡ 0 = eq_is top 0 e in
          let at : (0 == scanned f) ≡ true = sym (chain_root nodes (scanned f)) ∙ subst (λ (j : ℕ). is_under nodes (scanned f) j ≡ true) is (a.below top member) in
          is ∙ eq_is 0 (scanned f) at
      | inr e ↦ eq_is top (scanned f) (each_above nodes t top (scanned f) e ht hs above (a.below top member))
    ]

-- no top is above the scanned folder, unless it is a top
no_top_above : (nodes : List NodeRow) (f : Front) → IsTree nodes → AreTops nodes f → is_in f.tops (scanned f) ≡ false → has_above nodes f.tops (scanned f) ≡ false
no_top_above nodes f t a lacks = not_true _ (λ h.
    let above = above_of nodes f.tops (scanned f) h in
    let has : Has nodes above.top = folder_has nodes above.top (a.folders above.top above.member) in
    let is = top_above nodes f t a above.top (folder_has nodes (scanned f) a.folder) has above.member above.above in
    clash (is_in f.tops (scanned f)) (ap (is_in f.tops) (sym is) ∙ above.member) lacks)

pub at_scanned : (nodes : List NodeRow) (f : Front) → IsTree nodes → AreTops nodes f → (n at : ℕ) → has_above nodes f.tops n ≡ has_above nodes f.tops at → is_under nodes (scanned f) n ≡ is_under nodes (scanned f) at → is_in f.tops at ≡ false → f.folder ≡ Some at → Visited ≡ standing nodes f n
at_scanned nodes f t a n at above below lacks is =
    let same : scanned f ≡ at = ap (λ o. unwrap_or o 0) is in
    let none : has_above nodes f.tops at ≡ false =
    subst (λ (j : ℕ). has_above nodes f.tops j ≡ false) same (no_top_above nodes f t a (ap (is_in f.tops) same ∙ lacks)) in
    let here : is_under nodes (scanned f) at ≡ true = ap (λ j. is_under nodes j at) same ∙ under_own nodes at in
    sym (at_tests _ _ false true (above ∙ none) (below ∙ here))

-- at the end of the way neither was met
pub at_end : (nodes : List NodeRow) (f : Front) (n : ℕ) → has_above nodes f.tops n ≡ false → is_under nodes (scanned f) n ≡ false → Outside ≡ standing nodes f n
at_end nodes f n above below = sym (at_tests _ _ false false above below)

-- what is neither a top nor the scanned folder says nothing of what is left of the way
pub above_left : (tops : List ℕ) (at : ℕ) (rest way : List ℕ) → way ≡ at ∷ rest → is_in tops at ≡ false → list_any (is_in tops) way ≡ list_any (is_in tops) rest
above_left tops at rest way is lacks = ap (list_any (is_in tops)) is ∙ ap (λ b. b || list_any (is_in tops) rest) lacks

pub below_left : (nodes : List NodeRow) (f : Front) → AreTops nodes f → (at : ℕ) (rest way : List ℕ) → way ≡ at ∷ rest → (f.folder ≡ Some at → ⊥) → is_in way (scanned f) ≡ is_in rest (scanned f)
below_left nodes f a at rest way is other =
    ap (λ (ns : List ℕ). is_in ns (scanned f)) is
    ∙ ap (λ b. b || is_in rest (scanned f)) (is_apart at (scanned f) (λ e. other (unwrapped f.folder a.active ∙ ap (λ j. Some j) (sym e))))
