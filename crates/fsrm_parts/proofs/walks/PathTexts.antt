-- The way up from a node, and its path's text.
use Rattle.std.proofs.Common.{◌≡◌, ℕ, ◌<◌, true, List, [], ◌∷◌, ◌++◌, length, get_or, sym, ◌∙◌, ap, subst, arith, append_assoc, append-nil, ◌==◌, false, not, cond, refl, zero, suc, ◌⊎◌, inl, inr}
use Rattle.std.proofs.lemmas.Bool.Decides.{nat_tests}
use Rattle.std.proofs.lemmas.List.{map-append, reverse-append, length-map, length-reverse}
use Rattle.std.specs.Prelude.{filter, map, reverse, codes}
use Rattle.std.specs.List.{join_with_byte}
use Rattle.fsrm_model.specs.declared.row.NodeRow.{NodeRow}
use Rattle.fsrm_base.specs.Keyed.{has_row}
use Rattle.fsrm_model.specs.nodes.Tree.{number, name_of, chain, parent_of}
use Rattle.fsrm_base.proofs.TestLaws.{eq_is, is_apart}
use Rattle.fsrm_model.proofs.nodes.ChainLaws.{IsTree}
use Rattle.fsrm_model.proofs.nodes.Walks.{found_name}
use Rattle.fsrm_model.proofs.nodes.Climbs.{along, climb, root_alone}
use Rattle.node_table.specs.declared.view.NodeView.{NodeView}
use Rattle.volume_tree.specs.Volume.{Shows}
use Rattle.fsrm_parts.specs.Walk.{AreThere}
use Rattle.fsrm_parts.proofs.walks.WalkLaws.{there-append}

-- each node on the way up is there, and the last one is the root
pub way_there : (nodes : List NodeRow) → IsTree nodes → (n : ℕ) → has_row number n nodes ≡ true → AreThere nodes (chain nodes n)
way_there nodes t n h =
    along (λ n. AreThere nodes (chain nodes n)) nodes t
    (subst (AreThere nodes) (sym (root_alone nodes)) (t.root, tt))
    (λ n h inner up. subst (AreThere nodes) (sym (climb nodes t n h inner)) (h, up))
    n h

-- the nodes of a way that have a name: all but the root
abbrev pub named : List ℕ → List ℕ
named ns = filter (λ n. not (n == 0)) ns

pub way_named : (nodes : List NodeRow) → IsTree nodes → (n : ℕ) → has_row number n nodes ≡ true → chain nodes n ≡ named (chain nodes n) ++ 0 ∷ []
way_named nodes t n h =
    along (λ n. chain nodes n ≡ named (chain nodes n) ++ 0 ∷ []) nodes t
    (subst (λ (ns : List ℕ). ns ≡ named ns ++ 0 ∷ []) (sym (root_alone nodes)) refl)
    (λ n h inner up.
    subst (λ (ns : List ℕ). ns ≡ named ns ++ 0 ∷ []) (sym (climb nodes t n h inner))
    (ap (λ (ns : List ℕ). n ∷ ns) up
    ∙ ap (λ b. cond (not b) (n ∷ named (chain nodes (parent_of nodes n))) (named (chain nodes (parent_of nodes n))) ++ 0 ∷ []) (sym (is_apart n 0 inner))))
    n h

-- what is kept of the first node of what is left: itself, or nothing of the root
pub named_first : (at : ℕ) (rest way before after all : List ℕ) → way ≡ at ∷ rest → (at ≡ 0 → ⊥) → after ≡ before ++ at ∷ [] → before ++ named way ≡ all → after ++ named rest ≡ all
named_first at rest way before after all is inner push so_far =
    ap (λ (ns : List ℕ). ns ++ named rest) push
    ∙ (append_assoc before (at ∷ []) (named rest)
    ∙ (ap (λ b. before ++ cond (not b) (at ∷ named rest) (named rest)) (sym (is_apart at 0 inner))
    ∙ (ap (λ (ns : List ℕ). before ++ named ns) (sym is) ∙ so_far)))

pub unnamed_first : (at : ℕ) (rest way before all : List ℕ) → way ≡ at ∷ rest → at ≡ 0 → before ++ named way ≡ all → before ++ named rest ≡ all
unnamed_first at rest way before all is root so_far =
    ap (λ b. before ++ cond (not b) (at ∷ named rest) (named rest)) (sym (ap (λ n. n == 0) root)) ∙ (ap (λ (ns : List ℕ). before ++ named ns) (sym is) ∙ so_far)

pub there_push : (nodes : List NodeRow) (n : ℕ) (old new : List ℕ) → AreThere nodes old → has_row number n nodes ≡ true → new ≡ old ++ n ∷ [] → AreThere nodes new
there_push nodes n old new each h push = subst (AreThere nodes) (sym push) (there-append nodes old (n ∷ []) each (h, tt))

-- read backwards it is the path
pub turned_there : (nodes : List NodeRow) (way : List ℕ) → AreThere nodes way → AreThere nodes (reverse way)
turned_there nodes [] h = tt
turned_there nodes (n ∷ way) h = subst (AreThere nodes) (sym (reverse-append (n ∷ []) way)) (there-append nodes (reverse way) (n ∷ []) (turned_there nodes way h.1) (h.0, tt))

-- each name after a `\`
abbrev pub slashed : List (List ℕ) → List ℕ
slashed [] = []
slashed (name ∷ names) = 92 ∷ name ++ slashed names

slashed_push : (names : List (List ℕ)) (name : List ℕ) → slashed (names ++ name ∷ []) ≡ slashed names ++ 92 ∷ name
slashed_push [] name = ap (λ (bytes : List ℕ). 92 ∷ bytes) (append-nil name)
slashed_push (first ∷ names) name =
    ap (λ (bytes : List ℕ). 92 ∷ bytes) (ap (λ (bytes : List ℕ). first ++ bytes) (slashed_push names name) ∙ sym (append_assoc first (slashed names) (92 ∷ name)))

pub name_pushed : (nodes : List NodeRow) (way more : List ℕ) (n : ℕ) (view : NodeView) (start old middle new : List ℕ) → Shows view nodes n → more ≡ way ++ n ∷ [] → middle ≡ old ++ 92 ∷ [] → new ≡ middle ++ view.name.now → old ≡ start ++ slashed (map (name_of nodes) way) → new ≡ start ++ slashed (map (name_of nodes) more)
name_pushed nodes way more n view start old middle new shows on first second so_far =
    let names = map (name_of nodes) way in
    let name = view.name.now in
    let is : name_of nodes n ≡ name = found_name nodes n shows.row shows.found ∙ sym shows.is.name in
    let all : map (name_of nodes) more ≡ names ++ name ∷ [] =
    ap (map (name_of nodes)) on ∙ (map-append (name_of nodes) way (n ∷ []) ∙ ap (λ (bytes : List ℕ). names ++ bytes ∷ []) is) in
    second
    ∙ (ap (λ (bytes : List ℕ). bytes ++ name) (first ∙ ap (λ (bytes : List ℕ). bytes ++ 92 ∷ []) so_far)
    ∙ (append_assoc (start ++ slashed names) (92 ∷ []) name
    ∙ (append_assoc start (slashed names) (92 ∷ name)
    ∙ (ap (λ (bytes : List ℕ). start ++ bytes) (sym (slashed_push names name))
    ∙ ap (λ (all : List (List ℕ)). start ++ slashed all) (sym all)))))

-- so the names are joined
joined_from : (name : List ℕ) (names : List (List ℕ)) → name ++ slashed names ≡ join_with_byte 92 (name ∷ names)
joined_from name [] = append-nil name
joined_from name (next ∷ names) = ap (λ (bytes : List ℕ). name ++ 92 ∷ bytes) (joined_from next names)

pub joined_names : (names : List (List ℕ)) (start : List ℕ) → ((length names ≡ 0) × (start ≡ codes "D:\\")) ⊎ ((0 < length names) × (start ≡ codes "D:")) → start ++ slashed names ≡ codes "D:\\" ++ join_with_byte 92 names
joined_names [] start (inl e) = ap (λ (bytes : List ℕ). bytes ++ []) e.1
joined_names [] start (inr e) = absurd (omega (arith, e.0))
joined_names (name ∷ names) start (inl e) = absurd (omega (arith, e.0))
joined_names (name ∷ names) start (inr e) =
    ap (λ (bytes : List ℕ). bytes ++ slashed (name ∷ names)) e.1
    ∙ ap (λ (bytes : List ℕ). codes "D:\\" ++ bytes) (joined_from name names)

some_more : (n : ℕ) → (n == 0) ≡ false → 0 < n
some_more n h = grind (arith, nat_tests)

pub joined_text : (nodes : List NodeRow) (way turned start text : List ℕ) → turned ≡ reverse way → (((length way == 0) ≡ true) × (start ≡ codes "D:\\")) ⊎ (((length way == 0) ≡ false) × (start ≡ codes "D:")) → text ≡ start ++ slashed (map (name_of nodes) turned) → text ≡ codes "D:\\" ++ join_with_byte 92 (map (name_of nodes) (reverse way))
joined_text nodes way turned start text e first is =
    let names = map (name_of nodes) (reverse way) in
    let long : length names ≡ length way = omega (arith, length-map (reverse way) (name_of nodes), length-reverse way) in
    is
    ∙ (ap (λ (ns : List ℕ). start ++ slashed (map (name_of nodes) ns)) e
    ∙ joined_names names start (elim first [
      | inl f ↦ inl (long ∙ eq_is (length way) 0 f.0, f.1)
      | inr f ↦ inr (omega (arith, long, some_more (length way) f.0), f.1)
    ]))

pub there_at : (nodes : List NodeRow) (ns : List ℕ) (k n : ℕ) → AreThere nodes ns → (k < length ns) × (n ≡ get_or ns k n) → has_row number n nodes ≡ true
there_at nodes [] k n h at = absurd (omega (arith, at.0))
there_at nodes (m ∷ ns) zero n h at = subst (λ (j : ℕ). has_row number j nodes ≡ true) (sym at.1) h.0
there_at nodes (m ∷ ns) (suc k) n h at = there_at nodes ns k n h.1 (omega (arith, at.0), at.1)
