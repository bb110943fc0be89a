-- A scan goes on over a move.
use Rattle.std.proofs.Common.{◌≡◌, ℕ, Bool, true, false, cond, not, ◌||◌, ◌&&◌, List, refl, sym, ◌∙◌, ap, subst, inl, inr}
use Rattle.std.specs.Prelude.{sum_by}
use Rattle.fsrm_model.specs.declared.row.Capacity.{Capacity}
use Rattle.fsrm_model.specs.declared.row.NodeRow.{NodeRow}
use Rattle.fsrm_base.specs.Numbers.{is_in, is_set, with_numbers, without_numbers}
use Rattle.fsrm_model.specs.objects.Scan.{folders_under, unvisited_moved}
use Rattle.fsrm_model.specs.nodes.Tree.{is_folder, is_under}
use Rattle.fsrm_model.specs.store.Valid.{IsVolume}
use Rattle.fsrm_base.proofs.TestLaws.{is_or_not, clash, not_true, or_later}
use Rattle.fsrm_model.proofs.nodes.ChainLaws.{IsTree, Has}
use Rattle.fsrm_model.proofs.nodes.Files.{below_file}
use Rattle.fsrm_model.proofs.nodes.Keeps.{tree_of}
use Rattle.fsrm_model.proofs.nodes.MoveLaws.{under_after}
use Rattle.fsrm_model.proofs.nodes.Climbs.{under_own}
use Rattle.fsrm_model.proofs.valid.ValidLaws.{folder_has}
use Rattle.fsrm_base.proofs.NumberLaws.{in_withs, in_withouts, set_withs, set_withouts, same_set}
use Rattle.rescan.specs.Frontiers.{Front, Stands, Suits, Follows, scanned, has_above, unvisited}
use Rattle.rescan.specs.Tops.{AreTops}
use Rattle.rescan.proofs.counted.CountLaws.{is_counted, part, counted_is}
use Rattle.rescan.proofs.moved.MovedTops.{TopsMoved, moved_tops, above_other, above_kept, above_moved}
use Rattle.fsrm_model.proofs.valid.UnvisitedKept.{in_folders}
use Rattle.rescan.proofs.unvisited.Tops.{in_unvisited, set_unvisited, stands_by, above_of, under_under, above_below}
use Rattle.volume_tree.specs.Volume.{Volume, with_place}

-- which way each choice goes
pub record Choice (nodes : List NodeRow) (f : Front) (x d : ℕ) (keeps enters : Bool) : Type 0 where
  pub stay : is_folder nodes x ≡ true → is_counted nodes f d ≡ true → is_counted nodes f x ≡ true → keeps ≡ true
  pub enter : is_folder nodes x ≡ true → is_counted nodes f d ≡ true → is_counted nodes f x ≡ false → enters ≡ true

-- what becomes of a folder at or below the moved node, from where the node and its new folder stand
chosen : (sd ud sx ux u now keeps enters : Bool) → (ud ≡ true → sd ≡ true) → (ux ≡ true → u ≡ true) → (keeps ≡ true → now ≡ u) → (keeps ≡ false → now ≡ (enters || ud)) → (keeps ≡ true → ((sx && not ux) ≡ true) × ((sd && not ud) ≡ true)) → (enters ≡ true → (sd && not ud) ≡ true) → ((sd && not ud) ≡ true → (sx && not ux) ≡ true → keeps ≡ true) → ((sd && not ud) ≡ true → (sx && not ux) ≡ false → enters ≡ true)
    → now ≡ cond (not sd) false (cond (ud || not sx) true u)
chosen false true sx ux u now keeps enters h i k m kept entered stay enter = let e = h refl in cc
chosen false false sx ux u now keeps enters h i k m kept entered stay enter =
    let none : keeps ≡ false = not_true keeps (λ e. clash false (kept e).1 refl) in
    let out : enters ≡ false = not_true enters (λ e. clash false (entered e) refl) in
    m none ∙ ap (λ b. b || false) out
chosen true true sx ux u now keeps enters h i k m kept entered stay enter =
    let none : keeps ≡ false = not_true keeps (λ e. clash false (kept e).1 refl) in
    m none ∙ or_later enters true refl
chosen true false true false u now keeps enters h i k m kept entered stay enter = k (stay refl refl)
chosen true false true true u now keeps enters h i k m kept entered stay enter =
    let none : keeps ≡ false = not_true keeps (λ e. clash false (kept e).0 refl) in
    m none ∙ (ap (λ b. b || false) (enter refl refl) ∙ sym (i refl))
chosen true false false ux u now keeps enters h i k m kept entered stay enter =
    let none : keeps ≡ false = not_true keeps (λ e. clash false (kept e).0 refl) in
    m none ∙ ap (λ b. b || false) (enter refl refl)

-- membership in what is left
left_at : (folder below u now sd other : Bool) → (folder ≡ true → below ≡ false → now ≡ u) → (folder ≡ true → below ≡ true → now ≡ cond (not sd) false (cond other true u)) → (folder && now) ≡ cond (not sd) (not (folder && below) && (folder && u)) (cond other ((folder && below) || (folder && u)) (folder && u))
left_at false below u now true true h g = refl
left_at false below u now true false h g = refl
left_at false below u now false other h g = refl
left_at true false u now true true h g = h refl refl
left_at true false u now true false h g = h refl refl
left_at true false u now false other h g = h refl refl
left_at true true u now true true h g = g refl refl
left_at true true u now true false h g = g refl refl
left_at true true u now false other h g = g refl refl

in_cond : (a b : Bool) (xs ys zs : List ℕ) (n : ℕ) → is_in (cond a xs (cond b ys zs)) n ≡ cond a (is_in xs n) (cond b (is_in ys n) (is_in zs n))
in_cond true b xs ys zs n = refl
in_cond false true xs ys zs n = refl
in_cond false false xs ys zs n = refl

set_cond : (a b : Bool) (xs ys zs : List ℕ) → is_set xs ≡ true → is_set ys ≡ true → is_set zs ≡ true → is_set (cond a xs (cond b ys zs)) ≡ true
set_cond true b xs ys zs h g k = h
set_cond false true xs ys zs h g k = g
set_cond false false xs ys zs h g k = k

moved_is : (before after : List NodeRow) (s x d : ℕ) (us : List ℕ) (sd : Bool) → is_under before x s ≡ false → is_under after s x ≡ sd → unvisited_moved before after s x d us ≡ cond (not sd) (without_numbers (folders_under before x) us) (cond (is_in us d || not (is_under before s x)) (with_numbers (folders_under before x) us) us)
moved_is before after s x d us sd e g =
    ap (λ b. cond b us (cond (not (is_under after s x)) (without_numbers (folders_under before x) us) (cond (is_in us d || not (is_under before s x)) (with_numbers (folders_under before x) us) us))) e
    ∙ ap (λ b. cond (not b) (without_numbers (folders_under before x) us) (cond (is_in us d || not (is_under before s x)) (with_numbers (folders_under before x) us) us)) g

-- a node below an unvisited folder is below the scanned one
unvisited_in_scan : (nodes : List NodeRow) (f : Front) → IsTree nodes → AreTops nodes f → (n : ℕ) → Has nodes n → has_above nodes f.tops n ≡ true → is_under nodes (scanned f) n ≡ true
unvisited_in_scan nodes f t a n hn h =
    let above = above_of nodes f.tops n h in
    under_under nodes t (scanned f) above.top n (folder_has nodes above.top (a.folders above.top above.member)) hn above.above (a.below above.top above.member)

pub moved_unvisited : (K : Capacity) (nodes new : List NodeRow) (f f2 : Front) (x d : ℕ) (keeps enters : Bool) → IsVolume K nodes → IsVolume K new → is_folder nodes d ≡ true → TopsMoved nodes new f f2 x d keeps enters → Choice nodes f x d keeps enters → unvisited new f2 ≡ unvisited_moved nodes new (scanned f) x d (unvisited nodes f)
moved_unvisited K nodes new f f2 x d keeps enters v w folder s choice =
    let us = unvisited nodes f in
    let ws = folders_under nodes x in
    let t = tree_of K nodes v in
    let m = s.moves in
    let sd = is_under nodes (scanned f) d in
    let other = is_in us d || not (is_under nodes (scanned f) x) in
    let now : is_under new (scanned f) x ≡ sd = under_after nodes new x d m (scanned f) x (record { has = folder_has nodes (scanned f) s.tops.folder; lacks = s.outside }) m.has_moved (under_own nodes x) in
    let ud : is_in us d ≡ has_above nodes f.tops d = in_unvisited K nodes v f d ∙ ap (λ b. b && has_above nodes f.tops d) folder in
    let same : (n : ℕ) → is_in (unvisited new f2) n ≡ is_in (cond (not sd) (without_numbers ws us) (cond other (with_numbers ws us) us)) n = λ n.
    let has : is_folder nodes n ≡ true → Has nodes n = folder_has nodes n in
    in_unvisited K new w f2 n
    ∙ (ap (λ b. b && has_above new f2.tops n) (s.kinds n)
    ∙ (left_at (is_folder nodes n) (is_under nodes x n) (has_above nodes f.tops n) (has_above new f2.tops n) sd other
    (λ is b. above_other nodes new f f2 x d keeps enters s n (has is) b)
    (λ is b.
    let xf : is_folder nodes x ≡ true = elim (is_or_not (is_folder nodes x)) [ inl e ↦ e | inr e ↦ absurd (clash _ (sym (ap (is_folder nodes) (below_file K nodes x n v e (has is) b)) ∙ is) e) ] in
    chosen sd (has_above nodes f.tops d) (is_under nodes (scanned f) x) (has_above nodes f.tops x) (has_above nodes f.tops n) (has_above new f2.tops n) keeps enters
    (unvisited_in_scan nodes f t s.tops d m.has_folder)
    (above_below nodes f.tops t x n m.has_moved (has is) b)
    (λ k. above_kept nodes new f f2 x d keeps enters s k n (has is) b)
    (λ k. above_moved nodes new f f2 x d keeps enters s k n (has is) b)
    s.kept (λ e. (s.entered e).1) (choice.stay xf) (choice.enter xf)
    ∙ ap (λ b. cond (not sd) false (cond (b || not (is_under nodes (scanned f) x)) true (has_above nodes f.tops n))) (sym ud))
    ∙ sym (in_cond (not sd) other (without_numbers ws us) (with_numbers ws us) us n
    ∙ members (not sd) other n)))
    in
    same_set (unvisited new f2) _ (set_unvisited K new w f2)
    (set_cond (not sd) other (without_numbers ws us) (with_numbers ws us) us (set_withouts ws us (set_unvisited K nodes v f)) (set_withs ws us (set_unvisited K nodes v f)) (set_unvisited K nodes v f))
    same
    ∙ sym (moved_is nodes new (scanned f) x d us sd s.outside now)
  where
    members : (a b : Bool) (n : ℕ) → cond a (is_in (without_numbers (folders_under nodes x) (unvisited nodes f)) n) (cond b (is_in (with_numbers (folders_under nodes x) (unvisited nodes f)) n) (is_in (unvisited nodes f) n)) ≡ cond a (not (is_folder nodes n && is_under nodes x n) && (is_folder nodes n && has_above nodes f.tops n)) (cond b ((is_folder nodes n && is_under nodes x n) || (is_folder nodes n && has_above nodes f.tops n)) (is_folder nodes n && has_above nodes f.tops n))
    members a b n =
        let u = in_unvisited K nodes v f n in
        let w = in_folders K nodes x n v in
        let out = in_withouts (folders_under nodes x) (unvisited nodes f) n in
        let on = in_withs (folders_under nodes x) (unvisited nodes f) n in
        rw (out, on, w, u) refl

-- the whole of it
pub moved_follows : (v : Volume) (f f2 : Front) (x d : ℕ) (name : List ℕ) (keeps enters : Bool) → Stands v f → IsVolume v.size (with_place v x d name).nodes → is_folder v.nodes d ≡ true → TopsMoved v.nodes (with_place v x d name).nodes f f2 x d keeps enters → Choice v.nodes f x d keeps enters → f2.room ≡ f.room → f2.sum ≡ sum_by (part v.size (with_place v x d name).nodes f2) (with_place v x d name).nodes
    → Follows f f2 (with_place v x d name) (unvisited_moved v.nodes (with_place v x d name).nodes (scanned f) x d (unvisited v.nodes f))
moved_follows v f f2 x d name keeps enters stands w folder s choice room sum =
    let new = (with_place v x d name).nodes in
    record {
      stands = stands_by (with_place v x d name) f2 w (subst (Suits v.size) (sym room) stands.fits) (moved_tops v.nodes new f f2 x d keeps enters s) (sum ∙ sym (counted_is v.size new w f2));
      unvisited_are = moved_unvisited v.size v.nodes new f f2 x d keeps enters stands.volume w folder s choice;
      folder = s.folder;
      room = room;
    }
