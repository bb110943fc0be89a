-- Which folders are unvisited after a move, if the scanned folder doesn't move.
use Rattle.std.proofs.Common.{◌≡◌, ℕ, ◌==◌, Bool, true, false, cond, not, ◌||◌, ◌&&◌, List, refl, sym, ◌∙◌, ap, subst, ◌⊎◌, inl, inr}
use Rattle.std.specs.Prelude.{is_some, unwrap_or, if◌then◌else◌}
use Rattle.fsrm_model.specs.declared.row.NodeRow.{NodeRow}
use Rattle.fsrm_base.specs.Numbers.{is_in, is_set}
use Rattle.fsrm_model.specs.nodes.Tree.{is_folder, is_under, chain}
use Rattle.fsrm_base.proofs.TestLaws.{is_or_not, clash, not_true, both, both_true, is_or, or_later, eq_is, eq_same, same_tests}
use Rattle.fsrm_model.proofs.nodes.ChainLaws.{IsTree, Has}
use Rattle.fsrm_model.proofs.nodes.Below.{below_moved}
use Rattle.fsrm_model.proofs.nodes.Climbs.{under_own}
use Rattle.fsrm_model.proofs.nodes.MoveLaws.{Moves, Outside, under_before, under_after, under_other}
use Rattle.fsrm_model.proofs.valid.ValidLaws.{folder_has}
use Rattle.rescan.specs.Frontiers.{Front, scanned, has_above}
use Rattle.rescan.specs.Tops.{AreTops}
use Rattle.rescan.proofs.counted.CountLaws.{is_counted}
use Rattle.rescan.proofs.unvisited.Tops.{above_of, above_by, under_under}

-- The topmost folders follow the move of a node x to a folder d. At and below the node they stay, or there is none
-- but the node itself, if it enters the scan
pub record TopsMoved (nodes new : List NodeRow) (f f2 : Front) (x d : ℕ) (keeps enters : Bool) : Type 0 where
  pub moves : Moves nodes new x d
  pub tops : AreTops nodes f
  pub kinds : (n : ℕ) → is_folder new n ≡ is_folder nodes n
  pub outside : is_under nodes x (scanned f) ≡ false
  pub folder : f2.folder ≡ f.folder
  pub ascending : is_set f2.tops ≡ true
  pub others : (n : ℕ) → is_under nodes x n ≡ false → is_in f2.tops n ≡ is_in f.tops n
  pub below : (n : ℕ) → is_under nodes x n ≡ true → is_in f2.tops n ≡ (if keeps then is_in f.tops n else enters && (x == n))
  pub kept : keeps ≡ true → (is_counted nodes f x ≡ true) × (is_counted nodes f d ≡ true)
  pub entered : enters ≡ true → (is_folder nodes x ≡ true) × (is_counted nodes f d ≡ true)

-- the two tests of what is counted
pub in_scan : (nodes : List NodeRow) (f : Front) (n : ℕ) → is_counted nodes f n ≡ true → is_under nodes (scanned f) n ≡ true
in_scan nodes f n h = (both (is_under nodes (scanned f) n) (not (has_above nodes f.tops n)) h).0

pub not_above : (nodes : List NodeRow) (f : Front) (n : ℕ) → is_counted nodes f n ≡ true → has_above nodes f.tops n ≡ false
not_above nodes f n h = at (has_above nodes f.tops n) (both (is_under nodes (scanned f) n) (not (has_above nodes f.tops n)) h).1
  where
    at : (b : Bool) → not b ≡ true → b ≡ false
    at true h = cc
    at false h = refl

top_has : (nodes : List NodeRow) (f : Front) → AreTops nodes f → (n : ℕ) → is_in f.tops n ≡ true → Has nodes n
top_has nodes f a n h = folder_has nodes n (a.folders n h)

-- what is above a node that isn't below the moved one isn't below it
apart_above : (nodes : List NodeRow) → IsTree nodes → (x y n : ℕ) → Has nodes y → Has nodes n → is_under nodes y n ≡ true → is_under nodes x n ≡ false → is_under nodes x y ≡ false
apart_above nodes t x y n hy hn up e = not_true _ (λ h. clash _ (under_under nodes t x y n hy hn up h) e)

-- a member of the new topmost folders at or below the moved node
member_at : (keeps enters a : Bool) (x n : ℕ) → cond keeps a (enters && (x == n)) ≡ true → ((keeps ≡ true) × (a ≡ true)) ⊎ ((enters ≡ true) × (x ≡ n))
member_at true enters a x n h = inl (refl, h)
member_at false enters a x n h = let parts : (enters ≡ true) × ((x == n) ≡ true) = both _ _ h in inr (parts.0, eq_is x n parts.1)

pub member_has : (nodes new : List NodeRow) (f f2 : Front) (x d : ℕ) (keeps enters : Bool) → TopsMoved nodes new f f2 x d keeps enters → (n : ℕ) → is_in f2.tops n ≡ true → Has nodes n
member_has nodes new f f2 x d keeps enters s n h =
    elim (is_or_not (is_under nodes x n)) [
      | inl b ↦ elim (member_at keeps enters (is_in f.tops n) x n (sym (s.below n b) ∙ h)) [
        | inl k ↦ top_has nodes f s.tops n k.1
        | inr e ↦ subst (Has nodes) e.1 s.moves.has_moved
      ]
      | inr b ↦ top_has nodes f s.tops n (sym (s.others n b) ∙ h)
    ]

-- a node that isn't at or below the moved one
pub above_other : (nodes new : List NodeRow) (f f2 : Front) (x d : ℕ) (keeps enters : Bool) → TopsMoved nodes new f f2 x d keeps enters → (n : ℕ) → Has nodes n → is_under nodes x n ≡ false → has_above new f2.tops n ≡ has_above nodes f.tops n
above_other nodes new f f2 x d keeps enters s n hn e =
    let t = s.moves.tree in
    let same : chain new n ≡ chain nodes n = under_other nodes new x d s.moves n e in
    same_tests _ _
    (λ h.
    let a = above_of new f2.tops n h in
    let up : is_under nodes a.top n ≡ true = sym (ap (λ (ns : List ℕ). is_in ns a.top) same) ∙ a.above in
    let far = apart_above nodes t x a.top n (member_has nodes new f f2 x d keeps enters s a.top a.member) hn up e in
    above_by nodes f.tops n a.top (sym (s.others a.top far) ∙ a.member) up)
    (λ h.
    let a = above_of nodes f.tops n h in
    let far = apart_above nodes t x a.top n (top_has nodes f s.tops a.top a.member) hn a.above e in
    above_by new f2.tops n a.top (s.others a.top far ∙ a.member) (ap (λ (ns : List ℕ). is_in ns a.top) same ∙ a.above))

-- a node at or below it, if the topmost folders there stay
pub above_kept : (nodes new : List NodeRow) (f f2 : Front) (x d : ℕ) (keeps enters : Bool) → TopsMoved nodes new f f2 x d keeps enters → keeps ≡ true → (n : ℕ) → Has nodes n → is_under nodes x n ≡ true → has_above new f2.tops n ≡ has_above nodes f.tops n
above_kept nodes new f f2 x d keeps enters s k n hn b =
    let m = s.moves in
    let same : (y : ℕ) → is_under nodes x y ≡ true → is_in f2.tops y ≡ is_in f.tops y = λ y h. s.below y h ∙ ap (λ k. cond k (is_in f.tops y) (enters && (x == y))) k in
    same_tests _ _
    (λ h.
    let a = above_of new f2.tops n h in
    let has = member_has nodes new f f2 x d keeps enters s a.top a.member in
    elim (is_or_not (is_under nodes x a.top)) [
      | inl i ↦ above_by nodes f.tops n a.top (sym (same a.top i) ∙ a.member) (sym (below_moved nodes new x d m a.top n has i hn) ∙ a.above)
      | inr i ↦
          let up : is_under nodes a.top d ≡ true = sym (under_after nodes new x d m a.top n (record { has = has; lacks = i }) hn b) ∙ a.above in
          absurd (clash _ (above_by nodes f.tops d a.top (sym (s.others a.top i) ∙ a.member) up) (not_above nodes f d (s.kept k).1))
    ])
    (λ h.
    let a = above_of nodes f.tops n h in
    let has = top_has nodes f s.tops a.top a.member in
    elim (is_or_not (is_under nodes x a.top)) [
      | inl i ↦ above_by new f2.tops n a.top (same a.top i ∙ a.member) (below_moved nodes new x d m a.top n has i hn ∙ a.above)
      | inr i ↦
          let up : is_under nodes a.top x ≡ true = sym (under_before nodes m.tree x a.top n m.is_inner m.has_moved (record { has = has; lacks = i }) hn b) ∙ a.above in
          absurd (clash _ (above_by nodes f.tops x a.top a.member up) (not_above nodes f x (s.kept k).0))
    ])

-- and if they go: it is as the moved node is
pub above_moved : (nodes new : List NodeRow) (f f2 : Front) (x d : ℕ) (keeps enters : Bool) → TopsMoved nodes new f f2 x d keeps enters → keeps ≡ false → (n : ℕ) → Has nodes n → is_under nodes x n ≡ true → has_above new f2.tops n ≡ (enters || has_above nodes f.tops d)
above_moved nodes new f f2 x d keeps enters s k n hn b =
    let m = s.moves in
    let there : (y : ℕ) → is_under nodes x y ≡ true → is_in f2.tops y ≡ (enters && (x == y)) = λ y h. s.below y h ∙ ap (λ k. cond k (is_in f.tops y) (enters && (x == y))) k in
    same_tests _ _
    (λ h.
    let a = above_of new f2.tops n h in
    let has = member_has nodes new f f2 x d keeps enters s a.top a.member in
    elim (is_or_not (is_under nodes x a.top)) [
      | inl i ↦ first enters (has_above nodes f.tops d) (both enters (x == a.top) (sym (there a.top i) ∙ a.member)).0
      | inr i ↦
          let up : is_under nodes a.top d ≡ true = sym (under_after nodes new x d m a.top n (record { has = has; lacks = i }) hn b) ∙ a.above in
          or_later enters _ (above_by nodes f.tops d a.top (sym (s.others a.top i) ∙ a.member) up)
    ])
    (λ h. elim (is_or enters (has_above nodes f.tops d) h) [
      | inl e ↦
          let own = under_own nodes x in
          above_by new f2.tops n x (there x own ∙ both_true enters (x == x) e (eq_same x)) (below_moved nodes new x d m x n m.has_moved own hn ∙ b)
      | inr u ↦
          let a = above_of nodes f.tops d u in
          let has = top_has nodes f s.tops a.top a.member in
          let far = apart_above nodes m.tree x a.top d has m.has_folder a.above m.apart in
          above_by new f2.tops n a.top (s.others a.top far ∙ a.member) (under_after nodes new x d m a.top n (record { has = has; lacks = far }) hn b ∙ a.above)
    ])
  where
    first : (a b : Bool) → a ≡ true → (a || b) ≡ true
    first true b h = refl
    first false b h = cc

-- whether a node is at or below the scanned folder
same_scan : (f f2 : Front) → f2.folder ≡ f.folder → scanned f2 ≡ scanned f
same_scan f f2 e = ap (λ o. unwrap_or o 0) e

pub scan_other : (nodes new : List NodeRow) (f f2 : Front) (x d : ℕ) (keeps enters : Bool) → TopsMoved nodes new f f2 x d keeps enters → (n : ℕ) → is_under nodes x n ≡ false → is_under new (scanned f2) n ≡ is_under nodes (scanned f) n
scan_other nodes new f f2 x d keeps enters s n e =
    ap (λ j. is_under new j n) (same_scan f f2 s.folder) ∙ ap (λ (ns : List ℕ). is_in ns (scanned f)) (under_other nodes new x d s.moves n e)

pub scan_moved : (nodes new : List NodeRow) (f f2 : Front) (x d : ℕ) (keeps enters : Bool) → TopsMoved nodes new f f2 x d keeps enters → (n : ℕ) → Has nodes n → is_under nodes x n ≡ true → is_under new (scanned f2) n ≡ is_under nodes (scanned f) d
scan_moved nodes new f f2 x d keeps enters s n hn b =
    ap (λ j. is_under new j n) (same_scan f f2 s.folder)
    ∙ under_after nodes new x d s.moves (scanned f) n (record { has = folder_has nodes (scanned f) s.tops.folder; lacks = s.outside }) hn b

-- the topmost folders are still such
in_scan_at : (nodes new : List NodeRow) (f f2 : Front) (x d : ℕ) (keeps enters : Bool) → TopsMoved nodes new f f2 x d keeps enters → (n : ℕ) → is_under nodes x n ≡ true → is_in f2.tops n ≡ true → is_counted nodes f d ≡ true
in_scan_at nodes new f f2 x d keeps enters s n b h = elim (member_at keeps enters (is_in f.tops n) x n (sym (s.below n b) ∙ h)) [
  | inl k ↦ (s.kept k.0).1
  | inr e ↦ (s.entered e.0).1
]

moved_folders : (nodes new : List NodeRow) (f f2 : Front) (x d : ℕ) (keeps enters : Bool) → TopsMoved nodes new f f2 x d keeps enters → (n : ℕ) → is_in f2.tops n ≡ true → is_folder new n ≡ true
moved_folders nodes new f f2 x d keeps enters s n h = s.kinds n ∙ elim (is_or_not (is_under nodes x n)) [
  | inl b ↦ elim (member_at keeps enters (is_in f.tops n) x n (sym (s.below n b) ∙ h)) [
    | inl k ↦ s.tops.folders n k.1
    | inr e ↦ sym (ap (is_folder nodes) e.1) ∙ (s.entered e.0).0
  ]
  | inr b ↦ s.tops.folders n (sym (s.others n b) ∙ h)
]

moved_below : (nodes new : List NodeRow) (f f2 : Front) (x d : ℕ) (keeps enters : Bool) → TopsMoved nodes new f f2 x d keeps enters → (n : ℕ) → is_in f2.tops n ≡ true → is_under new (scanned f2) n ≡ true
moved_below nodes new f f2 x d keeps enters s n h = elim (is_or_not (is_under nodes x n)) [
  | inl b ↦ scan_moved nodes new f f2 x d keeps enters s n (member_has nodes new f f2 x d keeps enters s n h) b ∙ in_scan nodes f d (in_scan_at nodes new f f2 x d keeps enters s n b h)
  | inr b ↦ scan_other nodes new f f2 x d keeps enters s n b ∙ s.tops.below n (sym (s.others n b) ∙ h)
]

-- two topmost folders at or below the moved node, of which one is above the other
apart_in : (nodes : List NodeRow) (f : Front) → AreTops nodes f → (keeps enters : Bool) (x n k : ℕ) → cond keeps (is_in f.tops n) (enters && (x == n)) ≡ true → cond keeps (is_in f.tops k) (enters && (x == k)) ≡ true → is_under nodes k n ≡ true → k ≡ n
apart_in nodes f a true enters x n k h g u = a.apart n k h g u
apart_in nodes f a false enters x n k h g u =
    let one : (enters ≡ true) × ((x == n) ≡ true) = both _ _ h in
    let two : (enters ≡ true) × ((x == k) ≡ true) = both _ _ g in
    sym (eq_is x k two.1) ∙ eq_is x n one.1

moved_apart : (nodes new : List NodeRow) (f f2 : Front) (x d : ℕ) (keeps enters : Bool) → TopsMoved nodes new f f2 x d keeps enters → (n k : ℕ) → is_in f2.tops n ≡ true → is_in f2.tops k ≡ true → is_under new k n ≡ true → k ≡ n
moved_apart nodes new f f2 x d keeps enters s n k h g u =
    let m = s.moves in
    let hn = member_has nodes new f f2 x d keeps enters s n h in
    let hk = member_has nodes new f f2 x d keeps enters s k g in
    elim (is_or_not (is_under nodes x n)) [
      | inl b ↦ elim (is_or_not (is_under nodes x k)) [
        | inl i ↦ apart_in nodes f s.tops keeps enters x n k (sym (s.below n b) ∙ h) (sym (s.below k i) ∙ g) (sym (below_moved nodes new x d m k n hk i hn) ∙ u)
        | inr i ↦
            let up : is_under nodes k d ≡ true = sym (under_after nodes new x d m k n (record { has = hk; lacks = i }) hn b) ∙ u in
            absurd (clash _ (above_by nodes f.tops d k (sym (s.others k i) ∙ g) up) (not_above nodes f d (in_scan_at nodes new f f2 x d keeps enters s n b h)))
      ]
      | inr b ↦
          let up : is_under nodes k n ≡ true = sym (ap (λ (ns : List ℕ). is_in ns k) (under_other nodes new x d m n b)) ∙ u in
          let far = apart_above nodes m.tree x k n hk hn up b in
          s.tops.apart n k (sym (s.others n b) ∙ h) (sym (s.others k far) ∙ g) up
    ]

pub moved_tops : (nodes new : List NodeRow) (f f2 : Front) (x d : ℕ) (keeps enters : Bool) → TopsMoved nodes new f f2 x d keeps enters → AreTops new f2
moved_tops nodes new f f2 x d keeps enters s =
    record {
      active = ap is_some s.folder ∙ s.tops.active;
      folder = s.kinds (scanned f2) ∙ (ap (is_folder nodes) (same_scan f f2 s.folder) ∙ s.tops.folder);
      ascending = s.ascending;
      folders = moved_folders nodes new f f2 x d keeps enters s;
      below = moved_below nodes new f f2 x d keeps enters s;
      apart = moved_apart nodes new f f2 x d keeps enters s;
    }

-- what is counted
pub counted_other : (nodes new : List NodeRow) (f f2 : Front) (x d : ℕ) (keeps enters : Bool) → TopsMoved nodes new f f2 x d keeps enters → (n : ℕ) → Has nodes n → is_under nodes x n ≡ false → is_counted new f2 n ≡ is_counted nodes f n
counted_other nodes new f f2 x d keeps enters s n hn e =
    ap (λ b. b && not (has_above new f2.tops n)) (scan_other nodes new f f2 x d keeps enters s n e)
    ∙ ap (λ b. is_under nodes (scanned f) n && not b) (above_other nodes new f f2 x d keeps enters s n hn e)

pub counted_kept : (nodes new : List NodeRow) (f f2 : Front) (x d : ℕ) (keeps enters : Bool) → TopsMoved nodes new f f2 x d keeps enters → keeps ≡ true → (n : ℕ) → Has nodes n → is_under nodes x n ≡ true → is_counted new f2 n ≡ is_counted nodes f n
counted_kept nodes new f f2 x d keeps enters s k n hn b =
    let m = s.moves in
    let far : Outside nodes x (scanned f) = record { has = folder_has nodes (scanned f) s.tops.folder; lacks = s.outside } in
    let was : is_under nodes (scanned f) n ≡ true = under_before nodes m.tree x (scanned f) n m.is_inner m.has_moved far hn b ∙ in_scan nodes f x (s.kept k).0 in
    let now : is_under new (scanned f2) n ≡ true = scan_moved nodes new f f2 x d keeps enters s n hn b ∙ in_scan nodes f d (s.kept k).1 in
    ap (λ b. b && not (has_above new f2.tops n)) (now ∙ sym was)
    ∙ ap (λ b. is_under nodes (scanned f) n && not b) (above_kept nodes new f f2 x d keeps enters s k n hn b)

pub counted_moved : (nodes new : List NodeRow) (f f2 : Front) (x d : ℕ) (keeps enters : Bool) → TopsMoved nodes new f f2 x d keeps enters → keeps ≡ false → (enters ≡ false → is_counted nodes f d ≡ false) → (n : ℕ) → Has nodes n → is_under nodes x n ≡ true → is_counted new f2 n ≡ false
counted_moved nodes new f f2 x d keeps enters s k left n hn b =
    ap (λ b. b && not (has_above new f2.tops n)) (scan_moved nodes new f f2 x d keeps enters s n hn b)
    ∙ (ap (λ b. is_under nodes (scanned f) d && not b) (above_moved nodes new f f2 x d keeps enters s k n hn b)
    ∙ none enters (is_under nodes (scanned f) d) (has_above nodes f.tops d) left)
  where
    none : (e a u : Bool) → (e ≡ false → (a && not u) ≡ false) → (a && not (e || u)) ≡ false
    none true true u h = refl
    none true false u h = refl
    none false a u h = h refl
