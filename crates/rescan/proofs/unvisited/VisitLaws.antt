-- A visit of one of the topmost unvisited folders.
use Rattle.std.proofs.Common.{◌≡◌, ℕ, zero, suc, ◌+◌, ◌≤◌, ◌==◌, ◌⊎◌, Bool, true, false, cond, not, ◌||◌, ◌&&◌, inl, inr, List, [], ◌∷◌, length, Option, Some, None, refl, sym, ◌∙◌, ap, subst, arith}
use Rattle.std.proofs.lemmas.Option.{same_Some}
use Rattle.std.specs.Prelude.{filter, find, sum_by, slice_get, if◌then◌else◌}
use Rattle.std.specs.Option.{option_map_or}
use Rattle.fsrm_model.specs.declared.row.Capacity.{Capacity}
use Rattle.fsrm_model.specs.declared.row.NodeRow.{NodeRow}
use Rattle.fsrm_base.specs.Keyed.{is_ascending}
use Rattle.fsrm_base.specs.Numbers.{is_in, without_number, with_numbers}
use Rattle.fsrm_model.specs.objects.Scan.{is_topmost, next_visit, visit, counted}
use Rattle.fsrm_model.specs.values.Space.{space}
use Rattle.fsrm_model.specs.nodes.Tree.{number, node_of, parent_of, is_folder, is_child, children, chain, is_under}
use Rattle.fsrm_model.specs.store.Valid.{IsVolume}
use Rattle.fsrm_base.proofs.TestLaws.{is_or_not, clash, not_true, both, both_true, is_or, or_later, eq_is, eq_same, eq_turned, is_false, suc_apart, not_zero, same_tests}
use Rattle.fsrm_model.proofs.valid.ValidLaws.{folder_has}
use Rattle.fsrm_model.proofs.nodes.ChainLaws.{IsTree, Has}
use Rattle.fsrm_base.proofs.EditedRows.{sum_by-filter, sum_by_same}
use Rattle.fsrm_model.proofs.nodes.Below.{chain_root}
use Rattle.fsrm_model.proofs.nodes.Climbs.{shorter, under_own}
use Rattle.fsrm_model.proofs.nodes.Keeps.{tree_of, as_suc}
use Rattle.fsrm_base.proofs.Sums.{sum_by-add}
use Rattle.fsrm_model.proofs.nodes.UsageLaws.{parent_lacks}
use Rattle.number_set.specs.Numbers.{Numbers}
use Rattle.fsrm_base.proofs.NumberLaws.{in_withs, in_without, set_withs, set_without, same_set}
use Rattle.volume_tree.specs.Volume.{Volume}
use Rattle.rescan.specs.Frontiers.{Front, Stands, Follows, has_above, scanned, unvisited}
use Rattle.rescan.specs.Tops.{AreTops}
use Rattle.rescan.specs.Visits.{folders_in, tops_after}
use Rattle.rescan.proofs.unvisited.ChildLaws.{ChildFolder, child_folder_of, child_folder_by}
use Rattle.rescan.proofs.counted.CountLaws.{part, counted_is}
use Rattle.rescan.proofs.counted.FitLaws.{root_empty, counted_small}
use Rattle.rescan.proofs.unvisited.Tops.{in_unvisited, set_unvisited, above_of, above_by, above_own, under_child, under_under, parent_folder, stands_by, tops_of}
use Rattle.fsrm_base.proofs.RowLaws.{each_found}

-- the frontier after a visit, but for the sum
abbrev pub after : List NodeRow → ℕ → Front → Front
after nodes n f = record f { tops = tops_after nodes n f.tops }

-- its tops: those that stay, and the folders in the visited one
in_after : (nodes : List NodeRow) (n : ℕ) (tops : List ℕ) (m : ℕ) → is_in (tops_after nodes n tops) m ≡ (is_in (folders_in nodes n) m || (not (n == m) && is_in tops m))
in_after nodes n tops m = in_withs (folders_in nodes n) (without_number n tops) m ∙ ap (λ b. is_in (folders_in nodes n) m || b) (in_without n m tops)

record Stays (tops : List ℕ) (n m : ℕ) : Type 0 where
  other : (n == m) ≡ false
  top : is_in tops m ≡ true

which : (nodes : List NodeRow) → is_ascending number nodes ≡ true → (n : ℕ) (tops : List ℕ) (m : ℕ) → is_in (tops_after nodes n tops) m ≡ true → ChildFolder nodes n m ⊎ Stays tops n m
which nodes a n tops m h =
    elim (is_or (is_in (folders_in nodes n) m) (not (n == m) && is_in tops m) (sym (in_after nodes n tops m) ∙ h)) [
      | inl e ↦ inl (child_folder_of nodes a n m e)
      | inr e ↦ let p = both (not (n == m)) (is_in tops m) e in inr (record { other = is_false (n == m) p.0; top = p.1 })
    ]

child_after : (nodes : List NodeRow) → is_ascending number nodes ≡ true → (n : ℕ) (tops : List ℕ) (m : ℕ) → ChildFolder nodes n m → is_in (tops_after nodes n tops) m ≡ true
child_after nodes a n tops m c = in_after nodes n tops m ∙ ap (λ b. b || (not (n == m) && is_in tops m)) (child_folder_by nodes a n m c)

stays_after : (nodes : List NodeRow) (n : ℕ) (tops : List ℕ) (m : ℕ) → (n == m) ≡ false → is_in tops m ≡ true → is_in (tops_after nodes n tops) m ≡ true
stays_after nodes n tops m e h =
    in_after nodes n tops m
    ∙ or_later (is_in (folders_in nodes n) m) (not (n == m) && is_in tops m) (both_true (not (n == m)) (is_in tops m) (ap not e) h)

-- a folder in another is below it, and not above it

under_by_child : (nodes : List NodeRow) → IsTree nodes → (n c x : ℕ) → ChildFolder nodes n c → is_under nodes x c ≡ ((c == x) || is_under nodes x n)
under_by_child nodes t n c x h =
    under_child nodes t x c (folder_has nodes c h.folder_is) (not_zero c h.inner) ∙ ap (λ p. (c == x) || is_under nodes x p) h.parent_is

child_under : (nodes : List NodeRow) → IsTree nodes → (n c x : ℕ) → ChildFolder nodes n c → is_under nodes x n ≡ true → is_under nodes x c ≡ true
child_under nodes t n c x h g = under_by_child nodes t n c x h ∙ or_later (c == x) (is_under nodes x n) g

child_lacks : (nodes : List NodeRow) → IsTree nodes → (n c : ℕ) → ChildFolder nodes n c → is_under nodes c n ≡ true → ⊥
child_lacks nodes t n c h g =
    let s = as_suc c h.inner in
    let has : Has nodes (suc s.0) = subst (Has nodes) s.1 (folder_has nodes c h.folder_is) in
    let up : parent_of nodes (suc s.0) ≡ n = ap (parent_of nodes) (sym s.1) ∙ h.parent_is in
    clash (is_under nodes (suc s.0) (parent_of nodes (suc s.0)))
    (ap (is_under nodes (suc s.0)) up ∙ subst (λ k. is_under nodes k n ≡ true) s.1 g)
    (parent_lacks nodes t s.0 has)

-- the folder through which the way from a node below comes to a folder
pub record Through (nodes : List NodeRow) (n m : ℕ) : Type 0 where
  pub child : ℕ
  pub is : ChildFolder nodes n child
  pub above : is_under nodes child m ≡ true

zero_under : (nodes : List NodeRow) (n : ℕ) → is_under nodes n 0 ≡ true → 0 ≡ n
zero_under nodes n h = eq_is 0 n (sym (chain_root nodes n) ∙ h)

through_in : (K : Capacity) (nodes : List NodeRow) → IsVolume K nodes → (most n m : ℕ) → length (chain nodes m) ≤ most → is_folder nodes m ≡ true → (n == m) ≡ false → is_under nodes n m ≡ true → Through nodes n m
through_in K nodes v most n zero l h e u = absurd (clash (n == 0) (ap (λ k. n == k) (zero_under nodes n u) ∙ eq_same n) e)
through_in K nodes v zero n (suc m) l h e u = absurd (omega (arith, l, shorter nodes (tree_of K nodes v) (suc m) (folder_has nodes (suc m) h) (λ z. cc)))
through_in K nodes v (suc most) n (suc m) l h e u =
    let t = tree_of K nodes v in
    let has = folder_has nodes (suc m) h in
    let inner : suc m ≡ 0 → ⊥ = λ z. cc in
    let up = parent_of nodes (suc m) in
    let higher : is_under nodes n up ≡ true = sym (ap (λ b. b || is_under nodes n up) (eq_turned n (suc m) e)) ∙ (sym (under_child nodes t n (suc m) has inner) ∙ u) in
    let short = shorter nodes t (suc m) has inner in
    elim (is_or_not (n == up)) [
      | inl same ↦ record {
        child = suc m;
        is = record { folder_is = h; inner = suc_apart m; parent_is = sym (eq_is n up same) };
        above = under_own nodes (suc m);
      }
      | inr other ↦
          let r = through_in K nodes v most n up (omega (arith, l, short)) (parent_folder K nodes v (suc m) has) other higher in
          record { child = r.child; is = r.is; above = under_child nodes t r.child (suc m) has inner ∙ or_later (suc m == r.child) (is_under nodes r.child up) r.above }
    ]

pub through : (K : Capacity) (nodes : List NodeRow) → IsVolume K nodes → (n m : ℕ) → is_folder nodes m ≡ true → (n == m) ≡ false → is_under nodes n m ≡ true → Through nodes n m
through K nodes v n m h e u = through_in K nodes v (length (chain nodes m)) n m (omega arith) h e u

-- the tops after a visit are tops
apart_after : (K : Capacity) (nodes : List NodeRow) → IsVolume K nodes → (f : Front) → AreTops nodes f → (n : ℕ) → is_in f.tops n ≡ true → (a b : ℕ) → ChildFolder nodes n a ⊎ Stays f.tops n a → ChildFolder nodes n b ⊎ Stays f.tops n b → is_under nodes b a ≡ true → b ≡ a
apart_after K nodes v f t n top a b (inl x) (inl y) u =
    elim (is_or (a == b) (is_under nodes b n) (sym (under_by_child nodes (tree_of K nodes v) n a b x) ∙ u)) [
      | inl e ↦ sym (eq_is a b e)
      | inr g ↦ absurd (child_lacks nodes (tree_of K nodes v) n b y g)
    ]
apart_after K nodes v f t n top a b (inl x) (inr y) u =
    elim (is_or (a == b) (is_under nodes b n) (sym (under_by_child nodes (tree_of K nodes v) n a b x) ∙ u)) [
      | inl e ↦ sym (eq_is a b e)
      | inr g ↦ absurd (clash (n == b) (ap (λ k. n == k) (t.apart n b top y.top g) ∙ eq_same n) y.other)
    ]
apart_after K nodes v f t n top a b (inr x) (inl y) u =
    let tree = tree_of K nodes v in
    let below : is_under nodes n a ≡ true = under_under nodes tree n b a (folder_has nodes b y.folder_is) (folder_has nodes a (t.folders a x.top)) u (child_under nodes tree n b n y (under_own nodes n)) in
    absurd (clash (n == a) (ap (λ k. n == k) (sym (t.apart a n x.top top below)) ∙ eq_same n) x.other)
apart_after K nodes v f t n top a b (inr x) (inr y) u = t.apart a b x.top y.top u

pub tops_visited : (K : Capacity) (nodes : List NodeRow) → IsVolume K nodes → (f : Front) → AreTops nodes f → (n : ℕ) → is_in f.tops n ≡ true → AreTops nodes (after nodes n f)
tops_visited K nodes v f t n top =
    record {
      active = t.active;
      folder = t.folder;
      ascending = set_withs (folders_in nodes n) (without_number n f.tops) (set_without n f.tops t.ascending);
      folders = λ m h. folders m (which nodes v.ascending n f.tops m h);
      below = λ m h. below m (which nodes v.ascending n f.tops m h);
      apart = λ a b h g u. apart_after K nodes v f t n top a b (which nodes v.ascending n f.tops a h) (which nodes v.ascending n f.tops b g) u;
    }
  where
    folders : (m : ℕ) → ChildFolder nodes n m ⊎ Stays f.tops n m → is_folder nodes m ≡ true
    folders m (inl c) = c.folder_is
    folders m (inr s) = t.folders m s.top

    below : (m : ℕ) → ChildFolder nodes n m ⊎ Stays f.tops n m → is_under nodes (scanned f) m ≡ true
    below m (inl c) = child_under nodes (tree_of K nodes v) n m (scanned f) c (t.below n top)
    below m (inr s) = t.below m s.top

-- what is above a folder after the visit
left_at : (K : Capacity) (nodes : List NodeRow) → IsVolume K nodes → (f : Front) → AreTops nodes f → (n : ℕ) → is_in f.tops n ≡ true → (m x : ℕ) → is_folder nodes m ≡ true → is_under nodes x m ≡ true → ChildFolder nodes n x ⊎ Stays f.tops n x → (not (n == m) && has_above nodes f.tops m) ≡ true
left_at K nodes v f t n top m x h u (inl c) =
    let tree = tree_of K nodes v in
    let below : is_under nodes n m ≡ true = under_under nodes tree n x m (folder_has nodes x c.folder_is) (folder_has nodes m h) u (child_under nodes tree n x n c (under_own nodes n)) in
    let other : (n == m) ≡ false = not_true _ (λ e. child_lacks nodes tree n x c (subst (λ k. is_under nodes x k ≡ true) (sym (eq_is n m e)) u)) in
    both_true (not (n == m)) (has_above nodes f.tops m) (ap not other) (above_by nodes f.tops m n top below)
left_at K nodes v f t n top m x h u (inr s) =
    let other : (n == m) ≡ false = not_true _ (λ e.
    let at : is_under nodes x n ≡ true = subst (λ k. is_under nodes x k ≡ true) (sym (eq_is n m e)) u in
    clash (n == x) (ap (λ k. n == k) (t.apart n x top s.top at) ∙ eq_same n) s.other) in
    both_true (not (n == m)) (has_above nodes f.tops m) (ap not other) (above_by nodes f.tops m x s.top u)

right_at : (K : Capacity) (nodes : List NodeRow) → IsVolume K nodes → (f : Front) (n m : ℕ) → is_folder nodes m ≡ true → (n == m) ≡ false → (x : ℕ) → is_in f.tops x ≡ true → is_under nodes x m ≡ true → has_above nodes (tops_after nodes n f.tops) m ≡ true
right_at K nodes v f n m h e x top u =
    elim (is_or_not (n == x)) [
      | inl same ↦
          let r = through K nodes v n m h e (subst (λ k. is_under nodes k m ≡ true) (sym (eq_is n x same)) u) in
          above_by nodes (tops_after nodes n f.tops) m r.child (child_after nodes v.ascending n f.tops r.child r.is) r.above
      | inr other ↦ above_by nodes (tops_after nodes n f.tops) m x (stays_after nodes n f.tops x other top) u
    ]

above_after : (K : Capacity) (nodes : List NodeRow) → IsVolume K nodes → (f : Front) → AreTops nodes f → (n : ℕ) → is_in f.tops n ≡ true → (m : ℕ) → is_folder nodes m ≡ true → has_above nodes (tops_after nodes n f.tops) m ≡ (not (n == m) && has_above nodes f.tops m)
above_after K nodes v f t n top m h =
    same_tests (has_above nodes (tops_after nodes n f.tops) m) (not (n == m) && has_above nodes f.tops m)
    (λ g.
    let a = above_of nodes (tops_after nodes n f.tops) m g in
    left_at K nodes v f t n top m a.top h a.above (which nodes v.ascending n f.tops a.top a.member))
    (λ g.
    let p = both (not (n == m)) (has_above nodes f.tops m) g in
    let a = above_of nodes f.tops m p.1 in
    right_at K nodes v f n m h (is_false (n == m) p.0) a.top a.member a.above)

-- the visited folder no longer is unvisited, and all others stay as they were
swapped : (a b c : Bool) → (a && (b && c)) ≡ (b && (a && c))
swapped true b c = refl
swapped false true c = refl
swapped false false c = refl

in_left : (K : Capacity) (nodes : List NodeRow) → IsVolume K nodes → (f : Front) → AreTops nodes f → (n : ℕ) → is_in f.tops n ≡ true → (m : ℕ) → is_in (unvisited nodes (after nodes n f)) m ≡ is_in (without_number n (unvisited nodes f)) m
in_left K nodes v f t n top m =
    in_unvisited K nodes v (after nodes n f) m
    ∙ (at (is_folder nodes m) refl
    ∙ (swapped (is_folder nodes m) (not (n == m)) (has_above nodes f.tops m)
    ∙ (ap (λ b. not (n == m) && b) (sym (in_unvisited K nodes v f m))
    ∙ sym (in_without n m (unvisited nodes f)))))
  where
    at : (b : Bool) → is_folder nodes m ≡ b → (is_folder nodes m && has_above nodes (tops_after nodes n f.tops) m) ≡ (is_folder nodes m && (not (n == m) && has_above nodes f.tops m))
    at true e = ap (λ b. is_folder nodes m && b) (above_after K nodes v f t n top m e)
    at false e = ap (λ b. b && has_above nodes (tops_after nodes n f.tops) m) e ∙ sym (ap (λ b. b && (not (n == m) && has_above nodes f.tops m)) e)

pub unvisited_after : (K : Capacity) (nodes : List NodeRow) → IsVolume K nodes → (f : Front) → AreTops nodes f → (n : ℕ) → is_in f.tops n ≡ true → unvisited nodes (after nodes n f) ≡ without_number n (unvisited nodes f)
unvisited_after K nodes v f t n top =
    same_set (unvisited nodes (after nodes n f)) (without_number n (unvisited nodes f)) (set_unvisited K nodes v (after nodes n f)) (set_without n (unvisited nodes f) (set_unvisited K nodes v f)) (in_left K nodes v f t n top)

-- its files are counted
counted_now : (u h e d z : Bool) (x : ℕ) → u ≡ true → h ≡ true → e ≡ true → d ≡ true → x ≡ cond (not z && true) x 0 → cond (u && not (not e && h)) x 0 ≡ cond (u && not h) x 0 + cond (not z && d) x 0
counted_now u h e d z x hu hh he hd hx = rw (hu, hh, he, hd) (omega (arith, hx))

counted_before : (u h e d z : Bool) (x : ℕ) → e ≡ false → d ≡ false → cond (u && not (not e && h)) x 0 ≡ cond (u && not h) x 0 + cond (not z && d) x 0
counted_before u h e d true x he hd = rw he (omega arith)
counted_before u h e d false x he hd = rw (he, hd) (omega arith)

counts_at : (K : Capacity) (nodes : List NodeRow) → IsVolume K nodes → (f : Front) → AreTops nodes f → (n : ℕ) → is_in f.tops n ≡ true → (r : NodeRow) → node_of nodes (number r) ≡ Some r → part K nodes (after nodes n f) r ≡ part K nodes f r + (if is_child n r then space K r else 0)
counts_at K nodes v f t n top r own =
    ap (λ b. cond (is_under nodes (scanned f) r.parent && not b) (space K r) 0) (above_after K nodes v f t n top r.parent (v.up (number r) r own))
    ∙ at (n == r.parent) refl
  where
    root : (b : Bool) → (r.number == 0) ≡ b → space K r ≡ cond (not b && true) (space K r) 0
    root true e = root_empty K nodes r v (ap (node_of nodes) (sym (eq_is r.number 0 e)) ∙ own)
    root false e = refl

    at : (b : Bool) → (n == r.parent) ≡ b → cond (is_under nodes (scanned f) r.parent && not (not (n == r.parent) && has_above nodes f.tops r.parent)) (space K r) 0 ≡ part K nodes f r + cond (not (r.number == 0) && (r.parent == n)) (space K r) 0
    at true e =
        let same : n ≡ r.parent = eq_is n r.parent e in
        counted_now (is_under nodes (scanned f) r.parent) (has_above nodes f.tops r.parent) (n == r.parent) (r.parent == n) (r.number == 0) (space K r)
        (subst (λ k. is_under nodes (scanned f) k ≡ true) same (t.below n top))
        (subst (λ k. has_above nodes f.tops k ≡ true) same (above_own nodes f.tops n top))
        e
        (ap (λ k. r.parent == k) same ∙ eq_same r.parent)
        (root (r.number == 0) refl)
    at false e =
        counted_before (is_under nodes (scanned f) r.parent) (has_above nodes f.tops r.parent) (n == r.parent) (r.parent == n) (r.number == 0) (space K r) e (eq_turned n r.parent e)

pub counted_after : (K : Capacity) (nodes : List NodeRow) → IsVolume K nodes → (f : Front) → AreTops nodes f → (n : ℕ) → is_in f.tops n ≡ true → counted K nodes (scanned f) (unvisited nodes (after nodes n f)) ≡ counted K nodes (scanned f) (unvisited nodes f) + sum_by (space K) (children nodes n)
counted_after K nodes v f t n top =
    let more : NodeRow → ℕ = λ r. if is_child n r then space K r else 0 in
    let each = sum_by_same (part K nodes (after nodes n f)) (λ r. part K nodes f r + more r) nodes
    (each_found number (λ r. part K nodes (after nodes n f) r ≡ part K nodes f r + more r) nodes v.ascending (counts_at K nodes v f t n top)) in
    omega (arith, counted_is K nodes v (after nodes n f), counted_is K nodes v f, each, sum_by-add (part K nodes f) more nodes, sum_by-filter (is_child n) (space K) nodes)

-- the folder that is visited is the first of the topmost
find_first : {X : Type 0} (p : X → Bool) (xs : List X) → find p xs ≡ slice_get (filter p xs) 0
find_first p [] = refl
find_first {X} p (x ∷ xs) = at (p x) (find_first p xs)
  where
    at : (b : Bool) → find p xs ≡ slice_get (filter p xs) 0 → cond b (Some x) (find p xs) ≡ slice_get (cond b (x ∷ filter p xs) (filter p xs)) 0
    at true h = refl
    at false h = h

pub next_is : (v : Volume) (f : Front) → Stands v f → next_visit v.nodes (unvisited v.nodes f) ≡ slice_get f.tops 0
next_is v f s =
    find_first (is_topmost v.nodes (unvisited v.nodes f)) (unvisited v.nodes f) ∙ ap (λ (ns : List ℕ). slice_get ns 0) (sym s.tops)

pub first_in : (tops : List ℕ) (n : ℕ) → slice_get tops 0 ≡ Some n → is_in tops n ≡ true
first_in [] n h = cc
first_in (t ∷ tops) n h = ap (λ b. b || is_in tops n) (ap (λ k. k == n) (same_Some t n h) ∙ eq_same n)

-- without a folder to visit nothing changes
pub visited_none : (v : Volume) (f : Front) → Stands v f → slice_get f.tops 0 ≡ None → Follows f f v (visit v.nodes (unvisited v.nodes f))
visited_none v f s h =
    record {
      stands = s;
      unvisited_are = sym (ap (λ o. option_map_or (λ n. without_number n (unvisited v.nodes f)) o (unvisited v.nodes f)) (next_is v f s ∙ h));
      folder = refl;
      room = refl;
    }

-- the frontier after a visit
abbrev pub visited_front : Volume → ℕ → Front → Front
visited_front v n f = record f { tops = tops_after v.nodes n f.tops; sum = f.sum + sum_by (space v.size) (children v.nodes n) }

pub visited_some : (v : Volume) (f g : Front) (n : ℕ) → Stands v f → slice_get f.tops 0 ≡ Some n → g ≡ visited_front v n f → Follows f g v (visit v.nodes (unvisited v.nodes f))
visited_some v f g n s h e =
    let top = first_in f.tops n h in
    let t = tops_of v f s in
    subst (λ (k : Front). Follows f k v (visit v.nodes (unvisited v.nodes f))) (sym e)
    (record {
      stands = stands_by v (visited_front v n f) s.volume s.fits (of_sum (tops_visited v.size v.nodes s.volume f t n top)) (omega (arith, s.sum, counted_after v.size v.nodes s.volume f t n top));
      unvisited_are = unvisited_after v.size v.nodes s.volume f t n top ∙ sym (ap (λ o. option_map_or (λ m. without_number m (unvisited v.nodes f)) o (unvisited v.nodes f)) (next_is v f s ∙ h));
      folder = refl;
      room = refl;
    })
  where
    of_sum : AreTops v.nodes (after v.nodes n f) → AreTops v.nodes (visited_front v n f)
    of_sum t = record { active = t.active; folder = t.folder; ascending = t.ascending; folders = t.folders; below = t.below; apart = t.apart }

-- what is counted after it is no more than what all files take
pub visited_sum : (v : Volume) (f : Front) (n : ℕ) → Stands v f → slice_get f.tops 0 ≡ Some n → f.sum + sum_by (space v.size) (children v.nodes n) ≤ sum_by (space v.size) v.nodes
visited_sum v f n s h =
    let top = first_in f.tops n h in
    omega (arith, s.sum, counted_after v.size v.nodes s.volume f (tops_of v f s) n top, counted_small v.size v.nodes (after v.nodes n f) s.volume)

-- the same by the frontier's fields
pub visited_fields : (v : Volume) (f : Front) (n : ℕ) (folder : Option ℕ) (tops mid new : Numbers) (sum more cluster : ℕ) → record { room = record { nodes = tops.bound; cluster = cluster }; folder = folder; tops = tops.members; sum = sum } ≡ f → mid ≡ record tops { members = without_number n tops.members } → new ≡ record mid { members = with_numbers (folders_in v.nodes n) mid.members } → more ≡ sum_by (space v.size) (children v.nodes n) → record { room = record { nodes = new.bound; cluster = cluster }; folder = folder; tops = new.members; sum = sum + more } ≡ visited_front v n f
visited_fields v f n folder tops mid new sum more cluster is out put bytes =
    let shown : Numbers → ℕ → Front = λ t b. record { room = record { nodes = t.bound; cluster = cluster }; folder = folder; tops = t.members; sum = sum + b } in
    ap (λ (t : Numbers). shown t more) (put ∙ ap (λ (t : Numbers). record t { members = with_numbers (folders_in v.nodes n) t.members }) out)
    ∙ (ap (shown (record tops { members = tops_after v.nodes n tops.members })) bytes
    ∙ ap (visited_front v n) is)
