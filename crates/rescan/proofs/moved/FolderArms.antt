-- A scan goes on over the move of a folder.
use Rattle.std.proofs.Common.{◌≡◌, ℕ, ◌==◌, Bool, true, false, cond, not, ◌||◌, ◌&&◌, List, refl, sym, ◌∙◌, ap, subst, inl, inr, arith, Some}
use Rattle.std.specs.Prelude.{unwrap_or}
use Rattle.fsrm_model.specs.declared.row.NodeRow.{NodeRow}
use Rattle.fsrm_base.specs.Numbers.{is_in, with_number, without_number}
use Rattle.fsrm_model.specs.objects.Scan.{unvisited_moved}
use Rattle.fsrm_model.specs.nodes.Tree.{is_folder, is_under}
use Rattle.fsrm_model.specs.store.Valid.{IsVolume}
use Rattle.fsrm_base.proofs.TestLaws.{is_or_not, clash, not_true, both_true, eq_is, eq_same}
use Rattle.fsrm_model.proofs.nodes.Below.{each_above}
use Rattle.fsrm_model.proofs.nodes.ChainLaws.{IsTree, Has}
use Rattle.fsrm_model.proofs.nodes.Climbs.{under_own}
use Rattle.fsrm_model.proofs.nodes.Keeps.{found_folder, tree_of}
use Rattle.fsrm_model.proofs.nodes.MoveLaws.{Outside, under_before}
use Rattle.fsrm_model.proofs.valid.ValidLaws.{folder_has}
use Rattle.fsrm_base.proofs.NumberLaws.{in_with, in_without, set_with, set_without, same_set}
use Rattle.rescan.specs.declared.standing.Standing.{Standing}
use Rattle.rescan.specs.declared.standing.Standing.TheVariants.{Outside as IsOutside, Visited, Unvisited}
use Rattle.rescan.specs.Frontiers.{Front, Stands, Follows, scanned, has_above, unvisited}
use Rattle.rescan.specs.Leaves.{Leaves}
use Rattle.rescan.specs.Standings.{standing, FolderGoes}
use Rattle.rescan.specs.Tops.{AreTops}
use Rattle.rescan.proofs.counted.CountLaws.{is_counted}
use Rattle.rescan.proofs.moved.MovedScan.{moved_follows}
use Rattle.rescan.proofs.moved.MovedSums.{folder_sum, nothing_below}
use Rattle.rescan.proofs.moved.MovedTops.{TopsMoved}
use Rattle.rescan.proofs.moved.MovedWhole.{WholeMoved, whole_follows}
use Rattle.rescan.proofs.moved.MoveArms.{Goes, moves, kinds, moved_has, visited_is, outside_is, unvisited_is, counted_parts}
use Rattle.rescan.proofs.unvisited.Tops.{tops_of, above_of, under_under}
use Rattle.volume_tree.specs.Volume.{Volume, with_place}
use Rattle.fsrm_base.proofs.Look.{unwrapped}

-- below a folder that isn't visited there is no topmost folder but itself
lone_top : (nodes : List NodeRow) (f : Front) → IsTree nodes → AreTops nodes f → (x : ℕ) → (x == 0) ≡ false → Has nodes x → is_under nodes x (scanned f) ≡ false → is_counted nodes f x ≡ false → (n : ℕ) → is_in f.tops n ≡ true → is_under nodes x n ≡ true → x ≡ n
lone_top nodes f t a x inner hx outside none n h b =
    let hn = folder_has nodes n (a.folders n h) in
    let far : Outside nodes x (scanned f) = record { has = folder_has nodes (scanned f) a.folder; lacks = outside } in
    let here : is_under nodes (scanned f) x ≡ true = sym (under_before nodes t x (scanned f) n inner hx far hn b) ∙ a.below n h in
    let free : (has_above nodes f.tops x ≡ false) → ⊥ = λ e. clash _ (both_true (is_under nodes (scanned f) x) (not (has_above nodes f.tops x)) here (ap not e)) none in
    elim (is_or_not (has_above nodes f.tops x)) [
      | inl u ↦
          let top = above_of nodes f.tops x u in
          let up : is_under nodes top.top n ≡ true = under_under nodes t top.top x n hx hn b top.above in
          let same : top.top ≡ n = a.apart n top.top h top.member up in
          let back : is_under nodes n x ≡ true = subst (λ (j : ℕ). is_under nodes j x ≡ true) same top.above in
          eq_is x n (each_above nodes t x n inner hx hn b back)
      | inr e ↦ absurd (free e)
    ]

own_apart : (nodes : List NodeRow) (x n : ℕ) → is_under nodes x n ≡ false → (x == n) ≡ false
own_apart nodes x n b = not_true _ (λ e. clash _ (subst (λ (j : ℕ). is_under nodes x j ≡ true) (eq_is x n e) (under_own nodes x)) b)

-- the scanned folder stays, and the node is a folder
pub record Stays (v : Volume) (f : Front) (x d : ℕ) : Type 0 where
  pub goes : Goes v f x d
  pub folder : is_folder v.nodes x ≡ true
  pub outside : is_under v.nodes x (scanned f) ≡ false

no : {P : Type 0} (b : Bool) → b ≡ true → b ≡ false → P
no b h e = absurd (clash b h e)

abbrev Goal : (v : Volume) (f f2 : Front) (x d : ℕ) (name : List ℕ) → Type 0
Goal v f f2 x d name = Follows f f2 (with_place v x d name) (unvisited_moved v.nodes (with_place v x d name).nodes (scanned f) x d (unvisited v.nodes f))

-- from a visited place to a visited one
kept_arm : (v : Volume) (f : Front) (x d : ℕ) (name : List ℕ) → Stays v f x d → IsVolume v.size (with_place v x d name).nodes → is_counted v.nodes f x ≡ true → is_counted v.nodes f d ≡ true → Goal v f f x d name
kept_arm v f x d name s w cx cd =
    let K = v.size in
    let g = s.goes in
    let a = tops_of v f g.stands in
    let t : TopsMoved v.nodes (with_place v x d name).nodes f f x d true false =
    record {
      moves = moves v f x d name g;
      tops = a;
      kinds = kinds v x d name;
      outside = s.outside;
      folder = refl;
      ascending = a.ascending;
      others = λ n b. refl;
      below = λ n b. refl;
      kept = λ h. (cx, cd);
      entered = λ h. no false h refl;
    } in
    moved_follows v f f x d name true false g.stands w g.folder t (record { stay = λ h i j. refl; enter = λ h i j. no _ cx j }) refl
    (omega (arith, counted_parts v f g.stands, folder_sum K v.nodes f f x d name true false g.stands.volume t s.folder (λ h e. no true refl h)))

-- from a visited place to another
left_arm : (v : Volume) (f f2 : Front) (x d : ℕ) (name : List ℕ) → Stays v f x d → IsVolume v.size (with_place v x d name).nodes → is_counted v.nodes f d ≡ false → Leaves v.size v.nodes f f2 x → Goal v f f2 x d name
left_arm v f f2 x d name s w cd l =
    let K = v.size in
    let g = s.goes in
    let a = tops_of v f g.stands in
    let t : TopsMoved v.nodes (with_place v x d name).nodes f f2 x d false false =
    record {
      moves = moves v f x d name g;
      tops = a;
      kinds = kinds v x d name;
      outside = s.outside;
      folder = l.folder;
      ascending = l.ascending;
      others = λ n b. l.tops n ∙ (ap (λ c. is_in f.tops n && not c) b ∙ kept (is_in f.tops n));
      below = λ n b. l.tops n ∙ (ap (λ c. is_in f.tops n && not c) b ∙ none (is_in f.tops n));
      kept = λ h. no false h refl;
      entered = λ h. no false h refl;
    } in
    moved_follows v f f2 x d name false false g.stands w g.folder t (record { stay = λ h i j. no _ i cd; enter = λ h i j. no _ i cd }) l.room
    (omega (arith, counted_parts v f g.stands, l.sum, folder_sum K v.nodes f f2 x d name false false g.stands.volume t s.folder (λ h e. cd)))
  where
    kept : (b : Bool) → (b && not false) ≡ b
    kept true = refl
    kept false = refl

    none : (b : Bool) → (b && not true) ≡ false
    none true = refl
    none false = refl

-- from a place that isn't visited to one that is
entered_arm : (v : Volume) (f : Front) (x d : ℕ) (name : List ℕ) → Stays v f x d → IsVolume v.size (with_place v x d name).nodes → is_counted v.nodes f x ≡ false → is_counted v.nodes f d ≡ true → Goal v f (record f { tops = with_number x f.tops }) x d name
entered_arm v f x d name s w cx cd =
    let K = v.size in
    let nodes = v.nodes in
    let g = s.goes in
    let a = tops_of v f g.stands in
    let f2 : Front = record f { tops = with_number x f.tops } in
    let hx = moved_has v f x d g in
    let t : TopsMoved nodes (with_place v x d name).nodes f f2 x d false true =
    record {
      moves = moves v f x d name g;
      tops = a;
      kinds = kinds v x d name;
      outside = s.outside;
      folder = refl;
      ascending = set_with x f.tops a.ascending;
      others = λ n b. in_with x n f.tops ∙ ap (λ c. c || is_in f.tops n) (own_apart nodes x n b);
      below = λ n b. in_with x n f.tops ∙ joined (x == n) (is_in f.tops n) (λ h. ap (λ j. x == j) (sym (lone_top nodes f (tree_of K nodes g.stands.volume) a x g.inner hx s.outside cx n h b)) ∙ eq_same x);
      kept = λ h. no false h refl;
      entered = λ h. (s.folder, cd);
    } in
    let none = nothing_below K nodes f x g.stands.volume a g.inner hx s.folder s.outside cx in
    moved_follows v f f2 x d name false true g.stands w g.folder t (record { stay = λ h i j. no _ j cx; enter = λ h i j. refl }) refl
    (omega (arith, counted_parts v f g.stands, none, folder_sum K nodes f f2 x d name false true g.stands.volume t s.folder (λ h e. no true refl e)))
  where
    joined : (b c : Bool) → (c ≡ true → b ≡ true) → (b || c) ≡ b
    joined true c h = refl
    joined false true h = sym (h refl)
    joined false false h = refl

-- from a place that isn't visited to another
other_arm : (v : Volume) (f : Front) (x d : ℕ) (name : List ℕ) → Stays v f x d → IsVolume v.size (with_place v x d name).nodes → is_counted v.nodes f x ≡ false → is_counted v.nodes f d ≡ false → Goal v f (record f { tops = without_number x f.tops }) x d name
other_arm v f x d name s w cx cd =
    let K = v.size in
    let nodes = v.nodes in
    let g = s.goes in
    let a = tops_of v f g.stands in
    let f2 : Front = record f { tops = without_number x f.tops } in
    let hx = moved_has v f x d g in
    let t : TopsMoved nodes (with_place v x d name).nodes f f2 x d false false =
    record {
      moves = moves v f x d name g;
      tops = a;
      kinds = kinds v x d name;
      outside = s.outside;
      folder = refl;
      ascending = set_without x f.tops a.ascending;
      others = λ n b. in_without x n f.tops ∙ ap (λ c. not c && is_in f.tops n) (own_apart nodes x n b);
      below = λ n b. in_without x n f.tops ∙ gone (x == n) (is_in f.tops n) (λ h. ap (λ j. x == j) (sym (lone_top nodes f (tree_of K nodes g.stands.volume) a x g.inner hx s.outside cx n h b)) ∙ eq_same x);
      kept = λ h. no false h refl;
      entered = λ h. no false h refl;
    } in
    let none = nothing_below K nodes f x g.stands.volume a g.inner hx s.folder s.outside cx in
    moved_follows v f f2 x d name false false g.stands w g.folder t (record { stay = λ h i j. no _ i cd; enter = λ h i j. no _ i cd }) refl
    (omega (arith, counted_parts v f g.stands, none, folder_sum K nodes f f2 x d name false false g.stands.volume t s.folder (λ h e. cd)))
  where
    gone : (b c : Bool) → (c ≡ true → b ≡ true) → (not b && c) ≡ false
    gone true c h = refl
    gone false true h = let e : false ≡ true = h refl in no false e refl
    gone false false h = refl

-- all of them
by_standings : (v : Volume) (f f2 : Front) (x d : ℕ) (name : List ℕ) (before after : Standing) → Stays v f x d → IsVolume v.size (with_place v x d name).nodes → before ≡ standing v.nodes f x → after ≡ standing v.nodes f d → FolderGoes before after v.size v.nodes f f2 x → Goal v f f2 x d name
by_standings v f f2 x d name Visited Visited s w hx hd g =
    subst (λ (h : Front). Goal v f h x d name) (sym g) (kept_arm v f x d name s w (visited_is v.nodes f x hx) (visited_is v.nodes f d hd))
by_standings v f f2 x d name Visited IsOutside s w hx hd g = left_arm v f f2 x d name s w (outside_is v.nodes f d hd) g
by_standings v f f2 x d name Visited Unvisited s w hx hd g = left_arm v f f2 x d name s w (unvisited_is v.nodes f d hd) g
by_standings v f f2 x d name IsOutside Visited s w hx hd g =
    subst (λ (h : Front). Goal v f h x d name) (sym g) (entered_arm v f x d name s w (outside_is v.nodes f x hx) (visited_is v.nodes f d hd))
by_standings v f f2 x d name Unvisited Visited s w hx hd g =
    subst (λ (h : Front). Goal v f h x d name) (sym g) (entered_arm v f x d name s w (unvisited_is v.nodes f x hx) (visited_is v.nodes f d hd))
by_standings v f f2 x d name IsOutside IsOutside s w hx hd g =
    subst (λ (h : Front). Goal v f h x d name) (sym g) (other_arm v f x d name s w (outside_is v.nodes f x hx) (outside_is v.nodes f d hd))
by_standings v f f2 x d name IsOutside Unvisited s w hx hd g =
    subst (λ (h : Front). Goal v f h x d name) (sym g) (other_arm v f x d name s w (outside_is v.nodes f x hx) (unvisited_is v.nodes f d hd))
by_standings v f f2 x d name Unvisited IsOutside s w hx hd g =
    subst (λ (h : Front). Goal v f h x d name) (sym g) (other_arm v f x d name s w (unvisited_is v.nodes f x hx) (outside_is v.nodes f d hd))
by_standings v f f2 x d name Unvisited Unvisited s w hx hd g =
    subst (λ (h : Front). Goal v f h x d name) (sym g) (other_arm v f x d name s w (unvisited_is v.nodes f x hx) (unvisited_is v.nodes f d hd))

-- the scanned folder moves too
whole : (v : Volume) (f : Front) (x d : ℕ) (name : List ℕ) → Goes v f x d → is_under v.nodes x (scanned f) ≡ true → WholeMoved v.nodes (with_place v x d name).nodes f x d
whole v f x d name g inside = record { moves = moves v f x d name g; tops = tops_of v f g.stands; kinds = kinds v x d name; inside = inside }

pub scanned_follows : (v : Volume) (f : Front) (x d : ℕ) (name : List ℕ) → Goes v f x d → f.folder ≡ Some x → IsVolume v.size (with_place v x d name).nodes → Goal v f f x d name
scanned_follows v f x d name g is w =
    let same : scanned f ≡ x = ap (λ o. unwrap_or o 0) is in
    whole_follows v f x d name g.stands w (whole v f x d name g (ap (is_under v.nodes x) same ∙ under_own v.nodes x))

-- if the scanned folder is below the node, both places are outside
far_place : (v : Volume) (f : Front) (n : ℕ) → Stands v f → Has v.nodes n → is_under v.nodes (scanned f) n ≡ false → IsOutside ≡ standing v.nodes f n
far_place v f n s hn e =
    let a = tops_of v f s in
    let free : has_above v.nodes f.tops n ≡ false = not_true _ (λ h.
    let up = above_of v.nodes f.tops n h in
    clash _ (under_under v.nodes (tree_of v.size v.nodes s.volume) (scanned f) up.top n (folder_has v.nodes up.top (a.folders up.top up.member)) hn up.above (a.below up.top up.member)) e) in
    at (has_above v.nodes f.tops n) (is_under v.nodes (scanned f) n) free e
  where
    at : (b c : Bool) → b ≡ false → c ≡ false → IsOutside ≡ cond b Unvisited (cond c Visited IsOutside)
    at true c h g = cc
    at false true h g = cc
    at false false h g = refl

both_far : (v : Volume) (f f2 : Front) (x d : ℕ) (name : List ℕ) (before after : Standing) → Goes v f x d → is_under v.nodes x (scanned f) ≡ true → (x ≡ scanned f → ⊥) → before ≡ standing v.nodes f x → after ≡ standing v.nodes f d → FolderGoes before after v.size v.nodes f f2 x → f2 ≡ f
both_far v f f2 x d name before after g inside other hx hd goes =
    let t = tree_of v.size v.nodes g.stands.volume in
    let a = tops_of v f g.stands in
    let has = moved_has v f x d g in
    let hs = folder_has v.nodes (scanned f) a.folder in
    let hf = folder_has v.nodes d g.folder in
    let far : is_under v.nodes (scanned f) x ≡ false = not_true _ (λ h. other (eq_is x (scanned f) (each_above v.nodes t x (scanned f) g.inner has hs inside h))) in
    let apart : is_under v.nodes (scanned f) d ≡ false = not_true _ (λ h. clash _ (under_under v.nodes t x (scanned f) d hs hf h inside) g.apart) in
    let lacks : is_in f.tops x ≡ false = not_true _ (λ h. clash _ (a.below x h) far) in
    let same : without_number x f.tops ≡ f.tops = same_set (without_number x f.tops) f.tops (set_without x f.tops a.ascending) a.ascending (λ n.
    in_without x n f.tops ∙ skipped (x == n) (is_in f.tops n) (λ e. sym (ap (is_in f.tops) (eq_is x n e)) ∙ lacks)) in
    let out : FolderGoes IsOutside IsOutside v.size v.nodes f f2 x =
    subst (λ (s : Standing). FolderGoes s IsOutside v.size v.nodes f f2 x) (hx ∙ sym (far_place v f x g.stands has far))
    (subst (λ (s : Standing). FolderGoes before s v.size v.nodes f f2 x) (hd ∙ sym (far_place v f d g.stands hf apart)) goes) in
    out ∙ ap (λ ns. record f { tops = ns }) same
  where
    skipped : (b c : Bool) → (b ≡ true → c ≡ false) → (not b && c) ≡ c
    skipped true c h = sym (h refl)
    skipped false c h = refl

pub folder_follows : (v : Volume) (f f2 : Front) (x d : ℕ) (name : List ℕ) (before after : Standing) (g : Goes v f x d) → g.row.folder ≡ true → (f.folder ≡ Some x → ⊥) → IsVolume v.size (with_place v x d name).nodes → before ≡ standing v.nodes f x → after ≡ standing v.nodes f d → FolderGoes before after v.size v.nodes f f2 x → Goal v f f2 x d name
folder_follows v f f2 x d name before after g is other w hx hd goes = elim (is_or_not (is_under v.nodes x (scanned f))) [
  | inl b ↦
      let apart : x ≡ scanned f → ⊥ = λ e. other (unwrapped f.folder g.stands.active ∙ ap (λ j. Some j) (sym e)) in
      subst (λ (h : Front). Goal v f h x d name) (sym (both_far v f f2 x d name before after g b apart hx hd goes)) (whole_follows v f x d name g.stands w (whole v f x d name g b))
  | inr b ↦ by_standings v f f2 x d name before after (record { goes = g; folder = found_folder v.nodes x g.row g.found ∙ is; outside = b }) w hx hd goes
]
