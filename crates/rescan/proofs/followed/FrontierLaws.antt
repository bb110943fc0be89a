-- What a frontier says at its beginning and at its end.
use Rattle.std.proofs.Common.{◌≡◌, ℕ, ◌==◌, Bool, true, false, cond, not, ◌||◌, ◌&&◌, List, [], ◌∷◌, length, Some, refl, sym, ◌∙◌, ap, subst, arith}
use Rattle.std.proofs.lemmas.Bool.Decides.{nat_tests}
use Rattle.std.specs.Prelude.{map, filter}
use Rattle.std.specs.List.{list_any}
use Rattle.fsrm_model.specs.declared.row.Capacity.{Capacity}
use Rattle.fsrm_model.specs.declared.row.NodeRow.{NodeRow}
use Rattle.fsrm_base.specs.Numbers.{is_in}
use Rattle.fsrm_model.specs.objects.Scan.{is_topmost, folders_under, counted}
use Rattle.fsrm_model.specs.values.Space.{alloc, space}
use Rattle.fsrm_model.specs.nodes.Tree.{number, node_of, parent_of, is_folder, chain, is_under, usage}
use Rattle.fsrm_model.specs.store.Valid.{IsVolume}
use Rattle.fsrm_base.proofs.TestLaws.{both, clash, eq_is, eq_same, suc_apart}
use Rattle.fsrm_model.proofs.nodes.ChainLaws.{share, usage_is}
use Rattle.fsrm_base.proofs.EditedRows.{sum_by_same}
use Rattle.fsrm_model.proofs.nodes.Climbs.{under_up}
use Rattle.fsrm_model.proofs.nodes.Keeps.{tree_of, found_folder}
use Rattle.fsrm_base.proofs.Look.{found_has, has_found}
use Rattle.fsrm_model.proofs.nodes.MoveLaws.{own_first}
use Rattle.fsrm_base.proofs.Sums.{sum_by_each, sum_by_nothing}
use Rattle.volume_tree.specs.Volume.{Volume}
use Rattle.rescan.specs.Frontiers.{Room, Front, Stands, Suits, Follows, has_above, scanned, unvisited}
use Rattle.rescan.specs.Tops.{AreTops}
use Rattle.rescan.proofs.counted.CountLaws.{part, counted_is}
use Rattle.rescan.proofs.unvisited.Tops.{in_unvisited, above_of, stands_by, tops_of}
use Rattle.fsrm_base.proofs.RowLaws.{each_found}
use Rattle.fsrm_model.proofs.valid.ValidLaws.{found_parent}

-- no folder is unvisited exactly if there is no topmost one
some_top : (tops : List ℕ) (t : ℕ) → is_in tops t ≡ true → (length tops == 0) ≡ false
some_top [] t h = cc
some_top (x ∷ xs) t h = suc_apart (length xs)

top_where : (K : Capacity) (nodes : List NodeRow) → IsVolume K nodes → (f : Front) (n : ℕ) → is_in (unvisited nodes f) n ≡ true → (length f.tops == 0) ≡ false
top_where K nodes v f n h =
    let a = above_of nodes f.tops n (both (is_folder nodes n) (has_above nodes f.tops n) (sym (in_unvisited K nodes v f n) ∙ h)).1 in
    some_top f.tops a.top a.member

empty_at : (nodes : List NodeRow) (U tops us : List ℕ) → us ≡ U → tops ≡ filter (is_topmost nodes U) us → ((n : ℕ) → is_in us n ≡ true → (length tops == 0) ≡ false) → (length tops == 0) ≡ (length us == 0)
empty_at nodes U tops [] e h f = ap (λ (ns : List ℕ). length ns == 0) h
empty_at nodes U tops (u ∷ us) e h f = f u (ap (λ b. b || is_in us u) (eq_same u)) ∙ sym (suc_apart (length us))

pub none_left : (v : Volume) (f : Front) → Stands v f → (length f.tops == 0) ≡ (length (unvisited v.nodes f) == 0)
none_left v f s = empty_at v.nodes (unvisited v.nodes f) f.tops (unvisited v.nodes f) refl s.tops (top_where v.size v.nodes s.volume f)

-- at its beginning all folders at and below the scanned one are unvisited, and nothing is counted
abbrev pub begun : Room → ℕ → Front
begun room folder = record { room = room; folder = Some folder; tops = folder ∷ []; sum = 0 }

only_member : (k n : ℕ) → is_in (k ∷ []) n ≡ (k == n)
only_member k n = at (k == n)
  where
    at : (b : Bool) → (b || false) ≡ b
    at true = refl
    at false = refl

only_is : (k n : ℕ) → is_in (k ∷ []) n ≡ true → k ≡ n
only_is k n h = eq_is k n (sym (only_member k n) ∙ h)

above_one : (folder : ℕ) (ns : List ℕ) → list_any (is_in (folder ∷ [])) ns ≡ list_any (λ k. k == folder) ns
above_one folder [] = refl
above_one folder (n ∷ ns) =
    ap (λ b. b || list_any (is_in (folder ∷ [])) ns) (only_member folder n ∙ turned folder n)
    ∙ ap (λ b. (n == folder) || b) (above_one folder ns)
  where
    turned : (n m : ℕ) → (n == m) ≡ (m == n)
    turned n m = grind (arith, nat_tests)

begun_tops : (nodes : List NodeRow) (room : Room) (folder : ℕ) → is_folder nodes folder ≡ true → AreTops nodes (begun room folder)
begun_tops nodes room folder h =
    record {
      active = refl;
      folder = h;
      ascending = refl;
      folders = λ n m. subst (λ k. is_folder nodes k ≡ true) (only_is folder n m) h;
      below = λ n m. subst (λ k. is_under nodes folder k ≡ true) (only_is folder n m) (own_first (length nodes) nodes folder);
      apart = λ n m h g u. sym (only_is folder m g) ∙ only_is folder n h;
    }

folders_at : (nodes : List NodeRow) (folder : ℕ) (rows : List NodeRow) → filter (λ node. node.folder && has_above nodes (folder ∷ []) node.number) rows ≡ filter (λ node. node.folder) (filter (λ node. is_under nodes folder node.number) rows)
folders_at nodes folder [] = refl
folders_at nodes folder (r ∷ rows) =
    let kept : List NodeRow = filter (λ node. node.folder && has_above nodes (folder ∷ []) node.number) rows in
    ap (λ b. cond (r.folder && b) (r ∷ kept) kept) (above_one folder (chain nodes r.number))
    ∙ (ap (λ rs. cond (r.folder && is_under nodes folder r.number) (r ∷ rs) rs) (folders_at nodes folder rows)
    ∙ twice (λ node. node.folder) r (filter (λ node. is_under nodes folder node.number) rows) (is_under nodes folder r.number))
  where
    twice : (p : NodeRow → Bool) (r : NodeRow) (rows : List NodeRow) (b : Bool) → cond (p r && b) (r ∷ filter p rows) (filter p rows) ≡ filter p (cond b (r ∷ rows) rows)
    twice p r rows true = ap (λ c. cond c (r ∷ filter p rows) (filter p rows)) (and_true (p r))
      where
        and_true : (c : Bool) → (c && true) ≡ c
        and_true true = refl
        and_true false = refl
    twice p r rows false = ap (λ c. cond c (r ∷ filter p rows) (filter p rows)) (and_false (p r))
      where
        and_false : (c : Bool) → (c && false) ≡ false
        and_false true = refl
        and_false false = refl

pub begun_unvisited : (nodes : List NodeRow) (room : Room) (folder : ℕ) → unvisited nodes (begun room folder) ≡ folders_under nodes folder
begun_unvisited nodes room folder = ap (map number) (folders_at nodes folder nodes)

begun_part : (K : Capacity) (nodes : List NodeRow) (room : Room) (folder : ℕ) (r : NodeRow) → part K nodes (begun room folder) r ≡ 0
begun_part K nodes room folder r =
    ap (λ b. cond (is_under nodes folder r.parent && not b) (space K r) 0) (above_one folder (chain nodes r.parent)) ∙ at (is_under nodes folder r.parent)
  where
    at : (b : Bool) → cond (b && not b) (space K r) 0 ≡ 0
    at true = refl
    at false = refl

begun_counted : (K : Capacity) (nodes : List NodeRow) → IsVolume K nodes → (room : Room) (folder : ℕ) → counted K nodes folder (unvisited nodes (begun room folder)) ≡ 0
begun_counted K nodes v room folder =
    counted_is K nodes v (begun room folder)
    ∙ (sum_by_each (part K nodes (begun room folder)) (λ r. 0) (begun_part K nodes room folder) nodes
    ∙ sum_by_nothing nodes)

pub begins : (v : Volume) (room : Room) (folder : ℕ) → IsVolume v.size v.nodes → Suits v.size room → is_folder v.nodes folder ≡ true → Follows (begun room folder) (begun room folder) v (folders_under v.nodes folder)
begins v room folder volume fits h =
    record {
      stands = stands_by v (begun room folder) volume fits (begun_tops v.nodes room folder h) (sym (begun_counted v.size v.nodes volume room folder));
      unvisited_are = begun_unvisited v.nodes room folder;
      folder = refl;
      room = refl;
    }

-- at its end what is counted is the usage of the scanned folder
no_tops : (tops ns : List ℕ) → length tops ≡ 0 → list_any (is_in tops) ns ≡ false
no_tops tops [] h = refl
no_tops [] (n ∷ ns) h = no_tops [] ns h
no_tops (t ∷ tops) (n ∷ ns) h = cc

-- the root is a folder
pub root_folder : (K : Capacity) (nodes : List NodeRow) → IsVolume K nodes → is_folder nodes 0 ≡ true
root_folder K nodes v =
    let root = has_found number 0 nodes v.has_root in
    found_folder nodes 0 root.row root.is ∙ (both root.row.folder _ (both _ _ (both _ _ (v.root root.row root.is)).0).0).0

end_part : (K : Capacity) (nodes : List NodeRow) (f : Front) → IsVolume K nodes → AreTops nodes f → length f.tops ≡ 0 → (r : NodeRow) → node_of nodes (number r) ≡ Some r → part K nodes f r ≡ share K nodes (scanned f) r
end_part K nodes f v t none r own =
    ap (λ b. cond (is_under nodes (scanned f) r.parent && not b) (space K r) 0) (no_tops f.tops (chain nodes r.parent) none)
    ∙ (at (is_under nodes (scanned f) r.parent) (space K r) ∙ kind r.folder refl)
  where
    at : (b : Bool) (x : ℕ) → cond (b && true) x 0 ≡ cond b x 0
    at true x = refl
    at false x = refl

    either : (b c : Bool) (x : ℕ) → cond b x x ≡ cond c x x
    either true true x = refl
    either true false x = refl
    either false true x = refl
    either false false x = refl

    kind : (b : Bool) → r.folder ≡ b → cond (is_under nodes (scanned f) r.parent) (cond r.folder 0 (alloc K r.length)) 0 ≡ cond (is_under nodes (scanned f) r.number) (cond r.folder 0 (alloc K r.length)) 0
    kind true e =
        ap (λ b. cond (is_under nodes (scanned f) r.parent) (cond b 0 (alloc K r.length)) 0) e
        ∙ (either (is_under nodes (scanned f) r.parent) (is_under nodes (scanned f) r.number) 0
        ∙ ap (λ b. cond (is_under nodes (scanned f) r.number) (cond b 0 (alloc K r.length)) 0) (sym e))
    kind false e =
        let is : is_folder nodes r.number ≡ false = found_folder nodes r.number r own ∙ e in
        let other : (m : ℕ) → is_folder nodes m ≡ true → r.number ≡ m → ⊥ = λ m h g. clash (is_folder nodes m) h (ap (is_folder nodes) (sym g) ∙ is) in
        let up : is_under nodes (scanned f) r.number ≡ is_under nodes (scanned f) (parent_of nodes r.number) =
        under_up nodes (tree_of K nodes v) (scanned f) r.number (found_has number r.number nodes r own) (other 0 (root_folder K nodes v)) (other (scanned f) t.folder) in
        ap (λ b. cond b (cond r.folder 0 (alloc K r.length)) 0) (sym (up ∙ ap (is_under nodes (scanned f)) (found_parent nodes r.number r own)))

pub ends : (v : Volume) (f : Front) → Stands v f → length f.tops ≡ 0 → f.sum ≡ usage v.size v.nodes (scanned f)
ends v f s none =
    let K = v.size in
    s.sum
    ∙ (counted_is K v.nodes s.volume f
    ∙ (sum_by_same (part K v.nodes f) (share K v.nodes (scanned f)) v.nodes
    (each_found number (λ r. part K v.nodes f r ≡ share K v.nodes (scanned f) r) v.nodes s.volume.ascending (end_part K v.nodes f s.volume (tops_of v f s) none))
    ∙ sym (usage_is K v.nodes (scanned f))))
