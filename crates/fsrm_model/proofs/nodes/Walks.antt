-- A path is resolved by a walk down from the root.
use Rattle.std.proofs.Common.{◌≡◌, ℕ, zero, suc, ◌<◌, ◌≤◌, ◌==◌, Bool, true, false, not, ◌&&◌, List, [], ◌∷◌, ◌++◌, length, drop, refl, sym, ◌∙◌, ap, subst, arith, Some, None, Option, append_assoc}
use Rattle.std.proofs.lemmas.Option.{same_Some}
use Rattle.std.proofs.lemmas.List.{reverse-append, map-append}
use Rattle.std.specs.Prelude.{find, map, reverse, is_some, option_map}
use Rattle.std.specs.Option.{option_map_or, option_and_then}
use Rattle.std.specs.List.{list_any}
use Rattle.fsrm_model.specs.declared.row.Capacity.{Capacity}
use Rattle.fsrm_model.specs.declared.row.NodeRow.{NodeRow}
use Rattle.fsrm_model.specs.values.Name.{same_name, same_names}
use Rattle.fsrm_model.specs.nodes.Tree.{number, node_of, name_of, parent_of, is_child, child_of, child_number, chain, path_of, resolve}
use Rattle.fsrm_model.specs.store.Valid.{IsVolume}
use Rattle.fsrm_base.proofs.TestLaws.{clash, is_false, both, both_true, eq_is, suc_apart}
use Rattle.fsrm_model.proofs.nodes.ChainLaws.{Has, chain_step}
use Rattle.fsrm_model.proofs.nodes.DepthLaws.{some_member}
use Rattle.fsrm_base.proofs.Look.{has_found, found_has, found_key, found_any, found_own, found_passes, is_some-find, some_row}
use Rattle.fsrm_model.proofs.nodes.Keeps.{tree_of, is_child_test, same_joined}
use Rattle.fsrm_model.proofs.valid.ValidLaws.{found_parent}

-- the node that names lead to from a node on
abbrev pub walk : List NodeRow → ℕ → List (List ℕ) → Option ℕ
walk nodes n [] = Some n
walk nodes n (name ∷ names) = option_and_then (λ c. walk nodes c names) (child_number nodes n name)

drop_first : {X : Type 0} (xs ys : List X) → 0 < length xs → drop 1 (xs ++ ys) ≡ drop 1 xs ++ ys
drop_first [] ys h = absurd (omega arith)
drop_first (x ∷ xs) ys h = refl

some_mapped : {X Y : Type 0} (f : X → Y) (xs : List X) → 0 < length xs → 0 < length (map f xs)
some_mapped f [] h = h
some_mapped f (x ∷ xs) h = omega arith

some_more : {X : Type 0} (xs : List X) (y : X) → 0 < length (xs ++ y ∷ [])
some_more [] y = omega arith
some_more (x ∷ xs) y = omega arith

turned_at : {X : Type 0} (x : X) (xs : List X) → reverse (x ∷ xs) ≡ reverse xs ++ x ∷ []
turned_at x xs = reverse-append (x ∷ []) xs

some_turned : {X : Type 0} (xs : List X) → 0 < length xs → 0 < length (reverse xs)
some_turned [] h = absurd (omega arith)
some_turned (x ∷ xs) h = subst (λ ys. 0 < length ys) (sym (turned_at x xs)) (some_more (reverse xs) x)

-- the path of a node other than the root: its parent's, and its name
pub path_up : (K : Capacity) (nodes : List NodeRow) (n : ℕ) → IsVolume K nodes → Has nodes (suc n) → path_of nodes (suc n) ≡ path_of nodes (parent_of nodes (suc n)) ++ name_of nodes (suc n) ∷ []
path_up K nodes n v h =
    let up = chain nodes (parent_of nodes (suc n)) in
    let step : chain nodes (suc n) ≡ suc n ∷ up = chain_step nodes n (v.rooted (suc n) h) in
    ap (λ ns. drop 1 (map (name_of nodes) (reverse ns))) step
    ∙ (ap (λ ns. drop 1 (map (name_of nodes) ns)) (turned_at (suc n) up)
    ∙ (ap (drop 1) (map-append (name_of nodes) (reverse up) (suc n ∷ []))
    ∙ drop_first (map (name_of nodes) (reverse up)) (name_of nodes (suc n) ∷ []) (some_mapped (name_of nodes) (reverse up) (some_turned up (some_member (length nodes) nodes (parent_of nodes (suc n)))))))

pub path_root : (nodes : List NodeRow) → path_of nodes 0 ≡ []
path_root [] = refl
path_root (r ∷ rows) = refl

-- lists of names
same_more : (xs ys : List (List ℕ)) (x y : List ℕ) → same_names xs ys ≡ true → same_name x y ≡ true → same_names (xs ++ x ∷ []) (ys ++ y ∷ []) ≡ true
same_more [] [] x y h g = rw g refl
same_more [] (b ∷ ys) x y h g = cc
same_more (a ∷ xs) [] x y h g = cc
same_more (a ∷ xs) (b ∷ ys) x y h g =
    let parts : (same_name a b ≡ true) × (same_names xs ys ≡ true) = both _ _ h in
    rw (parts.0, same_more xs ys x y parts.1 g) refl

record Splits (xs : List (List ℕ)) (x : List ℕ) (zs : List (List ℕ)) : Type 0 where
  front : List (List ℕ)
  last : List ℕ
  is : zs ≡ front ++ last ∷ []
  same_front : same_names xs front ≡ true
  same_last : same_name x last ≡ true

splits : (xs : List (List ℕ)) (x : List ℕ) (zs : List (List ℕ)) → same_names (xs ++ x ∷ []) zs ≡ true → Splits xs x zs
splits [] x [] h = cc
splits [] x (z ∷ []) h = record { front = []; last = z; is = refl; same_front = refl; same_last = (both _ _ h).0 }
splits [] x (z ∷ w ∷ zs) h = let g : false ≡ true = (both (same_name x z) false h).1 in cc
splits (a ∷ xs) x [] h = cc
splits (a ∷ xs) x (z ∷ zs) h =
    let parts : (same_name a z ≡ true) × (same_names (xs ++ x ∷ []) zs ≡ true) = both _ _ h in
    let s = splits xs x zs parts.1 in
    record { front = z ∷ s.front; last = s.last; is = ap (λ ws. z ∷ ws) s.is; same_front = both_true (same_name a z) (same_names xs s.front) parts.0 s.same_front; same_last = s.same_last }

none_names : (path : List (List ℕ)) → same_names [] path ≡ true → path ≡ []
none_names [] h = refl
none_names (a ∷ path) h = cc

then_some : {X : Type 0} (o : Option X) → option_and_then (λ c. Some c) o ≡ o
then_some None = refl
then_some (Some x) = refl

pub then_then : {X Y Z : Type 0} (f : X → Option Y) (g : Y → Option Z) (h : X → Option Z) (o : Option X) → ((x : X) → h x ≡ option_and_then g (f x)) → option_and_then h o ≡ option_and_then g (option_and_then f o)
then_then f g h None e = refl
then_then f g h (Some x) e = e x

pub walk-append : (nodes : List NodeRow) (d : ℕ) (ys : List (List ℕ)) (y : List ℕ) → walk nodes d (ys ++ y ∷ []) ≡ option_and_then (λ e. child_number nodes e y) (walk nodes d ys)
walk-append nodes d [] y = then_some (child_number nodes d y)
walk-append nodes d (z ∷ ys) y =
    then_then (λ c. walk nodes c ys) (λ e. child_number nodes e y) (λ c. walk nodes c (ys ++ y ∷ [])) (child_number nodes d z) (λ c. walk-append nodes c ys y)

-- a child that was found
pub record Child (nodes : List NodeRow) (d : ℕ) (name : List ℕ) (r : NodeRow) : Type 0 where
  pub found : node_of nodes r.number ≡ Some r
  pub inner : (r.number == 0) ≡ false
  pub up : r.parent ≡ d
  pub same : same_name r.name name ≡ true

pub child_found : (K : Capacity) (nodes : List NodeRow) (d : ℕ) (name : List ℕ) (r : NodeRow) → IsVolume K nodes → child_of nodes d name ≡ Some r → Child nodes d name r
child_found K nodes d name r v h =
    let test : NodeRow → Bool = λ node. is_child d node && same_name node.name name in
    let t : test r ≡ true = found_passes test nodes r h in
    let parts : (is_child d r ≡ true) × (same_name r.name name ≡ true) = both _ _ t in
    let child : (not (r.number == 0) ≡ true) × ((r.parent == d) ≡ true) = both _ _ parts.0 in
    record { found = found_own number test nodes r v.ascending h; inner = is_false _ child.0; up = eq_is _ _ child.1; same = parts.1 }

-- a node is found by its folder and any spelling of its name
pub child_is : (K : Capacity) (nodes : List NodeRow) (n : ℕ) (r : NodeRow) (name : List ℕ) → IsVolume K nodes → node_of nodes n ≡ Some r → (n == 0) ≡ false → same_name r.name name ≡ true → child_number nodes r.parent name ≡ Some n
child_is K nodes n r name v h inner same =
    let test : NodeRow → Bool = λ node. is_child r.parent node && same_name node.name name in
    let passes : test r ≡ true = rw (is_child_test r.parent n r (found_key number n nodes r h) inner refl, same) refl in
    let f = some_row (find test nodes) (is_some-find test nodes ∙ found_any number test n nodes r h passes) in
    let c = child_found K nodes r.parent name f.row v f.is in
    let is : f.row.number ≡ n = sym (v.alone f.row.number n f.row r c.found h c.inner inner (sym c.up) (same_joined r.name name f.row.name same c.same)) in
    ap (option_map (λ node. node.number)) f.is ∙ ap Some is

pub found_name : (nodes : List NodeRow) (n : ℕ) (r : NodeRow) → node_of nodes n ≡ Some r → name_of nodes n ≡ r.name
found_name nodes n r h = ap (λ o. option_map_or (λ node. node.name) o []) h

-- the walk along a node's path comes to the node
pub walk_complete : (K : Capacity) (nodes : List NodeRow) → IsVolume K nodes → (most n : ℕ) (path : List (List ℕ)) → Has nodes n → length (chain nodes n) ≤ most → same_names (path_of nodes n) path ≡ true → walk nodes 0 path ≡ Some n
walk_complete K nodes v most zero path h l same =
    let is : path ≡ [] = none_names path (ap (λ p. same_names p path) (sym (path_root nodes)) ∙ same) in
    ap (walk nodes 0) is
walk_complete K nodes v zero (suc n) path h l same = absurd (omega (arith, some_member (length nodes) nodes (suc n)))
walk_complete K nodes v (suc most) (suc n) path h l same =
    let up = path_up K nodes n v h in
    let s = splits (path_of nodes (parent_of nodes (suc n))) (name_of nodes (suc n)) path (ap (λ p. same_names p path) (sym up) ∙ same) in
    let f = has_found number (suc n) nodes h in
    let parent : parent_of nodes (suc n) ≡ f.row.parent = found_parent nodes (suc n) f.row f.is in
    let long : length (chain nodes (suc n)) ≡ suc (length (chain nodes (parent_of nodes (suc n)))) = ap length (chain_step nodes n (v.rooted (suc n) h)) in
    let before : walk nodes 0 s.front ≡ Some (parent_of nodes (suc n)) = walk_complete K nodes v most (parent_of nodes (suc n)) s.front ((tree_of K nodes v).closed (suc n) h) (omega arith) s.same_front in
    let child : child_number nodes f.row.parent s.last ≡ Some (suc n) = child_is K nodes (suc n) f.row s.last v f.is (suc_apart n) (ap (λ t. same_name t s.last) (sym (found_name nodes (suc n) f.row f.is)) ∙ s.same_last) in
    ap (walk nodes 0) s.is ∙ (walk-append nodes 0 s.front s.last ∙ (ap (option_and_then (λ e. child_number nodes e s.last)) before ∙ (ap (λ e. child_number nodes e s.last) parent ∙ child)))

-- where the walk comes to, the path is the node's
pub record Walked (nodes : List NodeRow) (n : ℕ) (path : List (List ℕ)) : Type 0 where
  pub has : Has nodes n
  pub same : same_names (path_of nodes n) path ≡ true

pub child_path : (K : Capacity) (nodes : List NodeRow) (n d : ℕ) (r : NodeRow) → IsVolume K nodes → node_of nodes n ≡ Some r → (n == 0) ≡ false → r.parent ≡ d → path_of nodes n ≡ path_of nodes d ++ r.name ∷ []
child_path K nodes zero d r v h i up = cc
child_path K nodes (suc n) d r v h i up =
    path_up K nodes n v (found_has number (suc n) nodes r h)
    ∙ (ap (λ p. path_of nodes p ++ name_of nodes (suc n) ∷ []) (found_parent nodes (suc n) r h ∙ up)
    ∙ ap (λ t. path_of nodes d ++ t ∷ []) (found_name nodes (suc n) r h))

sound_at : (K : Capacity) (nodes : List NodeRow) (d n : ℕ) (name : List ℕ) (names past : List (List ℕ)) (o : Option NodeRow) → IsVolume K nodes → same_names (path_of nodes d) past ≡ true → child_of nodes d name ≡ o → option_and_then (λ c. walk nodes c names) (option_map (λ (node : NodeRow). node.number) o) ≡ Some n
    → ((c : ℕ) → Has nodes c → same_names (path_of nodes c) (past ++ name ∷ []) ≡ true → walk nodes c names ≡ Some n → Walked nodes n ((past ++ name ∷ []) ++ names)) → Walked nodes n (past ++ name ∷ names)
sound_at K nodes d n name names past None v same e h f = cc
sound_at K nodes d n name names past (Some r) v same e h f =
    let c = child_found K nodes d name r v e in
    let path : path_of nodes r.number ≡ path_of nodes d ++ r.name ∷ [] = child_path K nodes r.number d r v c.found c.inner c.up in
    let w = f r.number (found_has number r.number nodes r c.found) (ap (λ p. same_names p (past ++ name ∷ [])) path ∙ same_more (path_of nodes d) past r.name name same c.same) h in
    subst (Walked nodes n) (append_assoc past (name ∷ []) names) w

pub walk_sound : (K : Capacity) (nodes : List NodeRow) → IsVolume K nodes → (path past : List (List ℕ)) (d n : ℕ) → Has nodes d → same_names (path_of nodes d) past ≡ true → walk nodes d path ≡ Some n → Walked nodes n (past ++ path)
walk_sound K nodes v [] past d n has same h =
    let is : d ≡ n = same_Some d n h in
    record { has = subst (Has nodes) is has; same = rw (← is) (subst (λ p. same_names (path_of nodes d) p ≡ true) (sym (no_more past)) same) }
  where
    no_more : (xs : List (List ℕ)) → xs ++ [] ≡ xs
    no_more [] = refl
    no_more (x ∷ xs) = ap (λ ys. x ∷ ys) (no_more xs)
walk_sound K nodes v (name ∷ names) past d n has same h =
    sound_at K nodes d n name names past (child_of nodes d name) v same refl h (λ c hc sc wc. walk_sound K nodes v names (past ++ name ∷ []) c n hc sc wc)

resolve_at : (K : Capacity) (nodes : List NodeRow) → IsVolume K nodes → (path : List (List ℕ)) (o : Option NodeRow) (w : Option ℕ) → find (λ node. same_names (path_of nodes node.number) path) nodes ≡ o → walk nodes 0 path ≡ w → option_map number o ≡ w
resolve_at K nodes v path None None e h = refl
resolve_at K nodes v path None (Some n) e h =
    let test : NodeRow → Bool = λ node. same_names (path_of nodes node.number) path in
    let w = walk_sound K nodes v path [] 0 n v.has_root (rw (path_root nodes) refl) h in
    let f = has_found number n nodes w.has in
    let any : list_any test nodes ≡ true = found_any number test n nodes f.row f.is (ap (λ j. same_names (path_of nodes j) path) (found_key number n nodes f.row f.is) ∙ w.same) in
    absurd (clash (list_any test nodes) any (sym (is_some-find test nodes) ∙ ap is_some e))
resolve_at K nodes v path (Some r) w e h =
    let test : NodeRow → Bool = λ node. same_names (path_of nodes node.number) path in
    let has : Has nodes r.number = found_has number r.number nodes r (found_own number test nodes r v.ascending e) in
    sym (walk_complete K nodes v (length (chain nodes r.number)) r.number path has (omega arith) (found_passes test nodes r e)) ∙ h

-- what a path resolves to is where the walk from the root comes to
pub resolve_is : (K : Capacity) (nodes : List NodeRow) → IsVolume K nodes → (path : List (List ℕ)) → resolve nodes path ≡ walk nodes 0 path
resolve_is K nodes v path = resolve_at K nodes v path (find (λ node. same_names (path_of nodes node.number) path) nodes) (walk nodes 0 path) refl refl
