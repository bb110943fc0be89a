-- The child that comes after another one in the order of the folded names, sought among all nodes.
use Rattle.std.proofs.Common.{◌≡◌, ℕ, zero, suc, ◌+◌, ◌-◌, ◌<◌, ◌≤◌, ◌==◌, ◌&&◌, not, Bool, true, false, cond, filter, inl, inr, AllPairs, List, [], ◌∷◌, length, get_or, map, drop, Option, Some, None, add-one, refl, sym, ◌∙◌, ap, subst, arith}
use Rattle.std.specs.Prelude.{IfNone, IfSome, unwrap_or}
use Rattle.std.specs.List.{Contains}
use Rattle.std.specs.Option.{option_map_or}
use Rattle.std.proofs.lemmas.Bool.{cases_lt}
use Rattle.std.proofs.lemmas.List.{drop-map, drop_more, length-drop, length-map}
use Rattle.std.proofs.lemmas.List.Elements.{All-contains}
use Rattle.std.proofs.lemmas.List.Sorted.{Contains-permutation, IsPermutation-sym, length_permutation}
use Rattle.std.proofs.lemmas.Option.{same_Some, slice_get-get_or}
use Rattle.fsrm_base.specs.Keyed.{has_row, is_ascending}
use Rattle.fsrm_base.proofs.Look.{found_has, found_key}
use Rattle.fsrm_base.proofs.TestLaws.{both, both_true, clash, eq_is, is_false, is_or_not, not_true}
use Rattle.fsrm_model.specs.declared.row.NodeRow.{NodeRow}
use Rattle.fsrm_model.specs.nodes.Fresh.{root_node}
use Rattle.fsrm_model.specs.nodes.Tree.{number, node_of, name_of, is_child, children, children_in_order}
use Rattle.fsrm_model.specs.values.Name.{name_before, same_name}
use Rattle.fsrm_model.proofs.nodes.Walks.{found_name}
use Rattle.node_order.proofs.Items.{Comes, Differs, contains_cases, contains_found, contains_head, contains_kept, contains_more, contains_none, contains_passing, in_order_moves, in_order_sorted, pairs_first, pairs_rest, passes_kept}
use Rattle.node_order.proofs.ListLaws.{ascending_pairs, rows_found}
use Rattle.node_order.proofs.Names.{name_before_or_after, name_before_then, name_before_turned}
use Rattle.node_order.proofs.SlotLaws.{there_is, within_slots}
use Rattle.node_order.proofs.SlotRows.{slots_ascend}
use Rattle.std.proofs.lemmas.List.Kept.{AllPairs-filter}
use Rattle.std.proofs.lemmas.List.Elements.{All-contains_itself}
use Rattle.volume_tree.specs.Kept.{AreSlots, rows_of}
use Rattle.volume_tree.specs.Late.{AreApart}
use Rattle.volume_tree.specs.Siblings.{IsNext, comes_after, is_after, numbers_after}
use Rattle.volume_tree.specs.Volume.{IsChildAt}

-- one number more
pub next_not : (nodes : List NodeRow) (folder : ℕ) (last : Option ℕ) (n : ℕ) (next : Option ℕ) → is_after nodes folder last n ≡ false → IsNext nodes folder last n next → IsNext nodes folder last (n + 1) next
next_not nodes folder last n next h i = record {
  none = λ e k l. elim (cases_lt k n) [
    | inl m ↦ i.none e k m
    | inr m ↦ let is : n ≡ k = omega arith in subst (λ j. is_after nodes folder last j ≡ false) is h
  ];
  after = i.after;
  first = λ m k e l t. elim (cases_lt k n) [
    | inl b ↦ i.first m k e b t
    | inr b ↦ let is : k ≡ n = omega arith in absurd (clash _ (subst (λ j. is_after nodes folder last j ≡ true) is t) h)
  ];
}

pub next_kept : (nodes : List NodeRow) (folder : ℕ) (last : Option ℕ) (n : ℕ) (next : Option ℕ) → option_map_or (λ m. name_before (name_of nodes n) (name_of nodes m)) next true ≡ false → IsNext nodes folder last n next → IsNext nodes folder last (n + 1) next
next_kept nodes folder last n None h i = absurd (clash true refl h)
next_kept nodes folder last n (Some m) h i = record {
  none = λ e k l. absurd (no_some m e);
  after = i.after;
  first = λ j k e l t. elim (cases_lt k n) [
    | inl b ↦ i.first j k e b t
    | inr b ↦
        let is : n ≡ k = omega arith in
        subst (λ x. name_before (name_of nodes x) (name_of nodes j) ≡ false) is (subst (λ x. name_before (name_of nodes n) (name_of nodes x) ≡ false) (same_Some m j e) h)
  ];
}
  where
    no_some : (m : ℕ) → Some m ≡ None → ⊥
    no_some m e = cc

not_before_itself : (a : List ℕ) → name_before a a ≡ false
not_before_itself a = not_true _ (λ t. clash _ t (name_before_turned a a t))

-- what isn't before the first one so far isn't before one that comes before it
not_earlier : (nodes : List NodeRow) (folder : ℕ) (last : Option ℕ) (n k : ℕ) (next : Option ℕ) → option_map_or (λ m. name_before (name_of nodes n) (name_of nodes m)) next true ≡ true → IsNext nodes folder last n next → k < n → is_after nodes folder last k ≡ true → name_before (name_of nodes k) (name_of nodes n) ≡ false
not_earlier nodes folder last n k None h i b u = absurd (clash _ u (i.none refl k b))
not_earlier nodes folder last n k (Some m) h i b u =
    not_true _ (λ v. clash _ (name_before_then (name_of nodes k) (name_of nodes n) (name_of nodes m) v h) (i.first m k refl b u))

pub next_new : (nodes : List NodeRow) (folder : ℕ) (last : Option ℕ) (n : ℕ) (next : Option ℕ) → is_after nodes folder last n ≡ true → option_map_or (λ m. name_before (name_of nodes n) (name_of nodes m)) next true ≡ true → IsNext nodes folder last n next → IsNext nodes folder last (n + 1) (Some n)
next_new nodes folder last n next t h i = record {
  none = λ e k l. absurd (no_some n e);
  after = λ m e. subst (λ x. is_after nodes folder last x ≡ true) (same_Some n m e) t;
  first = λ m k e l u.
      subst (λ x. name_before (name_of nodes k) (name_of nodes x) ≡ false) (same_Some n m e)
      (elim (cases_lt k n) [
        | inl b ↦ not_earlier nodes folder last n k next h i b u
        | inr b ↦ let is : n ≡ k = omega arith in subst (λ x. name_before (name_of nodes x) (name_of nodes n) ≡ false) is (not_before_itself (name_of nodes n))
      ]);
}
  where
    no_some : (m : ℕ) → Some m ≡ None → ⊥
    no_some m e = cc

pub next_none : (nodes : List NodeRow) (folder : ℕ) (last : Option ℕ) → IsNext nodes folder last 0 None
next_none nodes folder last = record {
  none = λ e k l. absurd (omega arith);
  after = λ n e. absurd (no_none n e);
  first = λ n k e l t. absurd (omega arith);
}
  where
    no_none : (m : ℕ) → None ≡ Some m → ⊥
    no_none m e = cc

-- children come one before the other
abbrev before : NodeRow → NodeRow → Bool
before a b = name_before a.name b.name

record IsMember (nodes : List NodeRow) (folder : ℕ) (row : NodeRow) : Type 0 where
  own : node_of nodes row.number ≡ Some row
  child : is_child folder row ≡ true

child_member : (nodes : List NodeRow) (folder : ℕ) (row : NodeRow) → is_ascending number nodes ≡ true → Contains (children nodes folder) row → IsMember nodes folder row
child_member nodes folder row a c = record {
  own = All-contains (λ (r : NodeRow). node_of nodes r.number ≡ Some r) nodes row (rows_found number nodes a) (contains_kept (is_child folder) nodes row c);
  child = passes_kept (is_child folder) nodes row c;
}

member : (nodes : List NodeRow) (folder : ℕ) (row : NodeRow) → is_ascending number nodes ≡ true → Contains (children_in_order nodes folder) row → IsMember nodes folder row
member nodes folder row a c =
    let cs = children nodes folder in
    child_member nodes folder row a
    (Contains-permutation (children_in_order nodes folder) cs row (IsPermutation-sym cs (children_in_order nodes folder) (in_order_moves (λ (x y : NodeRow). name_before x.name y.name) cs)) c)

differ : (nodes : List NodeRow) (folder : ℕ) (x y : NodeRow) → AreApart nodes → IsMember nodes folder x → IsMember nodes folder y → x.number < y.number → Differs before x y
differ nodes folder x y apart p q l t =
    let a : (not (x.number == 0) ≡ true) × ((x.parent == folder) ≡ true) = both _ _ p.child in
    let b : (not (y.number == 0) ≡ true) × ((y.parent == folder) ≡ true) = both _ _ q.child in
    let up : x.parent ≡ y.parent = eq_is _ _ a.1 ∙ sym (eq_is _ _ b.1) in
    let other : same_name y.name x.name ≡ false =
    not_true _ (λ s. let is = apart.alone x.number y.number x y p.own q.own (is_false _ a.0) (is_false _ b.0) (sym up) s in omega (arith, is, l)) in
    name_before_or_after y.name x.name t other

children_differ : (nodes : List NodeRow) (folder : ℕ) → is_ascending number nodes ≡ true → AreApart nodes → AllPairs (Differs before) (children nodes folder)
children_differ nodes folder a apart i j d l m =
    let cs = children nodes folder in
    let each = All-contains_itself cs in
    differ nodes folder (get_or cs i d) (get_or cs j d) apart
    (child_member nodes folder (get_or cs i d) a (each i d (omega arith)))
    (child_member nodes folder (get_or cs j d) a (each j d m))
    (AllPairs-filter (λ (x y : NodeRow). x.number < y.number) (is_child folder) nodes (ascending_pairs number nodes a) i j d l m)

children_sorted : (nodes : List NodeRow) (folder : ℕ) → is_ascending number nodes ≡ true → AreApart nodes → AllPairs (Comes before) (children_in_order nodes folder)
children_sorted nodes folder a apart =
    in_order_sorted (λ (x y : NodeRow). name_before x.name y.name) (λ x y z. name_before_then x.name y.name z.name) (children nodes folder) (children_differ nodes folder a apart)

-- what all or none pass
keeps_all : {X : Type 0} (p : X → Bool) (xs : List X) → ((y : X) → Contains xs y → p y ≡ true) → filter p xs ≡ xs
keeps_all p [] h = refl
keeps_all {X} p (x ∷ xs) h = at (p x) (h x (contains_head x xs)) (keeps_all p xs (λ y c. h y (contains_more x xs y c)))
  where
    at : (b : Bool) → b ≡ true → filter p xs ≡ xs → cond b (x ∷ filter p xs) (filter p xs) ≡ x ∷ xs
    at true e h = ap (λ ys. x ∷ ys) h
    at false e h = cc

keeps_none : {X : Type 0} (p : X → Bool) (xs : List X) → ((y : X) → Contains xs y → p y ≡ false) → filter p xs ≡ []
keeps_none p [] h = refl
keeps_none {X} p (x ∷ xs) h = at (p x) (h x (contains_head x xs)) (keeps_none p xs (λ y c. h y (contains_more x xs y c)))
  where
    at : (b : Bool) → b ≡ false → filter p xs ≡ [] → cond b (x ∷ filter p xs) (filter p xs) ≡ []
    at true e h = cc
    at false e h = h

-- sorted items that pass a test that all later ones pass too: the first of them, and those after it
record IsFirst {X : Type 0} (R : X → X → Bool) (p : X → Bool) (xs : List X) (x : X) : Type 0 where
  there : Contains xs x
  passes : p x ≡ true
  first : (y : X) → Contains xs y → p y ≡ true → R y x ≡ false

split_head : {X : Type 0} (R : X → X → Bool) (p : X → Bool) (x y : X) (ys : List X) → ((a b : X) → R a b ≡ true → p a ≡ true → p b ≡ true) → ((a : X) → R a a ≡ false) → AllPairs (Comes R) (y ∷ ys) → y ≡ x → p x ≡ true → filter p (y ∷ ys) ≡ x ∷ filter (R x) (y ∷ ys)
split_head {X} R p x y ys up irr sorted e px =
    let after : (z : X) → Contains ys z → R x z ≡ true = λ z c. ap (λ a. R a z) (sym e) ∙ pairs_first (Comes R) y ys z sorted c in
    let one : filter p ys ≡ ys = keeps_all p ys (λ z c. up x z (after z c) px) in
    let two : filter (R x) ys ≡ ys = keeps_all (R x) ys after in
    let here : p y ≡ true = ap p e ∙ px in
    let gone : R x y ≡ false = ap (R x) e ∙ irr x in
    (ap (λ b. cond b (y ∷ filter p ys) (filter p ys)) here ∙ (ap (λ zs. y ∷ zs) one ∙ ap (λ z. z ∷ ys) e))
    ∙ sym (ap (λ b. x ∷ cond b (y ∷ filter (R x) ys) (filter (R x) ys)) gone ∙ ap (λ zs. x ∷ zs) two)

split : {X : Type 0} (R : X → X → Bool) (p : X → Bool) (xs : List X) (x : X) → ((a b : X) → R a b ≡ true → p a ≡ true → p b ≡ true) → ((a : X) → R a a ≡ false) → ((a b : X) → R a b ≡ true → R b a ≡ false) → AllPairs (Comes R) xs → IsFirst R p xs x → filter p xs ≡ x ∷ filter (R x) xs
split R p [] x up irr asym sorted f = absurd (contains_none x f.there)
split {X} R p (y ∷ ys) x up irr asym sorted f =
    elim (is_or_not (p y)) [
      | inl t ↦ elim (contains_cases y ys x f.there) [
        | inl e ↦ split_head R p x y ys up irr sorted e f.passes
        | inr c ↦ absurd (clash _ (pairs_first (Comes R) y ys x sorted c) (f.first y (contains_head y ys) t))
      ]
      | inr t ↦ elim (contains_cases y ys x f.there) [
        | inl e ↦ absurd (clash _ (ap p e ∙ f.passes) t)
        | inr c ↦
            let rest = split R p ys x up irr asym (pairs_rest (Comes R) y ys sorted) (record { there = c; passes = f.passes; first = λ z d. f.first z (contains_more y ys z d) }) in
            ap (λ b. cond b (y ∷ filter p ys) (filter p ys)) t
            ∙ (rest ∙ sym (ap (λ b. x ∷ cond b (y ∷ filter (R x) ys) (filter (R x) ys)) (asym y x (pairs_first (Comes R) y ys x sorted c))))
      ]
    ]

-- who comes after a child that comes after the last one does too
later_too : (nodes : List NodeRow) (last : Option ℕ) (a b : List ℕ) → name_before a b ≡ true → comes_after nodes last a ≡ true → comes_after nodes last b ≡ true
later_too nodes None a b h t = refl
later_too nodes (Some n) a b h t = name_before_then (name_of nodes n) a b t h

-- a child that comes after the last one
record AfterChild (nodes : List NodeRow) (folder : ℕ) (last : Option ℕ) (n : ℕ) : Type 0 where
  row : NodeRow
  found : node_of nodes n ≡ Some row
  child : is_child folder row ≡ true
  after : comes_after nodes last row.name ≡ true

after_read : (nodes : List NodeRow) (folder : ℕ) (last : Option ℕ) (n : ℕ) (o : Option NodeRow) → node_of nodes n ≡ o → option_map_or (λ row. is_child folder row && comes_after nodes last row.name) o false ≡ true → AfterChild nodes folder last n
after_read nodes folder last n None f t = cc
after_read nodes folder last n (Some row) f t = let p = both (is_child folder row) (comes_after nodes last row.name) t in record { row = row; found = f; child = p.0; after = p.1 }

member_after : (nodes : List NodeRow) (folder : ℕ) (last : Option ℕ) (row : NodeRow) → IsMember nodes folder row → comes_after nodes last row.name ≡ true → is_after nodes folder last row.number ≡ true
member_after nodes folder last row m t =
    ap (λ (o : Option NodeRow). option_map_or (λ r. is_child folder r && comes_after nodes last r.name) o false) m.own ∙ both_true _ _ m.child t

next_is : (nodes : List NodeRow) (folder : ℕ) (last : Option ℕ) (bound n : ℕ) → is_ascending number nodes ≡ true → AreApart nodes → ((k : ℕ) → has_row number k nodes ≡ true → k < bound) → IsNext nodes folder last bound (Some n) → numbers_after nodes folder last ≡ n ∷ numbers_after nodes folder (Some n)
next_is nodes folder last bound n a apart below i =
    let s = after_read nodes folder last n (node_of nodes n) refl (i.after n refl) in
    let cs = children_in_order nodes folder in
    let p : NodeRow → Bool = λ node. comes_after nodes last node.name in
    let there : Contains cs s.row =
    Contains-permutation (children nodes folder) cs s.row (in_order_moves (λ (x y : NodeRow). name_before x.name y.name) (children nodes folder))
    (contains_passing (is_child folder) nodes s.row s.child (contains_found (λ r. number r == n) nodes s.row s.found)) in
    let name_is = found_name nodes n s.row s.found in
    let parts : filter p cs ≡ s.row ∷ filter (before s.row) cs =
    split before p cs s.row (λ x y. later_too nodes last x.name y.name) (λ x. not_before_itself x.name) (λ x y. name_before_turned x.name y.name) (children_sorted nodes folder a apart)
    (record {
      there = there;
      passes = s.after;
      first = λ y c t.
          let m = member nodes folder y a c in
          let later = i.first n y.number refl (below y.number (found_has number y.number nodes y m.own)) (member_after nodes folder last y m t) in
          subst (λ nm. name_before nm s.row.name ≡ false) (found_name nodes y.number y m.own) (subst (λ nm. name_before (name_of nodes y.number) nm ≡ false) name_is later);
    }) in
    subst (λ nm. map number (filter p cs) ≡ n ∷ map number (filter (λ (node : NodeRow). name_before nm node.name) cs)) (sym name_is)
    (ap (map number) parts ∙ ap (λ k. k ∷ map number (filter (before s.row) cs)) (found_key number n nodes s.row s.found))

last_is : (nodes : List NodeRow) (folder : ℕ) (last : Option ℕ) (bound : ℕ) → is_ascending number nodes ≡ true → ((k : ℕ) → has_row number k nodes ≡ true → k < bound) → IsNext nodes folder last bound None → numbers_after nodes folder last ≡ []
last_is nodes folder last bound a below i =
    let cs = children_in_order nodes folder in
    ap (map number) (keeps_none (λ (node : NodeRow). comes_after nodes last node.name) cs (λ y c.
    let m = member nodes folder y a c in
    not_true _ (λ t. clash _ (member_after nodes folder last y m t) (i.none refl y.number (below y.number (found_has number y.number nodes y m.own))))))

below_slots : (slots : List (Option NodeRow)) (bound : ℕ) → AreSlots 0 slots → length slots ≤ bound → (k : ℕ) → has_row number k (rows_of slots) ≡ true → k < bound
below_slots slots bound are l k h = let m = within_slots k slots (there_is k slots are ∙ h) in omega arith

pub some_next : (slots : List (Option NodeRow)) (folder : ℕ) (last : Option ℕ) (bound : ℕ) (next : Option ℕ) → AreSlots 0 slots → AreApart (rows_of slots) → length slots ≤ bound → IsNext (rows_of slots) folder last bound next → IfSome next (λ n. numbers_after (rows_of slots) folder last ≡ n ∷ numbers_after (rows_of slots) folder (Some n))
some_next slots folder last bound None are apart l i = tt
some_next slots folder last bound (Some n) are apart l i = next_is (rows_of slots) folder last bound n (slots_ascend slots are) apart (below_slots slots bound are l) i

pub none_next : (slots : List (Option NodeRow)) (folder : ℕ) (last : Option ℕ) (bound : ℕ) (next : Option ℕ) → AreSlots 0 slots → length slots ≤ bound → IsNext (rows_of slots) folder last bound next → IfNone next (numbers_after (rows_of slots) folder last ≡ [])
none_next slots folder last bound None are l i = last_is (rows_of slots) folder last bound (slots_ascend slots are) (below_slots slots bound are l) i
none_next slots folder last bound (Some n) are l i = tt

-- at first all children are left
pub all_after : (nodes : List NodeRow) (folder : ℕ) → numbers_after nodes folder None ≡ map number (children_in_order nodes folder)
all_after nodes folder = ap (map number) (keeps_all (λ (node : NodeRow). comes_after nodes None node.name) (children_in_order nodes folder) (λ y c. refl))

pub many_after : (nodes : List NodeRow) (folder : ℕ) → length (numbers_after nodes folder None) ≡ length (children nodes folder)
many_after nodes folder =
    ap length (all_after nodes folder)
    ∙ (length-map (children_in_order nodes folder) number
    ∙ length_permutation (children nodes folder) (children_in_order nodes folder) (in_order_moves (λ (x y : NodeRow). name_before x.name y.name) (children nodes folder)))

-- one child after the other
drop_after : (r : ℕ) (ns : List ℕ) → drop (suc r) ns ≡ drop 1 (drop r ns)
drop_after zero ns = refl
drop_after (suc r) [] = refl
drop_after (suc r) (n ∷ ns) = drop_after r ns

drop_next : (r : ℕ) (ns : List ℕ) → drop (r + 1) ns ≡ drop 1 (drop r ns)
drop_next r ns = rw add-one (drop_after r ns)

pub rank_next : (nodes : List NodeRow) (folder : ℕ) (last next : Option ℕ) (r : ℕ) → numbers_after nodes folder last ≡ drop r (numbers_after nodes folder None) → r < length (numbers_after nodes folder None) → IfSome next (λ n. numbers_after nodes folder last ≡ n ∷ numbers_after nodes folder (Some n)) → IfNone next (numbers_after nodes folder last ≡ []) → numbers_after nodes folder next ≡ drop (r + 1) (numbers_after nodes folder None)
rank_next nodes folder last None r is l some none =
    let all = numbers_after nodes folder None in
    absurd (omega (arith, l, length-drop r all, ap length is, ap length none))
rank_next nodes folder last (Some n) r is l some none =
    let all = numbers_after nodes folder None in
    sym (drop_next r all ∙ ap (drop 1) (sym is ∙ some))

-- which stands at a place
child_ranked : (nodes : List NodeRow) (folder place : ℕ) (row : NodeRow) (n : ℕ) (rest : List ℕ) → is_ascending number nodes ≡ true → place < length (children_in_order nodes folder) → drop place (map number (children_in_order nodes folder)) ≡ n ∷ rest → IsChildAt nodes folder place n
child_ranked nodes folder place row n rest a l e =
    let cs = children_in_order nodes folder in
    let here : drop place cs ≡ get_or cs place row ∷ drop (place + 1) cs = drop_more cs place row l in
    let ns : number (get_or cs place row) ∷ map number (drop (place + 1) cs) ≡ n ∷ rest = sym (ap (map number) here) ∙ (sym (drop-map number place cs) ∙ e) in
    let same : (get_or cs place row).number ≡ n = cc in
    let m = member nodes folder (get_or cs place row) a (All-contains_itself cs place row l) in
    record {
      row = get_or cs place row;
      at = slice_get-get_or cs place row l;
      number_is = same;
      found = ap (node_of nodes) (sym same) ∙ m.own;
    }

pub child_at_rank : (nodes : List NodeRow) (folder : ℕ) (last next : Option ℕ) (place : ℕ) → is_ascending number nodes ≡ true → place < length (children nodes folder) → numbers_after nodes folder last ≡ drop place (numbers_after nodes folder None) → IfSome next (λ n. numbers_after nodes folder last ≡ n ∷ numbers_after nodes folder (Some n)) → IfNone next (numbers_after nodes folder last ≡ []) → IsChildAt nodes folder place (unwrap_or next 0)
child_at_rank nodes folder last None place a l is some none =
    let all = numbers_after nodes folder None in
    absurd (omega (arith, l, many_after nodes folder, length-drop place all, ap length is, ap length none))
child_at_rank nodes folder last (Some n) place a l is some none =
    let cs = children_in_order nodes folder in
    let size = length_permutation (children nodes folder) cs (in_order_moves (λ (x y : NodeRow). name_before x.name y.name) (children nodes folder)) in
    child_ranked nodes folder place root_node n (numbers_after nodes folder (Some n)) a (omega (arith, l, size)) (ap (drop place) (sym (all_after nodes folder)) ∙ (sym is ∙ some))
