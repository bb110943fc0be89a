-- Whether a folder has a child, by the entries of listed nodes and of late ones.
use Rattle.std.proofs.Common.{◌≡◌, ℕ, zero, suc, ◌==◌, ◌&&◌, ◌||◌, not, Bool, true, false, cond, filter, inl, inr, All, List, [], ◌∷◌, ◌++◌, find, length, get_or, map, Option, Some, None, refl, sym, ◌∙◌, ap, subst}
use Rattle.std.specs.List.{list_any}
use Rattle.std.specs.Option.{option_map_or}
use Rattle.std.proofs.lemmas.List.Elements.{All-head, All-tail}
use Rattle.std.proofs.lemmas.Option.{same_Some}
use Rattle.fsrm_base.proofs.Look.{found_any, found_key, found_own, found_passes, is_some-find, some_row}
use Rattle.fsrm_base.proofs.TestLaws.{both, both_true, clash, eq_is, eq_test, is_false, is_or, neither, not_true, or_later, suc_apart}
use Rattle.fsrm_base.specs.Keyed.{is_ascending}
use Rattle.fsrm_base.specs.Numbers.{is_in}
use Rattle.fsrm_model.specs.declared.row.NodeRow.{NodeRow}
use Rattle.fsrm_model.specs.nodes.Tree.{children, is_child, node_of, number}
use Rattle.block_list.specs.Runs.{entries_of}
use Rattle.node_order.specs.declared.entries.Entry.{Entry}
use Rattle.node_order.specs.Entries.{IsOwn, Sequence, number_in}
use Rattle.node_order.specs.Order.{is_child_of}
use Rattle.volume_tree.specs.Late.{AreEntered}
use Rattle.volume_tree.proofs.late.Entered.{entered_where}
use Rattle.volume_tree.proofs.late.Numbers.{in_append, in_permuted, inner_numbers, root_out}

or_first : (a b : Bool) → a ≡ true → (a || b) ≡ true
or_first true b h = refl
or_first false b h = cc

-- a test that an item passes
pub any_many : {X : Type 0} (p : X → Bool) (xs : List X) → list_any p xs ≡ not (length (filter p xs) == 0)
any_many p [] = refl
any_many {X} p (x ∷ xs) = at (p x) (any_many p xs)
  where
    at : (b : Bool) → list_any p xs ≡ not (length (filter p xs) == 0) → (b || list_any p xs) ≡ not (length (cond b (x ∷ filter p xs) (filter p xs)) == 0)
    at true h = sym (ap not (suc_apart (length (filter p xs))))
    at false h = h

-- a number of a child
child_of_at : (nodes : List NodeRow) (n folder : ℕ) (o : Option NodeRow) → node_of nodes n ≡ o → option_map_or (λ (row : NodeRow). is_child folder row) o false ≡ true → list_any (is_child folder) nodes ≡ true
child_of_at nodes n folder None e t = cc
child_of_at nodes n folder (Some row) e t = found_any number (is_child folder) n nodes row e t

listed_child : (nodes : List NodeRow) (folder : ℕ) (ns : List ℕ) → list_any (λ n. is_child_of nodes n folder) ns ≡ true → list_any (is_child folder) nodes ≡ true
listed_child nodes folder [] t = cc
listed_child nodes folder (n ∷ ns) t =
    elim (is_or (is_child_of nodes n folder) (list_any (λ m. is_child_of nodes m folder) ns) t) [
      | inl u ↦ child_of_at nodes n folder (node_of nodes n) refl u
      | inr u ↦ listed_child nodes folder ns u
    ]

late_child : (nodes : List NodeRow) (folder : ℕ) (late : List Entry) → All (IsOwn nodes) late → is_in (map number_in late) 0 ≡ false → list_any (λ (e : Entry). e.parent == folder) late ≡ true → list_any (is_child folder) nodes ≡ true
late_child nodes folder [] own none t = cc
late_child nodes folder (e ∷ late) own none t =
    elim (is_or (e.parent == folder) (list_any (λ (x : Entry). x.parent == folder) late) t) [
      | inl u ↦
          let is = All-head (IsOwn nodes) e late own in
          let n : is.row.number ≡ e.node = found_key number e.node nodes is.row is.found in
          let other : (e.node == 0) ≡ false = not_true _ (λ z. clash _ (or_first (e.node == 0) (is_in (map number_in late) 0) z) none) in
          found_any number (is_child folder) e.node nodes is.row is.found
          (both_true (not (is.row.number == 0)) (is.row.parent == folder) (ap (λ i. not (i == 0)) n ∙ ap not other) (ap (λ p. p == folder) (sym is.parent_is) ∙ u))
      | inr u ↦ late_child nodes folder late (All-tail (IsOwn nodes) e late own) (neither (e.node == 0) (is_in (map number_in late) 0) none).1 u
    ]

-- no late node is the root
pub late_inner : (nodes : List NodeRow) (order : Sequence) (late : List Entry) → AreEntered nodes [] order late → is_in (map number_in late) 0 ≡ false
late_inner nodes order late h =
    let listed = entries_of order.runs in
    let waits = map number_in late in
    not_true _ (λ t. clash _ (in_permuted (inner_numbers nodes) (listed ++ waits) 0 h.members ∙ (in_append listed waits 0 ∙ or_later (is_in listed 0) (is_in waits 0) t)) (root_out nodes))

pub some_child : (nodes : List NodeRow) (order : Sequence) (late : List Entry) (folder : ℕ) → AreEntered nodes [] order late → (list_any (λ n. is_child_of nodes n folder) (entries_of order.runs) || list_any (λ (e : Entry). e.parent == folder) late) ≡ true → list_any (is_child folder) nodes ≡ true
some_child nodes order late folder h t =
    elim (is_or (list_any (λ n. is_child_of nodes n folder) (entries_of order.runs)) (list_any (λ (e : Entry). e.parent == folder) late) t) [
      | inl u ↦ listed_child nodes folder (entries_of order.runs) u
      | inr u ↦ late_child nodes folder late h.own (late_inner nodes order late h) u
    ]

-- a child that is listed, or late
in_any : (p : ℕ → Bool) (ns : List ℕ) (n : ℕ) → is_in ns n ≡ true → p n ≡ true → list_any p ns ≡ true
in_any p [] n t u = cc
in_any p (k ∷ ns) n t u =
    elim (is_or (k == n) (is_in ns n) t) [
      | inl e ↦ or_first (p k) (list_any p ns) (ap p (eq_is k n e) ∙ u)
      | inr d ↦ or_later (p k) (list_any p ns) (in_any p ns n d u)
    ]

late_any : (nodes : List NodeRow) (folder n : ℕ) (row : NodeRow) (late : List Entry) → All (IsOwn nodes) late → node_of nodes n ≡ Some row → row.parent ≡ folder → is_in (map number_in late) n ≡ true → list_any (λ (e : Entry). e.parent == folder) late ≡ true
late_any nodes folder n row [] own found up t = cc
late_any nodes folder n row (e ∷ late) own found up t =
    elim (is_or (e.node == n) (is_in (map number_in late) n) t) [
      | inl u ↦
          let is = All-head (IsOwn nodes) e late own in
          let same : is.row ≡ row = same_Some is.row row (sym is.found ∙ (ap (node_of nodes) (eq_is _ _ u) ∙ found)) in
          or_first (e.parent == folder) (list_any (λ (x : Entry). x.parent == folder) late) (eq_test _ _ (is.parent_is ∙ (ap (λ (r : NodeRow). r.parent) same ∙ up)))
      | inr u ↦ or_later (e.parent == folder) (list_any (λ (x : Entry). x.parent == folder) late) (late_any nodes folder n row late (All-tail (IsOwn nodes) e late own) found up u)
    ]

pub no_child : (nodes : List NodeRow) (order : Sequence) (late : List Entry) (folder : ℕ) → is_ascending number nodes ≡ true → AreEntered nodes [] order late → list_any (λ n. is_child_of nodes n folder) (entries_of order.runs) ≡ false → list_any (λ (e : Entry). e.parent == folder) late ≡ false → list_any (is_child folder) nodes ≡ false
no_child nodes order late folder a h none few =
    not_true _ (λ t.
    let f = some_row (find (is_child folder) nodes) (is_some-find (is_child folder) nodes ∙ t) in
    let row = f.row in
    let own = found_own number (is_child folder) nodes row a f.is in
    let test : is_child folder row ≡ true = found_passes (is_child folder) nodes row f.is in
    let p = both (not (row.number == 0)) (row.parent == folder) test in
    elim (entered_where nodes order late row.number row h own (is_false _ p.0)) [
      | inl u ↦ clash _ (in_any (λ n. is_child_of nodes n folder) (entries_of order.runs) row.number u (ap (λ (o : Option NodeRow). option_map_or (λ (r : NodeRow). is_child folder r) o false) own ∙ test)) none
      | inr u ↦ clash _ (late_any nodes folder row.number row late h.own own (eq_is _ _ p.1) u) few
    ])

-- so whether a folder has a child
pub listed_has : (nodes : List NodeRow) (folder : ℕ) (ns : List ℕ) (b : Bool) → b ≡ list_any (λ n. is_child_of nodes n folder) ns → b ≡ true → true ≡ not (length (children nodes folder) == 0)
listed_has nodes folder ns b e t = sym (listed_child nodes folder ns (sym e ∙ t)) ∙ any_many (is_child folder) nodes

pub late_has : (nodes : List NodeRow) (order : Sequence) (late : List Entry) (folder : ℕ) (listed b : Bool) → is_ascending number nodes ≡ true → AreEntered nodes [] order late → listed ≡ list_any (λ n. is_child_of nodes n folder) (entries_of order.runs) → listed ≡ false → b ≡ list_any (λ (e : Entry). e.parent == folder) late → b ≡ not (length (children nodes folder) == 0)
late_has nodes order late folder listed true a h is none e = sym (late_child nodes folder late h.own (late_inner nodes order late h) (sym e)) ∙ any_many (is_child folder) nodes
late_has nodes order late folder listed false a h is none e = sym (no_child nodes order late folder a h (sym is ∙ none) (sym e)) ∙ any_many (is_child folder) nodes
