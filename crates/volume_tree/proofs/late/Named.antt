-- Which node has a name, by what the index and the order tell.
use Rattle.std.proofs.Common.{◌≡◌, ℕ, ◌==◌, ◌&&◌, ◌||◌, not, Bool, true, false, cond, filter, inl, inr, All, List, [], ◌∷◌, length, get_or, map, slice_get, Option, Some, None, option_map, refl, sym, ◌∙◌, ap, subst}
use Rattle.std.specs.Prelude.{is_some}
use Rattle.std.specs.List.{list_any}
use Rattle.std.specs.Option.{option_map_or}
use Rattle.std.proofs.lemmas.List.Elements.{All-head, All-tail}
use Rattle.std.proofs.lemmas.Option.{same_Some}
use Rattle.fsrm_base.proofs.Look.{found_any, found_key, found_own, found_passes, is_some-find, some_row}
use Rattle.fsrm_base.proofs.TestLaws.{both, both_true, clash, eq_is, eq_same, eq_test, is_false, is_or, not_true, or_later}
use Rattle.fsrm_base.specs.Keyed.{is_ascending}
use Rattle.fsrm_base.specs.Numbers.{is_in}
use Rattle.fsrm_model.proofs.nodes.Keeps.{same_joined, same_turned}
use Rattle.fsrm_model.proofs.nodes.Resolves.{same_itself}
use Rattle.fsrm_model.specs.declared.row.NodeRow.{NodeRow}
use Rattle.fsrm_model.specs.nodes.Fresh.{root_node}
use Rattle.fsrm_model.specs.nodes.Tree.{child_number, child_of, children, is_child, node_of, number}
use Rattle.fsrm_model.specs.values.Name.{same_name}
use Rattle.block_list.specs.Runs.{entries_of}
use Rattle.name_index.specs.Index.{Indexed}
use Rattle.name_index.specs.Hash.{name_hash}
use Rattle.name_index.specs.Index.{Holds, has_lost}
use Rattle.name_index.proofs.HashLaws.{one_hash}
use Rattle.node_order.specs.declared.entries.Entry.{Entry}
use Rattle.node_order.specs.Entries.{IsOwn, Sequence, number_in}
use Rattle.node_order.specs.Order.{IsListed, IsNamed, LacksName, has_name, is_child_of, is_named}
use Rattle.node_order.proofs.ListLaws.{at, there}
use Rattle.volume_tree.specs.Late.{AreApart, AreEntered, AreFound}
use Rattle.volume_tree.proofs.late.Entered.{entered_where}
use Rattle.volume_tree.proofs.late.Numbers.{in_permuted, inner_numbers, root_out}

-- a node that has a name in a folder
pub record Named (nodes : List NodeRow) (folder : ℕ) (name : List ℕ) (n : ℕ) : Type 0 where
  pub row : NodeRow
  pub found : node_of nodes n ≡ Some row
  pub inner : (n == 0) ≡ false
  pub folder_is : row.parent ≡ folder
  pub named : same_name row.name name ≡ true

named_at : (nodes : List NodeRow) (n folder : ℕ) (name : List ℕ) (o : Option NodeRow) → node_of nodes n ≡ o → option_map_or (λ (row : NodeRow). not (n == 0) && is_named row folder name) o false ≡ true → Named nodes folder name n
named_at nodes n folder name None e t = cc
named_at nodes n folder name (Some row) e t =
    let p = both (not (n == 0)) (is_named row folder name) t in
    let q = both (row.parent == folder) (same_name row.name name) p.1 in
    record { row = row; found = e; inner = is_false _ p.0; folder_is = eq_is _ _ q.0; named = q.1 }

pub has_named : (nodes : List NodeRow) (n folder : ℕ) (name : List ℕ) → has_name nodes n folder name ≡ true → Named nodes folder name n
has_named nodes n folder name t = named_at nodes n folder name (node_of nodes n) refl t

pub named_has : (nodes : List NodeRow) (n folder : ℕ) (name : List ℕ) → Named nodes folder name n → has_name nodes n folder name ≡ true
named_has nodes n folder name c =
    ap (λ (o : Option NodeRow). option_map_or (λ (row : NodeRow). not (n == 0) && is_named row folder name) o false) c.found
    ∙ both_true (not (n == 0)) (is_named c.row folder name) (ap not c.inner) (both_true (c.row.parent == folder) (same_name c.row.name name) (eq_test _ _ c.folder_is) c.named)

-- its name has the hash of the other one
pub named_hash : (nodes : List NodeRow) (n folder : ℕ) (name : List ℕ) (c : Named nodes folder name n) → name_hash c.row.parent c.row.name ≡ name_hash folder name
named_hash nodes n folder name c = ap (λ p. name_hash p c.row.name) c.folder_is ∙ one_hash folder c.row.name name c.named

-- the child of a name is a node that has it
child_at : (nodes : List NodeRow) (folder : ℕ) (name : List ℕ) (n : ℕ) (o : Option NodeRow) → is_ascending number nodes ≡ true → child_of nodes folder name ≡ o → option_map number o ≡ Some n → Named nodes folder name n
child_at nodes folder name n None a f e = cc
child_at nodes folder name n (Some row) a f e =
    let test : NodeRow → Bool = λ node. is_child folder node && same_name node.name name in
    let is : row.number ≡ n = same_Some _ _ e in
    let passes : (is_child folder row ≡ true) × (same_name row.name name ≡ true) = both _ _ (found_passes test nodes row f) in
    let child : (not (row.number == 0) ≡ true) × ((row.parent == folder) ≡ true) = both _ _ passes.0 in
    record {
      row = row;
      found = ap (node_of nodes) (sym is) ∙ found_own number test nodes row a f;
      inner = ap (λ i. i == 0) (sym is) ∙ is_false _ child.0;
      folder_is = eq_is _ _ child.1;
      named = passes.1;
    }

pub child_named : (nodes : List NodeRow) (folder : ℕ) (name : List ℕ) (n : ℕ) → is_ascending number nodes ≡ true → child_number nodes folder name ≡ Some n → Named nodes folder name n
child_named nodes folder name n a e = child_at nodes folder name n (child_of nodes folder name) a refl e

-- and no other one
child_test : (row : NodeRow) (n folder : ℕ) → row.number ≡ n → (n == 0) ≡ false → row.parent ≡ folder → is_child folder row ≡ true
child_test row n folder is other e = both_true (not (row.number == 0)) (row.parent == folder) (ap (λ i. not (i == 0)) is ∙ ap not other) (eq_test _ _ e)

pub named_child : (nodes : List NodeRow) (folder : ℕ) (name : List ℕ) (n : ℕ) → is_ascending number nodes ≡ true → AreApart nodes → Named nodes folder name n → child_number nodes folder name ≡ Some n
named_child nodes folder name n a apart c =
    let test : NodeRow → Bool = λ node. is_child folder node && same_name node.name name in
    let passes : test c.row ≡ true = both_true (is_child folder c.row) (same_name c.row.name name) (child_test c.row n folder (found_key number n nodes c.row c.found) c.inner c.folder_is) c.named in
    let f = some_row (child_of nodes folder name) (is_some-find test nodes ∙ found_any number test n nodes c.row c.found passes) in
    let other = child_named nodes folder name f.row.number a (ap (option_map number) f.is) in
    ap (option_map number) f.is
    ∙ ap Some (apart.alone n f.row.number c.row other.row c.found other.found c.inner other.inner (other.folder_is ∙ sym c.folder_is) (same_joined other.row.name name c.row.name other.named c.named))

pub has_child_number : (nodes : List NodeRow) (folder : ℕ) (name : List ℕ) (n : ℕ) → is_ascending number nodes ≡ true → AreApart nodes → has_name nodes n folder name ≡ true → child_number nodes folder name ≡ Some n
has_child_number nodes folder name n a apart t = named_child nodes folder name n a apart (has_named nodes n folder name t)

-- nobody has the name
none_at : (nodes : List NodeRow) (folder : ℕ) (name : List ℕ) (o : Option ℕ) → child_number nodes folder name ≡ o → ((n : ℕ) → child_number nodes folder name ≡ Some n → ⊥) → child_number nodes folder name ≡ None
none_at nodes folder name None e h = e
none_at nodes folder name (Some n) e h = absurd (h n e)

-- none that the index holds under the name's hash has the name
abbrev pub NoneHeld : List NodeRow → Indexed → ℕ → List ℕ → Type 0
NoneHeld nodes index folder name = (n : ℕ) → Holds index (name_hash folder name) n → has_name nodes n folder name ≡ false

pub none_whole : (nodes : List NodeRow) (late : List Entry) (index : Indexed) (folder : ℕ) (name : List ℕ) → is_ascending number nodes ≡ true → AreFound nodes [] late index → NoneHeld nodes index folder name → has_lost index (name_hash folder name) ≡ false → child_number nodes folder name ≡ None
none_whole nodes late index folder name a found none whole =
    none_at nodes folder name (child_number nodes folder name) refl
    (λ n e.
    let c = child_named nodes folder name n a e in
    let hash = named_hash nodes n folder name c in
    let held = (found.each n c.row c.found c.inner refl).held (ap (has_lost index) hash ∙ whole) in
    clash _ (named_has nodes n folder name c) (none n (subst (λ h. Holds index h n) hash held)))

pub none_told : (nodes : List NodeRow) (order : Sequence) (late : List Entry) (index : Indexed) (folder : ℕ) (name : List ℕ) → is_ascending number nodes ≡ true → AreEntered nodes [] order late → AreFound nodes [] late index → NoneHeld nodes index folder name → LacksName nodes (entries_of order.runs) folder name → child_number nodes folder name ≡ None
none_told nodes order late index folder name a entered found none lacks =
    none_at nodes folder name (child_number nodes folder name) refl
    (λ n e.
    let c = child_named nodes folder name n a e in
    let has = named_has nodes n folder name c in
    elim (entered_where nodes order late n c.row entered c.found c.inner) [
      | inl t ↦ clash _ has (lacks n t)
      | inr t ↦ clash _ has (none n (subst (λ h. Holds index h n) (named_hash nodes n folder name c) ((found.each n c.row c.found c.inner refl).waits t)))
    ])

-- a listed node of the name
pub listed_named : (nodes : List NodeRow) (order : List ℕ) (folder : ℕ) (name : List ℕ) (place n : ℕ) → IsListed nodes order → IsNamed nodes order folder name place → slice_get order place ≡ Some n → Named nodes folder name n
listed_named nodes order folder name place n h named at_place =
    let same : named.number ≡ n = same_Some _ _ (sym named.at ∙ at_place) in
    let t = there nodes order place n h at_place in
    let p = both (named.row.parent == folder) (same_name named.row.name name) named.named in
    record {
      row = named.row;
      found = ap (node_of nodes) (sym same) ∙ named.found;
      inner = ap (λ i. i == 0) (sym t.number_is) ∙ h.inside place root_node t.below;
      folder_is = eq_is _ _ p.0;
      named = p.1;
    }

-- no listed node has the name of one that isn't
pub lacks_apart : (nodes : List NodeRow) (order : List ℕ) (x : ℕ) (row : NodeRow) → AreApart nodes → node_of nodes x ≡ Some row → (x == 0) ≡ false → is_in order x ≡ false → LacksName nodes order row.parent row.name
lacks_apart nodes order x row apart found other out =
    λ n t. not_true _ (λ u.
    let c = has_named nodes n row.parent row.name u in
    let same : n ≡ x = apart.alone x n row c.row found c.found other c.inner c.folder_is c.named in
    clash _ (ap (is_in order) (sym same) ∙ t) out)

-- a node of which no listed one has the name isn't listed
pub lacks_itself : (nodes : List NodeRow) (order : List ℕ) (x : ℕ) (row : NodeRow) → node_of nodes x ≡ Some row → (x == 0) ≡ false → LacksName nodes order row.parent row.name → is_in order x ≡ false
lacks_itself nodes order x row found other lacks =
    not_true _ (λ t. clash _ (named_has nodes x row.parent row.name (record { row = row; found = found; inner = other; folder_is = refl; named = same_itself row.name })) (lacks x t))
