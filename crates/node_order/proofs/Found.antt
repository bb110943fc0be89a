-- Which child has a name, by what is listed.
use Rattle.std.proofs.Common.{◌≡◌, ℕ, ◌<◌, ◌==◌, ◌&&◌, not, Bool, true, false, inl, inr, List, length, slice_get, Option, Some, None, option_map, refl, sym, ◌∙◌, ap, subst, arith}
use Rattle.std.specs.Prelude.{is_some}
use Rattle.std.specs.Option.{option_map_or}
use Rattle.std.proofs.lemmas.Bool.{cases_order}
use Rattle.std.proofs.lemmas.List.{get_or_default}
use Rattle.std.proofs.lemmas.Option.{same_Some, slice_get-get_or}
use Rattle.fsrm_model.specs.declared.row.NodeRow.{NodeRow}
use Rattle.fsrm_model.specs.nodes.Fresh.{root_node}
use Rattle.fsrm_base.specs.Keyed.{is_ascending}
use Rattle.fsrm_base.specs.Numbers.{is_in}
use Rattle.fsrm_model.specs.values.Name.{same_name}
use Rattle.fsrm_model.specs.nodes.Tree.{number, node_of, is_child, child_of, child_number}
use Rattle.fsrm_base.proofs.Look.{found_any, found_key, found_own, found_passes, is_some-find}
use Rattle.fsrm_base.proofs.TestLaws.{eq_is, eq_same, clash, both, is_false, is_or_not}
use Rattle.fsrm_model.proofs.nodes.Keeps.{same_turned}
use Rattle.fsrm_model.proofs.nodes.Resolves.{same_itself}
use Rattle.node_order.specs.Order.{IsListed, IsNamed, IsOrder, LacksName, has_name, is_named}
use Rattle.node_order.proofs.ListLaws.{at, entry_of, length-order_entries, number_there, order_listed, place_in, there}
use Rattle.node_order.proofs.Names.{comes_apart, names_same}

-- no two nodes but the root have one name in one folder
abbrev pub AreAlone : List NodeRow → Type 0
AreAlone nodes = (n m : ℕ) (r s : NodeRow) → node_of nodes n ≡ Some r → node_of nodes m ≡ Some s → (n == 0) ≡ false → (m == 0) ≡ false → s.parent ≡ r.parent → same_name s.name r.name ≡ true → m ≡ n

-- a node that has a name in a folder
pub record NamedNode (nodes : List NodeRow) (n folder : ℕ) (name : List ℕ) : Type 0 where
  pub row : NodeRow
  pub found : node_of nodes n ≡ Some row
  pub inner : (n == 0) ≡ false
  pub folder_is : row.parent ≡ folder
  pub named : same_name row.name name ≡ true

named_read : (nodes : List NodeRow) (n folder : ℕ) (name : List ℕ) (o : Option NodeRow) → node_of nodes n ≡ o → option_map_or (λ row. not (n == 0) && is_named row folder name) o false ≡ true → NamedNode nodes n folder name
named_read nodes n folder name None f t = cc
named_read nodes n folder name (Some row) f t =
    let p = both _ _ t in
    let q = both _ _ p.1 in
    record { row = row; found = f; inner = is_false _ p.0; folder_is = eq_is _ _ q.0; named = q.1 }

pub named_node : (nodes : List NodeRow) (n folder : ℕ) (name : List ℕ) → has_name nodes n folder name ≡ true → NamedNode nodes n folder name
named_node nodes n folder name t = named_read nodes n folder name (node_of nodes n) refl t

named_test : (n p folder : ℕ) (b : Bool) → (n == 0) ≡ false → p ≡ folder → b ≡ true → (not (n == 0) && ((p == folder) && b)) ≡ true
named_test n p folder b h e t = rw (h, e, t, eq_same folder) refl

pub node_named : (nodes : List NodeRow) (n folder : ℕ) (name : List ℕ) → NamedNode nodes n folder name → has_name nodes n folder name ≡ true
node_named nodes n folder name s =
    ap (λ (o : Option NodeRow). option_map_or (λ r. not (n == 0) && is_named r folder name) o false) s.found
    ∙ named_test n s.row.parent folder (same_name s.row.name name) s.inner s.folder_is s.named

-- the child that is found has the name
child_node : (nodes : List NodeRow) (folder : ℕ) (name : List ℕ) (row : NodeRow) → is_ascending number nodes ≡ true → child_of nodes folder name ≡ Some row → NamedNode nodes row.number folder name
child_node nodes folder name row a f =
    let test : NodeRow → Bool = λ node. is_child folder node && same_name node.name name in
    let passes : (is_child folder row ≡ true) × (same_name row.name name ≡ true) = both _ _ (found_passes test nodes row f) in
    let child : (not (row.number == 0) ≡ true) × ((row.parent == folder) ≡ true) = both _ _ passes.0 in
    record { row = row; found = found_own number test nodes row a f; inner = is_false _ child.0; folder_is = eq_is _ _ child.1; named = passes.1 }

child_at : (nodes : List NodeRow) (folder : ℕ) (name : List ℕ) (n : ℕ) (o : Option NodeRow) → is_ascending number nodes ≡ true → child_of nodes folder name ≡ o → option_map number o ≡ Some n → NamedNode nodes n folder name
child_at nodes folder name n None a f e = cc
child_at nodes folder name n (Some row) a f e = subst (λ m. NamedNode nodes m folder name) (same_Some _ _ e) (child_node nodes folder name row a f)

pub named_child : (nodes : List NodeRow) (folder : ℕ) (name : List ℕ) (n : ℕ) → is_ascending number nodes ≡ true → child_number nodes folder name ≡ Some n → NamedNode nodes n folder name
named_child nodes folder name n a e = child_at nodes folder name n (child_of nodes folder name) a refl e

-- the only node that has the name is the child
only_at : (nodes : List NodeRow) (folder : ℕ) (name : List ℕ) (n : ℕ) (o : Option NodeRow) → is_ascending number nodes ≡ true → AreAlone nodes → NamedNode nodes n folder name → child_of nodes folder name ≡ o → is_some o ≡ true → option_map number o ≡ Some n
only_at nodes folder name n None a alone s f some = cc
only_at nodes folder name n (Some row) a alone s f some =
    let c = child_node nodes folder name row a f in
    ap Some (alone n row.number s.row c.row s.found c.found s.inner c.inner (c.folder_is ∙ sym s.folder_is) (names_same c.row.name s.row.name name c.named s.named))

child_test : (row : NodeRow) (n folder : ℕ) (b : Bool) → row.number ≡ n → (n == 0) ≡ false → row.parent ≡ folder → b ≡ true → (is_child folder row && b) ≡ true
child_test row n folder b k h e t = rw (k, h, e, t, eq_same folder) refl

pub child_is : (nodes : List NodeRow) (folder : ℕ) (name : List ℕ) (n : ℕ) → is_ascending number nodes ≡ true → AreAlone nodes → has_name nodes n folder name ≡ true → child_number nodes folder name ≡ Some n
child_is nodes folder name n a alone t =
    let test : NodeRow → Bool = λ node. is_child folder node && same_name node.name name in
    let s = named_node nodes n folder name t in
    let passes : test s.row ≡ true = child_test s.row n folder (same_name s.row.name name) (found_key number n nodes s.row s.found) s.inner s.folder_is s.named in
    only_at nodes folder name n (child_of nodes folder name) a alone s refl (is_some-find test nodes ∙ found_any number test n nodes s.row s.found passes)

-- no child has the name if no node has
none_at : (nodes : List NodeRow) (folder : ℕ) (name : List ℕ) (o : Option NodeRow) → is_ascending number nodes ≡ true → ((n : ℕ) → has_name nodes n folder name ≡ false) → child_of nodes folder name ≡ o → option_map number o ≡ None
none_at nodes folder name None a lacks f = refl
none_at nodes folder name (Some row) a lacks f =
    absurd (clash _ (node_named nodes row.number folder name (child_node nodes folder name row a f)) (lacks row.number))

pub no_child : (nodes : List NodeRow) (folder : ℕ) (name : List ℕ) → is_ascending number nodes ≡ true → ((n : ℕ) → has_name nodes n folder name ≡ false) → child_number nodes folder name ≡ None
no_child nodes folder name a lacks = none_at nodes folder name (child_of nodes folder name) a lacks refl

-- what a listed entry tells
pub named_listed : (nodes : List NodeRow) (order : List ℕ) (folder : ℕ) (name : List ℕ) (place : ℕ) → IsListed nodes order → (s : IsNamed nodes order folder name place) → has_name nodes s.number folder name ≡ true
named_listed nodes order folder name place h s =
    let t = there nodes order place s.number h s.at in
    let inner : (s.number == 0) ≡ false = ap (λ i. i == 0) (sym t.number_is) ∙ h.inside place root_node t.below in
    let p = both _ _ s.named in
    node_named nodes s.number folder name (record { row = s.row; found = s.found; inner = inner; folder_is = eq_is _ _ p.0; named = p.1 })

pub found_child : (nodes : List NodeRow) (order : List ℕ) (folder : ℕ) (name : List ℕ) (place : ℕ) → IsListed nodes order → is_ascending number nodes ≡ true → AreAlone nodes → IsNamed nodes order folder name place → child_number nodes folder name ≡ slice_get order place
found_child nodes order folder name place h a alone s =
    child_is nodes folder name s.number a alone (named_listed nodes order folder name place h s) ∙ sym s.at

-- if all nodes are listed, their places tell that no two have one name
alone_at : (nodes : List NodeRow) (order : List ℕ) (i j : ℕ) (h : IsOrder nodes order) → i < j → j < length h.entries → (at h.entries i).parent ≡ (at h.entries j).parent → same_name (at h.entries i).name (at h.entries j).name ≡ true → ⊥
alone_at nodes order i j h l m e t =
    let x = at h.entries i in
    let y = at h.entries j in
    clash _ t (comes_apart x.parent x.name y.parent y.name (h.ascending i j root_node l m) e)

pub order_alone : (nodes : List NodeRow) (order : List ℕ) → IsOrder nodes order → AreAlone nodes
order_alone nodes order h n m r s f g inner other folder name =
    let e = entry_of nodes order n r h f inner in
    let d = entry_of nodes order m s h g other in
    let is : at h.entries e.0 ≡ r = get_or_default h.entries e.0 root_node r e.1 ∙ e.2 in
    let also : at h.entries d.0 ≡ s = get_or_default h.entries d.0 root_node s d.1 ∙ d.2 in
    elim (cases_order e.0 d.0) [
      | inl same ↦
          let one : s ≡ r = sym also ∙ (ap (at h.entries) (sym same) ∙ is) in
          sym (found_key number m nodes s g) ∙ (ap (λ (x : NodeRow). x.number) one ∙ found_key number n nodes r f)
      | inr (inl l) ↦
          absurd (alone_at nodes order e.0 d.0 h l d.1 (ap (λ (x : NodeRow). x.parent) is ∙ (sym folder ∙ ap (λ (x : NodeRow). x.parent) (sym also)))
          (ap (λ (x : NodeRow). same_name x.name (at h.entries d.0).name) is ∙ (ap (λ (x : NodeRow). same_name r.name x.name) also ∙ same_turned s.name r.name name)))
      | inr (inr l) ↦
          absurd (alone_at nodes order d.0 e.0 h l e.1 (ap (λ (x : NodeRow). x.parent) also ∙ (folder ∙ ap (λ (x : NodeRow). x.parent) (sym is)))
          (ap (λ (x : NodeRow). same_name x.name (at h.entries e.0).name) also ∙ (ap (λ (x : NodeRow). same_name s.name x.name) is ∙ name)))
    ]

pub has_name_found : (nodes : List NodeRow) (order : List ℕ) (folder : ℕ) (name : List ℕ) (n : ℕ) → IsOrder nodes order → is_ascending number nodes ≡ true → has_name nodes n folder name ≡ true → child_number nodes folder name ≡ Some n
has_name_found nodes order folder name n h a t = child_is nodes folder name n a (order_alone nodes order h) t

pub order_found : (nodes : List NodeRow) (order : List ℕ) (folder : ℕ) (name : List ℕ) (place : ℕ) → IsOrder nodes order → is_ascending number nodes ≡ true → IsNamed nodes order folder name place → child_number nodes folder name ≡ slice_get order place
order_found nodes order folder name place h a s = found_child nodes order folder name place (order_listed nodes order h a) a (order_alone nodes order h) s

-- and nobody has a name that no listed one has
pub listed_all : (nodes : List NodeRow) (order : List ℕ) (n : ℕ) (row : NodeRow) → IsOrder nodes order → is_ascending number nodes ≡ true → node_of nodes n ≡ Some row → (n == 0) ≡ false → is_in order n ≡ true
listed_all nodes order n row h a f inner =
    let all = order_listed nodes order h a in
    let e = entry_of nodes order n row h f inner in
    let size = length-order_entries nodes order all in
    let within = e.1 in
    let l : e.0 < length order = omega arith in
    let is : at h.entries e.0 ≡ row = get_or_default h.entries e.0 root_node row e.1 ∙ e.2 in
    place_in order e.0 n (slice_get-get_or order e.0 0 l ∙ ap Some (number_there nodes order e.0 0 all l ∙ (ap number is ∙ found_key number n nodes row f)))

pub order_lacks : (nodes : List NodeRow) (order : List ℕ) (folder : ℕ) (name : List ℕ) → IsOrder nodes order → is_ascending number nodes ≡ true → LacksName nodes order folder name → child_number nodes folder name ≡ None
order_lacks nodes order folder name h a lacks =
    no_child nodes folder name a (λ n. elim (is_or_not (has_name nodes n folder name)) [
      | inl t ↦ let s = named_node nodes n folder name t in absurd (clash _ t (lacks n (listed_all nodes order n s.row h a s.found s.inner)))
      | inr f ↦ f
    ])

-- a node is the child of its own name
pub own_child : (nodes : List NodeRow) (order : List ℕ) (n : ℕ) (row : NodeRow) → is_ascending number nodes ≡ true → IsOrder nodes order → node_of nodes n ≡ Some row → (n == 0) ≡ false → child_number nodes row.parent row.name ≡ Some n
own_child nodes order n row a h found other =
    has_name_found nodes order row.parent row.name n h a
    (node_named nodes n row.parent row.name (record { row = row; found = found; inner = other; folder_is = refl; named = same_itself row.name }))
