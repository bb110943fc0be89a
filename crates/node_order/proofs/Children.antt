-- How many children a folder has, and whether one is listed.
use Rattle.std.proofs.Common.{◌≡◌, ℕ, zero, suc, ◌+◌, ◌-◌, ◌<◌, ◌≤◌, ◌==◌, ◌&&◌, ◌||◌, not, Bool, true, false, inl, inr, List, [], ◌∷◌, length, map, slice_get, Option, Some, None, refl, sym, ◌∙◌, ap, subst, arith}
use Rattle.std.specs.List.{Contains, list_any}
use Rattle.std.specs.Option.{option_map_or}
use Rattle.std.proofs.lemmas.Bool.{cases_order}
use Rattle.std.proofs.lemmas.Bool.Decides.{nat_tests}
use Rattle.std.proofs.lemmas.List.{length-map}
use Rattle.std.proofs.lemmas.List.Elements.{All-contains}
use Rattle.std.proofs.lemmas.List.Sorted.{length_permutation}
use Rattle.std.proofs.lemmas.Option.{same_Some}
use Rattle.fsrm_model.specs.declared.row.NodeRow.{NodeRow}
use Rattle.fsrm_model.specs.nodes.Fresh.{root_node}
use Rattle.fsrm_base.specs.Keyed.{is_ascending}
use Rattle.fsrm_base.specs.Numbers.{is_in}
use Rattle.fsrm_base.proofs.Look.{found_key}
use Rattle.fsrm_base.proofs.TestLaws.{both, clash, eq_is, is_false, not_true}
use Rattle.fsrm_model.specs.values.Name.{name_before}
use Rattle.fsrm_model.specs.nodes.Tree.{number, node_of, is_child, children, children_in_order}
use Rattle.node_order.specs.Order.{IsListed, IsOrder, IsPlace, is_child_of}
use Rattle.node_order.proofs.Found.{listed_all}
use Rattle.node_order.proofs.ListLaws.{at, in_place, length-order_entries, order_listed, rows_found, there}
use Rattle.node_order.proofs.Items.{contains_found, contains_head, contains_kept, contains_passing, in_order_moves, passes_kept}
use Rattle.node_order.proofs.Names.{comes_is}
use Rattle.node_order.proofs.SegmentLaws.{Ends, place_ends, ends_ordered, length-children}

-- how many
pub counted : (nodes : List NodeRow) (order : List ℕ) (folder f first end : ℕ) (h : IsOrder nodes order) → is_ascending number nodes ≡ true → f ≡ folder → IsPlace nodes order f [] first → IsPlace nodes order (f + 1) [] end → (first ≤ end) × (end - first ≡ length (children nodes folder))
counted nodes order folder f first end h a e p q =
    let all = order_listed nodes order h a in
    let s = place_ends nodes order folder first all (subst (λ n. IsPlace nodes order n [] first) e p) in
    let t = place_ends nodes order (folder + 1) end all (subst (λ n. IsPlace nodes order (n + 1) [] end) e q) in
    (ends_ordered h.entries folder first end s t, sym (length-children nodes order folder first end h a s t))

-- folders ascend
pub parents_rise : (nodes : List NodeRow) (order : List ℕ) (i j : ℕ) (h : IsListed nodes order) → i < j → j < length h.entries → (at h.entries i).parent ≤ (at h.entries j).parent
parents_rise nodes order i j h l m =
    let x = at h.entries i in
    let y = at h.entries j in
    elim (comes_is x.parent x.name y.parent y.name (h.ascending i j root_node l m)).way [
      | inl n ↦ omega arith
      | inr n ↦ omega (arith, n.0)
    ]

-- whether a child is listed
in_folder : (nodes : List NodeRow) (n folder : ℕ) (row : NodeRow) → node_of nodes n ≡ Some row → is_child_of nodes n folder ≡ is_child folder row
in_folder nodes n folder row f = ap (λ (o : Option NodeRow). option_map_or (λ r. is_child folder r) o false) f

child_at : (nodes : List NodeRow) (order : List ℕ) (k n folder : ℕ) (h : IsListed nodes order) → slice_get order k ≡ Some n → is_child_of nodes n folder ≡ ((at h.entries k).parent == folder)
child_at nodes order k n folder h e =
    let t = there nodes order k n h e in
    in_folder nodes n folder (at h.entries k) t.found ∙ ap (λ b. not b && ((at h.entries k).parent == folder)) (h.inside k root_node t.below)

-- none, if the first place from which folders are as great or greater is the end
none_listed : (p : ℕ → Bool) (ns : List ℕ) → ((k n : ℕ) → slice_get ns k ≡ Some n → p n ≡ false) → false ≡ list_any p ns
none_listed p [] f = refl
none_listed p (n ∷ ns) f = none_listed p ns (λ k m e. f (suc k) m e) ∙ sym (ap (λ b. b || list_any p ns) (f 0 n refl))

some_at : (b c : Bool) → c ≡ true → true ≡ (b || c)
some_at true c h = refl
some_at false c h = sym h

some_listed : (p : ℕ → Bool) (ns : List ℕ) (k n : ℕ) → slice_get ns k ≡ Some n → p n ≡ true → true ≡ list_any p ns
some_listed p [] zero n e h = cc
some_listed p [] (suc k) n e h = cc
some_listed p (m ∷ ns) zero n e h = sym (ap (λ b. b || list_any p ns) (ap p (same_Some m n e) ∙ h))
some_listed p (m ∷ ns) (suc k) n e h = some_at (p m) (list_any p ns) (sym (some_listed p ns k n e h))

other_folder : (p folder : ℕ) → (p ≡ folder → ⊥) → (p == folder) ≡ false
other_folder p folder h = not_true _ (λ t. h (eq_is p folder t))

pub childless_end : (nodes : List NodeRow) (order : List ℕ) (folder place : ℕ) → IsListed nodes order → IsPlace nodes order folder [] place → place ≡ length order → false ≡ list_any (λ n. is_child_of nodes n folder) order
childless_end nodes order folder place h p e =
    let s = place_ends nodes order folder place h p in
    let size = length-order_entries nodes order h in
    none_listed (λ n. is_child_of nodes n folder) order (λ k n g.
    let t = there nodes order k n h g in
    let within = t.below in
    let less = s.below k (omega arith) in
    child_at nodes order k n folder h g ∙ other_folder (at h.entries k).parent folder (λ same. omega arith))

has_at : (nodes : List NodeRow) (order : List ℕ) (folder place n : ℕ) (h : IsListed nodes order) → Ends folder h.entries place → slice_get order place ≡ Some n → (b : Bool) → ((at h.entries place).parent == folder) ≡ b → b ≡ list_any (λ n. is_child_of nodes n folder) order
has_at nodes order folder place n h s e true t = some_listed (λ n. is_child_of nodes n folder) order place n e (child_at nodes order place n folder h e ∙ t)
has_at nodes order folder place n h s e false t =
    let most = s.above place (omega arith) (there nodes order place n h e).below in
    let more : folder < (at h.entries place).parent = grind (arith, nat_tests) in
    none_listed (λ n. is_child_of nodes n folder) order (λ k m g.
    let within = (there nodes order k m h g).below in
    child_at nodes order k m folder h g
    ∙ other_folder (at h.entries k).parent folder (λ same. elim (cases_order k place) [
      | inl is ↦ let up = ap (λ i. (at h.entries i).parent) is in omega arith
      | inr (inl l) ↦ let less = s.below k l in omega arith
      | inr (inr l) ↦ let up = parents_rise nodes order place k h l within in omega arith
    ]))

pub has_there : (nodes : List NodeRow) (order : List ℕ) (folder place n : ℕ) (row : NodeRow) (h : IsListed nodes order) → IsPlace nodes order folder [] place → slice_get order place ≡ Some n → node_of nodes n ≡ Some row → (row.parent == folder) ≡ list_any (λ n. is_child_of nodes n folder) order
has_there nodes order folder place n row h p e f =
    let s = place_ends nodes order folder place h p in
    let is : row ≡ at h.entries place = same_Some _ _ (sym f ∙ (there nodes order place n h e).found) in
    ap (λ (r : NodeRow). r.parent == folder) is ∙ has_at nodes order folder place n h s e ((at h.entries place).parent == folder) refl

-- a folder has a child if a node is one
no_items : {X : Type 0} (xs : List X) → ((x : X) → Contains xs x → ⊥) → length xs ≡ 0
no_items [] h = refl
no_items (x ∷ xs) h = absurd (h x (contains_head x xs))

pub no_children : (nodes : List NodeRow) (folder : ℕ) → is_ascending number nodes ≡ true → ((n : ℕ) → is_child_of nodes n folder ≡ false) → length (children nodes folder) ≡ 0
no_children nodes folder a lacks =
    no_items (children nodes folder) (λ row c.
    let own : node_of nodes row.number ≡ Some row = All-contains (λ (r : NodeRow). node_of nodes r.number ≡ Some r) nodes row (rows_found number nodes a) (contains_kept (is_child folder) nodes row c) in
    clash _ (in_folder nodes row.number folder row own ∙ passes_kept (is_child folder) nodes row c) (lacks row.number))

-- the node of a number that is a child's
pub record ChildNode (nodes : List NodeRow) (n folder : ℕ) : Type 0 where
  pub row : NodeRow
  pub found : node_of nodes n ≡ Some row
  pub child : is_child folder row ≡ true

child_read : (nodes : List NodeRow) (n folder : ℕ) (o : Option NodeRow) → node_of nodes n ≡ o → option_map_or (λ r. is_child folder r) o false ≡ true → ChildNode nodes n folder
child_read nodes n folder None f t = cc
child_read nodes n folder (Some row) f t = record { row = row; found = f; child = t }

pub child_node : (nodes : List NodeRow) (n folder : ℕ) → is_child_of nodes n folder ≡ true → ChildNode nodes n folder
child_node nodes n folder t = child_read nodes n folder (node_of nodes n) refl t

pub some_child : (nodes : List NodeRow) (n folder : ℕ) → is_child_of nodes n folder ≡ true → 0 < length (children nodes folder)
some_child nodes n folder t =
    let c = child_node nodes n folder t in
    let listed = contains_passing (is_child folder) nodes c.row c.child (contains_found (λ r. number r == n) nodes c.row c.found) in
    omega (arith, listed.1)

-- if all nodes are listed, if one of these is
record AnyIn (p : ℕ → Bool) (ns : List ℕ) : Type 0 where
  number : ℕ
  passes : p number ≡ true

any_at : (p : ℕ → Bool) (n : ℕ) (ns : List ℕ) (b : Bool) → p n ≡ b → (b || list_any p ns) ≡ true → (list_any p ns ≡ true → AnyIn p ns) → AnyIn p (n ∷ ns)
any_at p n ns true e h f = record { number = n; passes = e }
any_at p n ns false e h f = let a = f h in record { number = a.number; passes = a.passes }

any_in : (p : ℕ → Bool) (ns : List ℕ) → list_any p ns ≡ true → AnyIn p ns
any_in p [] h = cc
any_in p (n ∷ ns) h = any_at p n ns (p n) refl h (any_in p ns)

none_in : (p : ℕ → Bool) (ns : List ℕ) (n : ℕ) → list_any p ns ≡ false → is_in ns n ≡ true → p n ≡ false
none_in p ns n h i =
    let s = in_place ns n i in
    not_true _ (λ t. clash _ (sym (some_listed p ns s.place n s.is t)) h)

listed_child : (nodes : List NodeRow) (order : List ℕ) (n folder : ℕ) → IsOrder nodes order → is_ascending number nodes ≡ true → is_child_of nodes n folder ≡ true → is_in order n ≡ true
listed_child nodes order n folder h a t =
    let c = child_node nodes n folder t in
    let inner = is_false _ (both _ _ c.child).0 in
    listed_all nodes order n c.row h a c.found (ap (λ i. i == 0) (sym (found_key number n nodes c.row c.found)) ∙ inner)

none_is : (n : ℕ) → n ≡ 0 → false ≡ not (n == 0)
none_is n h = let t : (n == 0) ≡ true = grind (arith, nat_tests) in rw t refl

some_is : (n : ℕ) → 0 < n → true ≡ not (n == 0)
some_is n h = let t : (n == 0) ≡ false = grind (arith, nat_tests) in rw t refl

has_any : (nodes : List NodeRow) (order : List ℕ) (folder : ℕ) (b : Bool) → IsOrder nodes order → is_ascending number nodes ≡ true → list_any (λ n. is_child_of nodes n folder) order ≡ b → b ≡ not (length (children nodes folder) == 0)
has_any nodes order folder true h a t =
    let any = any_in (λ n. is_child_of nodes n folder) order t in
    some_is (length (children nodes folder)) (some_child nodes any.number folder any.passes)
has_any nodes order folder false h a t =
    none_is (length (children nodes folder)) (no_children nodes folder a (λ n. not_true _ (λ u.
    clash _ u (none_in (λ m. is_child_of nodes m folder) order n t (listed_child nodes order n folder h a u)))))

pub order_has : (nodes : List NodeRow) (order : List ℕ) (folder : ℕ) → IsOrder nodes order → is_ascending number nodes ≡ true → list_any (λ n. is_child_of nodes n folder) order ≡ not (length (children nodes folder) == 0)
order_has nodes order folder h a = has_any nodes order folder (list_any (λ n. is_child_of nodes n folder) order) h a refl

-- a folder has as many children in order as without
pub children_many : (nodes : List NodeRow) (folder : ℕ) → length (children_in_order nodes folder) ≡ length (children nodes folder)
children_many nodes folder = length_permutation (children nodes folder) (children_in_order nodes folder) (in_order_moves (λ a b. name_before a.name b.name) (children nodes folder))

pub numbers_many : (nodes : List NodeRow) (folder : ℕ) (numbers : List ℕ) → numbers ≡ map number (children_in_order nodes folder) → length numbers ≡ length (children nodes folder)
numbers_many nodes folder numbers e = ap length e ∙ (length-map (children_in_order nodes folder) number ∙ children_many nodes folder)
