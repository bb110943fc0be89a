-- Listed nodes and their entries, after the nodes or the list have changed.
use Rattle.std.proofs.Common.{◌≡◌, ℕ, zero, suc, ◌<◌, ◌≤◌, ◌==◌, ◌&&◌, not, nat_lt, Bool, true, false, cond, inl, inr, All, AllPairs, List, [], ◌∷◌, length, get_or, insert, remove, map, slice_get, Option, Some, None, refl, sym, ◌∙◌, ap, subst, arith}
use Rattle.std.specs.Prelude.{if◌then◌else◌, option_map}
use Rattle.std.specs.Option.{option_map_or}
use Rattle.std.specs.List.{Contains}
use Rattle.std.proofs.lemmas.List.{get_or_default, get_or-map, length-map}
use Rattle.std.proofs.lemmas.List.Edits.{length-remove}
use Rattle.std.proofs.lemmas.List.Elements.{All-map}
use Rattle.std.proofs.lemmas.List.Quantifiers.{all_pairs_remove}
use Rattle.fsrm_base.proofs.Look.{found_key, row_of-change}
use Rattle.fsrm_base.proofs.TestLaws.{clash, eq_is, eq_same, eq_test, is_apart, not_true}
use Rattle.fsrm_base.specs.Keyed.{with_change}
use Rattle.fsrm_base.specs.Numbers.{is_in}
use Rattle.fsrm_model.proofs.nodes.Keeps.{KeepsNode}
use Rattle.fsrm_model.specs.declared.row.NodeRow.{NodeRow}
use Rattle.fsrm_model.specs.nodes.Fresh.{root_node}
use Rattle.fsrm_model.specs.nodes.Tree.{number, node_of}
use Rattle.fsrm_model.specs.values.Name.{same_name}
use Rattle.block_list.specs.Runs.{entries_of}
use Rattle.name_rules.specs.Prefix.{prefix}
use Rattle.node_order.specs.declared.entries.Entry.{Entry}
use Rattle.node_order.specs.Entries.{AreOwn, IsOwn, Sequence, number_in}
use Rattle.node_order.specs.Order.{IsListed, IsPlace, LacksName, has_name, is_before, is_named}
use Rattle.node_order.proofs.Edits.{all_insert, map-insert, map-map_same, map-remove, pairs_insert, removed}
use Rattle.node_order.proofs.ListLaws.{at, length-order_entries, number_there, place_divides}
use Rattle.node_order.proofs.Names.{comes_or_after}
use Rattle.volume_tree.proofs.late.Numbers.{in_contains}

abbrev Before : NodeRow → NodeRow → Type 0
Before a b = is_before a b.parent b.name ≡ true

-- what all have of a list, those have that are left of it
pub all_left : {X : Type 0} (P : X → Type 0) (xs : List X) (place : ℕ) → place < length xs → All P xs → All P (remove xs place)
all_left P xs place within all k d l =
    let less = length-remove xs place within in
    let r = removed xs place d k within in
    let inside : r.place < length xs = elim r.cases [ inl u ↦ omega (arith, u.1, l, less, u.0) | inr u ↦ omega (arith, u.1, l, less) ] in
    subst P (sym r.is) (all r.place d inside)

-- nodes that are the same but for that of one number
abbrev pub SameBut : List NodeRow → List NodeRow → ℕ → Type 0
SameBut nodes more x = (m : ℕ) → (m == x) ≡ false → node_of more m ≡ node_of nodes m

-- a listed number
pub number_in_list : (nodes : List NodeRow) (order : List ℕ) (h : IsListed nodes order) (k : ℕ) → k < length h.entries → is_in order (at h.entries k).number ≡ true
number_in_list nodes order h k l =
    let size = length-order_entries nodes order h in
    let n = (at h.entries k).number in
    in_contains order n (k, omega (arith, l, size), number_there nodes order k n h (omega (arith, l, size)))

-- a node that isn't listed is another one, or gone
pub listed_but : (nodes more : List NodeRow) (order : List ℕ) (x : ℕ) → SameBut nodes more x → is_in order x ≡ false → IsListed nodes order → IsListed more order
listed_but nodes more order x same out h =
    record {
      entries = h.entries;
      numbers = h.numbers;
      there = λ k d l.
          let r = get_or h.entries k d in
          let is : at h.entries k ≡ r = get_or_default h.entries k root_node d l in
          let other : (r.number == x) ≡ false = not_true _ (λ t. clash _ (ap (λ (y : NodeRow). is_in order y.number) (sym is) ∙ number_in_list nodes order h k l) (ap (is_in order) (eq_is _ _ t) ∙ out)) in
          same r.number other ∙ h.there k d l;
      inside = h.inside;
      ascending = h.ascending;
    }

-- a change that keeps folders and names
kept_at : (c : NodeRow → NodeRow) → KeepsNode c → (r : NodeRow) (b : Bool) → ((cond b (c r) r).number ≡ r.number) × (((cond b (c r) r).parent ≡ r.parent) × ((cond b (c r) r).name ≡ r.name))
kept_at c keeps r true = (keeps.same_number r, (keeps.same_parent r, keeps.same_name r))
kept_at c keeps r false = (refl, (refl, refl))

pub listed_changed : (nodes : List NodeRow) (order : List ℕ) (n : ℕ) (c : NodeRow → NodeRow) → KeepsNode c → IsListed nodes order → IsListed (with_change number n c nodes) order
listed_changed nodes order n c keeps h =
    let g : NodeRow → NodeRow = λ r. if number r == n then c r else r in
    let kept : (r : NodeRow) → ((g r).number ≡ r.number) × (((g r).parent ≡ r.parent) × ((g r).name ≡ r.name)) = λ r. kept_at c keeps r (number r == n) in
    let size = length-map h.entries g in
    record {
      entries = map g h.entries;
      numbers = h.numbers ∙ sym (map-map_same number g (λ r. (kept r).0) h.entries);
      there = All-map (λ (r : NodeRow). node_of (with_change number n c nodes) r.number ≡ Some r) g h.entries
          (λ k d l.
          let r = get_or h.entries k d in
          ap (node_of (with_change number n c nodes)) (kept r).0 ∙ (row_of-change number n c keeps.same_number r.number nodes ∙ ap (option_map g) (h.there k d l)));
      inside = All-map (λ (r : NodeRow). (r.number == 0) ≡ false) g h.entries
          (λ k d l. let r = get_or h.entries k d in ap (λ i. i == 0) (kept r).0 ∙ h.inside k d l);
      ascending = λ i j d l m.
          let a = get_or h.entries i d in
          let b = get_or h.entries j d in
          let low = get_or-map g h.entries i d d (omega (arith, l, m, size)) in
          let high = get_or-map g h.entries j d d (omega (arith, m, size)) in
          let less = h.ascending i j d l (omega (arith, m, size)) in
          rw (low, high) (rw ((kept a).1.0, (kept a).1.1, (kept b).1.0, (kept b).1.1) less);
    }

-- one more node is listed, at its place
named_false : (z : Bool) (p q : ℕ) (b : Bool) → z ≡ false → p ≡ q → (not z && ((p == q) && b)) ≡ false → b ≡ false
named_false z p q b zf e t = let f : (p == q) ≡ true = eq_test p q e in rw (zf, f) at t

lacks_at : (nodes : List NodeRow) (order : List ℕ) (folder : ℕ) (name : List ℕ) (h : IsListed nodes order) → LacksName nodes order folder name → (k : ℕ) → k < length h.entries → (at h.entries k).parent ≡ folder → same_name (at h.entries k).name name ≡ false
lacks_at nodes order folder name h lacks k l e =
    let r = at h.entries k in
    let is = ap (λ (o : Option NodeRow). option_map_or (λ (row : NodeRow). not (r.number == 0) && is_named row folder name) o false) (h.there k root_node l) in
    named_false (r.number == 0) r.parent folder (same_name r.name name) (h.inside k root_node l) e (sym is ∙ lacks r.number (number_in_list nodes order h k l))

pub listed_put : (nodes : List NodeRow) (order : List ℕ) (row : NodeRow) (place : ℕ) → IsListed nodes order → node_of nodes row.number ≡ Some row → (row.number == 0) ≡ false → IsPlace nodes order row.parent row.name place → LacksName nodes order row.parent row.name → IsListed nodes (insert order place row.number)
listed_put nodes order row place h found other p lacks =
    let d = place_divides nodes order row.parent row.name place h p in
    let within = d.within in
    record {
      entries = insert h.entries place row;
      numbers = ap (λ xs. insert xs place row.number) h.numbers ∙ sym (map-insert number h.entries place row);
      there = all_insert (λ (r : NodeRow). node_of nodes r.number ≡ Some r) h.entries place row within found h.there;
      inside = all_insert (λ (r : NodeRow). (r.number == 0) ≡ false) h.entries place row within other h.inside;
      ascending =
          pairs_insert Before h.entries place row within h.ascending
          (λ k e l. subst (λ (r : NodeRow). Before r row) (get_or_default h.entries k root_node e (omega (arith, l, within))) (d.before k l))
          (λ k e l m. subst (Before row) (get_or_default h.entries k root_node e m)
          (comes_or_after (at h.entries k).parent (at h.entries k).name row.parent row.name (d.after k l m) (λ f. lacks_at nodes order row.parent row.name h lacks k m f)));
    }

-- a node less is listed
pub listed_out : (nodes : List NodeRow) (order : List ℕ) (place : ℕ) → IsListed nodes order → place < length order → IsListed nodes (remove order place)
listed_out nodes order place h l =
    let size = length-order_entries nodes order h in
    let below : place < length h.entries = omega (arith, l, size) in
    record {
      entries = remove h.entries place;
      numbers = ap (λ ys. remove ys place) h.numbers ∙ sym (map-remove number h.entries place);
      there = all_left (λ (r : NodeRow). node_of nodes r.number ≡ Some r) h.entries place below h.there;
      inside = all_left (λ (r : NodeRow). (r.number == 0) ≡ false) h.entries place below h.inside;
      ascending = all_pairs_remove Before h.entries place below h.ascending;
    }

-- entries of nodes that are another one's or gone
pub own_but : (nodes more : List NodeRow) (x : ℕ) (e : Entry) → SameBut nodes more x → (e.node == x) ≡ false → IsOwn nodes e → IsOwn more e
own_but nodes more x e same other own = record { row = own.row; found = same e.node other ∙ own.found; parent_is = own.parent_is; prefix_is = own.prefix_is }

entry_in_list : (entries : List Entry) (k : ℕ) (d : Entry) → k < length entries → is_in (map number_in entries) (get_or entries k d).node ≡ true
entry_in_list entries k d l =
    let n = (get_or entries k d).node in
    let size = length-map entries number_in in
    in_contains (map number_in entries) n (k, omega (arith, l, size), get_or-map number_in entries k d n l)

pub all_but : (nodes more : List NodeRow) (x : ℕ) (entries : List Entry) → SameBut nodes more x → is_in (map number_in entries) x ≡ false → All (IsOwn nodes) entries → All (IsOwn more) entries
all_but nodes more x entries same out own =
    λ k d l.
    let e = get_or entries k d in
    let other : (e.node == x) ≡ false = not_true _ (λ t. clash _ (ap (is_in (map number_in entries)) (sym (eq_is _ _ t)) ∙ entry_in_list entries k d l) out) in
    own_but nodes more x e same other (own k d l)

pub own_kept : (nodes : List NodeRow) (n : ℕ) (c : NodeRow → NodeRow) (e : Entry) → KeepsNode c → IsOwn nodes e → IsOwn (with_change number n c nodes) e
own_kept nodes n c e keeps own =
    let kept = kept_at c keeps own.row (number own.row == n) in
    record {
      row = if number own.row == n then c own.row else own.row;
      found = row_of-change number n c keeps.same_number e.node nodes ∙ ap (option_map (λ (r : NodeRow). if number r == n then c r else r)) own.found;
      parent_is = own.parent_is ∙ sym kept.1.0;
      prefix_is = own.prefix_is ∙ sym (ap prefix kept.1.1);
    }

-- the entries of an order after an edit
pub own_put : (nodes : List NodeRow) (order more : Sequence) (place : ℕ) (e : Entry) → AreOwn nodes order → IsOwn nodes e → place ≤ length (entries_of order.runs) → entries_of more.runs ≡ insert (entries_of order.runs) place e.node → more.entries ≡ insert order.entries place e → AreOwn nodes more
own_put nodes order more place e own mine l numbers entries =
    let size = ap length own.numbers_are ∙ length-map order.entries number_in in
    record {
      numbers_are = numbers ∙ (ap (λ (ns : List ℕ). insert ns place e.node) own.numbers_are ∙ (sym (map-insert number_in order.entries place e) ∙ sym (ap (map number_in) entries)));
      each = subst (All (IsOwn nodes)) (sym entries) (all_insert (IsOwn nodes) order.entries place e (omega (arith, l, size)) mine own.each);
    }

pub own_out : (nodes : List NodeRow) (order less : Sequence) (place : ℕ) → AreOwn nodes order → place < length (entries_of order.runs) → entries_of less.runs ≡ remove (entries_of order.runs) place → less.entries ≡ remove order.entries place → AreOwn nodes less
own_out nodes order less place own l numbers entries =
    let size = ap length own.numbers_are ∙ length-map order.entries number_in in
    record {
      numbers_are = numbers ∙ (ap (λ (ns : List ℕ). remove ns place) own.numbers_are ∙ (sym (map-remove number_in order.entries place) ∙ sym (ap (map number_in) entries)));
      each = subst (All (IsOwn nodes)) (sym entries) (all_left (IsOwn nodes) order.entries place (omega (arith, l, size)) own.each);
    }
