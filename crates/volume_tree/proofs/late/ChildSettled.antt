-- Where a folder's children stand if no node is late.
use Rattle.std.proofs.Common.{◌≡◌, ℕ, zero, suc, ◌+◌, ◌-◌, ◌<◌, ◌≤◌, ◌==◌, not, true, false, inl, inr, List, [], length, get_or, slice_get, Some, refl, sym, ◌∙◌, ap, subst, arith}
use Rattle.std.specs.Prelude.{slice_index}
use Rattle.std.specs.List.{Contains}
use Rattle.std.proofs.lemmas.Bool.{cases_lt}
use Rattle.std.proofs.lemmas.List.{get_or_default}
use Rattle.std.proofs.lemmas.List.Edits.{length-between, get_or-between}
use Rattle.std.proofs.lemmas.List.Elements.{All-filter, filter_passes}
use Rattle.std.proofs.lemmas.Option.{same_Some, slice_get-get_or}
use Rattle.fsrm_base.specs.Keyed.{is_ascending}
use Rattle.fsrm_base.proofs.Order.{ascending-filter}
use Rattle.fsrm_base.proofs.TestLaws.{is_false}
use Rattle.fsrm_model.specs.declared.row.NodeRow.{NodeRow}
use Rattle.fsrm_model.specs.nodes.Fresh.{root_node}
use Rattle.fsrm_model.specs.nodes.Tree.{number, node_of, children}
use Rattle.block_list.specs.Runs.{entries_of}
use Rattle.node_order.specs.Entries.{IsFirst, Sequence}
use Rattle.node_order.specs.Order.{IsOrder, IsSegment, inner}
use Rattle.node_order.proofs.Children.{parents_rise}
use Rattle.node_order.proofs.Items.{same_items}
use Rattle.node_order.proofs.ListLaws.{ascending_pairs, at, in_place, length-order_entries, node_there, number_there, order_listed, rows_found, there}
use Rattle.node_order.proofs.Lower.{place_first}
use Rattle.node_order.proofs.SegmentLaws.{Ends, children_are_segment, length-children, place_ends, segment, segment_of}
use Rattle.volume_tree.specs.Late.{AreEntered}
use Rattle.volume_tree.specs.Volume.{IsChildAt}
use Rattle.volume_tree.proofs.late.Entered.{entered_many, entered_where}

-- nodes that all stand in the order
inner_there : (nodes : List NodeRow) (order : Sequence) (k : AreEntered nodes [] order []) (row : NodeRow) → node_of nodes row.number ≡ Some row → (row.number == 0) ≡ false → Contains k.listed.entries row
inner_there nodes order k row found other =
    elim (entered_where nodes order [] row.number row k found other) [
      | inl i ↦
          let s = in_place (entries_of order.runs) row.number i in
          let t = there nodes (entries_of order.runs) s.place row.number k.listed s.is in
          (s.place, t.below, get_or_default k.listed.entries s.place row root_node t.below ∙ same_Some _ _ (sym t.found ∙ found))
      | inr i ↦ absurd (none i)
    ]
  where
    none : false ≡ true → ⊥
    none e = cc

pub settled_order : (nodes : List NodeRow) (order : Sequence) → is_ascending number nodes ≡ true → AreEntered nodes [] order [] → IsOrder nodes (entries_of order.runs)
settled_order nodes order a k =
    let h = k.listed in
    let found = All-filter (λ (node : NodeRow). not (node.number == 0)) (λ (r : NodeRow). node_of nodes r.number ≡ Some r) nodes (rows_found number nodes a) in
    let passes = filter_passes (λ (node : NodeRow). not (node.number == 0)) nodes in
    let up = ascending_pairs number (inner nodes) (ascending-filter number (λ (node : NodeRow). not (node.number == 0)) nodes a) in
    let many = entered_many nodes [] order [] k in
    let size = length-order_entries nodes (entries_of order.runs) h in
    record {
      entries = h.entries;
      numbers = h.numbers;
      members =
          same_items (inner nodes) h.entries
          (λ i j d l m e. let less = up i j d l m in omega (arith, less, ap number e))
          (λ i d l. inner_there nodes order k (get_or (inner nodes) i d) (found i d l) (is_false _ (passes i d l)))
          (omega (arith, many, size));
      ascending = h.ascending;
    }

pub settled_segment : (nodes : List NodeRow) (order : Sequence) (folder first end : ℕ) → is_ascending number nodes ≡ true → AreEntered nodes [] order [] → IsFirst order folder first → IsFirst order (folder + 1) end → IsSegment nodes (entries_of order.runs) folder first end
settled_segment nodes order folder first end a k p q =
    segment_of nodes (entries_of order.runs) folder folder first end (settled_order nodes order a k) a refl
    (place_first nodes order folder first k.listed k.entries p) (place_first nodes order (folder + 1) end k.listed k.entries q)

-- the child at a place
record End (folder : ℕ) (entries : List NodeRow) : Type 0 where
  place : ℕ
  ends : Ends folder entries place

end_from : (nodes : List NodeRow) (order : List ℕ) (folder gap place : ℕ) (h : IsOrder nodes order) → is_ascending number nodes ≡ true → place + gap ≡ length h.entries → ((k : ℕ) → k < place → (at h.entries k).parent < folder) → End folder h.entries
end_from nodes order folder zero place h a e below =
    record { place = place; ends = record { within = omega arith; below = below; above = λ k l m. absurd (omega arith) } }
end_from nodes order folder (suc gap) place h a e below =
    elim (cases_lt (at h.entries place).parent folder) [
      | inl l ↦ end_from nodes order folder gap (place + 1) h a (omega arith) (λ k m. upto k m l)
      | inr l ↦ record { place = place; ends = record { within = omega arith; below = below; above = λ k m n. from k m n l } }
    ]
  where
    upto : (k : ℕ) → k < place + 1 → (at h.entries place).parent < folder → (at h.entries k).parent < folder
    upto k m l = elim (cases_lt k place) [ inl n ↦ below k n | inr n ↦ let is : place ≡ k = omega arith in subst (λ i. (at h.entries i).parent < folder) is l ]

    from : (k : ℕ) → place ≤ k → k < length h.entries → folder ≤ (at h.entries place).parent → folder ≤ (at h.entries k).parent
    from k m n l =
        elim (cases_lt place k) [
          | inl o ↦ let r = parents_rise nodes order place k (order_listed nodes order h a) o n in omega arith
          | inr o ↦ let is : place ≡ k = omega arith in subst (λ i. folder ≤ (at h.entries i).parent) is l
        ]

pub record ChildThere (nodes : List NodeRow) (order : List ℕ) (folder first place : ℕ) : Type 0 where
  pub within : first + place < length order
  pub child : IsChildAt nodes folder place (slice_index order (first + place))

child_there : (nodes : List NodeRow) (order : List ℕ) (folder first place : ℕ) (h : IsOrder nodes order) → is_ascending number nodes ≡ true → Ends folder h.entries first → place < length (children nodes folder) → ChildThere nodes order folder first place
child_there nodes order folder first place h a s l =
    let all = order_listed nodes order h a in
    let end = end_from nodes order (folder + 1) (length h.entries) 0 h a (omega arith) (λ k m. absurd (omega arith)) in
    let within = end.ends.within in
    let count = length-children nodes order folder first end.place h a s end.ends in
    let size = length-order_entries nodes order all in
    let long = length-between h.entries first end.place within in
    let run = segment h.entries first end.place in
    let there : get_or run place root_node ≡ at h.entries (first + place) = get_or-between h.entries first end.place place root_node (omega arith) in
    let is = number_there nodes order (first + place) 0 all (omega arith) in
    record {
      within = omega arith;
      child = record {
        row = at h.entries (first + place);
        at = ap (λ rows. slice_get rows place) (children_are_segment nodes order folder first end.place h a s end.ends) ∙ (slice_get-get_or run place root_node (omega arith) ∙ ap Some there);
        number_is = sym is;
        found = node_there nodes order (first + place) all (omega arith);
      };
    }

pub settled_child : (nodes : List NodeRow) (order : Sequence) (folder f first place : ℕ) → is_ascending number nodes ≡ true → AreEntered nodes [] order [] → f ≡ folder → IsFirst order f first → place < length (children nodes folder) → ChildThere nodes (entries_of order.runs) folder first place
unfolding settled_order
settled_child nodes order folder f first place a k is p l =
    let s = place_ends nodes (entries_of order.runs) folder first k.listed (place_first nodes order folder first k.listed k.entries (subst (λ n. IsFirst order n first) is p)) in
    child_there nodes (entries_of order.runs) folder first place (settled_order nodes order a k) a s l
