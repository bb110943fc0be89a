-- Between which places a name's place is.
use Rattle.std.proofs.Common.{◌≡◌, ℕ, ◌+◌, ◌<◌, ◌≤◌, ◌==◌, ◌&&◌, not, Bool, true, false, inl, inr, List, length, slice_get, Option, Some, refl, sym, ◌∙◌, ap, subst, arith}
use Rattle.std.specs.Option.{option_map_or}
use Rattle.std.proofs.lemmas.Bool.{cases_eq, cases_lt}
use Rattle.std.proofs.lemmas.Option.{same_Some, slice_get_within}
use Rattle.fsrm_model.specs.declared.row.NodeRow.{NodeRow}
use Rattle.fsrm_model.specs.nodes.Fresh.{root_node}
use Rattle.fsrm_model.specs.values.Name.{same_name}
use Rattle.fsrm_model.specs.nodes.Tree.{node_of}
use Rattle.fsrm_base.proofs.TestLaws.{not_true, clash, both, eq_is}
use Rattle.node_order.specs.Order.{IsListed, IsPlace, IsFloor, IsBeyond, IsNamed, LacksName, has_name, is_before, is_named}
use Rattle.node_order.proofs.ListLaws.{at, there, divides_place, in_place}
use Rattle.node_order.proofs.Halving.{earlier}
use Rattle.node_order.proofs.Names.{comes_apart, comes_as}
use Rattle.node_order.proofs.Places.{own_place}

-- the first floor, and the place at the end
pub floor_first : (nodes : List NodeRow) (order : List ℕ) (folder : ℕ) (name : List ℕ) → IsFloor nodes order folder name 0
floor_first nodes order folder name = record { within = omega arith; before = λ k n row l e f. absurd (omega arith) }

pub beyond_last : (nodes : List NodeRow) (order : List ℕ) (folder : ℕ) (name : List ℕ) (place : ℕ) → place ≡ length order → IsBeyond nodes order folder name place
beyond_last nodes order folder name place is =
    record {
      within = omega arith;
      after = λ k n row l e f. let m = slice_get_within order k n e in absurd (omega arith);
      other = λ k n row l e f. let m = slice_get_within order k n e in absurd (omega arith);
    }

-- an entry that was read
record Read (entries : List NodeRow) (k : ℕ) (row : NodeRow) : Type 0 where
  below : k < length entries
  is : at entries k ≡ row

read : (nodes : List NodeRow) (order : List ℕ) (k n : ℕ) (row : NodeRow) (h : IsListed nodes order) → slice_get order k ≡ Some n → node_of nodes n ≡ Some row → Read h.entries k row
read nodes order k n row h e f = let t = there nodes order k n h e in record { below = t.below; is = same_Some _ _ (sym t.found ∙ f) }

-- after an entry that comes before the name there is a floor
pub floor_past : (nodes : List NodeRow) (order : List ℕ) (folder : ℕ) (name : List ℕ) (k n : ℕ) (row : NodeRow) (h : IsListed nodes order) → slice_get order k ≡ Some n → node_of nodes n ≡ Some row → is_before row folder name ≡ true → IsFloor nodes order folder name (k + 1)
floor_past nodes order folder name k n row h e f t =
    let r = read nodes order k n row h e f in
    let below = r.below in
    let inside = slice_get_within order k n e in
    let here : is_before (at h.entries k) folder name ≡ true = ap (λ (x : NodeRow). is_before x folder name) r.is ∙ t in
    record {
      within = omega arith;
      before = λ i m x l g j.
          let s = read nodes order i m x h g j in
          subst (λ (y : NodeRow). is_before y folder name ≡ true) s.is
          (elim (cases_eq i k) [
            | inl is ↦ subst (λ w. is_before (at h.entries w) folder name ≡ true) (sym is) here
            | inr other ↦ earlier nodes order folder name h i k (omega arith) below here
          ]);
    }

-- from an entry on that doesn't come before the name none does
pub after_here : (nodes : List NodeRow) (order : List ℕ) (folder : ℕ) (name : List ℕ) (k n : ℕ) (row : NodeRow) (h : IsListed nodes order) → slice_get order k ≡ Some n → node_of nodes n ≡ Some row → is_before row folder name ≡ false → (i m : ℕ) (x : NodeRow) → k ≤ i → slice_get order i ≡ Some m → node_of nodes m ≡ Some x → is_before x folder name ≡ false
after_here nodes order folder name k n row h e f t i m x l g j =
    let r = read nodes order k n row h e f in
    let here : is_before (at h.entries k) folder name ≡ false = ap (λ (y : NodeRow). is_before y folder name) r.is ∙ t in
    let s = read nodes order i m x h g j in
    let below = s.below in
    subst (λ (y : NodeRow). is_before y folder name ≡ false) s.is
    (elim (cases_eq i k) [
      | inl is ↦ subst (λ w. is_before (at h.entries w) folder name ≡ false) (sym is) here
      | inr other ↦ not_true _ (λ u. clash _ (earlier nodes order folder name h k i (omega arith) below u) here)
    ])

-- nor has one the name, if that entry hasn't
named_parts : (x : NodeRow) (folder : ℕ) (name : List ℕ) → is_named x folder name ≡ true → (x.parent ≡ folder) × (same_name x.name name ≡ true)
named_parts x folder name t = let p = both _ _ t in (eq_is _ _ p.0, p.1)

later_apart : (nodes : List NodeRow) (order : List ℕ) (folder : ℕ) (name : List ℕ) (h : IsListed nodes order) (i j : ℕ) → i < j → j < length h.entries → is_before (at h.entries i) folder name ≡ false → is_named (at h.entries j) folder name ≡ false
later_apart nodes order folder name h i j l m t =
    not_true _ (λ u.
    let x = at h.entries i in
    let y = at h.entries j in
    let p = named_parts y folder name u in
    let before : is_before x folder y.name ≡ true = subst (λ (d : ℕ). is_before x d y.name ≡ true) p.0 (h.ascending i j root_node l m) in
    clash _ (sym (comes_as x.parent x.name folder y.name name p.1) ∙ before) t)

-- nor does anything from a later place on
pub beyond_after : (nodes : List NodeRow) (order : List ℕ) (folder : ℕ) (name : List ℕ) (k j : ℕ) → k ≤ j → j ≤ length order → IsBeyond nodes order folder name k → IsBeyond nodes order folder name j
beyond_after nodes order folder name k j l m b = record { within = m; after = λ i n row p. b.after i n row (omega arith); other = λ i n row p. b.other i n row (omega arith) }

pub beyond_here : (nodes : List NodeRow) (order : List ℕ) (folder : ℕ) (name : List ℕ) (k n : ℕ) (row : NodeRow) (h : IsListed nodes order) → slice_get order k ≡ Some n → node_of nodes n ≡ Some row → is_before row folder name ≡ false → is_named row folder name ≡ false → IsBeyond nodes order folder name k
beyond_here nodes order folder name k n row h e f t u =
    let r = read nodes order k n row h e f in
    let inside = slice_get_within order k n e in
    let here : is_before (at h.entries k) folder name ≡ false = ap (λ (y : NodeRow). is_before y folder name) r.is ∙ t in
    let own : is_named (at h.entries k) folder name ≡ false = ap (λ (y : NodeRow). is_named y folder name) r.is ∙ u in
    record {
      within = omega arith;
      after = after_here nodes order folder name k n row h e f t;
      other = λ i m x l g j.
          let s = read nodes order i m x h g j in
          let below = s.below in
          subst (λ (y : NodeRow). is_named y folder name ≡ false) s.is
          (elim (cases_eq i k) [
            | inl is ↦ subst (λ w. is_named (at h.entries w) folder name ≡ false) (sym is) own
            | inr other ↦ later_apart nodes order folder name h k i (omega arith) below here
          ]);
    }

-- a floor from which on nothing comes before the name is the name's place
pub place_met : (nodes : List NodeRow) (order : List ℕ) (folder : ℕ) (name : List ℕ) (place : ℕ) → IsFloor nodes order folder name place → IsBeyond nodes order folder name place → IsPlace nodes order folder name place
place_met nodes order folder name place f b = record { within = f.within; before = f.before; after = b.after }

-- and nobody who is listed has it
named_in_front : (row : NodeRow) (folder : ℕ) (name : List ℕ) → is_before row folder name ≡ true → is_named row folder name ≡ false
named_in_front row folder name t =
    not_true _ (λ u. let p = named_parts row folder name u in clash _ p.1 (comes_apart row.parent row.name folder name t p.0))

lacks_at : (nodes : List NodeRow) (order : List ℕ) (folder : ℕ) (name : List ℕ) (place k n : ℕ) (row : NodeRow) → IsFloor nodes order folder name place → IsBeyond nodes order folder name place → slice_get order k ≡ Some n → node_of nodes n ≡ Some row → is_named row folder name ≡ false
lacks_at nodes order folder name place k n row f b e g =
    elim (cases_lt k place) [
      | inl l ↦ named_in_front row folder name (f.before k n row l e g)
      | inr l ↦ b.other k n row l e g
    ]

lacks_row : (nodes : List NodeRow) (n folder : ℕ) (name : List ℕ) (row : NodeRow) → node_of nodes n ≡ Some row → is_named row folder name ≡ false → has_name nodes n folder name ≡ false
lacks_row nodes n folder name row g t =
    ap (λ (o : Option NodeRow). option_map_or (λ r. not (n == 0) && is_named r folder name) o false) g
    ∙ (ap (λ b. not (n == 0) && b) t ∙ and_false (not (n == 0)))
  where
    and_false : (b : Bool) → (b && false) ≡ false
    and_false true = refl
    and_false false = refl

pub lacks_met : (nodes : List NodeRow) (order : List ℕ) (folder : ℕ) (name : List ℕ) (place : ℕ) → IsListed nodes order → IsFloor nodes order folder name place → IsBeyond nodes order folder name place → LacksName nodes order folder name
lacks_met nodes order folder name place h f b n i =
    let s = in_place order n i in
    let t = there nodes order s.place n h s.is in
    lacks_row nodes n folder name (at h.entries s.place) t.found (lacks_at nodes order folder name place s.place n (at h.entries s.place) f b s.is t.found)

-- such a place is met, if what stands there doesn't come before the name, or nothing does
pub place_some : (nodes : List NodeRow) (order : List ℕ) (folder : ℕ) (name : List ℕ) (place n : ℕ) (row : NodeRow) (h : IsListed nodes order) → IsFloor nodes order folder name place → slice_get order place ≡ Some n → node_of nodes n ≡ Some row → is_before row folder name ≡ false → IsPlace nodes order folder name place
place_some nodes order folder name place n row h f e t u =
    record { within = f.within; before = f.before; after = after_here nodes order folder name place n row h e t u }

pub place_none : (nodes : List NodeRow) (order : List ℕ) (folder : ℕ) (name : List ℕ) (place : ℕ) → IsFloor nodes order folder name place → place ≡ length order → IsPlace nodes order folder name place
place_none nodes order folder name place f is =
    record { within = f.within; before = f.before; after = (beyond_last nodes order folder name place is).after }

-- an entry that has the name stands at its place
pub named_place : (nodes : List NodeRow) (order : List ℕ) (folder : ℕ) (name : List ℕ) (place : ℕ) (h : IsListed nodes order) → IsNamed nodes order folder name place → IsPlace nodes order folder name place
named_place nodes order folder name place h s =
    let r = read nodes order place s.number s.row h s.at s.found in
    let p = named_parts s.row folder name s.named in
    let x = at h.entries place in
    let d = own_place nodes order place h r.below in
    let parent : x.parent ≡ folder = ap (λ (y : NodeRow). y.parent) r.is ∙ p.0 in
    let named : same_name x.name name ≡ true = ap (λ (y : NodeRow). same_name y.name name) r.is ∙ p.1 in
    let same : (y : NodeRow) → is_before y x.parent x.name ≡ is_before y folder name = λ y.
    comes_as y.parent y.name x.parent x.name name named ∙ ap (λ (q : ℕ). is_before y q name) parent in
    divides_place nodes order folder name place h
    (record {
      within = d.within;
      before = λ k l. sym (same (at h.entries k)) ∙ d.before k l;
      after = λ k l m. sym (same (at h.entries k)) ∙ d.after k l m;
    })
