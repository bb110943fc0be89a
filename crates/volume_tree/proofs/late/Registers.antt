-- A register's nodes, as they enter it and leave it, and as they change.
use Rattle.std.proofs.Common.{◌≡◌, ℕ, ◌+◌, ◌<◌, ◌≤◌, ◌==◌, ◌||◌, true, false, inl, inr, All, List, [], ◌∷◌, ◌++◌, append-nil, drop, get_or, insert, length, map, remove, slice_get, IsPermutation, Some, refl, sym, ◌∙◌, ap, subst, arith}
use Rattle.std.specs.Prelude.{vec_capacity}
use Rattle.std.proofs.lemmas.List.Elements.{All-head}
use Rattle.std.proofs.lemmas.List.Sorted.{IsPermutation-refl}
use Rattle.fsrm_base.proofs.EditedRows.{length-with_row, sum_by-without_row}
use Rattle.fsrm_base.proofs.Look.{has_found}
use Rattle.fsrm_base.proofs.Sums.{sum_by-ones}
use Rattle.fsrm_base.proofs.TestLaws.{clash, eq_turned, neither, not_true}
use Rattle.fsrm_base.specs.Keyed.{has_row, is_ascending, with_change, with_row, without_row}
use Rattle.fsrm_base.specs.Numbers.{is_in}
use Rattle.fsrm_model.proofs.nodes.Keeps.{KeepsNode}
use Rattle.fsrm_model.proofs.nodes.Walks.{found_name}
use Rattle.fsrm_model.specs.declared.row.Capacity.{Capacity}
use Rattle.fsrm_model.specs.declared.row.NodeRow.{NodeRow}
use Rattle.fsrm_model.specs.nodes.Tree.{name_of, node_of, number}
use Rattle.fsrm_model.specs.store.Valid.{IsVolume}
use Rattle.fsrm_model.specs.values.Limits.{most_nodes}
use Rattle.block_list.specs.Runs.{entries_of}
use Rattle.name_index.specs.Index.{Indexed}
use Rattle.name_index.specs.Hash.{name_hash}
use Rattle.name_index.specs.Index.{Holds, has_lost}
use Rattle.node_order.specs.declared.entries.Entry.{Entry}
use Rattle.node_order.specs.Entries.{IsOwn, Sequence, entry_of, number_in}
use Rattle.node_order.specs.Order.{IsListed, IsNamed, IsPlace, LacksName, inner}
use Rattle.volume_tree.specs.declared.register.Register.{Register}
use Rattle.volume_tree.specs.Late.{AreApart, AreEntered, AreFound, HasLeft, IsRegister}
use Rattle.volume_tree.proofs.late.Entered.{absent_out, entered_awaken, entered_gone, entered_kept, entered_late, entered_many, entered_moved, entered_new, entered_out, entered_put, entered_where}
use Rattle.volume_tree.proofs.late.Found.{found_absent, found_awaken, found_fewer, found_gone, found_here, found_index, found_kept, found_late, found_moved, found_new}
use Rattle.volume_tree.proofs.late.Named.{lacks_apart, lacks_itself, listed_named}
use Rattle.volume_tree.proofs.late.Numbers.{inner_numbers, node_in}
use Rattle.volume_tree.proofs.late.Parents.{late_inner}
use Rattle.volume_tree.proofs.slotted.FreshLaws.{few_nodes}

-- no two nodes of a volume have one name in a folder
pub volume_apart : (K : Capacity) (nodes : List NodeRow) → IsVolume K nodes → AreApart nodes
volume_apart K nodes v = record { alone = v.alone }

-- all nodes of a volume but the root are fewer than it may have
pub inner_few : (K : Capacity) (nodes : List NodeRow) → IsVolume K nodes → length (inner nodes) < K.nodes
inner_few K nodes v =
    let f = has_found number 0 nodes v.has_root in
    let one = sum_by-without_row number (λ (r : NodeRow). 1) 0 f.row nodes v.ascending f.is in
    omega (arith, one, sum_by-ones (without_row number 0 nodes), sum_by-ones nodes, few_nodes K nodes v)

-- an order has fewer entries than there may be nodes
pub few_listed : (nodes : List NodeRow) (absent : List ℕ) (register : Register) → IsRegister nodes absent register → length (entries_of register.order.runs) < most_nodes
few_listed nodes absent register h = omega (arith, entered_many nodes absent register.order register.late.items h.entered, h.room, h.few)

-- a new node is absent
pub register_new : (nodes : List NodeRow) (row : NodeRow) (register : Register) → has_row number row.number nodes ≡ false → (row.number == 0) ≡ false → length (inner (with_row number row nodes)) < register.order.room → IsRegister nodes [] register → IsRegister (with_row number row nodes) (row.number ∷ []) register
register_new nodes row register lacks other room h =
    record {
      entered = entered_new nodes register.order register.late.items row lacks other h.entered;
      found = found_new nodes register.late.items register.index row h.found;
      room = room;
      reserved = h.reserved;
      few = h.few;
    }

-- an absent node is changed, or goes
pub register_moved : (nodes : List NodeRow) (x : ℕ) (c : NodeRow → NodeRow) (register : Register) → is_ascending number nodes ≡ true → ((r : NodeRow) → (c r).number ≡ r.number) → length (inner (with_change number x c nodes)) < register.order.room → IsRegister nodes (x ∷ []) register → IsRegister (with_change number x c nodes) (x ∷ []) register
register_moved nodes x c register a keeps room h =
    record {
      entered = entered_moved nodes [] register.order register.late.items x c a keeps h.entered;
      found = found_moved nodes [] register.late.items register.index x c keeps h.found;
      room = room;
      reserved = h.reserved;
      few = h.few;
    }

pub register_gone : (nodes : List NodeRow) (x : ℕ) (row : NodeRow) (register : Register) → is_ascending number nodes ≡ true → node_of nodes x ≡ Some row → (x == 0) ≡ false → length (inner (without_row number x nodes)) < register.order.room → IsRegister nodes (x ∷ []) register → IsRegister (without_row number x nodes) [] register
register_gone nodes x row register a found other room h =
    record {
      entered = entered_gone nodes register.order register.late.items x row a found other h.entered;
      found = found_gone nodes register.late.items register.index x h.found;
      room = room;
      reserved = h.reserved;
      few = h.few;
    }

-- a node is changed that keeps its folder and its name
pub register_kept : (nodes : List NodeRow) (n : ℕ) (c : NodeRow → NodeRow) (register : Register) → KeepsNode c → length (inner (with_change number n c nodes)) < register.order.room → IsRegister nodes [] register → IsRegister (with_change number n c nodes) [] register
register_kept nodes n c register keeps room h =
    record {
      entered = entered_kept nodes [] register.order register.late.items n c keeps h.entered;
      found = found_kept nodes [] register.late.items register.index n c keeps h.found;
      room = room;
      reserved = h.reserved;
      few = h.few;
    }

-- at first all nodes are absent
pub register_empty : (nodes : List NodeRow) (register : Register) → register.order ≡ record { room = register.order.room; runs = []; entries = [] } → register.late.items ≡ [] → length (inner nodes) < register.order.room → register.order.room ≤ vec_capacity register.late → register.order.room ≤ most_nodes → IsRegister nodes (inner_numbers nodes) register
register_empty nodes register empty none room reserved few =
    record {
      entered = subst (λ (late : List Entry). AreEntered nodes (inner_numbers nodes) register.order late) (sym none)
          (subst (λ (order : Sequence). AreEntered nodes (inner_numbers nodes) order []) (sym empty) (record {
            listed = record { entries = []; numbers = refl; there = λ k d l. absurd (omega arith); inside = λ k d l. absurd (omega arith); ascending = λ i j d l m. absurd (omega arith) };
            entries = record { numbers_are = refl; each = λ k d l. absurd (omega arith) };
            own = λ k d l. absurd (omega arith);
            members = subst (IsPermutation (inner_numbers nodes)) (sym (append-nil (inner_numbers nodes))) (IsPermutation-refl (inner_numbers nodes));
          }));
      found = record { each = λ n row f other out. absurd (clash _ (node_in nodes n row f other) out) };
      room = room;
      reserved = reserved;
      few = few;
    }

-- the entry of a row
pub own_entry : (nodes : List NodeRow) (e : Entry) (row : NodeRow) → e ≡ entry_of row → node_of nodes row.number ≡ Some row → IsOwn nodes e
own_entry nodes e row is found = subst (IsOwn nodes) (sym is) (record { row = row; found = found; parent_is = refl; prefix_is = refl })

entry_place : (nodes : List NodeRow) (order : List ℕ) (e : Entry) (row : NodeRow) (place : ℕ) → e ≡ entry_of row → node_of nodes row.number ≡ Some row → IsPlace nodes order e.parent (name_of nodes e.node) place → IsPlace nodes order row.parent row.name place
entry_place nodes order e row place is found p =
    subst (λ (name : List ℕ). IsPlace nodes order row.parent name place) (found_name nodes row.number row found)
    (subst (λ (x : Entry). IsPlace nodes order x.parent (name_of nodes x.node) place) is p)

-- an index that has entered a number
pub record HasEntered (old new : Indexed) : Type 0 where
  pub holds : (h n : ℕ) → Holds old h n → Holds new h n
  pub kept : (h : ℕ) → has_lost old h ≡ true → has_lost new h ≡ true

-- a node enters as a late one
pub register_late : (nodes : List NodeRow) (rest : List ℕ) (old new : Register) (e : Entry) (row : NodeRow) → node_of nodes row.number ≡ Some row → e ≡ entry_of row → new.order ≡ old.order → new.late.items ≡ old.late.items ++ e ∷ [] → vec_capacity new.late ≡ vec_capacity old.late → Holds new.index (name_hash row.parent row.name) row.number → HasEntered old.index new.index → IsRegister nodes (row.number ∷ rest) old → IsRegister nodes rest new
register_late nodes rest old new e row found is order late capacity holds index h =
    let node : e.node ≡ row.number = ap (λ (x : Entry). x.node) is in
    let before : AreEntered nodes (e.node ∷ rest) old.order old.late.items = subst (λ (n : ℕ). AreEntered nodes (n ∷ rest) old.order old.late.items) (sym node) h.entered in
    let after = entered_late nodes rest old.order old.late.items e before (own_entry nodes e row is found) in
    let led = found_index nodes (row.number ∷ rest) old.late.items old.index new.index (λ k n out held. index.holds k n held) index.kept h.found in
    let led_e : AreFound nodes (e.node ∷ rest) old.late.items new.index = subst (λ (n : ℕ). AreFound nodes (n ∷ rest) old.late.items new.index) (sym node) led in
    let known = found_late nodes rest old.late.items new.index e row (ap (node_of nodes) node ∙ found) (subst (Holds new.index (name_hash row.parent row.name)) (sym node) holds) led_e in
    let room : new.order.room ≡ old.order.room = ap (λ (o : Sequence). o.room) order in
    record {
      entered = subst (λ (o : Sequence). AreEntered nodes rest o new.late.items) (sym order) (subst (AreEntered nodes rest old.order) (sym late) after);
      found = subst (λ (es : List Entry). AreFound nodes rest es new.index) (sym late) known;
      room = omega (arith, h.room, room);
      reserved = omega (arith, h.reserved, room, capacity);
      few = omega (arith, h.few, room);
    }

-- a node enters as a listed one, if the index has lost it
pub register_put : (nodes : List NodeRow) (rest : List ℕ) (old new : Register) (e : Entry) (row : NodeRow) (place : ℕ) → is_ascending number nodes ≡ true → node_of nodes row.number ≡ Some row → (row.number == 0) ≡ false → e ≡ entry_of row → IsPlace nodes (entries_of old.order.runs) e.parent (name_of nodes e.node) place → LacksName nodes (entries_of old.order.runs) row.parent row.name → entries_of new.order.runs ≡ insert (entries_of old.order.runs) place e.node → new.order.entries ≡ insert old.order.entries place e → new.order.room ≡ old.order.room → new.late ≡ old.late → has_lost new.index (name_hash row.parent row.name) ≡ true → HasEntered old.index new.index → IsRegister nodes (row.number ∷ rest) old → IsRegister nodes rest new
register_put nodes rest old new e row place a found other is at lacks numbers entries room late lost index h =
    let x = row.number in
    let node : e.node ≡ x = ap (λ (y : Entry). y.node) is in
    let items : new.late.items ≡ old.late.items = ap (λ v. v.items) late in
    let capacity : vec_capacity new.late ≡ vec_capacity old.late = ap (λ v. vec_capacity v) late in
    let before : AreEntered nodes (e.node ∷ rest) old.order old.late.items = subst (λ (n : ℕ). AreEntered nodes (n ∷ rest) old.order old.late.items) (sym node) h.entered in
    let after = entered_put nodes rest old.order new.order old.late.items e row place before (ap (node_of nodes) node ∙ found) (ap (λ n. n == 0) node ∙ other) (own_entry nodes e row is found) (entry_place nodes (entries_of old.order.runs) e row place is found at) lacks numbers entries in
    let out = absent_out nodes rest old.order old.late.items x a h.entered in
    let led = found_index nodes (x ∷ rest) old.late.items old.index new.index (λ k n o held. index.holds k n held) index.kept h.found in
    let known = found_here nodes rest old.late.items new.index x row found (record { held = λ t. absurd (clash _ lost t); waits = λ t. absurd (clash _ t out.waits) }) led in
    record {
      entered = subst (AreEntered nodes rest new.order) (sym items) after;
      found = subst (λ (es : List Entry). AreFound nodes rest es new.index) (sym items) known;
      room = omega (arith, h.room, room);
      reserved = omega (arith, h.reserved, room, capacity);
      few = omega (arith, h.few, room);
    }

-- an index that has forgotten a number
pub record HasForgotten (old new : Indexed) (x : ℕ) : Type 0 where
  pub holds : (h n : ℕ) → (n == x) ≡ false → Holds old h n → Holds new h n
  pub kept : (h : ℕ) → has_lost old h ≡ true → has_lost new h ≡ true

forgotten : (nodes : List NodeRow) (late : List Entry) (old new : Indexed) (x : ℕ) → HasForgotten old new x → AreFound nodes [] late old → AreFound nodes (x ∷ []) late new
forgotten nodes late old new x index h =
    found_index nodes (x ∷ []) late old new (λ k n out held. index.holds k n (eq_turned x n (neither (x == n) false out).0) held) index.kept (found_absent nodes [] late old x h)

-- a listed node leaves
pub register_out : (nodes : List NodeRow) (old new : Register) (x place : ℕ) → slice_get (entries_of old.order.runs) place ≡ Some x → entries_of new.order.runs ≡ remove (entries_of old.order.runs) place → new.order.entries ≡ remove old.order.entries place → new.order.room ≡ old.order.room → new.late ≡ old.late → HasForgotten old.index new.index x → IsRegister nodes [] old → IsRegister nodes (x ∷ []) new
register_out nodes old new x place at numbers entries room late index h =
    let items : new.late.items ≡ old.late.items = ap (λ v. v.items) late in
    let capacity : vec_capacity new.late ≡ vec_capacity old.late = ap (λ v. vec_capacity v) late in
    record {
      entered = subst (AreEntered nodes (x ∷ []) new.order) (sym items) (entered_out nodes [] old.order new.order old.late.items place x h.entered at numbers entries);
      found = subst (λ (es : List Entry). AreFound nodes (x ∷ []) es new.index) (sym items) (forgotten nodes old.late.items old.index new.index x index h.found);
      room = omega (arith, h.room, room);
      reserved = omega (arith, h.reserved, room, capacity);
      few = omega (arith, h.few, room);
    }

-- a late node leaves
pub register_awaken : (nodes : List NodeRow) (old new : Register) (x : ℕ) → new.order ≡ old.order → HasLeft old.late.items new.late.items x → vec_capacity new.late ≡ vec_capacity old.late → HasForgotten old.index new.index x → IsRegister nodes [] old → IsRegister nodes (x ∷ []) new
register_awaken nodes old new x order left capacity index h =
    let room : new.order.room ≡ old.order.room = ap (λ (o : Sequence). o.room) order in
    record {
      entered = subst (λ (o : Sequence). AreEntered nodes (x ∷ []) o new.late.items) (sym order)
          (subst (λ (n : ℕ). AreEntered nodes (n ∷ []) old.order new.late.items) left.node_is
          (entered_awaken nodes [] old.order old.late.items new.late.items left.entry h.entered left.members));
      found = found_awaken nodes (x ∷ []) old.late.items new.late.items new.index left.entry left.members (forgotten nodes old.late.items old.index new.index x index h.found);
      room = omega (arith, h.room, room);
      reserved = omega (arith, h.reserved, room, capacity);
      few = omega (arith, h.few, room);
    }

-- a node of the name that it has itself
pub own_place : (nodes : List NodeRow) (order : List ℕ) (row : NodeRow) (place : ℕ) → AreApart nodes → IsListed nodes order → node_of nodes row.number ≡ Some row → (row.number == 0) ≡ false → IsNamed nodes order row.parent row.name place → slice_get order place ≡ Some row.number
own_place nodes order row place apart h found other named =
    let c = listed_named nodes order row.parent row.name place named.number h named named.at in
    named.at ∙ ap Some (apart.alone row.number named.number row c.row found c.found other c.inner c.folder_is c.named)

pub own_late : (nodes : List NodeRow) (order : Sequence) (late : List Entry) (row : NodeRow) → AreEntered nodes [] order late → node_of nodes row.number ≡ Some row → (row.number == 0) ≡ false → LacksName nodes (entries_of order.runs) row.parent row.name → is_in (map number_in late) row.number ≡ true
own_late nodes order late row h found other lacks =
    elim (entered_where nodes order late row.number row h found other) [
      | inl t ↦ absurd (clash _ t (lacks_itself nodes (entries_of order.runs) row.number row found other lacks))
      | inr t ↦ t
    ]

-- the first of the late nodes is put into the order
first_inner : (e : Entry) (late : List Entry) → is_in (map number_in (e ∷ late)) 0 ≡ false → (e.node == 0) ≡ false
first_inner e late h = (neither (e.node == 0) (is_in (map number_in late) 0) h).0

pub late_settled : (nodes : List NodeRow) (order more : Sequence) (e : Entry) (late : List Entry) (place : ℕ) → is_ascending number nodes ≡ true → AreApart nodes → AreEntered nodes [] order (e ∷ late) → IsPlace nodes (entries_of order.runs) e.parent (name_of nodes e.node) place → entries_of more.runs ≡ insert (entries_of order.runs) place e.node → more.entries ≡ insert order.entries place e → AreEntered nodes [] more late
late_settled nodes order more e late place a apart h at numbers entries =
    let own = All-head (IsOwn nodes) e late h.own in
    let row = own.row in
    let other = first_inner e late (late_inner nodes order (e ∷ late) h) in
    let absent = entered_awaken nodes [] order (e ∷ late) late e h (IsPermutation-refl (e ∷ late)) in
    let out = absent_out nodes [] order late e.node a absent in
    let here : IsPlace nodes (entries_of order.runs) row.parent row.name place =
    subst (λ (name : List ℕ). IsPlace nodes (entries_of order.runs) row.parent name place) (found_name nodes e.node row own.found)
    (subst (λ (p : ℕ). IsPlace nodes (entries_of order.runs) p (name_of nodes e.node) place) own.parent_is at) in
    entered_put nodes [] order more late e row place absent own.found other own here (lacks_apart nodes (entries_of order.runs) e.node row apart own.found other out.listed) numbers entries
