-- What a table keeps when a node is put, taken away or changed.
use Rattle.std.proofs.Common.{◌≡◌, ℕ, ◌+◌, ◌<◌, ◌≤◌, true, false, List, [], length, Option, Some, None, refl, sym, ◌∙◌, ap, subst, arith}
use Rattle.std.specs.Prelude.{is_some, option_map, unwrap_or, cond}
use Rattle.std.proofs.lemmas.List.{length-set}
use Rattle.fsrm_model.specs.declared.row.NodeRow.{NodeRow}
use Rattle.fsrm_model.specs.nodes.Tree.{name_bytes}
use Rattle.name_region.specs.Contents.{Contents, bytes_of, is_live, live_count, text_of, used, with_text}
use Rattle.node_table.specs.declared.row.Row.{Row}
use Rattle.node_table.specs.Kept.{IsTable, name_under, slot_in, slots_in, table_of}
use Rattle.node_table.specs.Rows.{Slotted, empty_row, is_empty, key_of, row_at, row_in}
use Rattle.node_table.specs.Slots.{rows_of, slot_at, with_at, with_change_at, with_slot}
use Rattle.node_table.proofs.KeyLaws.{keys_change, keys_put, keys_take, live_within, not_held, slot_same, text_same}
use Rattle.node_table.proofs.PlaceLaws.{at_same, length-with_at, with_at-with_at}
use Rattle.node_table.proofs.SlotLaws.{key_is, length-slots_in, slot_of, slot_with, slots-with_at, within_rows}
use Rattle.node_table.proofs.SumLaws.{bytes_in, bytes-with_slot, live-with_text, rows_fit, rows_in, rows-with_slot, used-with_text}

some_text : (o : Option (List ℕ)) → is_some o ≡ true → (text : List ℕ) × (o ≡ Some text)
some_text None live = absurd (cc live)
some_text (Some text) live = (text, refl)

-- ---- a node is put
-- a row and a key that has no text yet
pub record IsNew (s : Slotted) (c : Contents) (n k : ℕ) (r : Row) (row : NodeRow) : Type 0 where
  pub below : n < s.room
  pub empty : slot_at (slots_in 0 s.rows c) n ≡ None
  pub within : k < length c.texts
  pub dead : text_of c k ≡ None
  pub own : key_of r ≡ Some k
  pub says : row_in n r row.name ≡ row

module _ (s : Slotted) (c : Contents) (is : IsTable s c) (n k : ℕ) (r : Row) (row : NodeRow) (new : IsNew s c n k r row) where
  put_here : slot_in n r (with_text c k (Some row.name)) ≡ Some row
  put_here =
      slot_with n k r (with_text c k (Some row.name)) new.own
      ∙ (ap (λ (o : Option (List ℕ)). Some (row_in n r (unwrap_or o []))) (text_same c k (Some row.name) new.within) ∙ ap (λ (x : NodeRow). Some x) new.says)

  pub put_slots : slots_in 0 (with_at empty_row s.rows n r) (with_text c k (Some row.name)) ≡ with_slot (slots_in 0 s.rows c) n (Some row)
  put_slots =
      slots-with_at s.rows n r c (with_text c k (Some row.name)) (λ j _. slot_same j k (row_at s.rows j) c (Some row.name) (λ i has. not_held s.rows c is.keyed n k j i new.dead has))
      ∙ ap (with_slot (slots_in 0 s.rows c) n) put_here

  pub put_table : IsTable (record s { rows = with_at empty_row s.rows n r }) (with_text c k (Some row.name))
  put_table =
      let slots = slots_in 0 s.rows c in
      let none = ap bytes_in new.empty in
      let no_row = ap rows_in new.empty in
      let no_text = ap bytes_of new.dead in
      let no_key : cond {A = ℕ} (is_some (text_of c k)) 1 0 ≡ 0 = ap (λ (o : Option (List ℕ)). cond {A = ℕ} (is_some o) 1 0) new.dead in
      record {
        within = let new_below = new.below in let fits = is.within in omega (arith, length-with_at empty_row s.rows n r);
        keys_are = length-set c.texts k (Some row.name) ∙ is.keys_are;
        keyed = keys_put s.rows c is.keyed n k r row.name new.dead new.within new.own;
        used_is = let was = is.used_is in omega (arith, used-with_text c k (Some row.name) new.within, bytes-with_slot slots n (Some row), ap (λ ss. name_bytes (rows_of ss)) put_slots);
        count_is = let was = is.count_is in omega (arith, live-with_text c k (Some row.name) new.within, rows-with_slot slots n (Some row), ap (λ ss. length (rows_of ss)) put_slots);
      }

-- there is a key for a node more, while a slot is empty
pub key_left : (s : Slotted) (c : Contents) (n : ℕ) (row : NodeRow) → IsTable s c → n < s.room → slot_at (slots_in 0 s.rows c) n ≡ None → live_count c < length c.texts
key_left s c n row is below empty =
    let slots = slots_in 0 s.rows c in
    let no_row = ap rows_in empty in
    let count = is.count_is in
    let keys = is.keys_are in
    let fits = is.within in
    omega (arith, rows-with_slot slots n (Some row), rows_fit (with_slot slots n (Some row)), length-with_at {X = Option NodeRow} None slots n (Some row), length-slots_in 0 s.rows c)

-- ---- a node that there is
-- its key, and the name under it
pub record IsHeld (c : Contents) (row : Row) : Type 0 where
  pub own : key_of row ≡ Some row.name
  pub live : is_live c row.name ≡ true
  pub within : row.name < length c.texts
  pub text : List ℕ
  pub text_is : text_of c row.name ≡ Some text
  pub name_is : name_under c row.name ≡ text

pub held_at : (s : Slotted) (c : Contents) (n : ℕ) → IsTable s c → is_empty (row_at s.rows n) ≡ false → IsHeld c (row_at s.rows n)
held_at s c n is taken =
    let row = row_at s.rows n in
    let own = key_is row taken in
    let live = is.keyed.live n row.name own in
    let some = some_text (text_of c row.name) live in
    record {
      own = own;
      live = live;
      within = live_within c row.name live;
      text = some.0;
      text_is = some.1;
      name_is = ap (λ (o : Option (List ℕ)). unwrap_or o []) some.1;
    }

pub below_room : (s : Slotted) (c : Contents) (n : ℕ) → IsTable s c → is_empty (row_at s.rows n) ≡ false → n < s.room
below_room s c n is taken = let within = within_rows s.rows n taken in let fits = is.within in omega arith

-- ---- a node is taken away
module _ (s : Slotted) (c : Contents) (is : IsTable s c) (n : ℕ) (taken : is_empty (row_at s.rows n) ≡ false) where
  pub take_slots : slots_in 0 (with_at empty_row s.rows n empty_row) (with_text c (row_at s.rows n).name None) ≡ with_slot (slots_in 0 s.rows c) n None
  take_slots =
      let k = (row_at s.rows n).name in
      let held = held_at s c n is taken in
      slots-with_at s.rows n empty_row c (with_text c k None) (λ j ne. slot_same j k (row_at s.rows j) c None (λ i has same. ne (is.keyed.apart j n k (has ∙ ap (λ x. Some x) same) held.own)))

  pub take_table : IsTable (record s { rows = with_at empty_row s.rows n empty_row }) (with_text c (row_at s.rows n).name None)
  take_table =
      let k = (row_at s.rows n).name in
      let slots = slots_in 0 s.rows c in
      let held = held_at s c n is taken in
      let here = slot_of n s.rows c taken in
      let bytes = ap bytes_in here in
      let one = ap rows_in here in
      let name = ap length held.name_is in
      let text = ap bytes_of held.text_is in
      let key : cond {A = ℕ} (is_some (text_of c k)) 1 0 ≡ 1 = ap (λ (o : Option (List ℕ)). cond {A = ℕ} (is_some o) 1 0) held.text_is in
      record {
        within = let below = within_rows s.rows n taken in let fits = is.within in omega (arith, length-with_at empty_row s.rows n empty_row);
        keys_are = length-set c.texts k None ∙ is.keys_are;
        keyed = keys_take s.rows c is.keyed n k held.own;
        used_is = let was = is.used_is in omega (arith, used-with_text c k None held.within, bytes-with_slot slots n None, ap (λ ss. name_bytes (rows_of ss)) take_slots);
        count_is = let was = is.count_is in omega (arith, live-with_text c k None held.within, rows-with_slot slots n None, ap (λ ss. length (rows_of ss)) take_slots);
      }

  pub emptied : slot_at (slots_in 0 (with_at empty_row s.rows n empty_row) (with_text c (row_at s.rows n).name None)) n ≡ None
  emptied = ap (λ ss. slot_at ss n) take_slots ∙ at_same {X = Option NodeRow} None (slots_in 0 s.rows c) n None

-- ---- a node is changed, but for its name
module _ (s : Slotted) (c : Contents) (is : IsTable s c) (n : ℕ) (taken : is_empty (row_at s.rows n) ≡ false) (r : Row) (same : key_of r ≡ key_of (row_at s.rows n)) (change : NodeRow → NodeRow) (says : (m : ℕ) (name : List ℕ) → row_in m r name ≡ change (row_in m (row_at s.rows n) name)) where
  change_here : slot_in n r c ≡ option_map change (slot_at (slots_in 0 s.rows c) n)
  change_here =
      let k = (row_at s.rows n).name in
      slot_with n k r c (same ∙ key_is (row_at s.rows n) taken) ∙ (ap (λ (x : NodeRow). Some x) (says n (name_under c k)) ∙ sym (ap (option_map change) (slot_of n s.rows c taken)))

  pub change_slots : slots_in 0 (with_at empty_row s.rows n r) c ≡ with_change_at (slots_in 0 s.rows c) n change
  change_slots = slots-with_at s.rows n r c c (λ j _. refl) ∙ ap (with_slot (slots_in 0 s.rows c) n) change_here

  pub change_table : IsTable (record s { rows = with_at empty_row s.rows n r }) c
  change_table =
      let k = (row_at s.rows n).name in
      let slots = slots_in 0 s.rows c in
      let new = slot_with n k r c (same ∙ key_is (row_at s.rows n) taken) in
      let slots_are = slots-with_at s.rows n r c c (λ j _. refl) in
      let old = slot_of n s.rows c taken in
      let bytes = ap bytes_in new in
      let old_bytes = ap bytes_in old in
      let one = ap rows_in new in
      let old_one = ap rows_in old in
      record {
        within = let below = within_rows s.rows n taken in let fits = is.within in omega (arith, length-with_at empty_row s.rows n r);
        keys_are = is.keys_are;
        keyed = keys_change s.rows c is.keyed n r same;
        used_is = let was = is.used_is in omega (arith, bytes-with_slot slots n (slot_in n r c), ap (λ ss. name_bytes (rows_of ss)) slots_are);
        count_is = let was = is.count_is in omega (arith, rows-with_slot slots n (slot_in n r c), ap (λ ss. length (rows_of ss)) slots_are);
      }

-- ---- a node gets another name: the old one is taken away first
-- the row that a slot has
abbrev pub node_in : Slotted → Contents → ℕ → NodeRow
node_in s c n = row_in n (row_at s.rows n) (name_under c (row_at s.rows n).name)

-- the rows and the names between the two
abbrev pub rows_without : Slotted → ℕ → Slotted
rows_without s n = record s { rows = with_at empty_row s.rows n empty_row }

abbrev pub names_without : Slotted → Contents → ℕ → Contents
names_without s c n = with_text c (row_at s.rows n).name None

module _ (s : Slotted) (c : Contents) (is : IsTable s c) (n : ℕ) (taken : is_empty (row_at s.rows n) ≡ false) where
  changed : (change : NodeRow → NodeRow) → with_change_at (slots_in 0 s.rows c) n change ≡ with_slot (slots_in 0 s.rows c) n (Some (change (node_in s c n)))
  changed change = ap (λ (o : Option NodeRow). with_slot (slots_in 0 s.rows c) n (option_map change o)) (slot_of n s.rows c taken)

  pub name_fits : (change : NodeRow → NodeRow) → name_bytes (rows_of (with_change_at (slots_in 0 s.rows c) n change)) ≤ c.bytes → used (names_without s c n) + length (change (node_in s c n)).name ≤ c.bytes
  name_fits change room =
      let slots = slots_in 0 s.rows c in
      let row = change (node_in s c n) in
      let used_now = (take_table s c is n taken).used_is in
      omega (arith, room, ap (λ ss. name_bytes (rows_of ss)) (changed change), bytes-with_slot slots n (Some row), bytes-with_slot slots n None, ap (λ ss. name_bytes (rows_of ss)) (take_slots s c is n taken))

  pub key_fits : live_count (names_without s c n) < length (names_without s c n).texts
  key_fits = key_left (rows_without s n) (names_without s c n) n (node_in s c n) (take_table s c is n taken) (below_room s c n is taken) (emptied s c is n taken)

  -- a row and a key that are new between the two
  module _ (k : ℕ) (r : Row) (change : NodeRow → NodeRow) (within : k < length (names_without s c n).texts) (dead : text_of (names_without s c n) k ≡ None) (own : key_of r ≡ Some k) (says : row_in n r (change (node_in s c n)).name ≡ change (node_in s c n)) where
    between : IsNew (rows_without s n) (names_without s c n) n k r (change (node_in s c n))
    between = record { below = below_room s c n is taken; empty = emptied s c is n taken; within = within; dead = dead; own = own; says = says }

    pub place_table : IsTable (record s { rows = with_at empty_row s.rows n r }) (with_text (names_without s c n) k (Some (change (node_in s c n)).name))
    place_table =
        subst (λ (rows : List Row). IsTable (record s { rows = rows }) (with_text (names_without s c n) k (Some (change (node_in s c n)).name))) (with_at-with_at empty_row s.rows n empty_row r)
        (put_table (rows_without s n) (names_without s c n) (take_table s c is n taken) n k r (change (node_in s c n)) between)

    pub place_slots : slots_in 0 (with_at empty_row s.rows n r) (with_text (names_without s c n) k (Some (change (node_in s c n)).name)) ≡ with_change_at (slots_in 0 s.rows c) n change
    place_slots =
        ap (λ (rows : List Row). slots_in 0 rows (with_text (names_without s c n) k (Some (change (node_in s c n)).name))) (sym (with_at-with_at empty_row s.rows n empty_row r))
        ∙ (put_slots (rows_without s n) (names_without s c n) (take_table s c is n taken) n k r (change (node_in s c n)) between
        ∙ (ap (λ ss. with_slot ss n (Some (change (node_in s c n)))) (take_slots s c is n taken)
        ∙ (with_at-with_at {X = Option NodeRow} None (slots_in 0 s.rows c) n None (Some (change (node_in s c n))) ∙ sym (changed change))))

-- ---- of rows and names that are these
pub same_table : (s made : Slotted) (c names : Contents) → made ≡ s → names ≡ c → IsTable s c → IsTable made names
same_table s made c names rows_are names_are is = subst (λ (x : Slotted). IsTable x names) (sym rows_are) (subst (λ (y : Contents). IsTable s y) (sym names_are) is)

pub same_view : (s made : Slotted) (c names : Contents) → made ≡ s → names ≡ c → table_of made names ≡ table_of s c
same_view s made c names rows_are names_are = ap (λ (x : Slotted). table_of x names) rows_are ∙ ap (λ (y : Contents). table_of s y) names_are
