-- What a table answers, and what it keeps if a row comes, goes or is another.
use Rattle.std.proofs.Common.{◌≡◌, ℕ, ◌+◌, ◌-◌, ◌*◌, ◌<◌, ◌≤◌, ◌==◌, nat_le, nat_lt, Bool, true, false, cond, ◌&&◌, ◌||◌, List, [], ◌∷◌, length, map, Option, Some, None, inl, inr, refl, sym, ◌∙◌, ap, subst, arith}
use Rattle.std.proofs.Math.ListN.{get_or-map}
use Rattle.std.proofs.lemmas.List.{get_or_past, length-map}
use Rattle.std.proofs.lemmas.List.Folds.{list_all-map}
use Rattle.std.proofs.lemmas.Nat.{mul-le}
use Rattle.std.proofs.lemmas.Option.{none-some, same_Some, slice_get-map}
use Rattle.std.proofs.lemmas.Simd.{map-map}
use Rattle.std.specs.List.{list_all}
use Rattle.std.specs.Prelude.{is_some, option_map, slice_get, sum_by, IfSome, IsSome, MatchOption}
use Rattle.fsrm_base.specs.Keyed.{has_row, is_ascending, row_of, with_row, with_change, without_row, least_free, least_free_from}
use Rattle.fsrm_base.specs.Numbers.{is_in, is_set, itself}
use Rattle.fsrm_base.specs.Places.{IsAt}
use Rattle.fsrm_base.proofs.EditedRows.{change_absent, find-with_row_same, length-change, length-with_row, sum_by-with_row, sum_by-with_change, sum_by-without_row}
use Rattle.fsrm_base.proofs.EditedTests.{list_all-filter, list_all-with_change, list_all-with_row}
use Rattle.fsrm_base.proofs.Look.{find-map, found_key, has_found, has_row-without, is_some-find, is_some-mapped, none_row, row_of-new_other, row_of-without, some_row}
use Rattle.fsrm_base.proofs.Members.{all_found}
use Rattle.fsrm_base.proofs.NumberLaws.{same_set}
use Rattle.fsrm_base.proofs.Order.{ascending-filter, ascending-map, ascending-with_row}
use Rattle.fsrm_base.proofs.RowLaws.{all_same, each_found, map_same}
use Rattle.fsrm_base.proofs.SortedRows.{there}
use Rattle.fsrm_base.proofs.Sums.{sum_by-map, sum_by-ones, sum_by_each, sum_by_within}
use Rattle.fsrm_base.proofs.TestLaws.{clash, eq_is, eq_same, eq_test, is_or_not, le_is, le_test}
use Rattle.row_table.specs.declared.index.Entry.{Entry}
use Rattle.row_table.specs.Held.{Held, Keeps}
use Rattle.row_table.specs.Indexed.{Indexed, noted, number_of, slot_in, slot_of}
use Rattle.row_table.specs.Pooled.{Pooled, Puts, in_slot}
use Rattle.row_table.specs.Slotted.{IsTable, held_in, rows_of}
use Rattle.row_table.proofs.HeldLaws.{held_of, less_length, none_found, same_key}

-- ---- rows with the same numbers
in_numbers : {X : Type 0} (key : X → ℕ) (n : ℕ) (rows : List X) → is_in (map key rows) n ≡ has_row key n rows
in_numbers key n [] = refl
in_numbers key n (r ∷ rows) = ap (λ b. (key r == n) || b) (in_numbers key n rows)

are_set : {X : Type 0} (key : X → ℕ) (rows : List X) → is_set (map key rows) ≡ is_ascending key rows
are_set key [] = refl
are_set key (r ∷ []) = refl
are_set key (r ∷ s ∷ rows) = ap (λ b. nat_lt (key r) (key s) && b) (are_set key (s ∷ rows))

free_from : {X : Type 0} (key : X → ℕ) (n : ℕ) (rows : List X) → least_free_from itself n (map key rows) ≡ least_free_from key n rows
free_from key n [] = refl
free_from key n (r ∷ rows) = ap (λ m. cond (key r == n) m n) (free_from key (n + 1) rows)

-- ---- the rows of slots
of_some : {X : Type 0} (o p : Option X) → Some o ≡ option_map Some p → o ≡ p
of_some o None h = cc
of_some o (Some r) h = same_Some o (Some r) h

-- two look-ups agree, but for one number
abbrev Agree : {X : Type 0} → ℕ → (ℕ → Option X) → (ℕ → Option X) → Type 0
Agree own f g = (n : ℕ) → (n == own) ≡ false → f n ≡ g n

rows_some : {X : Type 0} (rows : List X) → rows_of (map Some rows) ≡ rows
rows_some [] = refl
rows_some (r ∷ rows) = ap (λ rs. r ∷ rs) (rows_some rows)

module _ {X : Type 0} {key bytes : X → ℕ} {most most_bytes : ℕ} where
  -- what contracts see of a table
  pub table_of : {index : Indexed} {pool : Pooled X} {texts : ℕ} {value : Held X} → IsTable key bytes most most_bytes index pool texts (held_in index pool) → held_in index pool ≡ value → IsTable key bytes most most_bytes index pool texts value
  table_of {index} {pool} {texts} is seen = subst (IsTable key bytes most most_bytes index pool texts) seen is

  module _ {index : Indexed} {pool : Pooled X} {texts : ℕ} {value : Held X} (table : IsTable key bytes most most_bytes index pool texts value) where
    -- ---- what is answered
    some_of : (n : ℕ) → is_some (slot_in index.entries n) ≡ is_some (row_of key n value.rows)
    some_of n = sym (is_some-mapped (in_slot pool.slots) (slot_in index.entries n)) ∙ (ap is_some (table.found n) ∙ is_some-mapped Some (row_of key n value.rows))

    pub has_number : (n : ℕ) → has_row number_of n index.entries ≡ has_row key n value.rows
    has_number n =
        sym (is_some-find (λ e. e.number == n) index.entries)
        ∙ (sym (is_some-mapped slot_of (row_of number_of n index.entries)) ∙ (some_of n ∙ is_some-find (λ r. key r == n) value.rows))

    numbers : map number_of index.entries ≡ map key value.rows
    numbers =
        same_set (map number_of index.entries) (map key value.rows) (are_set number_of index.entries ∙ table.ascending) (are_set key value.rows ∙ table.held.ascending)
        (λ n. in_numbers number_of n index.entries ∙ (has_number n ∙ sym (in_numbers key n value.rows)))

    pub count : length value.rows ≡ length index.entries
    count = omega (arith, ap length numbers, length-map index.entries number_of, length-map value.rows key)

    pub least : least_free number_of index.entries ≡ least_free key value.rows
    least = sym (free_from number_of 0 index.entries) ∙ (ap (least_free_from itself 0) numbers ∙ free_from key 0 value.rows)

    -- by the slot that the index tells of a number
    pub row_in_slot : (n slot : ℕ) → slot_in index.entries n ≡ Some slot → in_slot pool.slots slot ≡ row_of key n value.rows
    row_in_slot n slot h = of_some (in_slot pool.slots slot) (row_of key n value.rows) (sym (ap (option_map (in_slot pool.slots)) h) ∙ table.found n)

    pub no_row : (n : ℕ) → slot_in index.entries n ≡ None → None ≡ row_of key n value.rows
    no_row n h = sym (none_row (row_of key n value.rows) (sym (some_of n) ∙ ap is_some h))

    pub is_full : (n slot : ℕ) → slot_in index.entries n ≡ Some slot → IsSome (in_slot pool.slots slot)
    is_full n slot h = ap is_some (row_in_slot n slot h) ∙ (sym (some_of n) ∙ ap is_some h)

    -- by the note of a number, which is a slot only if the number is there
    by_note : (n : ℕ) (o : Option Entry) → row_of number_of n index.entries ≡ o → (noted o ≡ 65535 → length pool.slots < 65536) → in_slot pool.slots (noted o) ≡ row_of key n value.rows
    by_note n None h few = get_or_past pool.slots 65535 None (omega (arith, few refl)) ∙ no_row n (ap (option_map slot_of) h)
    by_note n (Some e) h few = row_in_slot n e.slot (ap (option_map slot_of) h)

    pub row_noted : (n note : ℕ) → note ≡ noted (row_of number_of n index.entries) → (note ≡ 65535 → length pool.slots < 65536) → in_slot pool.slots note ≡ row_of key n value.rows
    row_noted n note is few = ap (in_slot pool.slots) is ∙ by_note n (row_of number_of n index.entries) refl (λ none. few (is ∙ none))

    pub slot_there : (n note : ℕ) → note ≡ noted (row_of number_of n index.entries) → has_row key n value.rows ≡ true → slot_in index.entries n ≡ Some note
    slot_there n note is there =
        let f = has_found number_of n index.entries (has_number n ∙ there) in
        ap (option_map slot_of) f.is ∙ ap Some (sym (is ∙ ap noted f.is))

    -- the slots of the entries have the rows, in their order
    listed : map (λ e. in_slot pool.slots e.slot) index.entries ≡ map Some value.rows
    listed =
        let look : ℕ → Option X = λ n. row_of key n value.rows in
        map_same (λ e. in_slot pool.slots e.slot) (λ e. look e.number) index.entries
        (each_found number_of (λ e. in_slot pool.slots e.slot ≡ look e.number) index.entries table.ascending (λ e own. row_in_slot e.number e.slot (ap (option_map slot_of) own)))
        ∙ (sym (map-map look number_of index.entries)
        ∙ (ap (map look) numbers
        ∙ (map-map look key value.rows
        ∙ map_same (λ r. look (key r)) Some value.rows (each_found key (λ r. look (key r) ≡ Some r) value.rows table.held.ascending (λ r own. own)))))

    -- what contracts see of it
    pub seen_of : held_in index pool ≡ value
    seen_of = ap (λ (rs : List X). held_of rs index.room) (ap rows_of listed ∙ rows_some value.rows) ∙ ap (held_of value.rows) (sym table.room_is)

    pub kept_of : IsTable key bytes most most_bytes index pool texts (held_in index pool)
    kept_of = subst (IsTable key bytes most most_bytes index pool texts) (sym seen_of) table

    pub row_at : (p : ℕ) (e : Entry) → slice_get index.entries p ≡ Some e → in_slot pool.slots e.slot ≡ slice_get value.rows p
    row_at p e h =
        of_some (in_slot pool.slots e.slot) (slice_get value.rows p)
        (sym (ap (option_map (λ (e : Entry). in_slot pool.slots e.slot)) h)
        ∙ (sym (slice_get-map (λ (e : Entry). in_slot pool.slots e.slot) index.entries p) ∙ (ap (λ (os : List (Option X)). slice_get os p) listed ∙ slice_get-map Some value.rows p)))

    pub small_at : (n : ℕ) (r : X) → row_of key n value.rows ≡ Some r → bytes r ≤ most_bytes
    small_at n r is = le_is (bytes r) most_bytes (all_found (λ row. nat_le (bytes row) most_bytes) (λ row. key row == n) value.rows r table.held.small is)

    pub small_row : (n : ℕ) (o : Option X) → o ≡ row_of key n value.rows → IfSome o (λ row. bytes row ≤ most_bytes)
    small_row n None h = tt
    small_row n (Some r) h = small_at n r (sym h)

    pub placed : (n : ℕ) (o : Option ℕ) → MatchOption o (has_row number_of n index.entries ≡ false) (IsAt number_of n index.entries) → MatchOption o (has_row key n value.rows ≡ false) (IsAt key n value.rows)
    placed n None absent = sym (has_number n) ∙ absent
    placed n (Some place) at =
        let e = there index.entries place at.within in
        record {
          within = omega (arith, count, at.within);
          found = sym (row_at place e.row e.is) ∙ row_in_slot n e.row.slot (ap (option_map slot_of) (sym at.found ∙ e.is));
        }

    -- ---- texts, and so many more
    pub texts_fit : (more : ℕ) → length value.rows + more ≤ value.room → texts + more * most_bytes ≤ most * most_bytes
    texts_fit more room =
        let all : (length value.rows + more) * most_bytes ≤ most * most_bytes = mul-le (length value.rows + more) most_bytes most most_bytes (omega (arith, room, table.held.most_room)) (omega arith) in
        omega (arith, table.texts_are, sum_by_within bytes most_bytes value.rows table.held.small, all)

    pub texts_within : texts ≤ most * most_bytes
    texts_within = let few : length value.rows + 0 ≤ value.room = omega (arith, table.held.few) in omega (arith, texts_fit 0 few)

    -- ---- where the row of a number is
    pub some_held : (n : ℕ) → has_row key n value.rows ≡ true → 0 < pool.held
    some_held n h = let some : 0 < length value.rows = at value.rows h in omega (arith, table.counted)
      where
        at : (rows : List X) → has_row key n rows ≡ true → 0 < length rows
        at [] h = cc
        at (r ∷ rows) h = omega arith

    pub row_there : (n slot : ℕ) (row : X) → slot_in index.entries n ≡ Some slot → in_slot pool.slots slot ≡ Some row → row_of key n value.rows ≡ Some row
    row_there n slot row h is = sym (row_in_slot n slot h) ∙ is

    pub texts_there : (n slot : ℕ) (row : X) → slot_in index.entries n ≡ Some slot → in_slot pool.slots slot ≡ Some row → bytes row ≤ texts
    texts_there n slot row h is = omega (arith, table.texts_are, sum_by-without_row key bytes n row value.rows table.held.ascending (row_there n slot row h is))

    number_there : (n slot : ℕ) (row : X) → slot_in index.entries n ≡ Some slot → in_slot pool.slots slot ≡ Some row → key row ≡ n
    number_there n slot row h is = found_key key n value.rows row (row_there n slot row h is)

    -- ---- one slot gets another row, or none: the numbers but its own keep theirs
    module _ (new : Pooled X) (own slot : ℕ) (got : Option X) (put : Puts pool.slots new.slots slot got) (was : (r : X) → in_slot pool.slots slot ≡ Some r → key r ≡ own) (same : new.room ≡ pool.room) where
      stays : (n : ℕ) → (n == own) ≡ false → (o : Option ℕ) → slot_in index.entries n ≡ o → option_map (in_slot new.slots) o ≡ option_map (in_slot pool.slots) o
      stays n other None h = refl
      stays n other (Some s) h =
          let f = some_row (in_slot pool.slots s) (is_full n s h) in
          ap Some (put.others s (λ same. clash (n == own) (eq_test n own (sym (number_there n s f.row h f.is) ∙ was f.row (ap (in_slot pool.slots) (sym same) ∙ f.is))) other))

      got_is : (o : Option X) → in_slot new.slots slot ≡ o → option_map (in_slot new.slots) (option_map (λ (r : X). slot) o) ≡ option_map Some o
      got_is None h = refl
      got_is (Some r) h = ap Some h

      table_edited : (es : List Entry) (rows : List X) (after : ℕ) → Agree own (slot_in es) (slot_in index.entries) → Agree own (λ n. row_of key n rows) (λ n. row_of key n value.rows) → slot_in es own ≡ option_map (λ (r : X). slot) got → row_of key own rows ≡ got → is_ascending number_of es ≡ true → is_ascending key rows ≡ true → list_all (λ r. nat_le (bytes r) most_bytes) rows ≡ true → length rows ≤ value.room → after ≡ sum_by bytes rows → new.held ≡ length rows → IsTable key bytes most most_bytes (record index { entries = es }) new after (record value { rows = rows })
      table_edited es rows after slots_same rows_same slot_is row_is up ascending small few texts_are counted = record {
        held = record { ascending = ascending; small = small; few = few; most_room = table.held.most_room };
        texts_are = texts_are;
        ascending = up;
        found = λ n.
            elim (is_or_not (n == own)) [
              | inl at ↦
                  subst (λ m. option_map (in_slot new.slots) (slot_in es m) ≡ option_map Some (row_of key m rows)) (sym (eq_is n own at))
                  (ap (option_map (in_slot new.slots)) slot_is ∙ (got_is got put.put ∙ sym (ap (option_map Some) row_is)))
              | inr other ↦
                  ap (option_map (in_slot new.slots)) (slots_same n other)
                  ∙ (stays n other (slot_in index.entries n) refl ∙ (table.found n ∙ ap (option_map Some) (sym (rows_same n other))))
            ];
        counted = counted;
        room_is = table.room_is;
        room_most = omega (arith, table.room_most, same);
      }

    pub table_more : (slot : ℕ) (row : X) (new : Pooled X) → has_row key (key row) value.rows ≡ false → length value.rows < value.room → bytes row ≤ most_bytes → in_slot pool.slots slot ≡ None → Puts pool.slots new.slots slot (Some row) → new.held ≡ pool.held + 1 → new.room ≡ pool.room → IsTable key bytes most most_bytes (record index { entries = with_row number_of (record { number = key row; slot = slot }) index.entries }) new (texts + bytes row) (record value { rows = with_row key row value.rows })
    table_more slot row new free room small vacant put held same =
        let e : Entry = record { number = key row; slot = slot } in
        let absent : has_row number_of (key row) index.entries ≡ false = has_number (key row) ∙ free in
        table_edited new (key row) slot (Some row) put (λ r is. absurd (none-some r (sym vacant ∙ is))) same (with_row number_of e index.entries) (with_row key row value.rows) (texts + bytes row)
        (λ n other. ap (option_map slot_of) (row_of-new_other number_of e n index.entries other)) (λ n other. row_of-new_other key row n value.rows other)
        (ap (option_map slot_of) (find-with_row_same number_of (λ r. r.number == key row) e index.entries (eq_same (key row)) absent)) (find-with_row_same key (λ r. key r == key row) row value.rows (eq_same (key row)) free)
        (ascending-with_row number_of e index.entries absent table.ascending) (ascending-with_row key row value.rows free table.held.ascending)
        (list_all-with_row key (λ r. nat_le (bytes r) most_bytes) row value.rows (le_test (bytes row) most_bytes small) table.held.small)
        (omega (arith, room, length-with_row key row value.rows)) (omega (arith, table.texts_are, sum_by-with_row key bytes row value.rows)) (omega (arith, held, table.counted, length-with_row key row value.rows))

    pub table_less : (n slot : ℕ) (row : X) (new : Pooled X) → slot_in index.entries n ≡ Some slot → in_slot pool.slots slot ≡ Some row → Puts pool.slots new.slots slot None → new.held + 1 ≡ pool.held → new.room ≡ pool.room → IsTable key bytes most most_bytes (record index { entries = without_row number_of n index.entries }) new (texts - bytes row) (record value { rows = without_row key n value.rows })
    table_less n slot row new at is put held same =
        let less : List X = without_row key n value.rows in
        let sum : (f : X → ℕ) → sum_by f less + f row ≡ sum_by f value.rows = λ f. sum_by-without_row key f n row value.rows table.held.ascending (row_there n slot row at is) in
        let none = none_found number_of (without_row number_of n index.entries) n (has_row-without number_of n index.entries) in
        table_edited new n slot None put (λ r was. ap key (same_Some r row (sym was ∙ is)) ∙ number_there n slot row at is) same (without_row number_of n index.entries) less (texts - bytes row)
        (λ m other. ap (option_map slot_of) (row_of-without number_of n m index.entries other)) (λ m other. row_of-without key n m value.rows other)
        (ap (option_map slot_of) none) (none_found key less n (has_row-without key n value.rows))
        (ascending-filter number_of _ index.entries table.ascending) (ascending-filter key _ value.rows table.held.ascending)
        (list_all-filter (λ r. nat_le (bytes r) most_bytes) _ value.rows table.held.small)
        (omega (arith, table.held.few, less_length key n value.rows)) (omega (arith, table.texts_are, sum bytes)) (omega (arith, held, table.counted, sum (λ r. 1), sum_by-ones less, sum_by-ones value.rows))

    -- a row is changed, and keeps its number
    pub table_with : (n slot : ℕ) (row : X) (c : X → X) (new : Pooled X) → slot_in index.entries n ≡ Some slot → in_slot pool.slots slot ≡ Some row → ((r : X) → key r ≡ n → key (c r) ≡ n) → ((r : X) → bytes r ≤ most_bytes → bytes (c r) ≤ most_bytes) → Puts pool.slots new.slots slot (Some (c row)) → new.held ≡ pool.held → new.room ≡ pool.room → IsTable key bytes most most_bytes index new (texts - bytes row + bytes (c row)) (record value { rows = with_change key n c value.rows })
    table_with n slot row c new at is number short put held same =
        let there : row_of key n value.rows ≡ Some row = row_there n slot row at is in
        let changed : X → X = λ r. cond (key r == n) (c r) r in
        let keeps : (r : X) → key (changed r) ≡ key r = λ r. same_key key n c number r (key r == n) refl in
        let found : (m : ℕ) → row_of key m (map changed value.rows) ≡ option_map changed (row_of key m value.rows) = λ m. find-map (λ r. key r == m) changed (λ r. ap (λ k. k == m) (keeps r)) value.rows in
        table_edited new n slot (Some (c row)) put (λ r was. ap key (same_Some r row (sym was ∙ is)) ∙ number_there n slot row at is) same index.entries (with_change key n c value.rows) (texts - bytes row + bytes (c row))
        (λ m other. refl) (λ m other. found m ∙ unchanged n m c other (row_of key m value.rows) refl)
        at (found n ∙ (ap (option_map changed) there ∙ ap (λ b. Some (cond b (c row) row)) (eq_test (key row) n (number_there n slot row at is))))
        table.ascending (ascending-map key changed keeps value.rows table.held.ascending)
        (list_all-with_change key (λ r. nat_le (bytes r) most_bytes) n c value.rows table.held.small (λ r fits. le_test (bytes (c r)) most_bytes (short r (le_is (bytes r) most_bytes fits))))
        (omega (arith, table.held.few, length-change key n c value.rows)) (omega (arith, table.texts_are, texts_there n slot row at is, sum_by-with_change key bytes n c row value.rows table.held.ascending there)) (omega (arith, held, table.counted, length-change key n c value.rows))
      where
        unchanged : (n m : ℕ) (c : X → X) → (m == n) ≡ false → (o : Option X) → row_of key m value.rows ≡ o → option_map (λ r. cond (key r == n) (c r) r) o ≡ o
        unchanged n m c other None h = refl
        unchanged n m c other (Some r) h = ap (λ b. Some (cond b (c r) r)) (ap (λ k. k == n) (found_key key m value.rows r h) ∙ other)

    -- the same, where the bytes of its texts stay, too
    pub table_changed : (n slot : ℕ) (c : X → X) (new : Pooled X) → slot_in index.entries n ≡ Some slot → Keeps key bytes c → Puts pool.slots new.slots slot (option_map c (in_slot pool.slots slot)) → new.held ≡ pool.held → new.room ≡ pool.room → IsTable key bytes most most_bytes index new texts (record value { rows = with_change key n c value.rows })
    table_changed n slot c new at keeps put held same =
        let f = some_row (in_slot pool.slots slot) (is_full n slot at) in
        let still : texts - bytes f.row + bytes (c f.row) ≡ texts = omega (arith, keeps.texts f.row, texts_there n slot f.row at f.is) in
        let put_row : Puts pool.slots new.slots slot (Some (c f.row)) = subst (λ (o : Option X). Puts pool.slots new.slots slot (option_map c o)) f.is put in
        subst (λ t. IsTable key bytes most most_bytes index new t (record value { rows = with_change key n c value.rows })) still
        (table_with n slot f.row c new at f.is (λ r is. keeps.number r ∙ is) (λ r is. omega (arith, keeps.texts r, is)) put_row held same)

    -- the same by the note of a number, which may not be there
    pub table_noted : (n note : ℕ) (c : X → X) (new : Pooled X) → note ≡ noted (row_of number_of n index.entries) → length pool.slots < 65536 → Keeps key bytes c → Puts pool.slots new.slots note (option_map c (in_slot pool.slots note)) → new.held ≡ pool.held → new.room ≡ pool.room → IsTable key bytes most most_bytes index new texts (record value { rows = with_change key n c value.rows })
    table_noted n note c new is few keeps put held same =
        elim (is_or_not (has_row key n value.rows)) [
          | inl there ↦ table_changed n note c new (slot_there n note is there) keeps put held same
          | inr absent ↦
              let none = none_found key value.rows n absent in
              let no_slot : slot_in index.entries n ≡ None = ap (option_map slot_of) (none_found number_of index.entries n (has_number n ∙ absent)) in
              let vacant : in_slot pool.slots note ≡ None = row_noted n note is (λ past. few) ∙ none in
              let kept : Puts pool.slots new.slots note None = subst (λ (o : Option X). Puts pool.slots new.slots note (option_map c o)) vacant put in
              subst (IsTable key bytes most most_bytes index new texts) (ap (λ (rs : List X). held_of rs value.room) (sym (change_absent key n c value.rows absent)))
              (table_edited new n note None kept (λ r was. absurd (none-some r (sym vacant ∙ was))) same index.entries value.rows texts
              (λ m other. refl) (λ m other. refl) no_slot none table.ascending table.held.ascending table.held.small table.held.few table.texts_are (held ∙ table.counted))
        ]

    -- each row changed where it stands
    pub table_mapped : (c : X → X) → Keeps key bytes c → IsTable key bytes most most_bytes index (record pool { slots = map (option_map c) pool.slots }) texts (record value { rows = map c value.rows })
    table_mapped c keeps = record {
      held = record {
        ascending = ascending-map key c keeps.number value.rows table.held.ascending;
        small = list_all-map fits c value.rows ∙ (all_same (λ r. fits (c r)) fits (λ r. ap (λ n. nat_le n most_bytes) (keeps.texts r)) value.rows ∙ table.held.small);
        few = omega (arith, table.held.few, length-map value.rows c);
        most_room = table.held.most_room;
      };
      texts_are = table.texts_are ∙ sym (sum_by-map bytes c value.rows ∙ sum_by_each (λ r. bytes (c r)) bytes keeps.texts value.rows);
      ascending = table.ascending;
      found = λ n. at n (slot_in index.entries n) refl ∙ sym (ap (option_map Some) (find-map (λ r. key r == n) c (λ r. ap (λ k. k == n) (keeps.number r)) value.rows));
      counted = omega (arith, table.counted, length-map value.rows c);
      room_is = table.room_is;
      room_most = table.room_most;
    }
      where
        fits : X → Bool
        fits r = nat_le (bytes r) most_bytes

        at : (n : ℕ) (o : Option ℕ) → slot_in index.entries n ≡ o → option_map (in_slot (map (option_map c) pool.slots)) o ≡ option_map Some (option_map c (row_of key n value.rows))
        at n None h = ap (λ (p : Option X). option_map Some (option_map c p)) (no_row n h)
        at n (Some s) h =
            let f = some_row (in_slot pool.slots s) (is_full n s h) in
            ap Some (get_or-map (option_map c) pool.slots s None ∙ ap (option_map c) f.is) ∙ sym (ap (λ (p : Option X). option_map Some (option_map c p)) (sym (row_in_slot n s h) ∙ f.is))
