-- How many rows there are in slots, and the bytes of their names, when one slot changes.
use Rattle.std.proofs.Common.{◌≡◌, ℕ, zero, suc, ◌+◌, ◌<◌, ◌≤◌, cond, List, [], ◌∷◌, length, Option, Some, None, arith}
use Rattle.std.specs.Prelude.{is_some}
use Rattle.std.proofs.lemmas.List.Sums.{sum_by-cons, sum_by-set}
use Rattle.fsrm_model.specs.declared.row.NodeRow.{NodeRow}
use Rattle.fsrm_model.specs.nodes.Tree.{name_bytes}
use Rattle.name_region.specs.Contents.{Contents, bytes_of, live_count, text_of, used, with_text}
use Rattle.node_table.specs.Slots.{rows_of, slot_at, with_slot}

-- the bytes of the name in a slot, and the number of rows in it
abbrev pub bytes_in : Option NodeRow → ℕ
bytes_in None = 0
bytes_in (Some row) = length row.name

abbrev pub rows_in : Option NodeRow → ℕ
rows_in None = 0
rows_in (Some row) = 1

first_bytes : (slot : Option NodeRow) (slots : List (Option NodeRow)) → name_bytes (rows_of (slot ∷ slots)) ≡ bytes_in slot + name_bytes (rows_of slots)
first_bytes None slots = omega arith
first_bytes (Some row) slots = sum_by-cons (λ (node : NodeRow). length node.name) row (rows_of slots)

pub bytes-with_slot : (slots : List (Option NodeRow)) (n : ℕ) (slot : Option NodeRow) → name_bytes (rows_of (with_slot slots n slot)) + bytes_in (slot_at slots n) ≡ name_bytes (rows_of slots) + bytes_in slot
bytes-with_slot [] zero slot = omega (arith, first_bytes slot [])
bytes-with_slot [] (suc n) slot = bytes-with_slot [] n slot
bytes-with_slot (x ∷ xs) zero slot = omega (arith, first_bytes slot xs, first_bytes x xs)
bytes-with_slot (x ∷ xs) (suc n) slot = let rest = bytes-with_slot xs n slot in omega (arith, rest, first_bytes x (with_slot xs n slot), first_bytes x xs)

first_rows : (slot : Option NodeRow) (slots : List (Option NodeRow)) → length (rows_of (slot ∷ slots)) ≡ rows_in slot + length (rows_of slots)
first_rows None slots = omega arith
first_rows (Some row) slots = omega arith

pub rows-with_slot : (slots : List (Option NodeRow)) (n : ℕ) (slot : Option NodeRow) → length (rows_of (with_slot slots n slot)) + rows_in (slot_at slots n) ≡ length (rows_of slots) + rows_in slot
rows-with_slot [] zero slot = omega (arith, first_rows slot [])
rows-with_slot [] (suc n) slot = rows-with_slot [] n slot
rows-with_slot (x ∷ xs) zero slot = omega (arith, first_rows slot xs, first_rows x xs)
rows-with_slot (x ∷ xs) (suc n) slot = let rest = rows-with_slot xs n slot in omega (arith, rest, first_rows x (with_slot xs n slot), first_rows x xs)

pub rows_fit : (slots : List (Option NodeRow)) → length (rows_of slots) ≤ length slots
rows_fit [] = omega arith
rows_fit (None ∷ slots) = let rest = rows_fit slots in omega (arith, rest)
rows_fit (Some row ∷ slots) = let rest = rows_fit slots in omega (arith, rest)

-- the same of the texts under keys
pub used-with_text : (c : Contents) (k : ℕ) (text : Option (List ℕ)) → k < length c.texts → used (with_text c k text) + bytes_of (text_of c k) ≡ used c + bytes_of text
used-with_text c k text within = sum_by-set bytes_of c.texts k text None within

pub live-with_text : (c : Contents) (k : ℕ) (text : Option (List ℕ)) → k < length c.texts → live_count (with_text c k text) + cond (is_some (text_of c k)) 1 0 ≡ live_count c + cond (is_some text) 1 0
live-with_text c k text within = sum_by-set (λ (o : Option (List ℕ)). cond (is_some o) 1 0) c.texts k text None within
