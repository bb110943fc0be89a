-- How the rows of a table and the region of its names stand for its slots.
use Rattle.std.specs.Prelude.{◌≡◌, ℕ, suc, ◌≤◌, true, List, [], ◌∷◌, Option, Some, length, option_map, unwrap_or}
use Rattle.fsrm_model.specs.declared.row.NodeRow.{NodeRow}
use Rattle.fsrm_model.specs.nodes.Tree.{name_bytes}
use Rattle.name_region.specs.Contents.{Contents, is_live, live_count, text_of, used}
use Rattle.node_table.specs.declared.row.Row.{Row}
use Rattle.node_table.specs.Rows.{Slotted, key_of, row_at, row_in}
use Rattle.node_table.specs.Slots.{rows_of}
use Rattle.node_table.specs.Table.{Table}

-- the name under a key
abbrev pub name_under : Contents → ℕ → List ℕ
name_under names key = unwrap_or (text_of names key) []

-- what is in a slot
abbrev pub slot_in : ℕ → Row → Contents → Option NodeRow
slot_in n row names = option_map (λ key. row_in n row (name_under names key)) (key_of row)

-- what is in the slots from a number on
abbrev pub slots_in : ℕ → List Row → Contents → List (Option NodeRow)
slots_in n [] names = []
slots_in n (row ∷ rows) names = slot_in n row names ∷ slots_in (suc n) rows names

abbrev pub table_of : Slotted → Contents → Table
table_of s names = record { nodes = s.room; names = names.bytes; slots = slots_in 0 s.rows names }

-- the keys of rows are live, and no two rows have one key
pub record AreKeys (rows : List Row) (names : Contents) : Type 0 where
  pub live : (n key : ℕ) → key_of (row_at rows n) ≡ Some key → is_live names key ≡ true
  pub apart : (m n key : ℕ) → key_of (row_at rows m) ≡ Some key → key_of (row_at rows n) ≡ Some key → m ≡ n

-- there is a key for each slot, and all live keys are those of rows: they are as many, and have as many bytes
pub record IsTable (s : Slotted) (names : Contents) : Type 0 where
  pub within : length s.rows ≤ s.room
  pub keys_are : length names.texts ≡ s.room
  pub keyed : AreKeys s.rows names
  pub used_is : used names ≡ name_bytes (rows_of (slots_in 0 s.rows names))
  pub count_is : live_count names ≡ length (rows_of (slots_in 0 s.rows names))
