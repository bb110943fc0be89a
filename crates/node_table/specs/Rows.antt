-- Rows as they are kept in slots.
use Rattle.std.specs.Prelude.{◌≡◌, ℕ, ◌^◌, ◌%◌, ◌<◌, ◌≤◌, ◌==◌, Bool, false, List, Option, Some, None, length, slice_index_or, if◌then◌else◌}
use Rattle.std.specs.Int.{bit_at}
use Rattle.std.specs.Vec.{vec_capacity}
use Rattle.std.specs.Global.{Vec}
use Rattle.fsrm_model.specs.declared.row.NodeRow.{NodeRow}
use Rattle.node_table.specs.declared.row.Row.{Row}

-- how many slots there may be, and the rows in them
pub record Slotted : Type 0 where
  pub room : ℕ
  pub rows : List Row

-- what the bits of a size say
abbrev pub is_empty : Row → Bool
is_empty row = bit_at row.size 62 == 1

abbrev pub is_folder : Row → Bool
is_folder row = bit_at row.size 63 == 1

abbrev pub length_of : Row → ℕ
length_of row = row.size % 2 ^ 62

-- a size that has a length, marked if it is a folder's
pub record IsMarked (size length : ℕ) (folder : Bool) : Type 0 where
  pub taken : (bit_at size 62 == 1) ≡ false
  pub folder_is : (bit_at size 63 == 1) ≡ folder
  pub length_is : size % 2 ^ 62 ≡ length

abbrev pub empty_row : Row
empty_row = record { size = 2 ^ 62; parent = 0; name = 0; owner = 0; created = 0; modified = 0; accessed = 0 }

-- the row in a slot: past the last one they are empty
abbrev pub row_at : List Row → ℕ → Row
row_at rows n = slice_index_or rows n empty_row

-- the key of a row's name
abbrev pub key_of : Row → Option ℕ
key_of row = if is_empty row then None else Some row.name

-- what a row says of the node of this number and name
abbrev pub row_in : ℕ → Row → List ℕ → NodeRow
row_in n row name =
    record {
      number = n;
      parent = row.parent;
      name = name;
      folder = is_folder row;
      length = length_of row;
      owner = row.owner;
      created = row.created;
      modified = row.modified;
      accessed = row.accessed;
    }

-- rows fit where there was to be room for them
pub record AreRows (room : ℕ) (rows : Vec Row) : Type 0 where
  pub small : room < 4294967296
  pub within : length rows.items ≤ room
  pub reserved : room ≤ vec_capacity rows
