-- A log of texts under keys, in a block of bytes.
use Rattle.std.specs.Prelude.{◌≡◌, ℕ, ◌-◌, ◌<◌, ◌≤◌, ◌==◌, Bool, not, if◌then◌else◌, List, [], ◌∷◌, length, take, drop, Vec}
use Rattle.std.specs.List.{slice_index_or}
use Rattle.std.specs.Str.{IsUtf8}
use Rattle.std.specs.Vec.{vec_capacity}
use Rattle.std.specs.declared.alloc.Global.{Global}
use Rattle.name_region.specs.declared.log.Record.{Record}

-- a text of the log, and the key that it is under
pub record Stored : Type 0 where
  pub key : ℕ
  pub text : List ℕ

-- how many bytes and how many texts there may be, and the texts in the order in which they came
pub record Written : Type 0 where
  pub room : ℕ
  pub most : ℕ
  pub stored : List Stored

-- the key of a text that was released
abbrev pub no_key : ℕ
no_key = 4294967295

abbrev pub no_text : Stored
no_text = record { key = no_key; text = [] }

abbrev pub stored_at : List Stored → ℕ → Stored
stored_at stored i = slice_index_or stored i no_text

-- whether a text wasn't released
abbrev pub is_kept : Stored → Bool
is_kept s = not (s.key == no_key)

-- the bytes of a text, and those that count as used
abbrev pub text_len : Stored → ℕ
text_len s = length s.text

abbrev pub used_len : Stored → ℕ
used_len s = if is_kept s then length s.text else 0

-- ---- how a log stands in a block
-- the texts, each from where the one before it ends
abbrev pub stored_in : ℕ → List Record → List ℕ → List Stored
stored_in start [] block = []
stored_in start (r ∷ rs) block = record { key = r.key; text = take (r.end - start) (drop start block) } ∷ stored_in r.end rs block

-- where the last text ends
abbrev pub end_of : ℕ → List Record → ℕ
end_of start [] = start
end_of start (r ∷ rs) = end_of r.end rs

-- the texts follow one another up to this place
abbrev pub AreEnds : ℕ → List Record → ℕ → Type 0
AreEnds start [] size = start ≡ size
AreEnds start (r ∷ rs) size = (start ≤ r.end) × AreEnds r.end rs size

pub record IsLog (room most : ℕ) (records : Vec Record Global) (block : Vec ℕ Global) : Type 0 where
  pub small : room < 4294967296
  pub few : most < 4294967296
  pub ends : AreEnds 0 records.items (length block.items)
  pub are_texts : (i : ℕ) → IsUtf8 (stored_at (stored_in 0 records.items block.items) i).text
  pub size : length block.items ≤ room
  pub count : length records.items ≤ most
  pub block_room : room ≤ vec_capacity block
  pub records_room : most ≤ vec_capacity records
