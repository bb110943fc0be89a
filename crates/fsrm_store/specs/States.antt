-- The state of a store's bytes: none, rows in a store of some size, or the first damage.
--
-- The heads tell which half rules (`judged_parts` of fsrm_journal). The rows come from that half alone: its image spells
-- them as they were once (`image_in` of image_codec), its records spell what was done since then (`decoded` of
-- record_codec), and `recovered` of fsrm_model does it again. A place is counted from the first byte of the half.
use Rattle.std.specs.Prelude.{ℕ, zero, suc, ◌+◌, if◌then◌else◌, Option, None, Some, Result, Ok, Err, List, [], ◌∷◌, length, take, drop}
use Rattle.fsrm_model.specs.declared.command.Entry.{Entry}
use Rattle.fsrm_model.specs.declared.row.Capacity.{Capacity}
use Rattle.fsrm_model.specs.declared.row.Rows.{Rows}
use Rattle.fsrm_model.specs.store.Replays.{recovered}
use Rattle.fsrm_model.specs.store.Valid.{is_valid}
use Rattle.fsrm_outside.specs.Parts.{Parts, part_of}
use Rattle.fsrm_outside.specs.declared.traits.Part.{Part}
use Rattle.fsrm_journal.specs.Heads.{head_of}
use Rattle.fsrm_journal.specs.HeadSays.{head_says}
use Rattle.fsrm_journal.specs.Next.{record_at}
use Rattle.fsrm_journal.specs.Opened.{judged_parts}
use Rattle.fsrm_journal.specs.declared.fault.JournalFault.{JournalFault}
use Rattle.fsrm_journal.specs.declared.fault.JournalFault.TheVariants.{Damaged}
use Rattle.fsrm_journal.specs.declared.heads.Head.{Head}
use Rattle.record_codec.specs.Entries.{decoded}
use Rattle.image_codec.specs.Images.{image_in}

pub data State : Type 0 where
  NoState : State
  DamagedAt : (part : Part) (place : ℕ) → State
  Holds : (size : Capacity) (rows : Rows) → State

-- ---- the image: it spells rows, which are valid in a store of this size
abbrev pub valid_rows : Capacity → Result Rows ℕ → Result Rows ℕ
valid_rows K (Ok base) = if is_valid K base then Ok base else Err 48
valid_rows K (Err wrong) = Err (48 + wrong)

abbrev pub image_rows : Head → List ℕ → Result Rows ℕ
image_rows head half = valid_rows head.size (image_in head.image (take head.image (drop 48 half)))

-- ---- the records, one after the other: the body of each spells an entry
-- an entry in front of those that follow, or else where the body goes wrong that begins at this place
abbrev pub with_entry : ℕ → Result Entry ℕ → Result (List Entry) ℕ → Result (List Entry) ℕ
with_entry place (Err wrong) rest = Err (place + wrong)
with_entry place (Ok entry) (Err damaged) = Err damaged
with_entry place (Ok entry) (Ok entries) = Ok (entry ∷ entries)

-- what the record spells that stands at a place, and then what follows its body
abbrev pub with_record : (ℕ → Result (List Entry) ℕ) → List ℕ → Result (Option (ℕ × ℕ)) ℕ → Result (List Entry) ℕ
with_record more half (Err damaged) = Err damaged
with_record more half (Ok None) = Ok []
with_record more half (Ok (Some body)) = with_entry body.0 (decoded (take body.1 (drop body.0 half))) (more (body.0 + body.1))

-- What the records spell from a place on, up to the first closed gate. So many may come at most
abbrev pub first_entries : ℕ → List ℕ → ℕ → Result (List Entry) ℕ
first_entries zero half place = Err place
first_entries (suc most) half place = with_record (first_entries most half) half (record_at half place)

-- all of them: a half has fewer records than bytes
abbrev pub entries_from : List ℕ → ℕ → Result (List Entry) ℕ
entries_from half place = first_entries (length half) half place

-- ---- the rows of a half: the entries are done again over the rows of its image
abbrev pub done_again : Capacity → Rows → Result (List Entry) ℕ → Result Rows ℕ
done_again K base (Ok entries) = Ok (recovered K base entries)
done_again K base (Err damaged) = Err damaged

abbrev pub rows_since : Head → List ℕ → Result Rows ℕ → Result Rows ℕ
rows_since head half (Ok base) = done_again head.size base (entries_from half (48 + head.image))
rows_since head half (Err damaged) = Err damaged

abbrev pub half_rows : Head → List ℕ → Result Rows ℕ
half_rows head half = rows_since head half (image_rows head half)

-- ---- the state
abbrev pub with_rows : Part → Capacity → Result Rows ℕ → State
with_rows part K (Ok R) = Holds K R
with_rows part K (Err damaged) = DamagedAt part damaged

abbrev pub half_state : Part → Head → List ℕ → State
half_state part head half = with_rows part head.size (half_rows head half)

abbrev pub by_heads : Parts → Result Part JournalFault → State
by_heads parts (Ok part) = half_state part (head_says (head_of (part_of part parts))) (part_of part parts)
by_heads parts (Err (Damaged part place)) = DamagedAt part place
by_heads parts (Err other) = NoState

abbrev pub state_of : Parts → State
state_of parts = by_heads parts (judged_parts parts)
