-- Bytes that were read ahead.
use Rattle.std.specs.Prelude.{◌≡◌, ◌⊎◌, ℕ, ◌+◌, ◌-◌, ◌≤◌, min, List, length, take, drop}
use Rattle.byteorder.specs.Endian.{little_number}
use Rattle.fsrm_journal.specs.Records.{longest_record}
use Rattle.fsrm_journal.specs.declared.window.Window.{Window}

-- the bytes that were read ahead, and not gone past
abbrev pub ahead : Window → List ℕ
ahead window = drop window.start (take window.end window.bytes.items)

-- these bytes stand in the half from a place on
abbrev pub StandThere : List ℕ → ℕ → List ℕ → Type 0
StandThere half place bytes = bytes ≡ take (length bytes) (drop place half)

-- they are all of a record of the length that they say
abbrev pub AreRecord : List ℕ → Type 0
AreRecord bytes = (5 ≤ length bytes) × (little_number 4 (drop 1 bytes) + 5 ≤ length bytes)

-- they are, or as many as the longest record has, or all up to the half's end
abbrev pub AreEnough : List ℕ → ℕ → List ℕ → Type 0
AreEnough half place bytes = AreRecord bytes ⊎ (min longest_record (length half - place) ≤ length bytes)
