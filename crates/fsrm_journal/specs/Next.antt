-- The record that stands at a place of a half.
use Rattle.std.specs.Prelude.{◌≡◌, ℕ, ◌+◌, Bool, ◌&&◌, not, if◌then◌else◌, nat_le, nat_lt, nat_eq, Option, None, Some, Result, Ok, Err, List, length, drop, slice_index}
use Rattle.byteorder.specs.Endian.{little_number}
use Rattle.fsrm_model.specs.values.Limits.{longest_entry}
use Rattle.fsrm_outside.specs.declared.traits.Part.{Part}
use Rattle.fsrm_journal.specs.declared.fault.JournalFault.{JournalFault}
use Rattle.fsrm_journal.specs.declared.fault.JournalFault.TheVariants.{NoStore, AlreadyStore, Damaged, DiskFault, NoMemory}

-- the length of the body of the record at a place
abbrev pub length_at : List ℕ → ℕ → ℕ
length_at half place = little_number 4 (drop (place + 1) half)

-- it is there, and legal
abbrev pub has_length : List ℕ → ℕ → Bool
has_length half place = nat_le (place + 5) (length half) && (nat_le 1 (length_at half place) && nat_le (length_at half place) longest_entry)

-- the length of the body of the record there, none at a closed gate, or the place of what is damaged
abbrev pub next_length : List ℕ → ℕ → Result (Option ℕ) ℕ
next_length half place =
    if not (nat_lt place (length half)) then Err place
    else if not (nat_eq (slice_index half place) 1) then Ok None
    else if not (has_length half place) then Err (place + 1)
    else Ok (Some (length_at half place))

-- with its place, where the body is there
abbrev pub with_body : List ℕ → ℕ → Result (Option ℕ) ℕ → Result (Option (ℕ × ℕ)) ℕ
with_body half place (Err damaged) = Err damaged
with_body half place (Ok None) = Ok None
with_body half place (Ok (Some n)) = if nat_le (place + 5 + n) (length half) then Ok (Some (place + 5, n)) else Err (place + 5)

-- the place and length of the body of the record there, none at a closed gate, or the place of what is damaged
abbrev pub record_at : List ℕ → ℕ → Result (Option (ℕ × ℕ)) ℕ
record_at half place = with_body half place (next_length half place)

-- what a reader answers of it
abbrev pub Tells : {A : Type 0} → Part → Result A ℕ → Result A JournalFault → Type 0
Tells ruling there (Ok found) = there ≡ Ok found
Tells ruling there (Err NoStore) = ⊥
Tells ruling there (Err AlreadyStore) = ⊥
Tells ruling there (Err (Damaged part place)) = (part ≡ ruling) × (there ≡ Err place)
Tells ruling there (Err DiskFault) = Unit {0}
Tells ruling there (Err NoMemory) = ⊥
