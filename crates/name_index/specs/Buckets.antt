-- Buckets of an index, and what stands in their slots.
use Rattle.std.specs.Prelude.{◌≡◌, ℕ, ◌+◌, ◌-◌, ◌*◌, ◌/◌, ◌%◌, ◌^◌, ◌<◌, ◌≤◌, ◌==◌, ◌⊎◌, Bool, List, slice_index}
use Rattle.name_index.specs.declared.bucket.Bucket.{Bucket}

-- what stands in a slot that is free
abbrev pub free : ℕ
free = 4294967295

-- the greatest number: no entry has it, and what stands in a free slot does
abbrev pub no_number : ℕ
no_number = 1048575

-- the upper 12 bits of a hash, and of an entry
abbrev pub mark_of : ℕ → ℕ
mark_of slot = slot / 1048576

-- the entry of a number under a hash: the hash's mark, and the number in the other 20 bits
abbrev pub entry_of : ℕ → ℕ → ℕ
entry_of hash number = mark_of hash * 1048576 + number

-- what stands in a slot of a bucket
abbrev pub slot_of : Bucket → ℕ → ℕ
slot_of bucket place = slice_index bucket.slots place

-- a number that an entry may have
abbrev pub IsNumber : ℕ → Type 0
IsNumber number = number < no_number

-- one of a bucket's 15 slots has an entry
pub record HasEntry (bucket : Bucket) (entry : ℕ) : Type 0 where
  pub place : ℕ
  pub inside : place < 15
  pub there : slot_of bucket place ≡ entry

-- no two entries of a bucket have one mark
abbrev pub IsBucket : Bucket → Type 0
IsBucket bucket = (j k : ℕ) → j < 15 → k < 15 → IsNumber (slot_of bucket j % 1048576) → IsNumber (slot_of bucket k % 1048576) → mark_of (slot_of bucket j) ≡ mark_of (slot_of bucket k) → j ≡ k

-- what an entry is above a hash's mark, as a number of 32 bits: the entry's number if it has the mark, and else more than any number
abbrev pub above_mark : ℕ → ℕ → ℕ
above_mark hash slot = (slot + (4294967296 - mark_of hash * 1048576)) % 4294967296

-- the least of what 15 slots, each with a number of 32 bits, have above a hash's mark
pub record IsLeast (slots : List ℕ) (hash least : ℕ) : Type 0 where
  pub small : (k : ℕ) → slice_index slots k < 4294967296
  pub bound : (k : ℕ) → k < 15 → least ≤ above_mark hash (slice_index slots k)
  pub place : ℕ
  pub inside : place < 15
  pub reached : least ≡ above_mark hash (slice_index slots place)

-- whether the bit of a hash is set that decides as so many buckets, a power of 2, are doubled, to which bits lead from such a bit on
abbrev pub goes : ℕ → ℕ → ℕ → Bool
goes lead count hash = hash / 2 ^ lead / count % 2 == 1

-- a half of a bucket that is parted in two: it has the entries for which the bit that decides is as told, each at its place; and it
-- has lost some if the bucket had
pub record IsHalf (lead count : ℕ) (upper : Bool) (whole half : Bucket) : Type 0 where
  pub lost : half.lost ≡ whole.lost
  pub kept : (k : ℕ) → k < 15 → goes lead count (slot_of whole k) ≡ upper → slot_of half k ≡ slot_of whole k
  pub freed : (k : ℕ) → k < 15 → (slot_of half k ≡ slot_of whole k) ⊎ (slot_of half k ≡ free)
