-- An index of numbers by hashes.
use Rattle.std.specs.Prelude.{◌≡◌, ℕ, ◌+◌, ◌/◌, ◌%◌, ◌^◌, ◌<◌, ◌≤◌, Bool, true, List, [], length, slice_index_or}
use Rattle.name_index.specs.declared.bucket.Bucket.{Bucket}
use Rattle.name_index.specs.Buckets.{HasEntry, IsBucket, IsNumber, entry_of}

-- what contracts see of an index: the bit of a hash from which on bits lead to a bucket, and the buckets
pub record Indexed : Type 0 where
  pub lead : ℕ
  pub buckets : List Bucket

abbrev pub index_of : ℕ → List Bucket → Indexed
index_of lead buckets = record { lead = lead; buckets = buckets }

-- where a hash leads to among so many buckets, by its bits from such a one on
abbrev pub home : ℕ → ℕ → ℕ → ℕ
home lead hash count = hash / 2 ^ lead % count

-- the bucket of a place
abbrev pub bucket_at : List Bucket → ℕ → Bucket
bucket_at buckets place = slice_index_or buckets place (record { lost = true; slots = [] })

-- the bucket that a hash leads to
abbrev pub bucket_of : Indexed → ℕ → Bucket
bucket_of index hash = bucket_at index.buckets (home index.lead hash (length index.buckets))

-- a number is held under a hash: its entry stands in the bucket that the hash leads to
pub record Holds (index : Indexed) (hash number : ℕ) : Type 0 where
  pub is_number : IsNumber number
  pub entry : HasEntry (bucket_of index hash) (entry_of hash number)

-- whether the bucket that a hash leads to doesn't have all numbers that were entered
unfoldable pub has_lost : Indexed → ℕ → Bool
has_lost index hash = (bucket_of index hash).lost

-- the buckets are as many as some bits lead to; these begin in a hash below its mark and end at the mark or in it; and in none of the
-- buckets two entries have one mark
pub record IsIndex (index : Indexed) : Type 0 where
  pub bits : ℕ
  pub count : length index.buckets ≡ 2 ^ bits
  pub below : index.lead ≤ 20
  pub above : 20 ≤ index.lead + bits
  pub each : (k : ℕ) → k < length index.buckets → IsBucket (bucket_at index.buckets k)
