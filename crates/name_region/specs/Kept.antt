-- What a region keeps beside its log.
use Rattle.std.specs.Prelude.{◌≡◌, ◌≢◌, ℕ, ◌+◌, ◌<◌, ◌≤◌, ◌++◌, ◌⊎◌, [], ◌∷◌, List, length, None, slice_index}
use Rattle.std.specs.Global.{Vec}
use Rattle.std.specs.List.{sum_by, count_by}
use Rattle.std.specs.Vec.{vec_capacity}
use Rattle.name_region.specs.Contents.{Contents, text_of, used, live_count}
use Rattle.name_region.specs.Log.{Written, is_kept, used_len}
use Rattle.name_region.specs.Keys.{IsIndexed, texts_of}

-- a key that was handed out has no text now
pub record IsFree (c : Contents) (handed key : ℕ) : Type 0 where
  pub within : key < handed
  pub dead : text_of c key ≡ None

-- the bytes in use, how many keys were ever handed out, and those of them that aren't live, each once
pub record IsKept (c : Contents) (used_bytes handed : ℕ) (free : Vec ℕ) : Type 0 where
  pub used_is : used_bytes ≡ used c
  pub used_most : used_bytes ≤ c.bytes
  pub handed_most : handed ≤ length c.texts
  pub new_are : (key : ℕ) → handed ≤ key → text_of c key ≡ None
  pub free_are : (i : ℕ) → i < length free.items → IsFree c handed (slice_index free.items i)
  pub apart : (i j : ℕ) → i < j → j < length free.items → slice_index free.items i ≢ slice_index free.items j
  pub count : length free.items + live_count c ≡ handed
  pub room : length c.texts ≤ vec_capacity free

abbrev pub contents_of : ℕ → ℕ → Written → Contents
contents_of bytes keys log = record { bytes = bytes; texts = texts_of keys log.stored }

pub record IsRegion (bytes keys used_bytes : ℕ) (log : Written) (places free : Vec ℕ) : Type 0 where
  pub bytes_small : bytes < 4294967296
  pub keys_small : keys < 4294967296
  pub kept : IsKept (contents_of bytes keys log) used_bytes (length places.items) free
  pub indexed : IsIndexed log.stored places.items
  pub log_bytes : sum_by used_len log.stored ≡ used_bytes
  pub log_count : length free.items + count_by is_kept log.stored ≡ length places.items
  pub places_room : keys ≤ vec_capacity places
  pub room : bytes ≤ log.room
  pub most : keys ≤ log.most

-- a key that was given back is taken, or if there is none, the next one that was never handed out
abbrev pub TakesKey : List ℕ → List ℕ → List ℕ → List ℕ → ℕ → Type 0
TakesKey free free' places places' key = ((free ≡ free' ++ key ∷ []) × (places' ≡ places)) ⊎ ((free ≡ []) × (free' ≡ []) × (key ≡ length places) × (places' ≡ places ++ 0 ∷ []))
