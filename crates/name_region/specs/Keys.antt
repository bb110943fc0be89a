-- The texts of a log by their keys.
use Rattle.std.specs.Prelude.{◌≡◌, ◌≢◌, ℕ, ◌<◌, ◌==◌, if◌then◌else◌, List, [], ◌∷◌, length, map, Option, Some, None, slice_index}
use Rattle.std.specs.List.{range_with_len, sum_by, count_by}
use Rattle.name_region.specs.Log.{Stored, Written, no_key, stored_at, is_kept, used_len}

-- the text under a key
abbrev pub text_under : ℕ → List Stored → Option (List ℕ)
text_under k [] = None
text_under k (s ∷ ss) = if s.key == k then Some s.text else text_under k ss

-- the texts of the first keys
abbrev pub texts_of : ℕ → List Stored → List (Option (List ℕ))
texts_of keys stored = map (λ k. text_under k stored) (range_with_len 0 keys)

-- of each key that has a text it is noted which text of the log that is
pub record IsIndexed (stored : List Stored) (places : List ℕ) : Type 0 where
  pub within : (i : ℕ) → i < length stored → (stored_at stored i).key ≢ no_key → (stored_at stored i).key < length places
  pub place : (i : ℕ) → i < length stored → (stored_at stored i).key ≢ no_key → slice_index places (stored_at stored i).key ≡ i

-- the texts under keys are the same
pub record KeepsTexts (old new : Written) : Type 0 where
  pub room : new.room ≡ old.room
  pub most : new.most ≡ old.most
  pub texts : (k : ℕ) → k ≢ no_key → text_under k new.stored ≡ text_under k old.stored
  pub bytes : sum_by used_len new.stored ≡ sum_by used_len old.stored
  pub count : count_by is_kept new.stored ≡ count_by is_kept old.stored
