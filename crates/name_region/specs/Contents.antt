-- The texts of a region under their keys.
use Rattle.std.specs.Prelude.{ℕ, Bool, List, length, Option, Some, None, is_some, replicate, set, slice_index_or}
use Rattle.std.specs.List.{sum_by, count_by}

-- how many bytes of texts there may be, and the text of each key, of which the live ones have one
pub record Contents : Type 0 where
  pub bytes : ℕ
  pub texts : List (Option (List ℕ))

-- no key is live
abbrev pub fresh : ℕ → ℕ → Contents
fresh bytes keys = record { bytes = bytes; texts = replicate keys None }

-- the text of a key
abbrev pub text_of : Contents → ℕ → Option (List ℕ)
text_of c key = slice_index_or c.texts key None

-- whether a key has a text
abbrev pub is_live : Contents → ℕ → Bool
is_live c key = is_some (text_of c key)

-- a key has this text or none, and the others have theirs
abbrev pub with_text : Contents → ℕ → Option (List ℕ) → Contents
with_text c key text = record { bytes = c.bytes; texts = set c.texts key text }

-- the bytes that a text takes
abbrev pub bytes_of : Option (List ℕ) → ℕ
bytes_of None = 0
bytes_of (Some text) = length text

-- the bytes of all texts
abbrev pub used : Contents → ℕ
used c = sum_by bytes_of c.texts

-- how many keys are live
abbrev pub live_count : Contents → ℕ
live_count c = count_by is_some c.texts
