-- What a reader comes to in a half.
use Rattle.std.specs.Prelude.{◌≡◌, ℕ, ◌+◌, ◌≤◌, None, Some, Ok, List, [], ◌∷◌, ◌++◌, length, take, drop}
use Rattle.fsrm_model.specs.values.Limits.{longest_entry}
use Rattle.fsrm_outside.specs.Parts.{Parts, part_of, other}
use Rattle.fsrm_outside.specs.declared.traits.Part.{Part}
use Rattle.fsrm_journal.specs.Next.{record_at}
use Rattle.fsrm_journal.specs.Records.{Log}

-- a body that a record may have
pub record IsBody (body : List ℕ) : Type 0 where
  pub some : 1 ≤ length body
  pub most : length body ≤ longest_entry

-- a reader that begins at a place comes to these bodies, one after the other, and then stands at the end
abbrev pub Comes : List ℕ → ℕ → List (List ℕ) → ℕ → Type 0
Comes half place [] end = place ≡ end
Comes half place (body ∷ bodies) end =
    (record_at half place ≡ Ok (Some (place + 5, length body)))
    × (take (length body) (drop (place + 5) half) ≡ body)
    × Comes half (place + 5 + length body) bodies end

-- These bodies stand in a half from a place on: a reader comes to them, and then to a closed gate.
pub record Read (half : List ℕ) (place : ℕ) (bodies : List (List ℕ)) : Type 0 where
  pub end : ℕ
  pub comes : Comes half place bodies end
  pub stops : record_at half end ≡ Ok None

-- One reader has come to these bodies and stands here; the other came on from there, to some more.
pub record GoesOn (half : List ℕ) (bodies others : List (List ℕ)) (end stop : ℕ) : Type 0 where
  pub more : List (List ℕ)
  pub are : others ≡ bodies ++ more
  pub comes : Comes half end more stop

-- Where records are added from a place of the half that rules on. All that stands before it is the lead: the head, the
-- image, and the records that were read.
abbrev pub log_at : Part → ℕ → Parts → Log
log_at ruling place parts = record { ruling = ruling; lead = take place (part_of ruling parts); beside = part_of (other ruling) parts }
