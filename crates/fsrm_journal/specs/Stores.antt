-- A store as its caller sees it: a head, an image, and the bodies of its records in their order.
--
-- While a store is read, `ReadUpTo` says how far: `open_at` gives it of the head, `read_image` of the image's bytes, `next`
-- of each body; and at the first closed gate `next` gives `Stands`. From then on each call leads from `Stands` to
-- `Stands`, and says of every image of its moments which store that holds: this one, or the one that it made. `append`
-- and `flush` add bodies, those that `Holding` tells; `begin_half` and `put_image` lead through `Changing`, in which this
-- store stays, and `switch` to the new one. `laws` has what these words say together: bytes hold one store, and what
-- was read, held or changed stands for the same while nothing is written.
use Rattle.std.specs.Prelude.{◌≡◌, ◌⊎◌, ℕ, ◌+◌, ◌-◌, ◌^◌, ◌≤◌, All, min, Option, Ok, List, [], ◌++◌, length, take, drop}
use Rattle.fsrm_outside.specs.Parts.{Parts, part_of, other}
use Rattle.fsrm_outside.specs.declared.traits.Part.{Part}
use Rattle.fsrm_journal.specs.Heads.{head_of}
use Rattle.fsrm_journal.specs.HeadSays.{head_says}
use Rattle.fsrm_journal.specs.Halves.{Certain, Filling, Knows}
use Rattle.fsrm_journal.specs.Opened.{judged_parts}
use Rattle.fsrm_journal.specs.Reading.{IsBody, Comes, Read}
use Rattle.fsrm_journal.specs.Sight.{Sees}
use Rattle.fsrm_journal.specs.Records.{batch, records}
use Rattle.fsrm_journal.specs.declared.heads.Head.{Head}
use Rattle.fsrm_journal.specs.declared.journal.Journal.{Journal}

-- This half rules, with this head and this image, and a reader comes to these bodies and then to a closed gate.
pub record HoldsStore (ruling : Part) (head : Head) (image : List ℕ) (bodies : List (List ℕ)) (parts : Parts) : Type 0 where
  pub rules : judged_parts parts ≡ Ok ruling
  pub says : head_says (head_of (part_of ruling parts)) ≡ head
  pub holds : take (length image) (drop 48 (part_of ruling parts)) ≡ image
  pub whole : head.image ≡ length image
  pub reads : Read (part_of ruling parts) (48 + length image) bodies

-- Both are one store.
pub record SameStore (ruling also : Part) (head next : Head) (image new : List ℕ) (bodies more : List (List ℕ)) : Type 0 where
  pub rules : ruling ≡ also
  pub heads : head ≡ next
  pub images : image ≡ new
  pub records : bodies ≡ more

-- these bodies, with all of those held or none of them
abbrev pub HoldsWithOrWithout : Part → Head → List ℕ → List (List ℕ) → List (List ℕ) → Parts → Type 0
HoldsWithOrWithout ruling head image bodies held parts = HoldsStore ruling head image bodies parts ⊎ HoldsStore ruling head image (bodies ++ held) parts

-- the store of the half that ruled, or the one that was written beside it, without a record
abbrev pub HoldsOldOrNew : Part → Head → List ℕ → List (List ℕ) → Head → List ℕ → Parts → Type 0
HoldsOldOrNew ruling head image bodies next new parts = HoldsStore ruling head image bodies parts ⊎ HoldsStore (other ruling) next new [] parts

-- ---- while it is read
-- the image as it is in the half, or as much of it as is there
abbrev pub image_there : Head → List ℕ → List ℕ
image_there head half = take head.image (drop 48 half)

-- Of these parts the journal has read the head, these first bytes of the image, and then these bodies.
pub record ReadUpTo (head : Head) (image : List ℕ) (bodies : List (List ℕ)) (parts : Parts) (journal : Journal) : Type 0 where
  pub knows : Knows parts journal
  pub says : head_says (head_of (part_of journal.ruling parts)) ≡ head
  pub holds : take (length image) (drop 48 (part_of journal.ruling parts)) ≡ image
  pub within : length image ≤ head.image
  pub comes : Comes (part_of journal.ruling parts) (48 + length image) bodies journal.end
  pub sees : Sees (part_of journal.ruling parts) journal
  pub image_end : journal.image_end ≡ min (head.image + 48) (2 ^ 64 - 1)

-- ---- once all of it is read
-- The parts hold this store, and the journal stands at the closed gate after its records.
pub record StandsAt (head : Head) (image : List ℕ) (bodies : List (List ℕ)) (parts : Parts) (journal : Journal) : Type 0 where
  pub store : HoldsStore journal.ruling head image bodies parts
  pub knows : Knows parts journal
  pub end : journal.end ≡ 48 + length image + length (records bodies)
  pub image_end : journal.image_end ≡ 48 + length image

-- A read gives parts that hold it, and so does a crash.
pub record Stands {D : Type 0} (reads : D → Option Parts) (clock : D → Option ℕ) (images : D → ℕ → Parts → Type 0) (head : Head) (image : List ℕ) (bodies : List (List ℕ)) (journal : Journal) (disk : D) : Type 0 where
  pub parts : Parts
  pub certain : Certain reads clock images parts disk
  pub at : StandsAt head image bodies parts journal

-- The records of these bodies are held.
pub record Holding (held : List (List ℕ)) (journal : Journal) : Type 0 where
  pub count : length held ≡ journal.held
  pub bytes : journal.bytes.items ≡ batch held
  pub legal : All IsBody held

-- ---- while the other half is written
-- This store stays until the switch. Beside it stand the next head and the front of its image.
pub record Changing {D : Type 0} (reads : D → Option Parts) (clock : D → Option ℕ) (images : D → ℕ → Parts → Type 0) (head : Head) (image : List ℕ) (bodies : List (List ℕ)) (next : Head) (front : List ℕ) (journal : Journal) (disk : D) : Type 0 where
  pub was : Parts
  pub store : HoldsStore journal.ruling head image bodies was
  pub filling : Filling reads clock images (part_of journal.ruling was) next front journal disk
  pub end : journal.end ≡ 48 + length image + length (records bodies)
  pub image_end : journal.image_end ≡ 48 + length image
