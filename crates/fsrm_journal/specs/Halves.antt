-- Writing the half that is to rule next, and the change from one half to the other.
use Rattle.std.specs.Prelude.{◌≡◌, ◌≢◌, ◌⊎◌, ℕ, ◌+◌, ◌-◌, ◌^◌, ◌≤◌, ◌<◌, Bool, true, false, Option, None, Some, Ok, List, [], ◌∷◌, ◌++◌, length, take, drop, slice_index}
use Rattle.byteorder.specs.Endian.{little_bytes}
use Rattle.fsrm_outside.specs.Parts.{Parts, part_of, other}
use Rattle.fsrm_outside.specs.declared.traits.Part.{Part}
use Rattle.fsrm_journal.specs.Heads.{head_of, half_fault, is_open, generation_at, magic}
use Rattle.fsrm_journal.specs.HeadSays.{head_says}
use Rattle.fsrm_journal.specs.Legal.{IsLegal}
use Rattle.fsrm_journal.specs.Next.{record_at}
use Rattle.fsrm_journal.specs.Opened.{judged_parts}
use Rattle.fsrm_journal.specs.Reading.{log_at}
use Rattle.fsrm_journal.specs.Records.{Settled}
use Rattle.fsrm_journal.specs.declared.heads.Head.{Head}
use Rattle.fsrm_journal.specs.declared.journal.Journal.{Journal}

-- the generation after another one: one more, but 1 after the greatest
abbrev pub IsNext : ℕ → ℕ → Type 0
IsNext old new = ((old < 2 ^ 64 - 1) × (new ≡ old + 1)) ⊎ ((old ≡ 2 ^ 64 - 1) × (new ≡ 1))

-- the bytes of a head after its gate
abbrev pub head_tail : Head → List ℕ
head_tail head =
    little_bytes 7 0 ++ (little_bytes 8 magic ++ (little_bytes 8 head.generation ++ (little_bytes 4 head.version
    ++ (little_bytes 4 head.size.nodes ++ (little_bytes 4 head.size.names ++ (little_bytes 4 head.size.cluster ++ little_bytes 8 head.image))))))

-- The half rules, with these bytes: its head, its image and its records.
pub record Stays (ruling : Part) (half : List ℕ) (parts : Parts) : Type 0 where
  pub rules : judged_parts parts ≡ Ok ruling
  pub same : part_of ruling parts ≡ half

-- The half rules with this head and this image, and holds no record.
pub record Fresh (ruling : Part) (head : Head) (image : List ℕ) (parts : Parts) : Type 0 where
  pub rules : judged_parts parts ≡ Ok ruling
  pub says : head_says (head_of (part_of ruling parts)) ≡ head
  pub holds : take (length image) (drop 48 (part_of ruling parts)) ≡ image
  pub whole : head.image ≡ length image
  pub none : record_at (part_of ruling parts) (48 + length image) ≡ Ok None

-- the old half rules, or the new one
abbrev pub StaysOrFresh : Part → List ℕ → Head → List ℕ → Parts → Type 0
StaysOrFresh ruling half head image parts = Stays ruling half parts ⊎ Fresh (other ruling) head image parts

-- The half has these bytes, and the other one's gate is there and closed.
pub record Shut (ruling : Part) (half : List ℕ) (parts : Parts) : Type 0 where
  pub same : part_of ruling parts ≡ half
  pub gate : ℕ
  pub rest : List ℕ
  pub split : part_of (other ruling) parts ≡ gate ∷ rest
  pub closed : gate ≢ 1

-- Both are so in each image, and a read gives these bytes after the closed gate.
pub record Beside {D : Type 0} (reads : D → Option Parts) (clock : D → Option ℕ) (images : D → ℕ → Parts → Type 0) (ruling : Part) (half bytes : List ℕ) (disk : D) : Type 0 where
  pub parts : Parts
  pub told : reads disk ≡ Some parts
  pub same : part_of ruling parts ≡ half
  pub gate : ℕ
  pub rest : List ℕ
  pub closed : gate ≢ 1
  pub split : part_of (other ruling) parts ≡ gate ∷ (bytes ++ rest)
  pub now : (t : ℕ) (image : Parts) → clock disk ≡ Some t → images disk t image → Shut ruling half image

-- A read gives these parts, and so does a crash.
pub record Certain {D : Type 0} (reads : D → Option Parts) (clock : D → Option ℕ) (images : D → ℕ → Parts → Type 0) (parts : Parts) (disk : D) : Type 0 where
  pub told : reads disk ≡ Some parts
  pub only : (t : ℕ) (image : Parts) → clock disk ≡ Some t → images disk t image → image ≡ parts

-- A head that may follow that of a half which rules.
pub record Follows (half : List ℕ) (head : Head) : Type 0 where
  pub opened : is_open (head_of half) ≡ true
  pub sound : half_fault (head_of half) ≡ None
  pub legal : IsLegal head
  pub next : IsNext (generation_at (head_of half)) head.generation

-- The half has these bytes, and the other one is open, with this head, this image and no record.
pub record OpenBeside (ruling : Part) (half : List ℕ) (head : Head) (image : List ℕ) (parts : Parts) : Type 0 where
  pub same : part_of ruling parts ≡ half
  pub rest : List ℕ
  pub split : part_of (other ruling) parts ≡ 1 ∷ (head_tail head ++ (image ++ 0 ∷ rest))

-- The half has these bytes, and the other one is there whole but for its gate, which may be any.
pub record AllButGate (ruling : Part) (half : List ℕ) (head : Head) (image rest : List ℕ) (parts : Parts) : Type 0 where
  pub same : part_of ruling parts ≡ half
  pub gate : ℕ
  pub split : part_of (other ruling) parts ≡ gate ∷ (head_tail head ++ (image ++ 0 ∷ rest))

-- Up to a moment each image has P, and since then Q.
pub record Until {D : Type 0} (clock : D → Option ℕ) (images : D → ℕ → Parts → Type 0) (P Q : Parts → Type 0) (old new : D) : Type 0 where
  pub since : ℕ
  pub before : (s t m : ℕ) (image : Parts) → clock old ≡ Some s → clock new ≡ Some t → s ≤ m → m ≤ t → m < since → images new m image → P image
  pub after : (s t m : ℕ) (image : Parts) → clock old ≡ Some s → clock new ≡ Some t → s ≤ m → m ≤ t → since ≤ m → images new m image → Q image

-- What is left of a half that ruled: it stays open with its bytes, but after the greatest generation its gate is 0.
abbrev pub IsRetired : List ℕ → List ℕ → Type 0
IsRetired half left =
    ((generation_at (head_of half) < 2 ^ 64 - 1) × (left ≡ half)) ⊎ ((generation_at (head_of half) ≡ 2 ^ 64 - 1) × (left ≡ 0 ∷ drop 1 half))

-- The other half rules, with this head, this image and no record. The gate of the half that ruled is open or not.
pub record Ruled (ruling : Part) (half : List ℕ) (head : Head) (image : List ℕ) (is_open_still : Bool) (parts : Parts) : Type 0 where
  pub rules : judged_parts parts ≡ Ok (other ruling)
  pub rest : List ℕ
  pub split : part_of (other ruling) parts ≡ 1 ∷ (head_tail head ++ (image ++ 0 ∷ rest))
  pub beside : is_open_still ≡ is_open (head_of (part_of ruling parts))
  pub retired : IsRetired half (part_of ruling parts)

-- What the journal knows of these parts: which half rules, its generation, and whether the other one's gate is open.
pub record Knows (parts : Parts) (journal : Journal) : Type 0 where
  pub rules : judged_parts parts ≡ Ok journal.ruling
  pub generation : journal.generation ≡ generation_at (head_of (part_of journal.ruling parts))
  pub beside : journal.beside_open ≡ is_open (head_of (part_of (other journal.ruling) parts))

-- The half with these bytes rules, and after the other one's closed gate, which the journal knows as closed, stand this
-- head and the front of its image.
pub record Filling {D : Type 0} (reads : D → Option Parts) (clock : D → Option ℕ) (images : D → ℕ → Parts → Type 0) (half : List ℕ) (head : Head) (front : List ℕ) (journal : Journal) (disk : D) : Type 0 where
  pub follows : Follows half head
  pub generation : journal.generation ≡ generation_at (head_of half)
  pub shut : journal.beside_open ≡ false
  pub beside : Beside reads clock images journal.ruling half (head_tail head ++ front) disk
  pub at : journal.written ≡ 48 + length front

-- The other half rules, with this head and this image, and records may be added to it: their first gate is 0. The half
-- that ruled is left.
pub record Switched {D : Type 0} (reads : D → Option Parts) (clock : D → Option ℕ) (images : D → ℕ → Parts → Type 0) (half : List ℕ) (head : Head) (image : List ℕ) (journal : Journal) (disk : D) : Type 0 where
  pub parts : Parts
  pub certain : Certain reads clock images parts disk
  pub knows : Knows parts journal
  pub fresh : Fresh journal.ruling head image parts
  pub retired : IsRetired half (part_of (other journal.ruling) parts)
  pub at : journal.end ≡ 48 + length image
  pub gate : slice_index (part_of journal.ruling parts) journal.end ≡ 0
  pub settled : Settled reads clock images (log_at journal.ruling journal.end parts) [] journal.ruling journal.end disk
