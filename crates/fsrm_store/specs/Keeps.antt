-- What the bytes of a store keep of rows.
use Rattle.std.specs.Prelude.{◌≡◌, ℕ, ◌+◌, true, Ok, List, [], ◌∷◌, ◌++◌, length}
use Rattle.fsrm_model.specs.declared.command.Entry.{Entry}
use Rattle.fsrm_model.specs.declared.row.Capacity.{Capacity}
use Rattle.fsrm_model.specs.declared.row.Rows.{Rows}
use Rattle.fsrm_model.specs.store.OldReplays.{AreOldEntries}
use Rattle.fsrm_model.specs.store.Replays.{recovered, IsJournaled}
use Rattle.fsrm_model.specs.store.Valid.{is_valid}
use Rattle.fsrm_outside.specs.Parts.{Parts, part_of}
use Rattle.fsrm_outside.specs.declared.traits.Part.{Part}
use Rattle.fsrm_journal.specs.Heads.{head_of}
use Rattle.fsrm_journal.specs.HeadSays.{head_says}
use Rattle.fsrm_journal.specs.Opened.{judged_parts}
use Rattle.fsrm_journal.specs.Reading.{Read}
use Rattle.fsrm_journal.specs.declared.heads.Head.{Head}
use Rattle.record_codec.specs.Entries.{decoded}
use Rattle.image_codec.specs.Images.{image_in}
use Rattle.fsrm_journal.specs.Stores.{HoldsStore}

-- bodies that spell entries, one for one
abbrev pub Spell : List (List ℕ) → List Entry → Type 0
Spell [] [] = Unit {0}
Spell [] (entry ∷ entries) = ⊥
Spell (body ∷ bodies) [] = ⊥
Spell (body ∷ bodies) (entry ∷ entries) = (decoded body ≡ Ok entry) × Spell bodies entries

-- an image that spells valid rows, and bodies that spell entries
pub record Tells (head : Head) (image : List ℕ) (bodies : List (List ℕ)) (base : Rows) (entries : List Entry) : Type 0 where
  pub rows : image_in (length image) image ≡ Ok base
  pub valid : is_valid head.size base ≡ true
  pub told : Spell bodies entries

-- Parts hold rows in a store of this size: they hold a store whose image and bodies tell of these rows.
pub record HoldsState (K : Capacity) (R : Rows) (parts : Parts) : Type 0 where
  pub ruling : Part
  pub head : Head
  pub image : List ℕ
  pub bodies : List (List ℕ)
  pub base : Rows
  pub entries : List Entry
  pub store : HoldsStore ruling head image bodies parts
  pub tells : Tells head image bodies base entries
  pub size : head.size ≡ K
  pub recovers : recovered head.size base entries ≡ R

-- So do parts of version 1, in which the machine of that time kept what it did.
pub record HoldsOldState (K : Capacity) (R : Rows) (parts : Parts) : Type 0 where
  pub state : HoldsState K R parts
  pub version : state.head.version ≡ 1
  pub made : AreOldEntries K state.base state.entries

-- A store with these rows has an image and bodies, and holds more bodies, which aren't written yet. What it has written
-- tells of the rows `kept`, and all of it of these rows, as far as they are kept.
pub record Keeps (kept : Rows) (head : Head) (image : List ℕ) (bodies held : List (List ℕ)) (R : Rows) : Type 0 where
  pub base : Rows
  pub written : List Entry
  pub waiting : List Entry
  pub tells : Tells head image bodies base written
  pub holds : Spell held waiting
  pub journaled : IsJournaled head.size base (written ++ waiting) R
  pub recovers : recovered head.size base written ≡ kept

-- how many bytes stand between the image of the half that rules and its first closed gate
pub record HasTail (tail : ℕ) (parts : Parts) : Type 0 where
  pub ruling : Part
  pub head : Head
  pub bodies : List (List ℕ)
  pub rules : judged_parts parts ≡ Ok ruling
  pub says : head_says (head_of (part_of ruling parts)) ≡ head
  pub reads : Read (part_of ruling parts) (48 + head.image) bodies
  pub ends : reads.end ≡ 48 + head.image + tail
