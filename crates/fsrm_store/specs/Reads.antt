-- How far a reader of a store has come.
use Rattle.std.specs.Prelude.{◌≡◌, ℕ, ◌+◌, true, Ok, List, take, drop}
use Rattle.fsrm_model.specs.declared.command.Entry.{Entry}
use Rattle.fsrm_model.specs.declared.row.Rows.{Rows}
use Rattle.fsrm_model.specs.store.Valid.{is_valid}
use Rattle.fsrm_outside.specs.Parts.{Parts, part_of}
use Rattle.fsrm_outside.specs.declared.traits.Part.{Part}
use Rattle.fsrm_journal.specs.Heads.{head_of}
use Rattle.fsrm_journal.specs.HeadSays.{head_says}
use Rattle.fsrm_journal.specs.Opened.{judged_parts}
use Rattle.fsrm_journal.specs.Reading.{Comes}
use Rattle.fsrm_journal.specs.declared.heads.Head.{Head}
use Rattle.image_codec.specs.Images.{image_in}
use Rattle.fsrm_store.specs.Keeps.{Spell}

-- This half rules, and has this head.
pub record Rules (ruling : Part) (head : Head) (parts : Parts) : Type 0 where
  pub rules : judged_parts parts ≡ Ok ruling
  pub says : head_says (head_of (part_of ruling parts)) ≡ head

-- what stands in the half where its image should
abbrev pub image_bytes : Part → Head → Parts → List ℕ
image_bytes ruling head parts = take head.image (drop 48 (part_of ruling parts))

-- A reader of the half that rules has found an image that tells these rows, which are valid, and then bodies that spell
-- these entries. The next gate is to stand at the end.
pub record ComesTo (ruling : Part) (head : Head) (base : Rows) (entries : List Entry) (end : ℕ) (parts : Parts) : Type 0 where
  pub half : Rules ruling head parts
  pub rows : image_in head.image (image_bytes ruling head parts) ≡ Ok base
  pub valid : is_valid head.size base ≡ true
  pub bodies : List (List ℕ)
  pub comes : Comes (part_of ruling parts) (48 + head.image) bodies end
  pub told : Spell bodies entries
