-- What a reader found of the heads.
use Rattle.std.proofs.Common.{◌≡◌, ℕ, List, refl, sym, ◌∙◌, ap}
use Rattle.std.specs.Prelude.{Bool, Result, Err}
use Rattle.fsrm_outside.specs.declared.traits.Part.{Part}
use Rattle.fsrm_outside.specs.declared.traits.Part.TheVariants.{Zero, One}
use Rattle.fsrm_journal.specs.Heads.{head_of, is_open, judged}
use Rattle.fsrm_journal.specs.HeadSays.{head_says}
use Rattle.fsrm_journal.specs.Opened.{judged_parts, IsRefused, StandsOn}
use Rattle.fsrm_journal.specs.declared.fault.JournalFault.{JournalFault}
use Rattle.fsrm_journal.specs.declared.fault.JournalFault.TheVariants.{NoStore, AlreadyStore, Damaged, DiskFault, NoMemory}
use Rattle.fsrm_journal.specs.declared.heads.Head.{Head}
use Rattle.fsrm_journal.specs.declared.journal.Journal.{Journal}
use Rattle.fsrm_outside.specs.Parts.{Parts, part_of, other}

-- the heads that were read are those of the parts
pub judged_read : (parts : Parts) (zero one : List ℕ) (r : Result Part JournalFault) → r ≡ judged zero one → zero ≡ head_of parts.zero → one ≡ head_of parts.one → judged_parts parts ≡ r
judged_read parts zero one r is first second = sym (is ∙ ap (λ (l : List ℕ). judged l one) first ∙ ap (λ (l : List ℕ). judged (head_of parts.zero) l) second)

pub refused_read : (parts : Parts) (fault : JournalFault) → judged_parts parts ≡ Err fault → IsRefused parts fault
refused_read parts NoStore is = is
refused_read parts AlreadyStore is = is
refused_read parts (Damaged part place) is = is
refused_read parts DiskFault is = tt
refused_read parts NoMemory is = tt

pub says_read : (r : Part) (head : Head) (zero one : List ℕ) (parts : Parts) → (r ≡ Zero → head ≡ head_says zero) → (r ≡ One → head ≡ head_says one) → zero ≡ head_of parts.zero → one ≡ head_of parts.one
    → head ≡ head_says (head_of (part_of r parts))
says_read Zero head zero one parts first second is_zero is_one = first refl ∙ ap head_says is_zero
says_read One head zero one parts first second is_zero is_one = second refl ∙ ap head_says is_one

pub beside_read : (r : Part) (still : Bool) (zero one : List ℕ) (parts : Parts) → (r ≡ Zero → still ≡ is_open one) → (r ≡ One → still ≡ is_open zero) → zero ≡ head_of parts.zero → one ≡ head_of parts.one
    → still ≡ is_open (head_of (part_of (other r) parts))
beside_read Zero still zero one parts first second is_zero is_one = first refl ∙ ap is_open is_one
beside_read One still zero one parts first second is_zero is_one = second refl ∙ ap is_open is_zero

pub stands_then : (a b c : Journal) → StandsOn a b → StandsOn b c → StandsOn a c
stands_then a b c first second = record { ruling = second.ruling ∙ first.ruling; generation = second.generation ∙ first.generation; beside = second.beside ∙ first.beside }
