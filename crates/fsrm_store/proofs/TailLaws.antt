-- How many bytes the records of a store have.
use Rattle.std.proofs.Common.{◌≡◌, ℕ, ◌+◌, arith, List, length, sym, ◌∙◌, ap, subst}
use Rattle.fsrm_outside.specs.Parts.{Parts, part_of}
use Rattle.fsrm_outside.specs.declared.traits.Part.{Part}
use Rattle.fsrm_journal.specs.Heads.{head_of}
use Rattle.fsrm_journal.specs.HeadSays.{head_says}
use Rattle.fsrm_journal.specs.Opened.{judged_parts}
use Rattle.fsrm_journal.specs.Reading.{Comes, Read}
use Rattle.fsrm_journal.specs.Records.{records}
use Rattle.fsrm_journal.specs.declared.heads.Head.{Head}
use Rattle.fsrm_journal.proofs.Tails.{stands_after}
use Rattle.fsrm_journal.proofs.Walks.{read_once}
use Rattle.fsrm_journal.specs.Stores.{HoldsStore}
use Rattle.fsrm_store.specs.Keeps.{HasTail}
use Rattle.fsrm_store.proofs.StateLaws.{same_ok}

-- ---- the tail
pub store_tail : (ruling : Part) (head : Head) (image : List ℕ) (bodies : List (List ℕ)) (parts : Parts) → HoldsStore ruling head image bodies parts → HasTail (length (records bodies)) parts
store_tail ruling head image bodies parts s =
    let reads : Read (part_of ruling parts) (48 + head.image) bodies = record { end = s.reads.end; comes = subst (λ (n : ℕ). Comes (part_of ruling parts) (48 + n) bodies s.reads.end) (sym s.whole) s.reads.comes; stops = s.reads.stops } in
    record {
      ruling = ruling;
      head = head;
      bodies = bodies;
      rules = s.rules;
      says = s.says;
      reads = reads;
      ends = stands_after (part_of ruling parts) (48 + head.image) bodies s.reads.end reads.comes;
    }

pub one_tail : (tail other : ℕ) (parts : Parts) → HasTail tail parts → HasTail other parts → tail ≡ other
one_tail tail other parts a b =
    let rule = same_ok a.ruling b.ruling (judged_parts parts) a.rules b.rules in
    let heads : a.head ≡ b.head = sym a.says ∙ ap (λ (x : Part). head_says (head_of (part_of x parts))) rule ∙ b.says in
    let image : a.head.image ≡ b.head.image = ap (λ (h : Head). h.image) heads in
    let there : Read (part_of b.ruling parts) (48 + b.head.image) a.bodies = subst (λ (n : ℕ). Read (part_of b.ruling parts) (48 + n) a.bodies) image (subst (λ (x : Part). Read (part_of x parts) (48 + a.head.image) a.bodies) rule a.reads) in
    let same = read_once (part_of b.ruling parts) (48 + b.head.image) a.bodies b.bodies there b.reads in
    omega (
      arith,
      a.ends,
      b.ends,
      stands_after (part_of a.ruling parts) (48 + a.head.image) a.bodies a.reads.end a.reads.comes,
      stands_after (part_of b.ruling parts) (48 + b.head.image) b.bodies b.reads.end b.reads.comes,
      ap (λ (l : List (List ℕ)). length (records l)) same,
    )
