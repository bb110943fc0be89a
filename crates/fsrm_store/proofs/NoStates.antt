-- There is no state exactly where no gate is open.
use Rattle.std.proofs.Common.{◌≡◌, ℕ, Bool, true, false, cond, not, refl, ap}
use Rattle.std.specs.Prelude.{Option, None, Some, Result, Ok, Err, nat_eq, nat_lt}
use Rattle.fsrm_model.specs.declared.row.Capacity.{Capacity}
use Rattle.fsrm_model.specs.declared.row.Rows.{Rows}
use Rattle.fsrm_outside.specs.Parts.{Parts, part_of}
use Rattle.fsrm_outside.specs.declared.traits.Part.{Part}
use Rattle.fsrm_outside.specs.declared.traits.Part.TheVariants.{Zero, One}
use Rattle.fsrm_journal.specs.Formatted.{has_store}
use Rattle.fsrm_journal.specs.Heads.{head_of, is_open, generation_at, half_fault, ruling, unless_damaged}
use Rattle.fsrm_journal.specs.HeadSays.{head_says}
use Rattle.fsrm_journal.specs.declared.fault.JournalFault.{JournalFault}
use Rattle.fsrm_journal.specs.declared.fault.JournalFault.TheVariants.{NoStore, Damaged}
use Rattle.fsrm_store.specs.States.{half_rows, with_rows, by_heads, state_of}
use Rattle.fsrm_store.specs.States.State.{NoState}

no_rows : (part : Part) (K : Capacity) (r : Result Rows ℕ) → with_rows part K r ≡ NoState → ⊥
no_rows part K (Ok R) is = cc is
no_rows part K (Err place) is = cc is

module _ (parts : Parts) where
  abbrev IsNone : Result Part JournalFault → Type 0
  IsNone r = by_heads parts r ≡ NoState

  half_none : (part : Part) → IsNone (Ok part) → ⊥
  half_none part is = let head = head_says (head_of (part_of part parts)) in no_rows part head.size (half_rows head (part_of part parts)) is

  rules_none : (one zero same less : Bool) → IsNone (cond (not one) (Ok Zero) (cond (not zero) (Ok One) (cond same (Err (Damaged One 16)) (cond less (Ok One) (Ok Zero))))) → ⊥
  rules_none false zero same less is = half_none Zero is
  rules_none true false same less is = half_none One is
  rules_none true true true less is = cc is
  rules_none true true false true is = half_none One is
  rules_none true true false false is = half_none Zero is

  sound_none : (part : Part) (fault : Option ℕ) (rest : Result Part JournalFault) → (IsNone rest → ⊥) → IsNone (unless_damaged part fault rest) → ⊥
  sound_none part None rest never is = never is
  sound_none part (Some place) rest never is = cc is

  open_none : (some : Bool) (r : Result Part JournalFault) → (IsNone r → ⊥) → IsNone (cond some r (Err NoStore)) → some ≡ false
  open_none true r never is = absurd (never is)
  open_none false r never is = refl

  pub none_shut : state_of parts ≡ NoState → has_store parts ≡ false
  none_shut =
      let zero = head_of parts.zero in
      let one = head_of parts.one in
      open_none (has_store parts) (unless_damaged Zero (half_fault zero) (unless_damaged One (half_fault one) (ruling zero one)))
      (sound_none Zero (half_fault zero) (unless_damaged One (half_fault one) (ruling zero one))
      (sound_none One (half_fault one) (ruling zero one)
      (rules_none (is_open one) (is_open zero) (nat_eq (generation_at zero) (generation_at one)) (nat_lt (generation_at zero) (generation_at one)))))

  pub shut_none : has_store parts ≡ false → state_of parts ≡ NoState
  shut_none shut =
      let zero = head_of parts.zero in
      let one = head_of parts.one in
      ap (λ (some : Bool). by_heads parts (cond some (unless_damaged Zero (half_fault zero) (unless_damaged One (half_fault one) (ruling zero one))) (Err NoStore))) shut
