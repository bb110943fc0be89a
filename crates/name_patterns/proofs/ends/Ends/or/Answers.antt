use Rattle.std.proofs.Common.{◌≡◌, ◌%◌, ◌||◌, inl, inr, refl, ◌∙◌, arith}
use Rattle.std.proofs.lemmas.Bool.Decides.{nat_tests}
use Rattle.std.proofs.lemmas.Nat.Bits.{bit_at_or, bit_at-lt}
use Rattle.std.specs.Prelude.{bit_or}
use Rattle.fsrm_base.proofs.TestLaws.{is_or, or_later}
use Rattle.name_patterns.specs.Ends.{is_end}
use Rattle.name_patterns.proofs.ends.Ends.or.Goals as goal

pub returns : goal.returns
returns c = λ test other cover also cs character is.
    let ends = c.args.self in
    let others = c.args.others in
    let k = character % 128 in
    let joined : is_end (record { bits = bit_or ends.bits others.bits }) character ≡ (is_end ends character || is_end others character) =
    grind (arith, nat_tests, bit_at_or ends.bits others.bits k, bit_at-lt ends.bits k, bit_at-lt others.bits k) in
    joined ∙ elim (is_or _ _ is) [
      | inl its ↦ rw (cover cs character its) refl
      | inr its ↦ or_later (is_end ends character) (is_end others character) (also cs character its)
    ]
