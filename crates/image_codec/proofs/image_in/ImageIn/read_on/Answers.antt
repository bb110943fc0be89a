use Rattle.std.proofs.Common.{ℕ, ◌-◌, List, ◌++◌, Err, sym, ap, ◌∙◌}
use Rattle.record_fields.specs.declared.flaw.FieldFault.TheVariants.{Flawed}
use Rattle.image_codec.specs.Sections.{resume}
use Rattle.image_codec.proofs.image_in.ImageIn.read_on.Goals as goal

pub returns-in-Err-Flawed-Illegal-clause-damaged : goal.returns-in-Err-Flawed-Illegal-clause-damaged
returns-in-Err-Flawed-Illegal-clause-damaged c = λ place e.
    let on = c.in_ok-hold.ensures.reads in
    let held = c.hold.new.self in
    let arm = c.in-Err-Flawed-Illegal in (
      arm.left,
      cc (e, c.bad_record.ensures) ∙ ap (λ (n : ℕ). n - arm.left) on.came,
      λ more. sym (on.goes_on more) ∙ ap (λ (b : List ℕ). resume held.section held.rows held.still (b ++ more)) (sym c.as_slice.ensures.value)
          ∙ arm.ensures.flaw arm.left (ap (λ fault. Err fault) (arm.field-0-is ∙ ap (λ flaw. Flawed flaw) arm.field-0-0-is)) more,
    )
