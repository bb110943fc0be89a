use Rattle.std.proofs.Common.{◌≡◌, Err, ap, sym, subst, ◌∙◌, inr}
use Rattle.record_fields.specs.declared.flaw.FieldFault.TheVariants.{Flawed}
use Rattle.record_fields.specs.declared.flaw.Flaw.TheVariants.{Truncated}
use Rattle.record_fields.specs.Readers.{Fails}
use Rattle.image_codec.proofs.SectionLaws.{items_cut}
use Rattle.image_codec.proofs.sections.feed_rows.Goals as goal

pub returns-in-Err-Flawed-Truncated-clause-stops : goal.returns-in-Err-Flawed-Truncated-clause-stops
returns-in-Err-Flawed-Truncated-clause-stops g c =
    let f = g.F.Field.format in
    let arm = c.in-Err-Flawed-Truncated in
    let cut : arm.field-0-0 ≡ Truncated arm.left = arm.field-0-0-is in
    let fails : Fails (Flawed arm.field-0-0) (f.read c.new-reader.result) = subst (λ fault. Fails fault (f.read c.new-reader.result)) arm.field-0-is arm.ensures in
    inr (items_cut f c.in_ok-still.still c.in_ok-still.rest.now (Truncated arm.left) c.if-still-eq0.false
    (ap f.read (sym c.new-reader.ensures) ∙ fails ∙ ap (λ flaw. Err flaw) cut))
