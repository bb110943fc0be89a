use Rattle.std.proofs.Common.{◌≡◌, ℕ, List, ◌++◌, Ok, Err, sym, ap, ◌∙◌, arith}
use Rattle.record_fields.specs.declared.flaw.Flaw.{Flaw}
use Rattle.record_fields.specs.Formats.{number_at}
use Rattle.image_codec.specs.Sections.{resume}
use Rattle.image_codec.proofs.SectionLaws.{resume_on, at_end, at_next, at_cut, number_truncated, number_more}
use Rattle.image_codec.proofs.reading.go_on.Goals as goal

pub returns-in_default-clause-pauses : goal.returns-in_default-clause-pauses
returns-in_default-clause-pauses c = λ bytes. at_end c.sections.section c.feed_section.new.rows bytes c.in_default.ensures

pub returns-in_default-read_u32-clause-pauses : goal.returns-in_default-read_u32-clause-pauses
returns-in_default-read_u32-clause-pauses c =
    let after = c.in_ok-more.after.now in
    let read : number_at 4 after ≡ Err c.in_default-read_u32.field-0 = ap (number_at 4) (sym c.new-reader.ensures) ∙ c.in_default-read_u32.ensures in
    at_cut c.sections.section c.in-Some.next c.feed_section.new.rows after c.in_default-read_u32.field-0 c.in-Some.ensures read
    ∙ ap (λ (flaw : Flaw). Err flaw) (number_truncated 4 after c.in_default-read_u32.field-0 read)

pub sections-preserved : goal.sections-preserved
sections-preserved c = λ more.
    let rows = c.feed_section.new.rows in
    let after = c.in_ok-more.after.now in
    let rest = c.rest-rest.result.now in
    let read : number_at 4 after ≡ Ok (c.in-Ok.count, rest) = ap (number_at 4) (sym c.new-reader.ensures) ∙ c.in-Ok.ensures ∙ ap (λ (b : List ℕ). Ok (c.in-Ok.count, b)) (sym c.rest-rest.ensures) in
    let none : 0 ≡ c.in_ok-more.more = omega (arith, c.if-more-gt0.false) in
    sym (at_next c.sections.section c.in-Some.next rows (after ++ more) c.in-Ok.count (rest ++ more) c.in-Some.ensures (number_more 4 after more c.in-Ok.count rest read))
    ∙ ap (λ (n : ℕ). resume c.sections.section rows n (after ++ more)) none
    ∙ resume_on c.sections.section c.sections.rows rows c.sections.still c.in_ok-more.more (c.sections.rest.now ++ more) (after ++ more) (c.in_ok-more.ensures.goes_on more)
    ∙ c.sections.invariant more
