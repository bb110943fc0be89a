use Rattle.std.proofs.Common.{ℕ, List, Ok, Err, ap, sym, ◌∙◌, inr}
use Rattle.record_fields.specs.declared.flaw.Flaw.TheVariants.{Truncated}
use Rattle.record_fields.specs.Formats.{number_at}
use Rattle.image_codec.proofs.SectionLaws.{start_read, start_cut, start_cut_later}
use Rattle.image_codec.proofs.sections.feed_start.Goals as goal

pub returns-in_default-clause-stops : goal.returns-in_default-clause-stops
returns-in_default-clause-stops c =
    inr (start_cut c.args.rows.now c.args.still c.args.bytes.now c.in_default.field-0 c.if-still-eq0.false (ap (number_at 8) (sym c.new-reader.ensures) ∙ c.in_default.ensures))

pub returns-in_default-read_u32-clause-stops : goal.returns-in_default-read_u32-clause-stops
returns-in_default-read_u32-clause-stops c =
    inr (start_cut_later c.args.rows.now c.args.still c.args.bytes.now c.in-Ok.last_moment c.read_u64.new.self c.in_default-read_u32.field-0 c.if-still-eq0.false
    (ap (number_at 8) (sym c.new-reader.ensures) ∙ c.in-Ok.ensures) c.in_default-read_u32.ensures ∙ ap (λ (n : ℕ). Err (Truncated n)) (sym c.left-left.ensures))

pub returns-clause-goes_on : goal.returns-clause-goes_on
returns-clause-goes_on c = λ more.
    sym (start_read c.args.rows.now c.args.still c.args.bytes.now c.in-Ok.last_moment c.read_u64.new.self c.in-Ok-read_u32.run_limit c.rest.result.now c.if-still-eq0.false
    (ap (number_at 8) (sym c.new-reader.ensures) ∙ c.in-Ok.ensures)
    (c.in-Ok-read_u32.ensures ∙ ap (λ (b : List ℕ). Ok (c.in-Ok-read_u32.run_limit, b)) (sym c.rest.ensures)) more)
