use Rattle.std.proofs.Common.{sym, ap, ◌∙◌}
use Rattle.fsrm_model.specs.declared.command.Refusal.TheVariants.{InvalidPath as PathRefusal, InvalidName as NameRefusal}
use Rattle.record_codec.specs.Paths.{is_spelled_so}
use Rattle.record_codec.proofs.PathText.{is_spelled, spells, spells_none, reads_none}
use Rattle.record_codec.proofs.paths.spelled_path.Goals as goal

pub returns-then-is_spelled : goal.returns-then-is_spelled
returns-then-is_spelled c =
    let read = c.in-Ok.ensures.path in
    sym (spells c.args.text.now c.in-Ok.path read (sym (is_spelled c.args.text.now c.in-Ok.path read) ∙ ap is_spelled_so (sym c.as_bytes.ensures.value) ∙ sym c.is_spelled.ensures ∙ c.if-is_spelled.true))

pub returns-else-is_spelled : goal.returns-else-is_spelled
returns-else-is_spelled c =
    let read = c.in-Ok.ensures.path in
    sym (spells_none c.args.text.now c.in-Ok.path read (sym (is_spelled c.args.text.now c.in-Ok.path read) ∙ ap is_spelled_so (sym c.as_bytes.ensures.value) ∙ sym c.is_spelled.ensures ∙ c.if-is_spelled.false))

pub returns-in-Err-InvalidPath : goal.returns-in-Err-InvalidPath
returns-in-Err-InvalidPath c = sym (reads_none c.args.text.now PathRefusal (rw c.in-Err-InvalidPath.field-0-is at c.in-Err-InvalidPath.ensures.fault))

pub returns-in-Err-InvalidName : goal.returns-in-Err-InvalidName
returns-in-Err-InvalidName c = sym (reads_none c.args.text.now NameRefusal (rw c.in-Err-InvalidName.field-0-is at c.in-Err-InvalidName.ensures.fault))
