use Rattle.std.proofs.Common.{sym, ap, ◌∙◌}
use Rattle.std.specs.Option.{option_copied_mut}
use Rattle.fsrm_objects.proofs.RunRows.{set_ran}
use Rattle.fsrm_objects.proofs.runs.note_last.Goals as goal

pub returns : goal.returns
returns c =
    set_ran c.args.moment c.args.place c.args.actions.now c.unwrap-action.result.now (sym c.get_mut.ensures.value ∙ ap option_copied_mut c.unwrap-action.ensures)
