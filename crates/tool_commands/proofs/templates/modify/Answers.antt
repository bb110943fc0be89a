use Rattle.std.proofs.Common.{refl}
use Rattle.std.proofs.lemmas.Result.{err_from_is_err_and}
use Rattle.fsrm_model.specs.lines.ValueForms.{text_of}
use Rattle.fsrm_model.specs.lines.Options.{template_key}
use Rattle.fsrm_model.specs.lines.Tools.{template_modify}
use Rattle.command_words.specs.Taking.{left, end}
use Rattle.tool_commands.proofs.NeededOptions.{lacking}
use Rattle.tool_commands.proofs.templates.modify.Goals as goal

pub returns-in_err-name-2 : goal.returns-in_err-name-2
returns-in_err-name-2 c =
    let is = c.in_ok-name.ensures in
    let fault = err_from_is_err_and c.from_residual-in_err-name-2.result c.from_residual-in_err-name-2.ensures.1 in
    rw (fault.1, fault.2) (lacking template_modify text_of template_key _ (end c.args.words.now) (end c.read_options.new.words) (left c.args.words.now) is.read.0 c.in_ok-name.name c.in_err-name-2.field-0.0 is.end is.read.1 refl is.read.2.0.0.value c.in_err-name-2.ensures)
