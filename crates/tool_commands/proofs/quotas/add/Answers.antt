use Rattle.std.proofs.Common.{refl}
use Rattle.std.proofs.lemmas.Result.{err_from_is_err_and}
use Rattle.fsrm_model.specs.lines.ValueForms.{path_of}
use Rattle.fsrm_model.specs.lines.Options.{path_key}
use Rattle.fsrm_model.specs.lines.Tools.{quota_add}
use Rattle.command_words.specs.Taking.{left, end}
use Rattle.tool_commands.proofs.NeededOptions.{lacking}
use Rattle.tool_commands.proofs.quotas.add.Goals as goal

pub returns-in_err-path-2 : goal.returns-in_err-path-2
returns-in_err-path-2 c =
    let is = c.in_ok-path.ensures in
    let fault = err_from_is_err_and c.from_residual-in_err-path-2.result c.from_residual-in_err-path-2.ensures.1 in
    rw (fault.1, fault.2) (lacking quota_add path_of path_key _ (end c.args.words.now) (end c.read_options.new.words) (left c.args.words.now) is.read.0 c.in_ok-path.path c.in_err-path-2.field-0.0 is.end is.read.1 refl is.read.2.0.0.value c.in_err-path-2.ensures)
