use Rattle.std.proofs.Common.{refl, sym, ◌∙◌}
use Rattle.std.proofs.lemmas.Result.{err_from_is_err_and}
use Rattle.fsrm_model.specs.lines.ValueForms.{path_of, report_of}
use Rattle.fsrm_model.specs.lines.Options.{report_key, scope_key}
use Rattle.fsrm_model.specs.lines.Tools.{report_generate}
use Rattle.command_words.specs.Taking.{left, end}
use Rattle.tool_commands.proofs.NeededOptions.{asked, lacking, needs_some}
use Rattle.tool_commands.proofs.reports.generate.Goals as goal

pub returns-in_err-kind-2 : goal.returns-in_err-kind-2
returns-in_err-kind-2 c =
    let is = c.in_ok-kind.ensures in
    let fault = err_from_is_err_and c.from_residual-in_err-kind-2.result c.from_residual-in_err-kind-2.ensures.1 in
    rw (fault.1, fault.2) (lacking report_generate report_of report_key _ (end c.args.words.now) (end c.read_options.new.words) (left c.args.words.now) is.read.0 c.in_ok-kind.kind c.in_err-kind-2.field-0.0 is.end is.read.1 refl is.read.2.0.value c.in_err-kind-2.ensures)

pub returns-in_err-scope : goal.returns-in_err-scope
returns-in_err-scope c =
    let is = c.in_ok-kind.ensures in
    let fault = err_from_is_err_and c.from_residual-in_err-scope.result c.from_residual-in_err-scope.ensures.1 in
    rw (fault.1, fault.2) (lacking report_generate path_of scope_key _ (end c.args.words.now) (end c.read_options.new.words) (left c.args.words.now) is.read.0 c.in_ok-kind.scope c.in_err-scope.field-0.0 is.end is.read.1
    (needs_some report_of report_key is.read.0 _ c.in_ok-kind-2.kind (sym is.read.2.0.value ∙ c.in_ok-kind-2.ensures)) is.read.2.1.0.value c.in_err-scope.ensures)

pub returns : goal.returns
returns c =
    let is = c.in_ok-kind.ensures in
    let given = is.read.0 in
    let held = is.read.2 in
    asked report_generate (end c.args.words.now) (left c.args.words.now) given _ is.read.1
    (needs_some report_of report_key given _ c.in_ok-kind-2.kind (sym held.0.value ∙ c.in_ok-kind-2.ensures)
    ∙ (needs_some path_of scope_key given _ c.in_ok-scope.scope (sym held.1.0.value ∙ c.in_ok-scope.ensures) ∙ cc))
