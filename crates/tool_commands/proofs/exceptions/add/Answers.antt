use Rattle.std.proofs.Common.{rules, ◌≡◌, sym, ◌∙◌}
use Rattle.fsrm_model.specs.declared.command.Refusal.TheVariants.{BadLine}
use Rattle.fsrm_model.specs.lines.ValueForms.{path_of, text_of}
use Rattle.fsrm_model.specs.lines.Options.{path_key, add_filegroup_key}
use Rattle.fsrm_model.specs.lines.Tools.{except_add}
use Rattle.command_words.specs.declared.fault.LineFault.TheVariants.{Refused}
use Rattle.command_words.specs.Taking.{left, end}
use Rattle.tool_commands.proofs.NeededOptions.{missing, needs_none, needs_some, none_given, some_given}
use Rattle.tool_commands.proofs.exceptions.add.Goals as goal

pub returns-then-is_empty : goal.returns-then-is_empty
returns-then-is_empty c =
    let is = c.in_ok-path.ensures in
    let given = is.read.0 in
    let none = none_given text_of add_filegroup_key c.in_ok-path.groups given is.read.2.1.values (sym c.is_empty.ensures ∙ c.if-is_empty.true) in
    let fault : c.bad_line.result ≡ Refused (BadLine (end c.args.words.now)) = search rules in
    rw fault (missing except_add (end c.args.words.now) (left c.args.words.now) given is.read.1
    (needs_some path_of path_key given _ c.in_ok-path-2.path (sym is.read.2.0.value ∙ c.in_ok-path-2.ensures) ∙ needs_none text_of add_filegroup_key given _ none))

pub returns : goal.returns
returns c =
    let is = c.in_ok-path.ensures in
    let given = is.read.0 in
    let first = some_given text_of add_filegroup_key c.in_ok-path.groups given is.read.2.1.values (sym c.is_empty.ensures ∙ c.if-is_empty.false) in
    let some = first.1 in
    search rules
