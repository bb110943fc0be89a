use Rattle.std.proofs.Common.{refl}
use Rattle.fsrm_model.specs.lines.ValueForms.{NumberValue, number_of}
use Rattle.fsrm_model.specs.values.Limits.{most_minutes}
use Rattle.fsrm_model.specs.lines.Reading.{number_from}
use Rattle.command_words.proofs.OptionLaws.{reads_value}
use Rattle.command_words.proofs.forms.RunLimitForm.read.Goals as goal

pub returns : goal.returns
returns c = reads_value number_of NumberValue c.read_run_limit.result (number_from 0 most_minutes c.args.column c.args.text.now) (λ x. refl) c.read_run_limit.ensures.read
