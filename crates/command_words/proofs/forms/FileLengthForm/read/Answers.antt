use Rattle.std.proofs.Common.{refl}
use Rattle.fsrm_model.specs.lines.ValueForms.{NumberValue, number_of}
use Rattle.fsrm_model.specs.values.Limits.{longest_file}
use Rattle.fsrm_model.specs.lines.Reading.{number_from}
use Rattle.command_words.proofs.OptionLaws.{reads_value}
use Rattle.command_words.proofs.forms.FileLengthForm.read.Goals as goal

pub returns : goal.returns
returns c = reads_value number_of NumberValue c.read_length.result (number_from 0 longest_file c.args.column c.args.text.now) (λ x. refl) c.read_length.ensures
