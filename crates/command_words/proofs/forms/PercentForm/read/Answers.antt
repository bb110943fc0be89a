use Rattle.std.proofs.Common.{refl}
use Rattle.fsrm_model.specs.lines.ValueForms.{NumberValue, number_of}
use Rattle.fsrm_model.specs.texts.ActionWords.{percent_from}
use Rattle.command_words.proofs.OptionLaws.{reads_value}
use Rattle.command_words.proofs.forms.PercentForm.read.Goals as goal

pub returns : goal.returns
returns c = reads_value number_of NumberValue c.read_percent.result (percent_from c.args.column c.args.text.now) (λ x. refl) c.read_percent.ensures
