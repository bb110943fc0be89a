use Rattle.std.proofs.Common.{refl}
use Rattle.fsrm_model.specs.lines.ValueForms.{NumberValue, number_of}
use Rattle.fsrm_model.specs.lines.Reading.{number_from}
use Rattle.command_words.proofs.OptionLaws.{reads_value}
use Rattle.command_words.proofs.forms.NumberForm.read.Goals as goal

pub returns : goal.returns
returns c = reads_value number_of NumberValue c.read_small.result (number_from c.args.self.least c.args.self.greatest c.args.column c.args.text.now) (λ x. refl) c.read_small.ensures
