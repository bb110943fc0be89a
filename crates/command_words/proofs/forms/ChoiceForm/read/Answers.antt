use Rattle.std.proofs.Common.{refl}
use Rattle.fsrm_model.specs.lines.ValueForms.{ChoiceValue, choice_of}
use Rattle.fsrm_model.specs.lines.Reading.{choice_from}
use Rattle.command_words.proofs.OptionLaws.{reads_value}
use Rattle.command_words.proofs.forms.ChoiceForm.read.Goals as goal

pub returns : goal.returns
returns c = reads_value choice_of ChoiceValue c.read_choice.result (choice_from c.args.self.first.now c.args.self.second.now c.args.column c.args.text.now) (λ x. refl) c.read_choice.ensures
