use Rattle.std.proofs.Common.{refl}
use Rattle.fsrm_model.specs.lines.ValueForms.{ActionValue, action_of}
use Rattle.fsrm_model.specs.texts.ActionWords.{action_from}
use Rattle.command_words.proofs.OptionLaws.{reads_value}
use Rattle.command_words.proofs.forms.ScreenActionForm.read.Goals as goal

pub returns : goal.returns
returns c = reads_value action_of ActionValue c.read_screen_action.result (action_from c.args.column c.args.text.now) (λ x. refl) c.read_screen_action.ensures
