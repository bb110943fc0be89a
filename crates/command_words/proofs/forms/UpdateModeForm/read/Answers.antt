use Rattle.std.proofs.Common.{refl}
use Rattle.fsrm_model.specs.lines.ValueForms.{UpdateValue, update_of}
use Rattle.fsrm_model.specs.lines.TemplateWords.{update_from}
use Rattle.command_words.proofs.OptionLaws.{reads_value}
use Rattle.command_words.proofs.forms.UpdateModeForm.read.Goals as goal

pub returns : goal.returns
returns c = reads_value update_of UpdateValue c.read_update.result (update_from c.args.column c.args.text.now) (λ x. refl) c.read_update.ensures
