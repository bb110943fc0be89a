use Rattle.std.proofs.Common.{refl}
use Rattle.fsrm_model.specs.lines.ValueForms.{TextValue, text_of}
use Rattle.fsrm_model.specs.lines.GroupWords.{object_from}
use Rattle.command_words.proofs.OptionLaws.{reads_value}
use Rattle.command_words.proofs.forms.ObjectNameForm.read.Goals as goal

pub returns : goal.returns
returns c = reads_value text_of TextValue c.read_object_name.result (object_from c.args.text.now) (λ x. refl) c.read_object_name.ensures
