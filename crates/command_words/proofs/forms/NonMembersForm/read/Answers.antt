use Rattle.std.proofs.Common.{refl}
use Rattle.fsrm_model.specs.lines.ValueForms.{TextsValue, texts_of}
use Rattle.fsrm_model.specs.lines.GroupWords.{non_members_from}
use Rattle.command_words.proofs.OptionLaws.{reads_value}
use Rattle.command_words.proofs.forms.NonMembersForm.read.Goals as goal

pub returns : goal.returns
returns c = reads_value texts_of TextsValue c.read_non_members.result (non_members_from c.args.text.now) (λ x. refl) c.read_non_members.ensures
