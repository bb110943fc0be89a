use Rattle.std.proofs.Common.{refl}
use Rattle.fsrm_model.specs.lines.ValueForms.{NoticeValue, notice_of}
use Rattle.fsrm_model.specs.texts.ActionWords.{notice_from}
use Rattle.command_words.proofs.OptionLaws.{reads_value}
use Rattle.command_words.proofs.forms.NoticeForm.read.Goals as goal

pub returns : goal.returns
returns c = reads_value notice_of NoticeValue c.read_notice.result (notice_from c.args.column c.args.text.now) (λ x. refl) c.read_notice.ensures
