use Rattle.std.proofs.Common.{refl}
use Rattle.fsrm_model.specs.lines.ValueForms.{TextValue, text_of}
use Rattle.fsrm_model.specs.texts.ReportWords.{schedule_from}
use Rattle.command_words.proofs.OptionLaws.{reads_value}
use Rattle.command_words.proofs.forms.ScheduleForm.read.Goals as goal

pub returns : goal.returns
returns c = reads_value text_of TextValue c.read_schedule.result (schedule_from c.args.text.now) (λ x. refl) c.read_schedule.ensures
