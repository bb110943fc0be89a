use Rattle.std.proofs.Common.{refl}
use Rattle.fsrm_model.specs.lines.ValueForms.{ReportValue, report_of}
use Rattle.fsrm_model.specs.texts.ReportWords.{report_from}
use Rattle.command_words.proofs.OptionLaws.{reads_value}
use Rattle.command_words.proofs.forms.ReportNameForm.read.Goals as goal

pub returns : goal.returns
returns c = reads_value report_of ReportValue c.read_report.result (report_from c.args.column c.args.text.now) (λ x. refl) c.read_report.ensures
