use Rattle.std.proofs.Common.{refl}
use Rattle.fsrm_model.specs.lines.ValueForms.{PathValue, path_of}
use Rattle.fsrm_model.specs.lines.Reading.{path_from}
use Rattle.command_words.proofs.OptionLaws.{reads_value}
use Rattle.command_words.proofs.forms.AbsolutePathForm.read.Goals as goal

pub returns : goal.returns
returns c = reads_value path_of PathValue c.read_path_word.result (path_from c.args.text.now) (λ x. refl) c.read_path_word.ensures
