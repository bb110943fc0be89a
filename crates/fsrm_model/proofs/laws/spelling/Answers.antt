use Rattle.fsrm_model.proofs.lines.SpellingLaws.{read_spells, spelled_reads, read_skips, skips_read}
use Rattle.fsrm_model.proofs.lines.LineRefusals.{line_refusal}
use Rattle.fsrm_model.proofs.lines.SpelledValues.{spelled_valid}
use Rattle.fsrm_model.proofs.laws.spelling.Goals as goal

pub returns-clause-commands : goal.returns-clause-commands
returns-clause-commands c = λ line command. (read_spells line command, spelled_reads line command)

pub returns-clause-valid : goal.returns-clause-valid
returns-clause-valid c = spelled_valid

pub returns-clause-skipped : goal.returns-clause-skipped
returns-clause-skipped c = λ line. (read_skips line, skips_read line)

pub returns-clause-refusals : goal.returns-clause-refusals
returns-clause-refusals c = line_refusal
