use Rattle.fsrm_model.proofs.commands.EachCommand.{same_kind}
use Rattle.fsrm_model.proofs.journal.EntryLaws.{paths_short, entry_short}
use Rattle.fsrm_model.proofs.laws.entries.Goals as goal

pub returns-clause-kinds : goal.returns-clause-kinds
returns-clause-kinds c = same_kind

pub returns-clause-paths : goal.returns-clause-paths
returns-clause-paths c = paths_short

pub returns-clause-bytes : goal.returns-clause-bytes
returns-clause-bytes c = entry_short
