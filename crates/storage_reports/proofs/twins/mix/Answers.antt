use Rattle.std.proofs.Common.{rules}
use Rattle.storage_reports.specs.Doubles.{mixed_with}
use Rattle.storage_reports.proofs.twins.mix.Goals as goal

pub returns : goal.returns
unfolding mixed_with
returns c = search rules
