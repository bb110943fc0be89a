use Rattle.fsrm_model.proofs.DateLaws.{date_is}
use Rattle.fsrm_model.proofs.laws.dates.Goals as goal

pub returns : goal.returns
returns c = record { dates = date_is }
