use Rattle.fsrm_modes.proofs.Placing.{run_places}
use Rattle.fsrm_modes.proofs.laws.old_files_are_moved.Goals as goal

pub returns : goal.returns
returns c K R ask = run_places K R ask
