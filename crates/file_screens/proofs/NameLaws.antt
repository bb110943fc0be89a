-- How long a name is.
use Rattle.std.proofs.Common.{◌≡◌, ℕ, ◌≤◌, true, List, length}
use Rattle.fsrm_base.proofs.TestLaws.{both, le_is}
use Rattle.fsrm_model.specs.values.Limits.{longest_name}
use Rattle.fsrm_model.specs.values.Name.{is_name}

pub name_short : (name : List ℕ) → is_name name ≡ true → length name ≤ longest_name
name_short name h =
    let parts = both _ _ h in
    let sized = both _ _ parts.0 in
    le_is (length name) longest_name (both _ _ sized.0).1
