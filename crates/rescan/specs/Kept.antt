-- How a frontier's fields hold it.
use Rattle.std.specs.Prelude.{◌≡◌, ℕ, true, [], Option, None}
use Rattle.fsrm_model.specs.store.Capacities.{is_cluster}
use Rattle.number_set.specs.Numbers.{Numbers}

-- no walk is under way, without a scan there is nothing to hold, and clusters have a legal size
pub record IsKept (folder : Option ℕ) (tops : Numbers) (sum : ℕ) (waiting : Numbers) (cluster : ℕ) : Type 0 where
  pub bounds : waiting.bound ≡ tops.bound
  pub still : waiting.members ≡ []
  pub no_tops : folder ≡ None → tops.members ≡ []
  pub no_sum : folder ≡ None → sum ≡ 0
  pub legal : is_cluster cluster ≡ true
