-- Which heads a half may have.
use Rattle.std.specs.Prelude.{◌≡◌, ◌^◌, ◌≤◌, ◌<◌, true}
use Rattle.fsrm_model.specs.store.Capacities.{is_capacity}
use Rattle.fsrm_journal.specs.Heads.{is_version, is_cluster}
use Rattle.fsrm_journal.specs.declared.heads.Head.{Head}

-- a head that a half may have, with room for its numbers
pub record IsLegal (head : Head) : Type 0 where
  pub generation : 1 ≤ head.generation
  pub version : is_version head.version ≡ true
  pub size : is_capacity head.size ≡ true
  pub cluster : is_cluster head.version head.size.cluster ≡ true
  pub generation_fits : head.generation < 2 ^ 64
  pub image_fits : head.image < 2 ^ 64
