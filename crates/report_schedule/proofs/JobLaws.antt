-- Due jobs in the order of their numbers.
use Rattle.std.proofs.Common.{◌≡◌, ℕ, List, [], ◌∷◌, map, refl, ap, ◌∙◌}
use Rattle.std.specs.Prelude.{◌&&◌, filter, nat_lt}
use Rattle.fsrm_base.specs.Keyed.{is_ascending}
use Rattle.fsrm_base.proofs.Order.{ascending-filter}
use Rattle.report_schedule.specs.DueJobs.{due_numbers_ascend, is_due_job, job_number}

keys_ascend : {X : Type 0} (key : X → ℕ) (rows : List X) → is_ascending (λ n. n) (map key rows) ≡ is_ascending key rows
keys_ascend key [] = refl
keys_ascend key (x ∷ []) = refl
keys_ascend key (x ∷ y ∷ rows) = ap (λ b. nat_lt (key x) (key y) && b) (keys_ascend key (y ∷ rows))

pub due_ascend : due_numbers_ascend
due_ascend moment jobs h = keys_ascend job_number (filter (is_due_job moment) jobs) ∙ ascending-filter job_number (is_due_job moment) jobs h
