-- The laws of the entries of commands on report jobs.
use Rattle.std.proofs.Common.{◌≡◌, ℕ, true, Some, refl, arith}
use Rattle.std.specs.Prelude.{option_map}
use Rattle.std.proofs.lemmas.Grind.{common_steps}
use Rattle.fsrm_model.specs.commands.Commands.{kind}
use Rattle.fsrm_model.specs.declared.command.Deed.TheVariants.{Reports}
use Rattle.fsrm_model.specs.declared.command.ReportsDeed.{ReportsDeed}
use Rattle.fsrm_model.specs.declared.command.ReportsDeed.TheVariants.{Add as ReportsAdd, Delete as ReportsDelete, Run as ReportsRun}
use Rattle.record_fields.specs.Formats.{optional, ◌⊗◌}
use Rattle.record_fields.specs.Laws.{Places}
use Rattle.record_fields.proofs.FollowedLaws.{◌also◌}
use Rattle.record_fields.proofs.OptionalLaws.{optional_places}
use Rattle.record_fields.proofs.StandingLaws.{shaped_places}
use Rattle.record_codec.specs.declared.reports.JobKind.{JobKind}
use Rattle.record_codec.specs.declared.reports.JobKind.TheVariants.{Add as AddKind, Delete as DeleteKind, Run as RunKind}
use Rattle.record_codec.specs.Fields.{object_name, report_kind, path, schedule}
use Rattle.record_codec.specs.Filters.{filter}
use Rattle.record_codec.specs.Reports.{job_kind, job_code, job_kind_in, job_deed, job_of, job_values, new_job, add_part, delete_part, run_part}
use Rattle.record_codec.proofs.FieldLaws.{object_name_places, report_kind_places, path_places, schedule_places}
use Rattle.record_codec.proofs.FilterLaws.{filter_places}
use Rattle.record_codec.proofs.KindLaws.{one_of_places}

-- ---- the bytes of the kinds
pub job_home : (n : ℕ) (k : JobKind) → job_kind n ≡ Some k → job_code k ≡ n
job_home = grind (arith, common_steps)

-- ---- their values
new_job_places : Places new_job
new_job_places =
    shaped_places job_of job_values (object_name ⊗ report_kind ⊗ path ⊗ optional schedule ⊗ filter)
    (object_name_places also report_kind_places also path_places also optional_places schedule schedule_places also filter_places) (λ n. refl) (λ v. refl)

pub job_deed_places : (k : JobKind) → Places (job_deed k)
job_deed_places AddKind = one_of_places ReportsAdd add_part new_job new_job_places (λ v. refl) (grind (arith, common_steps))
job_deed_places DeleteKind = one_of_places (λ n. ReportsDelete n) delete_part object_name object_name_places (λ v. refl) (grind (arith, common_steps))
job_deed_places RunKind = one_of_places (λ n. ReportsRun n) run_part object_name object_name_places (λ v. refl) (grind (arith, common_steps))

-- each value is of its kind alone
pub job_own : (k : JobKind) (deed : ReportsDeed) → (job_deed k).legal deed ≡ true → job_kind_in deed ≡ Some k
job_own = grind (arith, common_steps)

-- ---- the machine's own kinds
pub job_numbered : (deed : ReportsDeed) → kind (Reports deed) ≡ option_map job_code (job_kind_in deed)
job_numbered = grind (arith, common_steps)
