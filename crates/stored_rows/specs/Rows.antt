-- What rows have to be for their tables to take them.
use Rattle.std.specs.Prelude.{ℕ, ◌&&◌, nat_lt, nat_le, not, Bool, List, length}
use Rattle.std.specs.List.{list_all}
use Rattle.fsrm_base.specs.Keyed.{has_row, is_ascending}
use Rattle.fsrm_model.specs.declared.row.AutoRow.{AutoRow}
use Rattle.fsrm_model.specs.declared.row.ExceptRow.{ExceptRow}
use Rattle.fsrm_model.specs.declared.row.JobRow.{JobRow}
use Rattle.fsrm_model.specs.declared.row.QuotaRow.{QuotaRow}
use Rattle.fsrm_model.specs.declared.row.ScreenRow.{ScreenRow}
use Rattle.fsrm_model.specs.declared.row.TemplateRow.{TemplateRow}
use Rattle.fsrm_model.specs.objects.AutoApply.{auto_folder, is_auto}
use Rattle.fsrm_model.specs.objects.Jobs.{is_job, job_number}
use Rattle.fsrm_model.specs.objects.Quota.{folder_of}
use Rattle.fsrm_model.specs.objects.Screens.{except_folder, screen_folder}
use Rattle.fsrm_model.specs.objects.Templates.{template_number}
use Rattle.fsrm_model.specs.objects.Thresholds.{are_thresholds}
use Rattle.fsrm_model.specs.store.Valid.{are_screen_actions}
use Rattle.fsrm_model.specs.values.Limits.{most_autos, most_excepts, most_jobs, most_quotas, most_screen_groups, most_screens}

-- a list that ascends, has no more rows than it may, and rows of which each passes a test
abbrev pub are_rows : {X : Type 0} → (X → ℕ) → ℕ → (X → Bool) → List X → Bool
are_rows key most is_row rows = (is_ascending key rows && nat_le (length rows) most) && list_all is_row rows

-- quotas, whose folders need not be there
abbrev pub are_whole_quotas : List QuotaRow → Bool
are_whole_quotas quotas = are_rows folder_of most_quotas (λ quota. are_thresholds quota.thresholds) quotas

-- auto-apply quotas, whose templates are there
abbrev pub is_tied_auto : List TemplateRow → AutoRow → Bool
is_tied_auto templates auto = has_row template_number auto.template templates && is_auto auto

abbrev pub are_tied_autos : List TemplateRow → List AutoRow → Bool
are_tied_autos templates autos = are_rows auto_folder most_autos (is_tied_auto templates) autos

-- 1 to 16 numbers of groups
abbrev pub are_some_groups : List ℕ → Bool
are_some_groups numbers = nat_lt 0 (length numbers) && nat_le (length numbers) most_screen_groups

abbrev pub are_named_excepts : List ExceptRow → Bool
are_named_excepts excepts = are_rows except_folder most_excepts (λ except. are_some_groups except.groups) excepts

-- screens on folders that have no exception
abbrev pub is_alone_screen : List ExceptRow → ScreenRow → Bool
is_alone_screen excepts screen =
    not (has_row except_folder screen.folder excepts) && (are_some_groups screen.groups && are_screen_actions screen.actions)

abbrev pub are_alone_screens : List ExceptRow → List ScreenRow → Bool
are_alone_screens excepts screens = are_rows screen_folder most_screens (is_alone_screen excepts) screens

-- report jobs, whose folders need not be there
abbrev pub are_whole_jobs : List JobRow → Bool
are_whole_jobs jobs = are_rows job_number most_jobs is_job jobs
