-- What is judged of a store's rows before its tables are filled.
use Rattle.std.specs.Prelude.{◌&&◌, nat_le, Bool, List, length}
use Rattle.std.specs.List.{list_all}
use Rattle.fsrm_base.specs.Keyed.{is_ascending}
use Rattle.fsrm_model.specs.declared.row.GroupRow.{GroupRow}
use Rattle.fsrm_model.specs.declared.row.JobRow.{JobRow}
use Rattle.fsrm_model.specs.declared.row.NodeRow.{NodeRow}
use Rattle.fsrm_model.specs.declared.row.Rows.{Rows}
use Rattle.fsrm_model.specs.declared.row.TemplateRow.{TemplateRow}
use Rattle.fsrm_model.specs.objects.Jobs.{job_number}
use Rattle.fsrm_model.specs.objects.Templates.{is_template, template_number}
use Rattle.fsrm_model.specs.store.Replays.{none_rebuilding}
use Rattle.fsrm_model.specs.store.Valid.{are_audits, are_autos, are_entries, are_excepts, are_quotas, are_screens, has_source, is_empty, is_moment, is_sound_job}
use Rattle.fsrm_model.specs.values.Limits.{most_groups, most_jobs, most_minutes, most_templates}
use Rattle.fsrm_model.specs.values.Patterns.{group_number, is_group}

-- templates, file groups and report jobs in the order of their numbers. Two of them may have one name
abbrev pub are_numbered_templates : List TemplateRow → Bool
are_numbered_templates templates =
    (is_ascending template_number templates && nat_le (length templates) most_templates) && list_all is_template templates

abbrev pub are_numbered_groups : List GroupRow → Bool
are_numbered_groups groups =
    (is_ascending group_number groups && nat_le (length groups) most_groups) && list_all is_group groups

abbrev pub are_numbered_jobs : List NodeRow → List JobRow → Bool
are_numbered_jobs nodes jobs =
    (is_ascending job_number jobs && nat_le (length jobs) most_jobs) && list_all (is_sound_job nodes) jobs

-- quotas, templates and auto-apply quotas; no quota waits for a scan
abbrev pub are_kept_quotas : Rows → Bool
are_kept_quotas R =
    (are_numbered_templates R.templates && (are_quotas R.nodes R.quotas && list_all (has_source R.templates) R.quotas))
    && (are_autos R.nodes R.templates R.autos && none_rebuilding R.quotas)

-- file groups, screens and exceptions
abbrev pub are_kept_screens : Rows → Bool
are_kept_screens R =
    are_numbered_groups R.groups && (are_excepts R.nodes R.groups R.excepts && are_screens R.nodes R.groups R.excepts R.screens)

-- the logs, what the store is set to, and how far it has come; report jobs; nothing waits
abbrev pub is_kept_rest : Rows → Bool
is_kept_rest R =
    ((are_entries R.acts && are_audits R.audits) && (nat_le R.run_limit most_minutes && is_moment R.last_moment))
    && (are_numbered_jobs R.nodes R.jobs && (is_empty R.queue && is_empty R.unvisited))

-- the rows of a store in which no scan waits, but for its nodes, that names differ, and that all texts fit
abbrev pub are_kept : Rows → Bool
are_kept R = are_kept_quotas R && (are_kept_screens R && is_kept_rest R)
