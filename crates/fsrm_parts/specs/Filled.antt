-- What the tables judge when they are filled with the rows of a store.
use Rattle.std.specs.Prelude.{◌&&◌, nat_le, Bool}
use Rattle.fsrm_model.specs.declared.row.Rows.{Rows}
use Rattle.fsrm_model.specs.objects.Jobs.{job_name}
use Rattle.fsrm_model.specs.objects.Templates.{template_name}
use Rattle.fsrm_model.specs.values.Limits.{most_text_bytes}
use Rattle.fsrm_model.specs.values.Name.{names_differ}
use Rattle.fsrm_model.specs.values.Patterns.{are_apart}
use Rattle.fsrm_model.specs.values.Texts.{object_texts}

-- what the tables judge when they are filled: that names differ, and that all texts fit
abbrev pub are_fitting : Rows → Bool
are_fitting R =
    (are_apart R.groups && (names_differ template_name R.templates && names_differ job_name R.jobs)) && nat_le (object_texts R) most_text_bytes
