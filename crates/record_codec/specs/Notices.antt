-- Thresholds, and actions, as commands give them.
use Rattle.std.specs.Prelude.{ℕ, List}
use Rattle.fsrm_model.specs.declared.command.Added.{Added}
use Rattle.fsrm_model.specs.declared.command.NewThresholds.{NewThresholds}
use Rattle.record_fields.specs.Formats.{Format, shaped, ◌⊗◌}
use Rattle.record_codec.specs.Fields.{percent, notice, many}

abbrev pub thresholds_of : List ℕ × List Added → NewThresholds
thresholds_of v = record { percents = v.0; notices = v.1 }

abbrev pub threshold_values : NewThresholds → List ℕ × List Added
threshold_values new = (new.percents, new.notices)

abbrev pub new_thresholds : Format NewThresholds
new_thresholds = shaped thresholds_of threshold_values (many percent ⊗ many notice)
