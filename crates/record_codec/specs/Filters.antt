-- What a report is asked for beside its kind and its folder.
use Rattle.std.specs.Prelude.{ℕ, Bool, List, Option}
use Rattle.std.specs.Str.{is_utf8}
use Rattle.fsrm_model.specs.declared.row.Filter.{Filter}
use Rattle.record_fields.specs.Formats.{Format, shaped, ◌⊗◌, optional}
use Rattle.record_codec.specs.Fields.{owner, pattern, file_length, days, least_use, row_count}
use Rattle.record_codec.specs.Typed.{some_typed}

abbrev pub FilterValues : Type 0
FilterValues = Option ℕ × (Option (List ℕ) × (Option ℕ × (Option ℕ × (Option ℕ × ℕ))))

abbrev pub filter_of : FilterValues → Filter
filter_of v =
    record {
      owner = v.0;
      pattern = v.1.0;
      min_size = v.1.1.0;
      days = v.1.1.1.0;
      min_use = v.1.1.1.1.0;
      max = v.1.1.1.1.1;
    }

abbrev pub filter_values : Filter → FilterValues
filter_values f = (f.owner, (f.pattern, (f.min_size, (f.days, (f.min_use, f.max)))))

abbrev pub filter : Format Filter
filter =
    shaped filter_of filter_values
    (optional owner ⊗ optional pattern ⊗ optional file_length ⊗ optional days ⊗ optional least_use ⊗ row_count)

-- its text
abbrev pub filter_typed : Filter → Bool
filter_typed f = some_typed is_utf8 f.pattern
