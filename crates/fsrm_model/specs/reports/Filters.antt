-- What a report is asked for: which values its filter may have (MS-FSRM, FsrmReportFilter), and which rows pass it.
use Rattle.std.specs.Prelude.{ℕ, ◌==◌, ◌&&◌, nat_le, Bool, true, List, Option}
use Rattle.std.specs.Option.{option_map_or}
use Rattle.fsrm_model.specs.declared.row.Filter.{Filter}
use Rattle.fsrm_model.specs.values.Limits.{last_owner, longest_file, most_days, most_use, most_rows}
use Rattle.fsrm_model.specs.values.Patterns.{is_pattern, pattern_matches}

abbrev pub is_owner : ℕ → Bool
is_owner owner = nat_le 1 owner && nat_le owner last_owner

abbrev pub is_length : ℕ → Bool
is_length length = nat_le length longest_file

-- a filter whose values are in their ranges: it has one row at least
abbrev pub is_filter : Filter → Bool
is_filter filter =
    (option_map_or is_owner filter.owner true && (option_map_or is_pattern filter.pattern true && option_map_or is_length filter.min_size true))
    && ((option_map_or (λ n. nat_le n most_days) filter.days true && option_map_or (λ n. nat_le n most_use) filter.min_use true)
    && (nat_le 1 filter.max && nat_le filter.max most_rows))

-- whether an owner and a name are those that are asked for
abbrev pub passes_owner : Filter → ℕ → Bool
passes_owner asked owner = option_map_or (λ n. n == owner) asked.owner true

abbrev pub passes_pattern_of : Option (List ℕ) → List ℕ → Bool
passes_pattern_of pattern name = option_map_or (pattern_matches name) pattern true

abbrev pub passes_pattern : Filter → List ℕ → Bool
passes_pattern asked name = passes_pattern_of asked.pattern name
