-- What a filter has whose values are in their ranges.
use Rattle.std.proofs.Common.{◌≡◌, true}
use Rattle.std.specs.Option.{option_map_or}
use Rattle.fsrm_base.proofs.TestLaws.{both}
use Rattle.fsrm_model.specs.declared.row.Filter.{Filter}
use Rattle.fsrm_model.specs.reports.Filters.{is_filter}
use Rattle.fsrm_model.specs.values.Patterns.{is_pattern}

pub pattern_in : (asked : Filter) → is_filter asked ≡ true → option_map_or is_pattern asked.pattern true ≡ true
pattern_in asked h = (both _ _ (both _ _ (both _ _ h).0).1).0
