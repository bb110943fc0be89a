use Rattle.std.proofs.Common.{◌≡◌, true, take}
use Rattle.std.specs.List.{list_all}
use Rattle.fsrm_model.specs.values.Patterns.{is_pattern}
use Rattle.file_groups.proofs.rows.texts_from.Given as goal

abbrev pub invariant-loop-pattern : goal.invariant-loop-pattern
invariant-loop-pattern l = record {
  same : l.texts ≡ take l.pattern-index l.pattern-items;
  valid : list_all is_pattern l.texts ≡ true;
}
