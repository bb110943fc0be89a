use Rattle.std.proofs.Common.{◌≡◌, ◌++◌, drop, true}
use Rattle.std.specs.List.{list_all}
use Rattle.fsrm_model.specs.values.Patterns.{is_pattern}
use Rattle.fsrm_parts.proofs.groups.patterns_of.Given as goal

abbrev pub invariant-loop-text : goal.invariant-loop-text
invariant-loop-text l = record {
  valid : list_all is_pattern (drop l.text-index l.text-items) ≡ true;
  all : l.patterns ++ drop l.text-index l.text-items ≡ l.texts;
}
