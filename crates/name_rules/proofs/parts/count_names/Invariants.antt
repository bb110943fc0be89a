use Rattle.std.proofs.Common.{◌≡◌, ◌+◌, ◌-◌, ◌≤◌, length, drop}
use Rattle.std.specs.List.{list_all}
use Rattle.fsrm_model.specs.values.Name.{is_name}
use Rattle.fsrm_model.specs.meaning.PathNames.{parts_of}
use Rattle.name_rules.proofs.parts.count_names.Given as goal

abbrev pub invariant-loop-start : goal.invariant-loop-start
invariant-loop-start l = record {
  few : l.count ≤ l.start;
  counted : l.count + length (parts_of (drop l.start l.rest)) ≡ length (parts_of l.rest);
  left : list_all is_name (parts_of (drop l.start l.rest)) ≡ list_all is_name (parts_of l.rest);
}

abbrev pub decreases-loop-start : goal.decreases-loop-start
decreases-loop-start l = length l.rest - l.start
