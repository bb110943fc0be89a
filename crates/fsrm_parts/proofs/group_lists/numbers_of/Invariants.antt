use Rattle.std.proofs.Common.{◌≡◌, ◌++◌, drop}
use Rattle.fsrm_model.specs.commands.ScreenWork.{are_named, numbers_named}
use Rattle.fsrm_parts.proofs.group_lists.numbers_of.Given as goal

-- the numbers so far, with those of the names that are left, are all
abbrev pub invariant-loop-name : goal.invariant-loop-name
invariant-loop-name l = record {
  named : are_named l.groups (drop l.name-index l.name-items) ≡ are_named l.groups l.names;
  all : l.numbers ++ numbers_named l.groups (drop l.name-index l.name-items) ≡ numbers_named l.groups l.names;
}
