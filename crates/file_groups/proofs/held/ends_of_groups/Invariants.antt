use Rattle.std.proofs.Common.{take}
use Rattle.name_patterns.specs.Ends.{Cover}
use Rattle.file_groups.specs.Folded.{in_some_group}
use Rattle.file_groups.proofs.held.ends_of_groups.Given as goal

abbrev pub invariant-loop-place : goal.invariant-loop-place
invariant-loop-place l = Cover l.ends (in_some_group (take l.place l.groups.rows))
