use Rattle.std.proofs.Common.{◌≡◌, false, map, take}
use Rattle.fsrm_base.specs.Numbers.{is_in}
use Rattle.node_order.specs.Entries.{number_in}
use Rattle.volume_tree.proofs.register.position_of.Given as goal

abbrev pub invariant-loop-place : goal.invariant-loop-place
invariant-loop-place l = is_in (map number_in (take l.place l.late)) l.number ≡ false
