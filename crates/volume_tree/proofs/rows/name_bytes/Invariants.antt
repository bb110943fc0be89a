use Rattle.std.proofs.Common.{◌≡◌, ◌+◌, take}
use Rattle.fsrm_model.specs.nodes.Tree.{name_bytes}
use Rattle.volume_tree.proofs.rows.name_bytes.Given as goal

abbrev pub invariant-loop-row : goal.invariant-loop-row
invariant-loop-row l = l.left + name_bytes (take l.row-index l.rows) ≡ l.most
