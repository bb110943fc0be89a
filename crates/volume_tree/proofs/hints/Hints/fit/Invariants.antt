use Rattle.std.proofs.Common.{◌*◌, ◌≤◌, vec_len, vec_capacity, ◌≡◌, ◌+◌}
use Rattle.volume_tree.specs.Hints.{KeepsRoom}
use Rattle.volume_tree.proofs.hints.Hints.fit.Given as goal

abbrev pub invariant-loop-index : goal.invariant-loop-index
invariant-loop-index l = (vec_len l.self.folders ≡ l.count + l.index) × ((2 * l.count ≤ vec_capacity l.self.folders) × KeepsRoom l.initial.self l.self)
