use Rattle.std.proofs.Common.{◌≡◌, ◌+◌, length, take}
use Rattle.std.specs.Prelude.{sum_by}
use Rattle.fsrm_base.proofs.room.left_of_texts.Given as goal

abbrev pub invariant-loop-text : goal.invariant-loop-text
invariant-loop-text g l = l.left + sum_by (λ text. length (g.T.AsStr.text text)) (take l.text-index l.text-items) ≡ l.fn.room
