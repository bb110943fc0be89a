use Rattle.std.proofs.Common.{◌≡◌, ◌+◌, take}
use Rattle.fsrm_model.specs.values.Texts.{action_bytes}
use Rattle.fsrm_objects.proofs.texts.left_of_actions.Given as goal

abbrev pub invariant-loop-action : goal.invariant-loop-action
invariant-loop-action l = l.left + action_bytes (take l.action-index l.action-items) ≡ l.fn.room
