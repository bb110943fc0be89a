use Rattle.std.proofs.Common.{take}
use Rattle.std.specs.Prelude.{reverse}
use Rattle.fsrm_outside.specs.Contents.{parts_in}
use Rattle.fsrm_outside.specs.Crash.{AreFilled}
use Rattle.fsrm_outside.proofs.crash.fill.Given as goal

-- so far the first calls' ranges are filled
abbrev pub invariant-loop-call : goal.invariant-loop-call
invariant-loop-call l = AreFilled l.byte (reverse (take l.call-index l.calls)) (parts_in l.fn.contents) (parts_in l.contents)
