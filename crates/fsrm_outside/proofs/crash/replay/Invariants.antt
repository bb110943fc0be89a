use Rattle.std.proofs.Common.{◌≡◌, take}
use Rattle.std.specs.Prelude.{reverse}
use Rattle.fsrm_outside.specs.Contents.{parts_in, HasRoom}
use Rattle.fsrm_outside.specs.Record.{now_of}
use Rattle.fsrm_outside.proofs.crash.replay.Given as goal

-- so far the first calls are made again
abbrev pub invariant-loop-call : goal.invariant-loop-call
invariant-loop-call l = record {
  parts : parts_in l.contents ≡ now_of (parts_in l.fn.contents) (reverse (take l.call-index l.calls));
  room : HasRoom l.contents (now_of (parts_in l.fn.contents) (reverse l.calls));
}
