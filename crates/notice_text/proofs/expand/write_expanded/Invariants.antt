use Rattle.std.proofs.Common.{◌-◌, length}
use Rattle.notice_text.specs.Expand.{values_of}
use Rattle.notice_text.proofs.PieceLaws.{Expanded}
use Rattle.notice_text.proofs.expand.write_expanded.Given as goal

-- what was written, and what the rest expands to, is what the text expands to
abbrev pub invariant-loop-at : goal.invariant-loop-at
invariant-loop-at g l = Expanded g.S.Sink l.fn.sink l.sink (values_of l.facts) l.text l.at

abbrev pub decreases-loop-at : goal.decreases-loop-at
decreases-loop-at g l = length l.text - l.at
