use Rattle.std.proofs.Common.{◌≡◌, ◌++◌, take}
use Rattle.block_list.specs.Runs.{entries_of}
use Rattle.block_list.proofs.list.BlockList.extend_from_slice.Given as goal

abbrev pub invariant-loop-entry : goal.invariant-loop-entry
invariant-loop-entry g l = (l.self.room ≡ l.initial.self.room) × (entries_of l.self.runs ≡ entries_of l.initial.self.runs ++ take l.entry-index l.entries)
