use Rattle.std.proofs.Common.{◌≡◌, take}
use Rattle.rescan.proofs.queue.Scans.waiting.Given as goal

-- the folders so far are copied
abbrev pub invariant-loop-folder : goal.invariant-loop-folder
invariant-loop-folder l = l.folders ≡ take l.folder-index l.folder-items
