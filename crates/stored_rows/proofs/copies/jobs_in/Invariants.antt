use Rattle.std.proofs.Common.{◌≡◌, take}
use Rattle.stored_rows.proofs.copies.jobs_in.Given as goal

-- the rows so far are copied
abbrev pub invariant-loop-place : goal.invariant-loop-place
invariant-loop-place l = l.rows ≡ take l.place l.objects.jobs
