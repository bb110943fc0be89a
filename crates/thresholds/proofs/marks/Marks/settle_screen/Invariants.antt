use Rattle.thresholds.proofs.ScreenLaws.{RanFirst, screen_upto}
use Rattle.thresholds.proofs.marks.Marks.settle_screen.Given as goal

-- the first of its actions were settled
abbrev pub invariant-loop-place : goal.invariant-loop-place
invariant-loop-place l =
    RanFirst l.fn.self l.self l.fn.objects l.objects l.moment l.folder l.place (screen_upto l.fn.objects.screens l.run_limit l.moment l.folder l.place)
