-- What is left of a made script.
use Rattle.std.specs.Prelude.{ℕ, ◌+◌, List}
use Rattle.made_script.specs.Lines.{lines_from}
use Rattle.made_script.specs.declared.work.Work.{Work}

-- the lines that are still to be made
abbrev pub lines_left : Work → List (List ℕ)
lines_left work = lines_from work.state (work.number + 1) work.left
