-- What a line does that spells a command, and one that spells none.
use Rattle.std.proofs.Common.{◌≡◌, ℕ, List, ap}
use Rattle.std.specs.Prelude.{Option}
use Rattle.fsrm_model.specs.declared.command.Command.{Command}
use Rattle.fsrm_model.specs.declared.row.Capacity.{Capacity}
use Rattle.fsrm_model.specs.declared.row.Rows.{Rows}
use Rattle.fsrm_model.specs.lines.Line.{read_line}
use Rattle.fsrm_model.specs.lines.Reading.{Read}
use Rattle.fsrm_model.specs.lines.Script.{without_cr, replied, replied_to, line_cost, read_cost}

-- what a line does goes by what it reads as
pub replied-read : (K : Capacity) (R : Rows) (n : ℕ) (line : List ℕ) (r : Option (Read Command)) → read_line (without_cr line) ≡ r → replied K R n line ≡ replied_to K R n r
unfolding replied
replied-read K R n line r e = ap (replied_to K R n) e

-- the looks that a line may take go by what it reads as, too
pub line_cost-read : (K : Capacity) (R : Rows) (line : List ℕ) (r : Option (Read Command)) → read_line (without_cr line) ≡ r → line_cost K R line ≡ read_cost K R r
unfolding line_cost
line_cost-read K R line r e = ap (read_cost K R) e
