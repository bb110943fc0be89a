-- What a command asks for: why it may be refused, and what it does if it isn't.
use Rattle.std.specs.Prelude.{ℕ, Bool, List, Option, None}
use Rattle.fsrm_model.specs.declared.row.Rows.{Rows}
use Rattle.fsrm_model.specs.declared.row.ScreenRow.{ScreenRow}
use Rattle.fsrm_model.specs.declared.command.Outcome.{Outcome}
use Rattle.fsrm_model.specs.commands.Check.{Check}

-- the name that a command gives a file, and the screen that judges it (MS-FSRM, IFsrmFileScreen)
pub record Judged : Type 0 where
  pub screen : ScreenRow
  pub owner : ℕ
  pub folder : ℕ
  pub name : List ℕ

pub record Work : Type 0 where
  -- its refusals, in their order
  pub checks : List Check
  -- the rows that its effect leaves
  pub effect : Rows
  pub outcome : Outcome
  -- whether it lasts if it is accepted
  pub lasts : Bool
  -- the name that it gives a file, if a screen judges that
  pub judged : Option Judged

-- the one way to make a command's work. It gives no file a name
abbrev pub asks : List Check → Rows → Outcome → Bool → Work
asks checks effect outcome lasts = record { checks = checks; effect = effect; outcome = outcome; lasts = lasts; judged = None }
