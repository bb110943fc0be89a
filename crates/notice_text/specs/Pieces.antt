-- What is written of a text at a time.
use Rattle.std.specs.Prelude.{◌≡◌, ℕ, ◌<◌, ◌≤◌, List, ◌++◌, drop, length, Result, Ok, Err}
use Rattle.fsrm_outside.specs.declared.traits.Sink.{Ghosts as Sink}
use Rattle.line_parts.specs.declared.fault.TextFault.{TextFault}
use Rattle.line_parts.specs.Writes.{Writes}
use Rattle.notice_text.specs.Expand.{Values, expand}

-- what so many first bytes of a text stand for was written
pub record IsPiece {S : Type 0} (sink : Sink S) (before after : S) (values : Values) (text : List ℕ) (bytes : ℕ) : Type 0 where
  pub piece : List ℕ
  pub writes : Writes {T = Unit {0}} sink (Ok tt) before after piece
  pub whole : piece ++ expand values (drop bytes text) ≡ expand values text
  pub some : 0 < bytes
  pub within : bytes ≤ length text

abbrev pub WritesPiece : {S : Type 0} → Sink S → Result ℕ TextFault → S → S → Values → List ℕ → Type 0
WritesPiece sink (Ok bytes) before after values text = IsPiece sink before after values text bytes
WritesPiece sink (Err fault) before after values text = Writes {T = Unit {0}} sink (Err fault) before after (expand values text)
