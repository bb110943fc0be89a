-- What decoding answers.
use Rattle.std.specs.Prelude.{◌≡◌, ◌≤◌, ◌+◌, ℕ, List, length, Option, Result, Ok, Err}
use Rattle.fsrm_model.specs.declared.command.Entry.{Entry}
use Rattle.record_fields.specs.declared.flaw.FieldFault.{FieldFault}
use Rattle.record_fields.specs.declared.flaw.FieldFault.TheVariants.{NoMemory as NoFieldMemory}
use Rattle.record_fields.specs.Laws.{Reaches}
use Rattle.record_codec.specs.declared.fault.CodecFault.{CodecFault}
use Rattle.record_codec.specs.declared.fault.CodecFault.TheVariants.{BadRecord, NoMemory}
use Rattle.record_codec.specs.Entries.{entry}

-- what a call answers is an entry, or the place of what is wrong, unless memory runs out
abbrev pub Decodes : Result Entry CodecFault → Result Entry ℕ → Type 0
Decodes (Ok e) read = read ≡ Ok e
Decodes (Err NoMemory) read = Unit {0}
Decodes (Err (BadRecord place)) read = read ≡ Err place

-- Bytes go wrong at a place if up to there they are whole fields, with which the spelling of a legal entry begins, and
-- if with no legal entry they agree in whole fields any further. Left is how many bytes stand from there on.
pub record GoesWrong (bytes : List ℕ) (place : ℕ) : Type 0 where
  pub left : ℕ
  pub stands : place + left ≡ length bytes
  pub sound : Reaches entry bytes left
  pub farthest : (fewer : ℕ) → Reaches entry bytes fewer → left ≤ fewer

-- what holds of the place that a call tells, if it tells one
abbrev pub IfBad : Result Entry CodecFault → (ℕ → Type 0) → Type 0
IfBad (Ok e) holds = Unit {0}
IfBad (Err NoMemory) holds = Unit {0}
IfBad (Err (BadRecord place)) holds = holds place

-- what is found, unless memory runs out
abbrev pub Finds : {X : Type 0} → Result (Option X) FieldFault → Option X → Type 0
Finds (Ok found) known = found ≡ known
Finds (Err fault) known = fault ≡ NoFieldMemory
