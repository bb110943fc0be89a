-- What a writer sends.
use Rattle.std.specs.Prelude.{◌≡◌, ℕ, ◌≤◌, List, Option, Result, Ok, Err, IsErrOf}
use Rattle.std.specs.Io.KnownBytes.{append_known}
use Rattle.fsrm_outside.specs.declared.traits.Sink.{Ghosts as Sink}
use Rattle.fsrm_outside.specs.Causes.{Rose}
use Rattle.fsrm_outside.specs.Shown.{ShowsFront}
use Rattle.line_parts.specs.declared.fault.TextFault.{TextFault}
use Rattle.line_parts.specs.declared.fault.TextFault.TheVariants.{WriteFault, NoMemory}

-- the whole text is shown if it was written, and else a front of it
abbrev pub Sends : {T E : Type 0} → Result T E → Option (List ℕ) → Option (List ℕ) → List ℕ → Type 0
Sends (Ok value) before after text = after ≡ append_known before text
Sends (Err fault) before after text = ShowsFront before after text

-- the count of failed writes is as it was, unless the answer is that a write failed
abbrev pub KeepsCount : {T : Type 0} → Result T TextFault → ℕ → ℕ → Type 0
KeepsCount (Ok value) before now = now ≡ before
KeepsCount (Err WriteFault) before now = Unit {0}
KeepsCount (Err NoMemory) before now = now ≡ before

-- What a call makes of the sink that it may write to, whatever the text: nothing but writes, and a write that failed
-- was counted and told.
pub record WritesTo {S T : Type 0} (sink : Sink S) (result : Result T TextFault) (before after : S) : Type 0 where
  pub fault : IsErrOf result WriteFault → Rose (sink.write_faults before) (sink.write_faults after)
  pub later : sink.write_faults before ≤ sink.write_faults after
  pub same : KeepsCount result (sink.write_faults before) (sink.write_faults after)
  pub by : sink.by_write before after

-- What a writer of a text promises.
pub record Writes {S T : Type 0} (sink : Sink S) (result : Result T TextFault) (before after : S) (whole : List ℕ) : Type 0 where
  pub text : Sends result (sink.shown before) (sink.shown after) whole
  pub device : WritesTo sink result before after
