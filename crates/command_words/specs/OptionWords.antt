-- What options come to, as lines have them.
use Rattle.std.specs.Prelude.{◌≡◌, ℕ, ◌==◌, Bool, true, false, List, length, Option, Some, None, is_none, Result, Ok, Err}
use Rattle.std.specs.List.{list_any, after_first}
use Rattle.fsrm_model.specs.declared.command.Refusal.TheVariants.{BadLine}
use Rattle.fsrm_model.specs.lines.ValueForms.{Value}
use Rattle.fsrm_model.specs.lines.Options.{Key, Given, is_same, one, each_of, times_in, key_named, word_key, is_colon, with_option}
use Rattle.fsrm_model.specs.lines.Reading.{Read, ◌>>=◌, known}
use Rattle.fsrm_model.specs.lines.Words.{Word as LineWord}
use Rattle.command_words.specs.declared.fault.LineFault.{LineFault}
use Rattle.command_words.specs.declared.fault.LineFault.TheVariants.{Refused}
use Rattle.command_words.specs.LineFaults.{Reads}

-- whether an option is one of these
abbrev pub in_keys : List Key → Key → Bool
in_keys keys key = list_any (λ (other : Key). is_same other key) keys

-- a value of a form is read, unless memory runs out
abbrev pub ReadsValue : {X : Type 0} → (Value → Option X) → Result X LineFault → Read Value → Type 0
ReadsValue of (Ok x) read = (value : Value) × (read ≡ Ok value) × (of value ≡ Some x)
ReadsValue of (Err fault) read = Reads {X = Value} (Err fault) read

-- the value that is held of an option that may be given once
pub record HoldsOnce {X : Type 0} (of : Value → Option X) (key : Key) (held : Option X) (given : List Given) : Type 0 where
  pub value : held ≡ one of key given
  pub none : is_none held ≡ (times_in key given == 0)

-- the values of one that may be given more often
pub record HoldsEach {X : Type 0} (of : Value → Option X) (key : Key) (held : List X) (given : List Given) : Type 0 where
  pub values : held ≡ each_of of key given
  pub count : length held ≡ times_in key given

-- What a word of this name, column and value adds to the values that are held: one more of these options, unless memory
-- runs out, or nothing if it is none of them
abbrev pub Adds : {V : Type 0} → (V → List Given → Type 0) → Result Bool LineFault → V → V → List Key → List ℕ → ℕ → List ℕ
    → List Given → Type 0
Adds holds (Ok true) old new keys name column text given =
    (key : Key) × (more : List Given) × (key_named keys name ≡ Some key)
    × (with_option key column text given ≡ Ok more) × holds new more
Adds holds (Ok false) old new keys name column text given = (key_named keys name ≡ None) × (new ≡ old)
Adds holds (Err fault) old new keys name column text given =
    (key : Key) × (key_named keys name ≡ Some key) × Reads {X = List Given} (Err fault) (with_option key column text given)

-- one more option, of those that a command takes
abbrev pub option_word : List Key → LineWord → List Given → Read (List Given)
option_word keys word given = do
  key ← known (BadLine word.column) (word_key keys word.text)
  with_option key word.column (after_first is_colon word.text) given

-- what is held after it, unless memory runs out
abbrev pub AddsWord : {V : Type 0} → (V → List Given → Type 0) → Result (Unit {0}) LineFault → V → Read (List Given)
    → Type 0
AddsWord holds (Ok done) new read = (given : List Given) × (read ≡ Ok given) × holds new given
AddsWord holds (Err fault) new read = Reads {X = List Given} (Err fault) read

-- what is held in the end, unless memory runs out
abbrev pub ReadsGiven : {V : Type 0} → (V → List Given → Type 0) → Result V LineFault → Read (List Given) → Type 0
ReadsGiven holds (Ok held) read = (given : List Given) × (read ≡ Ok given) × holds held given
ReadsGiven holds (Err fault) read = Reads {X = List Given} (Err fault) read

-- a value that is there, or the refusal of a line that ends before this column
abbrev pub IsRequired : {X : Type 0} → Result X LineFault → Option X → ℕ → Type 0
IsRequired (Ok x) value end = value ≡ Some x
IsRequired (Err fault) value end = (value ≡ None) × (fault ≡ Refused (BadLine end))
