-- What a parse by the command of the program tells.
use Rattle.std.proofs.Common.{◌≡◌, ◌∙◌, ap, sym, refl, subst, inl, inr, List, [], true}
use Rattle.std.specs.Prelude.{◌↔◌, Result, Ok, Err, IsErrAnd, IsErrOf}
use Rattle.clap.specs.Words.{App, FailsBy, HasMatchesOf, IsAmong, Kinds, Text, fault_of, is_simple, is_simple_and_free, kind_of, matches_of}
use Rattle.clap.specs.declared.error.Error.{Error}
use Rattle.clap.specs.declared.error.kind.ErrorKind.{ErrorKind}
use Rattle.clap.specs.declared.error.kind.ErrorKind.TheVariants.{OutOfMemory}
use Rattle.clap.specs.declared.parser.matches.ArgMatches.{ArgMatches}
use Rattle.program_words.specs.Command.{fsrm_app}
use Rattle.program_words.specs.Taking.{IsTaken}
use Rattle.program_words.specs.declared.fault.WordsFault.{WordsFault}
use Rattle.program_words.specs.declared.fault.WordsFault.TheVariants.{Usage, NoMemory}

simple : is_simple fsrm_app ≡ true
simple = refl

simple_and_free : is_simple_and_free fsrm_app ≡ true
simple_and_free = refl

pub taken : (app : App) (words : List Text) (r : Result ArgMatches Error) (m : ArgMatches) → app ≡ fsrm_app → r ≡ Ok m
    → (is_simple_and_free app ≡ true → FailsBy (fault_of app words) r) → HasMatchesOf app words m → IsTaken words m
taken app words r m is ok kinds has =
    let free : is_simple_and_free app ≡ true = ap is_simple_and_free is ∙ simple_and_free in
    let rows = has (ap is_simple is ∙ simple) in
    record {
      taken = ap (λ a. fault_of a words) (sym is) ∙ subst (FailsBy (fault_of app words)) ok (kinds free);
      rows = rows.0 ∙ ap (λ a. matches_of a words) is;
    }

none_among : (k : ErrorKind) (kinds : Kinds) → IsAmong k kinds → kinds ≡ [] → ⊥
none_among k kinds among none = subst (IsAmong k) none among

-- words that are refused, for another cause than memory, aren't taken
pub refused : {X : Type 0} (app : App) (words : List Text) (r : Result ArgMatches Error) (e : Error) (out : Result X WordsFault) → app ≡ fsrm_app → r ≡ Err e
    → (is_simple_and_free app ≡ true → FailsBy (fault_of app words) r) → IsErrAnd out (λ fault. (fault ≡ NoMemory) ↔ (kind_of e ≡ OutOfMemory))
    → IsErrOf out Usage → fault_of fsrm_app words ≡ [] → ⊥
refused app words r e (Ok x) is err kinds gives usage none = absurd gives
refused app words r e (Err fault) is err kinds gives usage none =
    let free : is_simple_and_free app ≡ true = ap is_simple_and_free is ∙ simple_and_free in
    elim (subst (FailsBy (fault_of app words)) err (kinds free)) [
      | inl memory ↦ let same : fault ≡ NoMemory = gives.1 memory in cc
      | inr among ↦ none_among (kind_of e) (fault_of app words) among (ap (λ a. fault_of a words) is ∙ none)
    ]
