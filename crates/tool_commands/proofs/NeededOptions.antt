-- What options that are required ask for, and what is asked for without them.
use Rattle.std.proofs.Common.{◌≡◌, ℕ, ◌==◌, true, false, List, [], ◌∷◌, length, Some, None, refl, sym, ◌∙◌, ap, subst}
use Rattle.std.specs.Prelude.{Option, Ok, Err, option_and_then}
use Rattle.std.specs.List.{cons_option}
use Rattle.std.specs.Option.{option_or}
use Rattle.fsrm_base.proofs.TestLaws.{clash, eq_same, suc_apart}
use Rattle.fsrm_model.specs.declared.command.Deed.{Deed}
use Rattle.fsrm_model.specs.declared.command.Refusal.TheVariants.{BadLine}
use Rattle.fsrm_model.specs.lines.ValueForms.{Value}
use Rattle.fsrm_model.specs.lines.Line.{option_words}
use Rattle.fsrm_model.specs.lines.Options.{Key, Given, its, one, each_of, options}
use Rattle.fsrm_model.specs.lines.Reading.{Read, ◌>>=◌, known}
use Rattle.fsrm_model.specs.lines.Tools.{ToolCommand, needs}
use Rattle.fsrm_model.specs.lines.Words.{Word}
use Rattle.command_words.specs.declared.fault.LineFault.{LineFault}
use Rattle.command_words.specs.declared.fault.LineFault.TheVariants.{Refused}
use Rattle.command_words.specs.LineFaults.{Reads}

-- ---- the first value of an option is the first of all its values
abbrev first_of : {X : Type 0} → List X → Option X
first_of [] = None
first_of (x ∷ xs) = Some x

one_first : {X : Type 0} (of : Value → Option X) (key : Key) (given : List Given)
    → one of key given ≡ first_of (each_of of key given)
one_first of key [] = refl
one_first {X} of key (first ∷ given) = at (its of key first) (one_first of key given)
  where
    at : (o : Option X) → one of key given ≡ first_of (each_of of key given)
        → option_or o (one of key given) ≡ first_of (cons_option o (each_of of key given))
    at None h = h
    at (Some x) h = refl

-- so there is one exactly if there are some
pub none_given : {X : Type 0} (of : Value → Option X) (key : Key) (held : List X) (given : List Given)
    → held ≡ each_of of key given → (length held == 0) ≡ true → one of key given ≡ None
none_given {X} of key held given is e = one_first of key given ∙ (ap first_of (sym is) ∙ at held e)
  where
    at : (xs : List X) → (length xs == 0) ≡ true → first_of xs ≡ None
    at [] e = refl
    at (x ∷ xs) e = absurd (clash _ e (suc_apart (length xs)))

pub some_given : {X : Type 0} (of : Value → Option X) (key : Key) (held : List X) (given : List Given)
    → held ≡ each_of of key given → (length held == 0) ≡ false → (x : X) × (one of key given ≡ Some x)
some_given {X} of key held given is e =
    let found : (x : X) × (first_of held ≡ Some x) = at held e in
    (found.0, one_first of key given ∙ (ap first_of (sym is) ∙ found.1))
  where
    at : (xs : List X) → (length xs == 0) ≡ false → (x : X) × (first_of xs ≡ Some x)
    at [] e = absurd (clash _ (eq_same 0) e)
    at (x ∷ xs) e = (x, refl)

-- ---- a value that is required
pub needs_none : {X : Type 0} (of : Value → Option X) (key : Key) (given : List Given) (deed : X → Option Deed)
    → one of key given ≡ None → needs of key given deed ≡ None
needs_none of key given deed none = ap (option_and_then deed) none

pub needs_some : {X : Type 0} (of : Value → Option X) (key : Key) (given : List Given) (deed : X → Option Deed)
    (x : X) → one of key given ≡ Some x → needs of key given deed ≡ deed x
needs_some of key given deed x some = ap (option_and_then deed) some

-- what is asked for, or refused since something is missing
pub missing : (command : ToolCommand) (last : ℕ) (words : List Word) (given : List Given)
    → options command.keys words [] ≡ Ok given → command.deed given ≡ None
    → option_words command last words ≡ Err (BadLine last)
missing command last words given read none =
    ap (λ (r : Read (List Given)). r >>= λ given. known (BadLine last) (command.deed given)) read
    ∙ ap (known (BadLine last)) none

pub asked : (command : ToolCommand) (last : ℕ) (words : List Word) (given : List Given) (deed : Deed)
    → options command.keys words [] ≡ Ok given → command.deed given ≡ Some deed
    → option_words command last words ≡ Ok deed
asked command last words given deed read is =
    ap (λ (r : Read (List Given)). r >>= λ given. known (BadLine last) (command.deed given)) read
    ∙ ap (known (BadLine last)) is

pub lacking : {X : Type 0} (command : ToolCommand) (of : Value → Option X) (key : Key) (deed : X → Option Deed)
    (last now : ℕ) (words : List Word) (given : List Given) (held : Option X) (fault : LineFault) → now ≡ last
    → options command.keys words [] ≡ Ok given → command.deed given ≡ needs of key given deed
    → held ≡ one of key given → (held ≡ None) × (fault ≡ Refused (BadLine now))
    → Reads {X = Deed} (Err fault) (option_words command last words)
lacking command of key deed last now words given held fault same read is own none =
    let due = missing command last words given read (is ∙ needs_none of key given deed (sym own ∙ none.0)) in
    subst (λ (f : LineFault). Reads {X = Deed} (Err f) (option_words command last words)) (sym none.1) (due ∙ ap (λ (n : ℕ). Err (BadLine n)) (sym same))
