-- What follows from an answer.
use Rattle.std.specs.Prelude.{Result, Ok, Err, OnErr}
use Rattle.std.proofs.Common.{◌≡◌, [], ◌∷◌, Option, Some, None, refl}
use Rattle.fsrm_model.specs.declared.command.Refusal.{Refusal}
use Rattle.fsrm_model.specs.commands.Check.{first}

-- what is so of an `Err`
pub on_err : {A E P : Type 0} (r : Result A E) → P → OnErr r P
on_err (Ok x) h = tt
on_err (Err e) h = h

-- the one check that is left decides
pub last_check : (o : Option Refusal) → first (o ∷ []) ≡ o
last_check None = refl
last_check (Some refusal) = refl
