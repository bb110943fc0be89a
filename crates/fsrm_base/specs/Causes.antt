-- Lists of causes, such as faults or refusals, of which the first one whose condition holds decides.
use Rattle.std.specs.Prelude.{Bool, List, [], ◌∷◌, Option, Some, None, if◌then◌else◌}

-- the cause, if its condition holds
infixr 20 ◌when◌
abbrev pub ◌when◌ : {X : Type 0} → X → Bool → Option X
cause when condition = if condition then Some cause else None

-- the first cause of a list
abbrev pub first : {X : Type 0} → List (Option X) → Option X
first [] = None
first (None ∷ causes) = first causes
first (Some cause ∷ causes) = Some cause
