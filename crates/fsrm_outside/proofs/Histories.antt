-- One call more in a record.
use Rattle.std.proofs.Common.{◌≡◌, ℕ, ◌≤◌, List, [], ◌∷◌, ◌++◌, length, drop, ◌∙◌, ap}
use Rattle.std.specs.Prelude.{reverse}
use Rattle.std.proofs.lemmas.List.{drop-append-le, reverse-append}
use Rattle.fsrm_outside.specs.Record.{since}
use Rattle.fsrm_outside.specs.declared.calls.Call.{Call}

pub since-push : (begun : ℕ) (calls : List Call) (call : Call) → begun ≤ length calls → since begun (calls ++ call ∷ []) ≡ call ∷ since begun calls
since-push begun calls call few = ap reverse (drop-append-le begun calls (call ∷ []) few) ∙ reverse-append (drop begun calls) (call ∷ [])
