-- Records that were read.
use Rattle.std.proofs.Common.{◌≡◌, ℕ, ◌+◌, ◌≤◌, List, length, ◌∙◌, ap}
use Rattle.std.proofs.Common.{cond}
use Rattle.std.specs.Prelude.{Bool, Some, Ok, Err}
use Rattle.std.proofs.lemmas.Bool.{le-leb}
use Rattle.fsrm_journal.specs.Next.{next_length, with_body, record_at}

-- a record is as its length says
pub tells_some : (half : List ℕ) (place n : ℕ) → next_length half place ≡ Ok (Some n) → place + 5 + n ≤ length half → record_at half place ≡ Ok (Some (place + 5, n))
tells_some half place n is whole =
    ap (with_body half place) is ∙ ap (λ (b : Bool). cond b (Ok (Some (place + 5, n))) (Err (place + 5))) (le-leb (place + 5 + n) (length half) whole)
