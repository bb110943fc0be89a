-- Rows that are copied one after the other.
use Rattle.std.proofs.Common.{◌≡◌, ℕ, ◌+◌, List, [], ◌∷◌, ◌++◌, take, Some, slice_get, ap, ◌∙◌}
use Rattle.std.proofs.lemmas.List.{take_more}
use Rattle.std.proofs.lemmas.Option.{get_or_from_slice_get, slice_get_within}

-- those so far, and the one that comes next
pub one_more : {X : Type 0} (rows : List X) (i : ℕ) (row : X) → slice_get rows i ≡ Some row → take (i + 1) rows ≡ take i rows ++ row ∷ []
one_more rows i row at = take_more rows i row (slice_get_within rows i row at) ∙ ap (λ r. take i rows ++ r ∷ []) (get_or_from_slice_get rows i row row at)
