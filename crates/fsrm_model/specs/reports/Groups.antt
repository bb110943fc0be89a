-- Items in groups of equal keys.
use Rattle.std.specs.Prelude.{Bool, not, List, [], ◌∷◌, map, filter}

-- keys, each once, in the order in which they are first seen
abbrev pub distinct : {K : Type 0} → (K → K → Bool) → List K → List K
distinct same [] = []
distinct same (k ∷ ks) = k ∷ filter (λ other. not (same k other)) (distinct same ks)

-- the items of a key
abbrev pub items_of : {X K : Type 0} → (K → K → Bool) → (X → K) → List X → K → List X
items_of same key xs k = filter (λ x. same k (key x)) xs

-- each key with what its items come to, in the order in which the keys are first seen
abbrev pub groups : {X K V : Type 0} → (K → K → Bool) → (X → K) → (List X → V) → List X → List (K × V)
groups same key total xs = map (λ k. (k, total (items_of same key xs k))) (distinct same (map key xs))

-- an entry, with what is seen of its key
abbrev pub with_value : {K S V : Type 0} → (K → S) → K × V → S × V
with_value value entry = (value entry.0, entry.1)
