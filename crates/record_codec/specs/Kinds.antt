-- Values of several kinds, each of which has values of its own: how one kind is spelled, and all of them after their kind.
use Rattle.std.specs.Prelude.{ℕ, ◌&&◌, Bool, false, List, [], ◌++◌, Option, Some}
use Rattle.std.specs.Option.{option_map_or}
use Rattle.record_fields.specs.Formats.{Format, Read, ◌>>=◌, known_at}

-- one kind, which is made of these values: parts tells which ones, if a value is of the kind
abbrev pub one_of : {A X : Type 0} → (A → X) → (X → Option A) → Format A → Format X
one_of make parts f = record {
  legal = λ x. option_map_or f.legal (parts x) false;
  spell = λ x. option_map_or f.spell (parts x) [];
  fields = λ x. option_map_or f.fields (parts x) [];
  read = known_at (λ a. Some (make a)) f;
}

-- a kind, and then what it has: kind_of tells the kind of a value, if it has one
abbrev pub tagged_at : {K X : Type 0} → Format K → (K → Format X) → List ℕ → Read X
tagged_at kind body bytes = kind.read bytes >>= λ k. (body k.0).read k.1

abbrev pub tagged_legal : {K X : Type 0} → Format K → (K → Format X) → X → K → Bool
tagged_legal kind body x k = kind.legal k && (body k).legal x

abbrev pub tagged_spelled : {K X : Type 0} → Format K → (K → Format X) → X → K → List ℕ
tagged_spelled kind body x k = kind.spell k ++ (body k).spell x

abbrev pub tagged_fields : {K X : Type 0} → Format K → (K → Format X) → X → K → List (List ℕ)
tagged_fields kind body x k = kind.fields k ++ (body k).fields x

abbrev pub tagged : {K X : Type 0} → Format K → (K → Format X) → (X → Option K) → Format X
tagged kind body kind_of = record {
  legal = λ x. option_map_or (tagged_legal kind body x) (kind_of x) false;
  spell = λ x. option_map_or (tagged_spelled kind body x) (kind_of x) [];
  fields = λ x. option_map_or (tagged_fields kind body x) (kind_of x) [];
  read = tagged_at kind body;
}
