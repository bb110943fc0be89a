-- What holds of a format: that no other bytes spell a value, and where damage is told.
use Rattle.std.specs.Prelude.{◌≡◌, ◌≤◌, ◌<◌, ◌+◌, ℕ, true, List, [], ◌∷◌, ◌++◌, length, get_or, Ok, Err}
use Rattle.std.specs.List.{flat_map}
use Rattle.record_fields.specs.declared.flaw.Flaw.{Flaw}
use Rattle.record_fields.specs.declared.flaw.Flaw.TheVariants.{Truncated, Illegal}
use Rattle.record_fields.specs.Formats.{Format}

-- bytes are numbers below 256
abbrev pub AreBytes : List ℕ → Type 0
AreBytes bytes = (i : ℕ) → get_or bytes i 0 < 256

-- A format is exact if a value that is spelled is read again, whatever follows; if what is read was spelled; and if a
-- field that isn't legal stays so, whatever follows.
pub record Exact {X : Type 0} (f : Format X) : Type 0 where
  pub again : (x : X) (rest : List ℕ) → f.legal x ≡ true → f.read (f.spell x ++ rest) ≡ Ok (x, rest)
  pub takes : (bytes : List ℕ) (x : X) (rest : List ℕ) → AreBytes bytes → f.read bytes ≡ Ok (x, rest) → (f.legal x ≡ true) × (bytes ≡ f.spell x ++ rest)
  pub illegal : (bytes more : List ℕ) (left : ℕ) → AreBytes bytes → f.read bytes ≡ Err (Illegal left) → f.read (bytes ++ more) ≡ Err (Illegal (left + length more))

-- how many bytes are left from the flaw's place on
abbrev pub left_of : Flaw → ℕ
left_of (Truncated left) = left
left_of (Illegal left) = left

-- A value is one field, and a flaw is told at its first byte.
pub record IsField {X : Type 0} (f : Format X) : Type 0 where
  pub one : (x : X) → f.fields x ≡ f.spell x ∷ []
  pub first : (bytes : List ℕ) (flaw : Flaw) → f.read bytes ≡ Err flaw → left_of flaw ≡ length bytes

-- fields, one after the other
abbrev pub joined : List (List ℕ) → List ℕ
joined fields = flat_map (λ field. field) fields

-- Bytes begin with whole fields, after which so many bytes are left, and with these fields the spelling of a legal
-- value begins.
pub record Reaches {X : Type 0} (f : Format X) (bytes : List ℕ) (left : ℕ) : Type 0 where
  pub value : X
  pub front : List (List ℕ)
  pub after : List (List ℕ)
  pub rest : List ℕ
  pub legal : f.legal value ≡ true
  pub begins : f.fields value ≡ front ++ after
  pub agrees : bytes ≡ joined front ++ rest
  pub leaves : length rest ≡ left

-- A format tells the place of damage if it is exact, has a legal value, and tells of bytes that it can't read the place
-- up to which they are sound: what stands before it are whole fields of a legal value, and no legal value has fields
-- with which the bytes agree any further.
pub record Places {X : Type 0} (f : Format X) : Type 0 where
  pub exact : Exact f
  pub parts : (x : X) → joined (f.fields x) ≡ f.spell x
  pub some : X
  pub some_legal : f.legal some ≡ true
  pub sound : (bytes : List ℕ) (flaw : Flaw) → AreBytes bytes → f.read bytes ≡ Err flaw → Reaches f bytes (left_of flaw)
  pub farthest : (bytes : List ℕ) (flaw : Flaw) (left : ℕ) → AreBytes bytes → f.read bytes ≡ Err flaw → Reaches f bytes left → left_of flaw ≤ left
