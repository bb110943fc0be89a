-- Formats: how values are spelled in bytes, and how they are read from the front of bytes. The format of a record is
-- put together from those of its fields.
use Rattle.std.specs.Prelude.{ℕ, zero, suc, ◌^◌, ◌==◌, ◌&&◌, not, nat_lt, nat_le, Bool, true, false, List, [], ◌∷◌, ◌++◌, length, take, drop, Option, Some, None, Result, Ok, Err, if◌then◌else◌}
use Rattle.std.specs.List.{flat_map, list_all}
use Rattle.std.specs.Str.{is_utf8}
use Rattle.byteorder.specs.Endian.{little_number, little_bytes}
use Rattle.record_fields.specs.declared.flaw.Flaw.{Flaw}
use Rattle.record_fields.specs.declared.flaw.Flaw.TheVariants.{Truncated, Illegal}

-- What reading gives: a value and the bytes after it, or the first flaw. A flaw tells its place by how many bytes are
-- left from there on, so that no definition has to carry the place.
abbrev pub Read : Type 0 → Type 0
Read X = Result (X × List ℕ) Flaw

-- what is read next, of the bytes that are left
infixl 10 ◌>>=◌
abbrev pub ◌>>=◌ : {A B : Type 0} → Read A → (A × List ℕ → Read B) → Read B
(Ok x) >>= f = f x
(Err flaw) >>= f = Err flaw

-- A format: which values are legal, how each of these is spelled, the spellings of the single fields that this consists
-- of, and how the front of bytes is read.
pub record Format (X : Type 0) : Type 0 where
  pub legal : X → Bool
  pub spell : X → List ℕ
  pub fields : X → List (List ℕ)
  pub read : List ℕ → Read X

-- ---- single fields
-- a number in so many bytes, the lowest first
abbrev pub number_legal : ℕ → ℕ → Bool
number_legal width n = nat_lt n (256 ^ width)

unfoldable pub number_at : ℕ → List ℕ → Read ℕ
number_at width bytes =
    if nat_lt (length bytes) width then Err (Truncated (length bytes))
    else Ok (little_number width bytes, drop width bytes)

unfoldable pub number_spelled : ℕ → ℕ → List ℕ
number_spelled width n = little_bytes width n

abbrev pub number : ℕ → Format ℕ
number width = record {
  legal = number_legal width;
  spell = number_spelled width;
  fields = λ n. number_spelled width n ∷ [];
  read = number_at width;
}

-- a text, after its length in two bytes. Both together are one field
abbrev pub text_legal : List ℕ → Bool
text_legal text = nat_lt (length text) 65536 && is_utf8 text

unfoldable pub text_spelled : List ℕ → List ℕ
text_spelled text = number_spelled 2 (length text) ++ text

abbrev pub text_rest : List ℕ → ℕ → List ℕ → Read (List ℕ)
text_rest bytes n rest =
    if nat_lt (length rest) n then Err (Truncated (length bytes))
    else if is_utf8 (take n rest) then Ok (take n rest, drop n rest)
    else Err (Illegal (length bytes))

unfoldable pub text_at : List ℕ → Read (List ℕ)
text_at bytes =
    if nat_lt (length bytes) 2 then Err (Truncated (length bytes))
    else text_rest bytes (little_number 2 bytes) (drop 2 bytes)

abbrev pub text : Format (List ℕ)
text = record { legal = text_legal; spell = text_spelled; fields = λ t. text_spelled t ∷ []; read = text_at }

-- ---- values that stand for others
-- what is read of a field at these bytes whose value is known, or isn't
abbrev pub judged : {X : Type 0} → List ℕ → List ℕ → Option X → Read X
judged bytes rest (Some x) = Ok (x, rest)
judged bytes rest None = Err (Illegal (length bytes))

unfoldable pub known_at : {A X : Type 0} → (A → Option X) → Format A → List ℕ → Read X
known_at known f bytes = f.read bytes >>= λ a. judged bytes a.1 (known a.0)

-- A value that is spelled as another one, for which it stands: back tells as which, and known the way there, if that
-- one stands for any. May tells which values there are.
abbrev pub standing : {A X : Type 0} → (A → Option X) → (X → A) → (X → Bool) → Format A → Format X
standing known back may f = record {
  legal = λ x. may x && f.legal (back x);
  spell = λ x. f.spell (back x);
  fields = λ x. f.fields (back x);
  read = known_at known f;
}

-- the same value in another shape: each stands for one
abbrev pub shaped : {A X : Type 0} → (A → X) → (X → A) → Format A → Format X
shaped make back f = record {
  legal = λ x. f.legal (back x);
  spell = λ x. f.spell (back x);
  fields = λ x. f.fields (back x);
  read = known_at (λ a. Some (make a)) f;
}

-- a value that passes a test
abbrev pub passing : {X : Type 0} → (X → Bool) → X → Option X
passing test x = if test x then Some x else None

abbrev pub tested : {X : Type 0} → (X → Bool) → Format X → Format X
tested test f = record {
  legal = λ x. f.legal x && test x;
  spell = f.spell;
  fields = f.fields;
  read = known_at (passing test) f;
}

-- a number from low to high
abbrev pub is_within : ℕ → ℕ → ℕ → Bool
is_within low high n = nat_le low n && nat_le n high

abbrev pub number_within : ℕ → ℕ → ℕ → Format ℕ
number_within width low high = tested (is_within low high) (number width)

-- a choice in one byte: code is the byte of each, and choice_of tells which one a byte means
abbrev pub choice : {X : Type 0} → (ℕ → Option X) → (X → ℕ) → (X → Bool) → Format X
choice choice_of code may = standing choice_of code may (number 1)

-- a truth value is 0 or 1
abbrev pub truth_of : ℕ → Option Bool
truth_of n = if n == 0 then Some false else if n == 1 then Some true else None

abbrev pub truth_code : Bool → ℕ
truth_code true = 1
truth_code false = 0

abbrev pub truth : Format Bool
truth = choice truth_of truth_code (λ b. true)

-- ---- several fields
-- no field
abbrev pub nothing : Format Unit
nothing = record { legal = λ u. true; spell = λ u. []; fields = λ u. []; read = λ bytes. Ok (tt, bytes) }

-- one after the other. What the second one is may depend on the first one's value
abbrev pub pair_at : {A B : Type 0} → Format A → (A → Format B) → List ℕ → Read (A × B)
pair_at f g bytes = f.read bytes >>= λ a. (g a.0).read a.1 >>= λ b. Ok ((a.0, b.0), b.1)

abbrev pub followed : {A B : Type 0} → Format A → (A → Format B) → Format (A × B)
followed f g = record {
  legal = λ p. f.legal p.0 && (g p.0).legal p.1;
  spell = λ p. f.spell p.0 ++ (g p.0).spell p.1;
  fields = λ p. f.fields p.0 ++ (g p.0).fields p.1;
  read = pair_at f g;
}

infixr 5 ◌⊗◌
abbrev pub ◌⊗◌ : {A B : Type 0} → Format A → Format B → Format (A × B)
f ⊗ g = followed f (λ a. g)

-- A value that may be left out: a byte says whether it is there, and then it comes. Where it is required, 1 is the only
-- legal byte.
abbrev pub optional_legal : {X : Type 0} → Bool → Format X → Option X → Bool
optional_legal required f None = not required
optional_legal required f (Some x) = f.legal x

unfoldable pub optional_spelled : {X : Type 0} → (X → List ℕ) → Option X → List ℕ
optional_spelled spell None = number_spelled 1 0
optional_spelled spell (Some x) = number_spelled 1 1 ++ spell x

abbrev pub optional_fields : {X : Type 0} → (X → List (List ℕ)) → Option X → List (List ℕ)
optional_fields fields None = number_spelled 1 0 ∷ []
optional_fields fields (Some x) = number_spelled 1 1 ∷ fields x

abbrev pub optional_rest : {X : Type 0} → Bool → Format X → List ℕ → ℕ → List ℕ → Read (Option X)
optional_rest required f bytes zero rest = if required then Err (Illegal (length bytes)) else Ok (None, rest)
optional_rest required f bytes (suc zero) rest = f.read rest >>= λ x. Ok (Some x.0, x.1)
optional_rest required f bytes (suc (suc k)) rest = Err (Illegal (length bytes))

unfoldable pub optional_at : {X : Type 0} → Bool → Format X → List ℕ → Read (Option X)
optional_at required f bytes = number_at 1 bytes >>= λ k. optional_rest required f bytes k.0 k.1

abbrev pub optional_or : {X : Type 0} → Bool → Format X → Format (Option X)
optional_or required f = record {
  legal = optional_legal required f;
  spell = optional_spelled f.spell;
  fields = optional_fields f.fields;
  read = optional_at required f;
}

abbrev pub optional : {X : Type 0} → Format X → Format (Option X)
optional f = optional_or false f

-- values, after their count, which is a field of its own
unfoldable pub items_at : {X : Type 0} → Format X → ℕ → List ℕ → Read (List X)
items_at f zero bytes = Ok ([], bytes)
items_at f (suc n) bytes = f.read bytes >>= λ x. items_at f n x.1 >>= λ xs. Ok (x.0 ∷ xs.0, xs.1)

unfoldable pub listed_at : {X : Type 0} → Format ℕ → Format X → List ℕ → Read (List X)
listed_at count f bytes = count.read bytes >>= λ n. items_at f n.0 n.1

unfoldable pub listed_spelled : {X : Type 0} → (ℕ → List ℕ) → (X → List ℕ) → List X → List ℕ
listed_spelled count spell xs = count (length xs) ++ flat_map spell xs

abbrev pub listed : {X : Type 0} → Format ℕ → Format X → Format (List X)
listed count f = record {
  legal = λ xs. count.legal (length xs) && list_all f.legal xs;
  spell = listed_spelled count.spell f.spell;
  fields = λ xs. count.fields (length xs) ++ flat_map f.fields xs;
  read = listed_at count f;
}
