-- What follows from a reading, and from the law of a format.
use Rattle.std.proofs.Common.{◌≡◌, ◌⊎◌, ℕ, ◌+◌, List, ◌++◌, length, drop, Ok, Err, refl, ap, subst, ◌∙◌, append_assoc, inl, inr}
use Rattle.std.proofs.lemmas.List.{drop_at, get_or-drop}
use Rattle.record_fields.specs.declared.flaw.Flaw.{Flaw}
use Rattle.record_fields.specs.Formats.{Read, ◌>>=◌, Format}
use Rattle.record_fields.specs.Laws.{Exact, AreBytes}

pub bind_ok : {A B : Type 0} (r : Read A) (f : A × List ℕ → Read B) (y : B × List ℕ) → (r >>= f) ≡ Ok y → (x : A × List ℕ) × (r ≡ Ok x) × (f x ≡ Ok y)
bind_ok (Ok x) f y e = (x, refl, e)
bind_ok (Err d) f y e = absurd cc

-- a flaw comes from the first or from the second
pub bind_err : {A B : Type 0} (r : Read A) (f : A × List ℕ → Read B) (d : Flaw) → (r >>= f) ≡ Err d → (r ≡ Err d) ⊎ ((x : A × List ℕ) × (r ≡ Ok x) × (f x ≡ Err d))
bind_err (Ok x) f d e = inr (x, refl, e)
bind_err (Err c) f d e = inl cc

abbrev done : {X : Type 0} → X × List ℕ → Read X
done x = Ok x

pub ok_is : {X : Type 0} (x y : X × List ℕ) → done x ≡ done y → x ≡ y
ok_is x y e = cc

-- ---- general laws of lists of bytes; they belong to fsrm_base
pub bytes_drop : (n : ℕ) (bytes : List ℕ) → AreBytes bytes → AreBytes (drop n bytes)
bytes_drop n bytes h i = rw get_or-drop (h (n + i))

pub bytes_after : (front rest : List ℕ) → AreBytes (front ++ rest) → AreBytes rest
bytes_after front rest h = subst AreBytes (drop_at front rest (length front) refl) (bytes_drop (length front) (front ++ rest) h)

-- ---- values
-- what is left after a value is bytes
pub rest_bytes : {X : Type 0} (f : Format X) → Exact f → (bytes : List ℕ) (x : X) (rest : List ℕ) → AreBytes bytes → f.read bytes ≡ Ok (x, rest) → AreBytes rest
rest_bytes f law bytes x rest h e = bytes_after (f.spell x) rest (subst AreBytes (law.takes bytes x rest h e).1 h)

-- a value that was read stays the same, whatever follows
pub ok_more : {X : Type 0} (f : Format X) → Exact f → (bytes more : List ℕ) (x : X) (rest : List ℕ) → AreBytes bytes → f.read bytes ≡ Ok (x, rest) → f.read (bytes ++ more) ≡ Ok (x, rest ++ more)
ok_more f law bytes more x rest h e =
    let t = law.takes bytes x rest h e in
    let split : bytes ++ more ≡ f.spell x ++ (rest ++ more) = ap (λ (b : List ℕ). b ++ more) t.1 ∙ append_assoc (f.spell x) rest more in
    ap f.read split ∙ law.again x (rest ++ more) t.0

-- what is made of the value has no flaw
pub first_flaw : {A B : Type 0} (r : Read A) (make : A → B) (flaw : Flaw) → (r >>= λ x. Ok (make x.0, x.1)) ≡ Err flaw → r ≡ Err flaw
first_flaw (Ok x) make flaw e = absurd cc
first_flaw (Err d) make flaw e = let is : d ≡ flaw = cc in ap Err is
