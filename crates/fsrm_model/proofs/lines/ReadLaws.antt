-- Reading one thing after another, and numbers.
use Rattle.std.proofs.Common.{◌≡◌, ℕ, List, Bool, true, false, refl, ap, ◌∙◌, arith}
use Rattle.std.specs.Prelude.{Ok, Err, ◌&&◌, nat_le}
use Rattle.std.specs.Str.Parse.{digits_value}
use Rattle.std.proofs.lemmas.Bool.{and_parts, le-leb, leb-true}
use Rattle.fsrm_model.specs.declared.command.Refusal.{Refusal}
use Rattle.fsrm_model.specs.declared.command.Refusal.TheVariants.{BadLine, OutOfRange}
use Rattle.fsrm_model.specs.lines.Reading.{Read, ◌>>=◌, guarded, is_number, number_from}
use Rattle.fsrm_model.specs.meaning.Spelling.{Writes}

-- a value is taken to what is read next
pub then_ok : {A B : Type 0} (r : Read A) (a : A) (f : A → Read B) → r ≡ Ok a → (r >>= f) ≡ f a
then_ok {A} r a f e = ap (λ (s : Read A). s >>= f) e

-- if both are read, the first is
pub both_ok : {A B : Type 0} (r : Read A) (f : A → Read B) (b : B) → (r >>= f) ≡ Ok b → (a : A) × (r ≡ Ok a) × (f a ≡ Ok b)
both_ok (Ok a) f b e = (a, refl, e)
both_ok (Err refusal) f b e = absurd (cc e)

pub guarded_ok : {A : Type 0} (test : Bool) (refusal : Refusal) (x y : A) → guarded test refusal x ≡ Ok y → (test ≡ true) × (x ≡ y)
guarded_ok true refusal x y e = (refl, cc e)
guarded_ok false refusal x y e = absurd (cc e)

pub guarded_then : {A B : Type 0} (test : Bool) (refusal : Refusal) (x : A) (f : A → Read B) (y : B) → (guarded test refusal x >>= f) ≡ Ok y → (test ≡ true) × (f x ≡ Ok y)
guarded_then true refusal x f y e = (refl, e)
guarded_then false refusal x f y e = absurd (cc e)

pub guarded_from : {A : Type 0} (test : Bool) (refusal : Refusal) (x : A) → test ≡ true → guarded test refusal x ≡ Ok x
guarded_from {A} test refusal x e = ap (λ (b : Bool). guarded b refusal x) e

-- the value of digits, if it is in range
abbrev in_range : ℕ → ℕ → ℕ → Read ℕ
in_range low high n = guarded (nat_le low n && nat_le n high) OutOfRange n

-- a number that is read is written there
pub number_writes : (low high column : ℕ) (text : List ℕ) (n : ℕ) → number_from low high column text ≡ Ok n → Writes low high text n
number_writes low high column text n h =
    let form = guarded_then (is_number text) (BadLine column) text (λ digits. in_range low high (digits_value 10 digits)) n h in
    let value = digits_value 10 text in
    let range = guarded_ok (nat_le low value && nat_le value high) OutOfRange value n form.1 in
    let bounds = and_parts (nat_le low value) (nat_le value high) range.0 in
    record {
      form = form.0;
      value = range.1;
      least = omega (arith, leb-true low value bounds.0, range.1);
      most = omega (arith, leb-true value high bounds.1, range.1);
    }

-- and a number that is written is read
pub number_reads : (low high column : ℕ) (text : List ℕ) (n : ℕ) → Writes low high text n → number_from low high column text ≡ Ok n
number_reads low high column text n w =
    let in_bounds : in_range low high n ≡ Ok n = rw (le-leb low n w.least, le-leb n high w.most) refl in
    then_ok (guarded (is_number text) (BadLine column) text) text (λ digits. in_range low high (digits_value 10 digits)) (guarded_from (is_number text) (BadLine column) text w.form)
    ∙ ap (in_range low high) w.value
    ∙ in_bounds
