-- Values that stand for others.
use Rattle.std.proofs.Common.{◌≡◌, ◌⊎◌, ℕ, ◌+◌, ◌^◌, ◌<◌, ◌≤◌, Bool, true, false, cond, List, ◌++◌, length, Option, Some, None, Ok, Err, refl, sym, ap, ◌∙◌, arith, inl, inr}
use Rattle.std.specs.Prelude.{nat_eq}
use Rattle.std.proofs.lemmas.Bool.{le-leb, eqb-true, lt-ltb}
use Rattle.std.proofs.lemmas.List.{length-append}
use Rattle.record_fields.specs.declared.flaw.Flaw.{Flaw}
use Rattle.record_fields.specs.declared.flaw.Flaw.TheVariants.{Illegal}
use Rattle.record_fields.specs.Formats.{is_within, number_within, truth, truth_of, truth_code, Format, number, judged, known_at, standing, shaped, passing, tested}
use Rattle.record_fields.specs.Laws.{Exact, AreBytes, IsField, Places, left_of}
use Rattle.record_fields.proofs.Reaching.{field_places, carried}
use Rattle.record_fields.proofs.NumberLaws.{IsWidth, width_1, number_exact, number_field}
use Rattle.fsrm_base.proofs.TestLaws.{both, both_true}
use Rattle.record_fields.proofs.ReadLaws.{bind_ok, bind_err, ok_is, ok_more}

-- ---- a general law of tests; it belongs to fsrm_base
-- which of two a test chose
pub picked : {X : Type 0} (t : Bool) (y x : X) (r : Option X) → cond t (Some y) r ≡ Some x → ((t ≡ true) × (y ≡ x)) ⊎ ((t ≡ false) × (r ≡ Some x))
picked true y x r e = inl (refl, cc)
picked false y x r e = inr (refl, e)

-- ---- values
judged_ok : {X : Type 0} (bytes rest : List ℕ) (o : Option X) (x : X) (after : List ℕ) → judged bytes rest o ≡ Ok (x, after) → (o ≡ Some x) × (rest ≡ after)
judged_ok bytes rest (Some y) x after e = let p = ok_is (y, rest) (x, after) e in (ap (λ q. Some q.0) p, ap (λ q. q.1) p)
judged_ok bytes rest None x after e = absurd cc

judged_bad : {X : Type 0} (bytes rest : List ℕ) (o : Option X) (left : ℕ) → judged bytes rest o ≡ Err (Illegal left) → (o ≡ None) × (length bytes ≡ left)
judged_bad bytes rest (Some y) left e = absurd cc
judged_bad bytes rest None left e = (refl, cc)

known_wrong : {A X : Type 0} (known : A → Option X) (f : Format A) → Exact f → (bytes more : List ℕ) (left : ℕ) → AreBytes bytes → known_at known f bytes ≡ Err (Illegal left) → known_at known f (bytes ++ more) ≡ Err (Illegal (left + length more))
unfolding known_at
known_wrong known f law bytes more left h e =
    elim (bind_err (f.read bytes) (λ a. judged bytes a.1 (known a.0)) (Illegal left) e) [
      | inl first ↦ rw (law.illegal bytes more left h first) refl
      | inr second ↦
          let j = judged_bad bytes second.0.1 (known second.0.0) left second.2 in
          let size : length (bytes ++ more) ≡ left + length more = omega (arith, length-append bytes more, j.1) in
          rw (ok_more f law bytes more second.0.0 second.0.1 h second.1, j.0, size) refl
    ]

-- the value that is read of what a value is spelled by, and the other way round
known_again : {A X : Type 0} (known : A → Option X) (f : Format A) → Exact f → (a : A) (x : X) (rest : List ℕ) → f.legal a ≡ true → known a ≡ Some x → known_at known f (f.spell a ++ rest) ≡ Ok (x, rest)
unfolding known_at
known_again known f law a x rest legal is = rw (law.again a rest legal, is) refl

known_takes : {A X : Type 0} (known : A → Option X) (f : Format A) → Exact f → (bytes : List ℕ) (x : X) (rest : List ℕ) → AreBytes bytes → known_at known f bytes ≡ Ok (x, rest)
    → (a : A) × (f.legal a ≡ true) × (known a ≡ Some x) × (bytes ≡ f.spell a ++ rest)
unfolding known_at
known_takes known f law bytes x rest h e =
    let b = bind_ok (f.read bytes) (λ a. judged bytes a.1 (known a.0)) (x, rest) e in
    let j = judged_ok bytes b.0.1 (known b.0.0) x rest b.2 in
    let t = law.takes bytes b.0.0 b.0.1 h b.1 in
    (b.0.0, t.0, j.0, t.1 ∙ ap (λ (r : List ℕ). f.spell b.0.0 ++ r) j.1)

-- there is one value for each that stands for one, and back
pub standing_exact : {A X : Type 0} (known : A → Option X) (back : X → A) (may : X → Bool) (f : Format A) → Exact f
    → ((x : X) → may x ≡ true → known (back x) ≡ Some x) → ((a : A) (x : X) → known a ≡ Some x → (may x ≡ true) × (back x ≡ a))
    → Exact (standing known back may f)
standing_exact known back may f law there home = record {
  again = λ x rest legal. let l = both (may x) (f.legal (back x)) legal in known_again known f law (back x) x rest l.1 (there x l.0);
  takes = λ bytes x rest h e.
      let t = known_takes known f law bytes x rest h e in
      let same = home t.0 x t.2 in
      (both_true _ _ same.0 (ap f.legal same.1 ∙ t.1), t.3 ∙ ap (λ a. f.spell a ++ rest) (sym same.1));
  illegal = known_wrong known f law;
}

pub shaped_exact : {A X : Type 0} (make : A → X) (back : X → A) (f : Format A) → Exact f → ((x : X) → make (back x) ≡ x) → ((a : A) → back (make a) ≡ a) → Exact (shaped make back f)
shaped_exact make back f law there home = record {
  again = λ x rest legal. known_again (λ a. Some (make a)) f law (back x) x rest legal (ap Some (there x));
  takes = λ bytes x rest h e.
      let t = known_takes (λ a. Some (make a)) f law bytes x rest h e in
      let is : make t.0 ≡ x = some_same (make t.0) x t.2 in
      let same : back x ≡ t.0 = ap back (sym is) ∙ home t.0 in
      (ap f.legal same ∙ t.1, t.3 ∙ ap (λ a. f.spell a ++ rest) (sym same));
  illegal = known_wrong (λ a. Some (make a)) f law;
}
  where
    some_same : {X : Type 0} (x y : X) → Some x ≡ Some y → x ≡ y
    some_same x y e = cc

passing_some : {X : Type 0} (test : X → Bool) (x : X) → test x ≡ true → passing test x ≡ Some x
passing_some test x e = rw e refl

some_passing : {X : Type 0} (b : Bool) (a x : X) → cond b (Some a) None ≡ Some x → (b ≡ true) × (a ≡ x)
some_passing true a x e = (refl, cc)
some_passing false a x e = absurd cc

pub tested_exact : {X : Type 0} (test : X → Bool) (f : Format X) → Exact f → Exact (tested test f)
tested_exact test f law = record {
  again = λ x rest legal. let l = both (f.legal x) (test x) legal in known_again (passing test) f law x x rest l.0 (passing_some test x l.1);
  takes = λ bytes x rest h e.
      let t = known_takes (passing test) f law bytes x rest h e in
      let p = some_passing (test t.0) t.0 x t.2 in
      (both_true _ _ (ap f.legal (sym p.1) ∙ t.1) (ap test (sym p.1) ∙ p.0), t.3 ∙ ap (λ a. f.spell a ++ rest) p.1);
  illegal = known_wrong (passing test) f law;
}

-- ---- where damage is told
judged_flaw : {X : Type 0} (bytes rest : List ℕ) (o : Option X) (flaw : Flaw) → judged bytes rest o ≡ Err flaw → left_of flaw ≡ length bytes
judged_flaw bytes rest (Some y) flaw e = absurd cc
judged_flaw bytes rest None flaw e = let is : Illegal (length bytes) ≡ flaw = cc in ap left_of (sym is)

known_first : {A X : Type 0} (known : A → Option X) (f : Format A) → IsField f → (bytes : List ℕ) (flaw : Flaw) → known_at known f bytes ≡ Err flaw → left_of flaw ≡ length bytes
unfolding known_at
known_first known f is bytes flaw e =
    elim (bind_err (f.read bytes) (λ a. judged bytes a.1 (known a.0)) flaw e) [
      | inl first ↦ is.first bytes flaw first
      | inr second ↦ judged_flaw bytes second.0.1 (known second.0.0) flaw second.2
    ]

-- a value that stands for a field's is a field
pub standing_field : {A X : Type 0} (known : A → Option X) (back : X → A) (may : X → Bool) (f : Format A) → IsField f → IsField (standing known back may f)
standing_field known back may f is = record { one = λ x. is.one (back x); first = known_first known f is }

pub shaped_field : {A X : Type 0} (make : A → X) (back : X → A) (f : Format A) → IsField f → IsField (shaped make back f)
shaped_field make back f is = record { one = λ x. is.one (back x); first = known_first (λ a. Some (make a)) f is }

pub tested_field : {X : Type 0} (test : X → Bool) (f : Format X) → IsField f → IsField (tested test f)
tested_field test f is = record { one = is.one; first = known_first (passing test) f is }

-- of single fields it is enough that some value is legal
pub standing_field_places : {A X : Type 0} (known : A → Option X) (back : X → A) (may : X → Bool) (f : Format A) → Exact f → IsField f
    → ((x : X) → may x ≡ true → known (back x) ≡ Some x) → ((a : A) (x : X) → known a ≡ Some x → (may x ≡ true) × (back x ≡ a))
    → (x : X) → may x ≡ true → f.legal (back x) ≡ true → Places (standing known back may f)
standing_field_places known back may f law is there home x may_be legal =
    field_places (standing known back may f) (standing_exact known back may f law there home) (standing_field known back may f is) x (both_true _ _ may_be legal)

pub tested_field_places : {X : Type 0} (test : X → Bool) (f : Format X) → Exact f → IsField f → (x : X) → f.legal x ≡ true → test x ≡ true → Places (tested test f)
tested_field_places test f law is x legal passes = field_places (tested test f) (tested_exact test f law) (tested_field test f is) x (both_true _ _ legal passes)

-- where a legal value always stands for one, no flaw is told but those of its fields
known_all : {A X : Type 0} (known : A → Option X) (f : Format A) → Exact f → ((a : A) → f.legal a ≡ true → (x : X) × (known a ≡ Some x))
    → (bytes : List ℕ) (flaw : Flaw) → AreBytes bytes → known_at known f bytes ≡ Err flaw → f.read bytes ≡ Err flaw
unfolding known_at
known_all known f law all bytes flaw h e =
    elim (bind_err (f.read bytes) (λ a. judged bytes a.1 (known a.0)) flaw e) [
      | inl first ↦ first
      | inr second ↦
          let t = law.takes bytes second.0.0 second.0.1 h second.1 in
          let x = all second.0.0 t.0 in
          let read : judged bytes second.0.1 (known second.0.0) ≡ Ok (x.0, second.0.1) = ap (judged bytes second.0.1) x.1 in
          absurd (cc (read, second.2))
    ]

pub standing_places : {A X : Type 0} (known : A → Option X) (back : X → A) (may : X → Bool) (f : Format A) → Places f
    → ((x : X) → may x ≡ true → known (back x) ≡ Some x) → ((a : A) (x : X) → known a ≡ Some x → (may x ≡ true) × (back x ≡ a))
    → ((a : A) → f.legal a ≡ true → (x : X) × (known a ≡ Some x))
    → Places (standing known back may f)
standing_places known back may f law there home all =
    carried (standing known back may f) f (standing_exact known back may f law.exact there home) (λ x. law.parts (back x)) law (known_all known f law.exact all)
    (λ a legal.
    let x = all a legal in
    let same = home a x.0 x.1 in
    (x.0, both_true _ _ same.0 (ap f.legal same.1 ∙ legal), ap f.fields same.1))
    (λ x legal. (back x, (both (may x) (f.legal (back x)) legal).1, refl))

pub shaped_places : {A X : Type 0} (make : A → X) (back : X → A) (f : Format A) → Places f → ((x : X) → make (back x) ≡ x) → ((a : A) → back (make a) ≡ a) → Places (shaped make back f)
shaped_places make back f law there home =
    carried (shaped make back f) f (shaped_exact make back f law.exact there home) (λ x. law.parts (back x)) law (known_all (λ a. Some (make a)) f law.exact (λ a legal. (make a, refl)))
    (λ a legal. (make a, ap f.legal (home a) ∙ legal, ap f.fields (home a)))
    (λ x legal. (back x, legal, refl))

-- ---- numbers in a range, and truth values
pub within_exact : (width low high : ℕ) → IsWidth width → Exact (number_within width low high)
within_exact width low high w = tested_exact (is_within low high) (number width) (number_exact width w)

pub within_places : (width low high : ℕ) → IsWidth width → high < 256 ^ width → low ≤ high → Places (number_within width low high)
within_places width low high w fits order =
    tested_field_places (is_within low high) (number width) (number_exact width w) (number_field width) low (lt-ltb low (256 ^ width) (omega (arith, fits, order)))
    (both_true _ _ (le-leb low low (omega arith)) (le-leb low high order))

truth_there : (b : Bool) → true ≡ true → truth_of (truth_code b) ≡ Some b
truth_there true e = refl
truth_there false e = refl

truth_home : (n : ℕ) (b : Bool) → truth_of n ≡ Some b → (true ≡ true) × (truth_code b ≡ n)
truth_home n b e =
    elim (picked (nat_eq n 0) false b (cond (nat_eq n 1) (Some true) None) e) [
      | inl zero_is ↦ (refl, ap truth_code (sym zero_is.1) ∙ sym (eqb-true n 0 zero_is.0))
      | inr other ↦ elim (picked (nat_eq n 1) true b None other.1) [
        | inl one_is ↦ (refl, ap truth_code (sym one_is.1) ∙ sym (eqb-true n 1 one_is.0))
        | inr none ↦ absurd (cc none.1)
      ]
    ]

pub truth_exact : Exact truth
truth_exact = standing_exact truth_of truth_code (λ b. true) (number 1) (number_exact 1 width_1) truth_there truth_home

pub truth_places : Places truth
truth_places = standing_field_places truth_of truth_code (λ b. true) (number 1) (number_exact 1 width_1) (number_field 1) truth_there truth_home true refl refl
