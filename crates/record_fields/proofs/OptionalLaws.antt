-- Values that may be left out.
use Rattle.std.proofs.Common.{◌≡◌, ℕ, zero, suc, ◌+◌, ◌≤◌, Bool, true, false, List, [], ◌∷◌, ◌++◌, length, Option, Some, None, Ok, Err, refl, sym, ap, subst, ◌∙◌, append_assoc, arith, inl, inr}
use Rattle.std.proofs.lemmas.List.{length-append, append-nil}
use Rattle.record_fields.specs.declared.flaw.Flaw.{Flaw}
use Rattle.record_fields.specs.declared.flaw.Flaw.TheVariants.{Illegal}
use Rattle.record_fields.specs.Formats.{optional_fields, Read, ◌>>=◌, Format, number, number_at, number_spelled, optional_at, optional_rest, optional_or, optional_legal, optional_spelled, optional}
use Rattle.record_fields.specs.Laws.{Exact, AreBytes, Reaches, Places, joined, left_of}
use Rattle.record_fields.proofs.Reaching.{at_start, reaches_within, not_whole, nothing_before}
use Rattle.record_fields.proofs.ReadLaws.{first_flaw, bind_ok, bind_err, ok_is, rest_bytes, ok_more}
use Rattle.record_fields.proofs.NumberLaws.{number_exact, number_field, width_1}

optional_again : {X : Type 0} (required : Bool) (f : Format X) → Exact f → (o : Option X) (rest : List ℕ) → optional_legal required f o ≡ true → optional_at required f (optional_spelled f.spell o ++ rest) ≡ Ok (o, rest)
unfolding optional_at optional_spelled
optional_again true f law None rest legal = absurd cc
optional_again false f law None rest legal = rw ((number_exact 1 width_1).again 0 rest refl) refl
optional_again required f law (Some x) rest legal =
    rw (append_assoc (number_spelled 1 1) (f.spell x) rest, (number_exact 1 width_1).again 1 (f.spell x ++ rest) refl, law.again x rest legal) refl

optional_rest_takes : {X : Type 0} (required : Bool) (f : Format X) → Exact f → (bytes : List ℕ) (k : ℕ) (rest : List ℕ) (o : Option X) (after : List ℕ) → AreBytes rest → bytes ≡ number_spelled 1 k ++ rest → optional_rest required f bytes k rest ≡ Ok (o, after)
    → (optional_legal required f o ≡ true) × (bytes ≡ optional_spelled f.spell o ++ after)
unfolding optional_spelled
optional_rest_takes true f law bytes zero rest o after h parts e = absurd cc
optional_rest_takes {X = X} false f law bytes zero rest o after h parts e =
    subst (λ (x : Option X × List ℕ). (optional_legal false f x.0 ≡ true) × (bytes ≡ optional_spelled f.spell x.0 ++ x.1)) (ok_is (None, rest) (o, after) e) (refl, parts)
optional_rest_takes {X = X} required f law bytes (suc zero) rest o after h parts e =
    let b = bind_ok (f.read rest) (λ x. Ok (Some x.0, x.1)) (o, after) e in
    let t = law.takes rest b.0.0 b.0.1 h b.1 in
    let split : bytes ≡ (number_spelled 1 1 ++ f.spell b.0.0) ++ b.0.1 = parts ∙ ap (λ (r : List ℕ). number_spelled 1 1 ++ r) t.1 ∙ sym (append_assoc (number_spelled 1 1) (f.spell b.0.0) b.0.1) in
    subst (λ (x : Option X × List ℕ). (optional_legal required f x.0 ≡ true) × (bytes ≡ optional_spelled f.spell x.0 ++ x.1)) (ok_is (Some b.0.0, b.0.1) (o, after) b.2) (t.0, split)
optional_rest_takes required f law bytes (suc (suc k)) rest o after h parts e = absurd cc

optional_takes : {X : Type 0} (required : Bool) (f : Format X) → Exact f → (bytes : List ℕ) (o : Option X) (rest : List ℕ) → AreBytes bytes → optional_at required f bytes ≡ Ok (o, rest)
    → (optional_legal required f o ≡ true) × (bytes ≡ optional_spelled f.spell o ++ rest)
unfolding optional_at optional_spelled
optional_takes required f law bytes o rest h e =
    let a = bind_ok (number_at 1 bytes) (λ k. optional_rest required f bytes k.0 k.1) (o, rest) e in
    let t = (number_exact 1 width_1).takes bytes a.0.0 a.0.1 h a.1 in
    optional_rest_takes required f law bytes a.0.0 a.0.1 o rest (rest_bytes (number 1) (number_exact 1 width_1) bytes a.0.0 a.0.1 h a.1) t.1 a.2

optional_rest_wrong : {X : Type 0} (required : Bool) (f : Format X) → Exact f → (bytes more : List ℕ) (k : ℕ) (rest : List ℕ) (left : ℕ) → AreBytes rest → optional_rest required f bytes k rest ≡ Err (Illegal left)
    → optional_rest required f (bytes ++ more) k (rest ++ more) ≡ Err (Illegal (left + length more))
optional_rest_wrong false f law bytes more zero rest left h e = absurd cc
optional_rest_wrong true f law bytes more zero rest left h e =
    let is : length bytes ≡ left = cc in
    let size : length (bytes ++ more) ≡ left + length more = omega (arith, length-append bytes more) in
    rw size refl
optional_rest_wrong required f law bytes more (suc zero) rest left h e =
    elim (bind_err (f.read rest) (λ x. Ok (Some x.0, x.1)) (Illegal left) e) [
      | inl first ↦ rw (law.illegal rest more left h first) refl
      | inr never ↦ absurd (cc never.2)
    ]
optional_rest_wrong required f law bytes more (suc (suc k)) rest left h e =
    let is : length bytes ≡ left = cc in
    let size : length (bytes ++ more) ≡ left + length more = omega (arith, length-append bytes more) in
    rw size refl

optional_wrong : {X : Type 0} (required : Bool) (f : Format X) → Exact f → (bytes more : List ℕ) (left : ℕ) → AreBytes bytes → optional_at required f bytes ≡ Err (Illegal left) → optional_at required f (bytes ++ more) ≡ Err (Illegal (left + length more))
unfolding optional_at optional_spelled
optional_wrong required f law bytes more left h e =
    elim (bind_err (number_at 1 bytes) (λ k. optional_rest required f bytes k.0 k.1) (Illegal left) e) [
      | inl first ↦ rw ((number_exact 1 width_1).illegal bytes more left h first) refl
      | inr second ↦
          let x = second.0 in
          rw (ok_more (number 1) (number_exact 1 width_1) bytes more x.0 x.1 h second.1)
          (optional_rest_wrong required f law bytes more x.0 x.1 left (rest_bytes (number 1) (number_exact 1 width_1) bytes x.0 x.1 h second.1) second.2)
    ]

pub optional_or_exact : {X : Type 0} (required : Bool) (f : Format X) → Exact f → Exact (optional_or required f)
optional_or_exact required f law = record { again = optional_again required f law; takes = optional_takes required f law; illegal = optional_wrong required f law }

pub optional_exact : {X : Type 0} (f : Format X) → Exact f → Exact (optional f)
optional_exact f law = optional_or_exact false f law

-- ---- where damage is told
optional_rest_sound : {X : Type 0} (required : Bool) (f : Format X) → Places f → (bytes : List ℕ) (k : ℕ) (rest : List ℕ) (flaw : Flaw) → AreBytes rest → bytes ≡ number_spelled 1 k ++ rest → optional_rest required f bytes k rest ≡ Err flaw
    → Reaches (optional_or required f) bytes (left_of flaw)
optional_rest_sound false f law bytes zero rest flaw h parts e = absurd cc
optional_rest_sound true f law bytes zero rest flaw h parts e =
    let is : Illegal (length bytes) ≡ flaw = cc in
    subst (λ d. Reaches (optional_or true f) bytes (left_of d)) is (at_start (optional_or true f) bytes (Some law.some) law.some_legal)
optional_rest_sound required f law bytes (suc zero) rest flaw h parts e =
    let r = law.sound rest flaw h (first_flaw (f.read rest) (λ x. Some x) flaw e) in
    record {
      value = Some r.value;
      front = number_spelled 1 1 ∷ r.front;
      after = r.after;
      rest = r.rest;
      legal = r.legal;
      begins = ap (λ (l : List (List ℕ)). number_spelled 1 1 ∷ l) r.begins;
      agrees = parts ∙ ap (λ (b : List ℕ). number_spelled 1 1 ++ b) r.agrees ∙ sym (append_assoc (number_spelled 1 1) (joined r.front) r.rest);
      leaves = r.leaves;
    }
optional_rest_sound required f law bytes (suc (suc k)) rest flaw h parts e =
    let is : Illegal (length bytes) ≡ flaw = cc in
    subst (λ d. Reaches (optional_or required f) bytes (left_of d)) is (at_start (optional_or required f) bytes (Some law.some) law.some_legal)

optional_sound : {X : Type 0} (required : Bool) (f : Format X) → Places f → (bytes : List ℕ) (flaw : Flaw) → AreBytes bytes → optional_at required f bytes ≡ Err flaw → Reaches (optional_or required f) bytes (left_of flaw)
unfolding optional_at
optional_sound required f law bytes flaw h e =
    elim (bind_err (number_at 1 bytes) (λ k. optional_rest required f bytes k.0 k.1) flaw e) [
      | inl first ↦ subst (Reaches (optional_or required f) bytes) (sym ((number_field 1).first bytes flaw first)) (at_start (optional_or required f) bytes (Some law.some) law.some_legal)
      | inr second ↦
          let x = second.0 in
          let t = (number_exact 1 width_1).takes bytes x.0 x.1 h second.1 in
          optional_rest_sound required f law bytes x.0 x.1 flaw (rest_bytes (number 1) (number_exact 1 width_1) bytes x.0 x.1 h second.1) t.1 second.2
    ]

-- fields of a legal value that bytes begin with
optional_farthest : {X : Type 0} (required : Bool) (f : Format X) → Places f → (bytes : List ℕ) (flaw : Flaw) → AreBytes bytes → optional_at required f bytes ≡ Err flaw
    → (o : Option X) → optional_legal required f o ≡ true → (front after : List (List ℕ)) (rest : List ℕ) → optional_fields f.fields o ≡ front ++ after → bytes ≡ joined front ++ rest → left_of flaw ≤ length rest
unfolding optional_at optional_spelled
optional_farthest required f law bytes flaw h e o legal [] after rest begins agrees =
    omega (arith, ap length agrees, reaches_within (optional_or required f) bytes (left_of flaw) (optional_sound required f law bytes flaw h e))
optional_farthest required f law bytes flaw h e None legal (field ∷ front) after rest begins agrees =
    let same : number_spelled 1 0 ≡ field = cc in
    let none : front ≡ [] = nothing_before front after cc in
    let alone : joined (field ∷ front) ≡ optional_spelled f.spell None = ap (λ l. joined (field ∷ l)) none ∙ append-nil field ∙ sym same in
    absurd (not_whole (optional_or required f) (optional_or_exact required f law.exact) bytes flaw None rest e legal (agrees ∙ ap (λ (b : List ℕ). b ++ rest) alone))
optional_farthest required f law bytes flaw h e (Some x) legal (field ∷ front) after rest begins agrees =
    let same : number_spelled 1 1 ≡ field = cc in
    let inside : f.fields x ≡ front ++ after = cc in
    let parts : bytes ≡ number_spelled 1 1 ++ (joined front ++ rest) = agrees ∙ append_assoc field (joined front) rest ∙ ap (λ (b : List ℕ). b ++ (joined front ++ rest)) (sym same) in
    let byte : number_at 1 bytes ≡ Ok (1, joined front ++ rest) = ap (number_at 1) parts ∙ (number_exact 1 width_1).again 1 (joined front ++ rest) refl in
    let later : optional_rest required f bytes 1 (joined front ++ rest) ≡ Err flaw = sym (ap (λ (r : Read ℕ). r >>= λ k. optional_rest required f bytes k.0 k.1) byte) ∙ e in
    law.farthest (joined front ++ rest) flaw (length rest) (rest_bytes (number 1) (number_exact 1 width_1) bytes 1 (joined front ++ rest) h byte) (first_flaw (f.read (joined front ++ rest)) (λ y. Some y) flaw later)
    record { value = x; front = front; after = after; rest = rest; legal = legal; begins = inside; agrees = refl; leaves = refl }

optional_parts : {X : Type 0} (required : Bool) (f : Format X) → Places f → (o : Option X) → joined (optional_fields f.fields o) ≡ optional_spelled f.spell o
unfolding optional_spelled
optional_parts required f law None = append-nil (number_spelled 1 0)
optional_parts required f law (Some x) = ap (λ (b : List ℕ). number_spelled 1 1 ++ b) (law.parts x)

pub optional_or_places : {X : Type 0} (required : Bool) (f : Format X) → Places f → Places (optional_or required f)
optional_or_places required f law = record {
  exact = optional_or_exact required f law.exact;
  parts = optional_parts required f law;
  some = Some law.some;
  some_legal = law.some_legal;
  sound = optional_sound required f law;
  farthest = λ bytes flaw left h e r.
      let far = optional_farthest required f law bytes flaw h e r.value r.legal r.front r.after r.rest r.begins r.agrees in
      omega (arith, far, r.leaves);
}

pub optional_places : {X : Type 0} (f : Format X) → Places f → Places (optional f)
optional_places f law = optional_or_places false f law
