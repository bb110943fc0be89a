-- Lists, after their count.
use Rattle.std.proofs.Common.{◌≡◌, ℕ, zero, suc, ◌+◌, true, List, [], ◌∷◌, ◌++◌, length, Ok, Err, refl, sym, ap, subst, ◌∙◌, append_assoc, arith, inl, inr}
use Rattle.std.specs.Prelude.{nat_eq, ◌&&◌}
use Rattle.std.specs.List.{flat_map, list_all}
use Rattle.std.proofs.lemmas.Bool.{eqb-true, eq-eqb}
use Rattle.std.proofs.lemmas.List.Concat.{flat_map-cons}
use Rattle.record_fields.specs.declared.flaw.Flaw.{Flaw}
use Rattle.record_fields.specs.declared.flaw.Flaw.TheVariants.{Illegal}
use Rattle.record_fields.specs.Formats.{◌>>=◌, Format, pair_at, followed, ◌⊗◌, items_at, listed_at, listed_spelled, listed}
use Rattle.record_fields.specs.Laws.{Exact, AreBytes, Places, joined}
use Rattle.record_fields.proofs.FollowedLaws.{followed_places, ◌also◌}
use Rattle.record_fields.proofs.Reaching.{joined-append, carried}
use Rattle.fsrm_base.proofs.TestLaws.{both, both_true}
use Rattle.record_fields.proofs.ReadLaws.{first_flaw, bind_ok, bind_err, ok_is, rest_bytes, ok_more}

items_again : {X : Type 0} (f : Format X) → Exact f → (xs : List X) (rest : List ℕ) → list_all f.legal xs ≡ true → items_at f (length xs) (flat_map f.spell xs ++ rest) ≡ Ok (xs, rest)
unfolding items_at
items_again f law [] rest legal = refl
items_again f law (x ∷ xs) rest legal =
    let l = both (f.legal x) (list_all f.legal xs) legal in
    let split : flat_map f.spell (x ∷ xs) ++ rest ≡ f.spell x ++ (flat_map f.spell xs ++ rest) = ap (λ (b : List ℕ). b ++ rest) (flat_map-cons f.spell x xs) ∙ append_assoc (f.spell x) (flat_map f.spell xs) rest in
    ap (items_at f (suc (length xs))) split ∙ rw (law.again x (flat_map f.spell xs ++ rest) l.0, items_again f law xs rest l.1) refl

items_take : {X : Type 0} (f : Format X) → Exact f → (n : ℕ) (bytes : List ℕ) (xs : List X) (rest : List ℕ) → AreBytes bytes → items_at f n bytes ≡ Ok (xs, rest)
    → (length xs ≡ n) × (list_all f.legal xs ≡ true) × (bytes ≡ flat_map f.spell xs ++ rest)
unfolding items_at
items_take {X = X} f law zero bytes xs rest h e =
    subst (λ (y : List X × List ℕ). (length y.0 ≡ 0) × (list_all f.legal y.0 ≡ true) × (bytes ≡ flat_map f.spell y.0 ++ y.1)) (ok_is ([], bytes) (xs, rest) e) (refl, refl, refl)
items_take {X = X} f law (suc n) bytes xs rest h e =
    let a = bind_ok (f.read bytes) (λ x. items_at f n x.1 >>= λ xs. Ok (x.0 ∷ xs.0, xs.1)) (xs, rest) e in
    let b = bind_ok (items_at f n a.0.1) (λ xs. Ok (a.0.0 ∷ xs.0, xs.1)) (xs, rest) a.2 in
    let t = law.takes bytes a.0.0 a.0.1 h a.1 in
    let u = items_take f law n a.0.1 b.0.0 b.0.1 (rest_bytes f law bytes a.0.0 a.0.1 h a.1) b.1 in
    let parts : bytes ≡ flat_map f.spell (a.0.0 ∷ b.0.0) ++ b.0.1 = t.1 ∙ ap (λ (r : List ℕ). f.spell a.0.0 ++ r) u.2 ∙ sym (append_assoc (f.spell a.0.0) (flat_map f.spell b.0.0) b.0.1) ∙ ap (λ (r : List ℕ). r ++ b.0.1) (sym (flat_map-cons f.spell a.0.0 b.0.0)) in
    subst (λ (y : List X × List ℕ). (length y.0 ≡ suc n) × (list_all f.legal y.0 ≡ true) × (bytes ≡ flat_map f.spell y.0 ++ y.1)) (ok_is (a.0.0 ∷ b.0.0, b.0.1) (xs, rest) b.2) (ap suc u.0, both_true _ _ t.0 u.1, parts)

items_wrong : {X : Type 0} (f : Format X) → Exact f → (n : ℕ) (bytes more : List ℕ) (left : ℕ) → AreBytes bytes → items_at f n bytes ≡ Err (Illegal left) → items_at f n (bytes ++ more) ≡ Err (Illegal (left + length more))
unfolding items_at
items_wrong f law zero bytes more left h e = absurd cc
items_wrong f law (suc n) bytes more left h e =
    elim (bind_err (f.read bytes) (λ x. items_at f n x.1 >>= λ xs. Ok (x.0 ∷ xs.0, xs.1)) (Illegal left) e) [
      | inl first ↦ rw (law.illegal bytes more left h first) refl
      | inr second ↦
          let x = second.0 in
          elim (bind_err (items_at f n x.1) (λ xs. Ok (x.0 ∷ xs.0, xs.1)) (Illegal left) second.2) [
            | inl later ↦ rw (ok_more f law bytes more x.0 x.1 h second.1, items_wrong f law n x.1 more left (rest_bytes f law bytes x.0 x.1 h second.1) later) refl
            | inr never ↦ absurd (cc never.2)
          ]
    ]

listed_again : {X : Type 0} (count : Format ℕ) (f : Format X) → Exact count → Exact f → (xs : List X) (rest : List ℕ) → (listed count f).legal xs ≡ true → listed_at count f ((listed count f).spell xs ++ rest) ≡ Ok (xs, rest)
unfolding listed_at listed_spelled
listed_again count f cl fl xs rest legal =
    let l = both (count.legal (length xs)) (list_all f.legal xs) legal in
    rw (append_assoc (count.spell (length xs)) (flat_map f.spell xs) rest, cl.again (length xs) (flat_map f.spell xs ++ rest) l.0) (items_again f fl xs rest l.1)

listed_takes : {X : Type 0} (count : Format ℕ) (f : Format X) → Exact count → Exact f → (bytes : List ℕ) (xs : List X) (rest : List ℕ) → AreBytes bytes → listed_at count f bytes ≡ Ok (xs, rest)
    → ((listed count f).legal xs ≡ true) × (bytes ≡ (listed count f).spell xs ++ rest)
unfolding listed_at listed_spelled
listed_takes count f cl fl bytes xs rest h e =
    let a = bind_ok (count.read bytes) (λ n. items_at f n.0 n.1) (xs, rest) e in
    let t = cl.takes bytes a.0.0 a.0.1 h a.1 in
    let u = items_take f fl a.0.0 a.0.1 xs rest (rest_bytes count cl bytes a.0.0 a.0.1 h a.1) a.2 in
    let parts : bytes ≡ (count.spell (length xs) ++ flat_map f.spell xs) ++ rest =
    t.1 ∙ ap (λ (r : List ℕ). count.spell a.0.0 ++ r) u.2 ∙ ap (λ (k : ℕ). count.spell k ++ (flat_map f.spell xs ++ rest)) (sym u.0) ∙ sym (append_assoc (count.spell (length xs)) (flat_map f.spell xs) rest) in
    (both_true _ _ (ap count.legal u.0 ∙ t.0) u.1, parts)

listed_wrong : {X : Type 0} (count : Format ℕ) (f : Format X) → Exact count → Exact f → (bytes more : List ℕ) (left : ℕ) → AreBytes bytes → listed_at count f bytes ≡ Err (Illegal left) → listed_at count f (bytes ++ more) ≡ Err (Illegal (left + length more))
unfolding listed_at listed_spelled
listed_wrong count f cl fl bytes more left h e =
    elim (bind_err (count.read bytes) (λ n. items_at f n.0 n.1) (Illegal left) e) [
      | inl first ↦ rw (cl.illegal bytes more left h first) refl
      | inr second ↦
          let x = second.0 in
          rw (ok_more count cl bytes more x.0 x.1 h second.1) (items_wrong f fl x.0 x.1 more left (rest_bytes count cl bytes x.0 x.1 h second.1) second.2)
    ]

pub listed_exact : {X : Type 0} (count : Format ℕ) (f : Format X) → Exact count → Exact f → Exact (listed count f)
listed_exact count f cl fl = record { again = listed_again count f cl fl; takes = listed_takes count f cl fl; illegal = listed_wrong count f cl fl }

-- ---- where damage is told
-- so many values
abbrev items : {X : Type 0} → Format X → ℕ → Format (List X)
items f n = record { legal = λ xs. nat_eq (length xs) n && list_all f.legal xs; spell = flat_map f.spell; fields = flat_map f.fields; read = items_at f n }

items_exact : {X : Type 0} (f : Format X) → Exact f → (n : ℕ) → Exact (items f n)
items_exact f law n = record {
  again = λ xs rest legal.
      let l = both (nat_eq (length xs) n) (list_all f.legal xs) legal in
      subst (λ (k : ℕ). items_at f k (flat_map f.spell xs ++ rest) ≡ Ok (xs, rest)) (eqb-true (length xs) n l.0) (items_again f law xs rest l.1);
  takes = λ bytes xs rest h e.
      let t = items_take f law n bytes xs rest h e in
      (both_true _ _ (eq-eqb (length xs) n t.0) t.1, t.2);
  illegal = items_wrong f law n;
}

items_parts : {X : Type 0} (f : Format X) → Places f → (xs : List X) → joined (flat_map f.fields xs) ≡ flat_map f.spell xs
items_parts f law [] = refl
items_parts f law (x ∷ xs) =
    joined-append (f.fields x) (flat_map f.fields xs) ∙ ap (λ (b : List ℕ). b ++ joined (flat_map f.fields xs)) (law.parts x) ∙ ap (λ (b : List ℕ). f.spell x ++ b) (items_parts f law xs)

none_read : {X : Type 0} (f : Format X) (bytes : List ℕ) (flaw : Flaw) → items_at f 0 bytes ≡ Err flaw → ⊥
unfolding items_at
none_read f bytes flaw e = absurd cc

-- one value and the others are a pair
more_read : {X : Type 0} (f : Format X) (n : ℕ) (bytes : List ℕ) (flaw : Flaw) → items_at f (suc n) bytes ≡ Err flaw → pair_at f (λ x. items f n) bytes ≡ Err flaw
unfolding items_at
more_read f n bytes flaw e =
    elim (bind_err (f.read bytes) (λ x. items_at f n x.1 >>= λ xs. Ok (x.0 ∷ xs.0, xs.1)) flaw e) [
      | inl first ↦ rw first refl
      | inr second ↦
          let later : items_at f n second.0.1 ≡ Err flaw = first_flaw (items_at f n second.0.1) (λ xs. second.0.0 ∷ xs) flaw second.2 in
          rw (second.1, later) refl
    ]

as_pair : {X : Type 0} (f : Format X) (n : ℕ) (xs : List X) → (items f (suc n)).legal xs ≡ true → (p : X × List X) × ((f ⊗ items f n).legal p ≡ true) × ((f ⊗ items f n).fields p ≡ flat_map f.fields xs)
as_pair f n [] legal =
    let l = both (nat_eq 0 (suc n)) true legal in
    absurd (omega (arith, eqb-true 0 (suc n) l.0))
as_pair f n (x ∷ xs) legal =
    let l = both (nat_eq (length (x ∷ xs)) (suc n)) (list_all f.legal (x ∷ xs)) legal in
    let m = both (f.legal x) (list_all f.legal xs) l.1 in
    let size : length xs ≡ n = omega (arith, eqb-true (length (x ∷ xs)) (suc n) l.0) in
    ((x, xs), both_true _ _ m.0 (both_true _ _ (eq-eqb (length xs) n size) m.1), refl)

items_places : {X : Type 0} (f : Format X) → Places f → (n : ℕ) → Places (items f n)
items_places f law zero = record {
  exact = items_exact f law.exact 0;
  parts = items_parts f law;
  some = [];
  some_legal = refl;
  sound = λ bytes flaw h e. absurd (none_read f bytes flaw e);
  farthest = λ bytes flaw left h e r. absurd (none_read f bytes flaw e);
}
items_places f law (suc n) =
    carried (items f (suc n)) (f ⊗ items f n) (items_exact f law.exact (suc n)) (items_parts f law) (law also items_places f law n)
    (λ bytes flaw h e. more_read f n bytes flaw e)
    (λ p legal.
    let l = both (f.legal p.0) ((items f n).legal p.1) legal in
    let m = both (nat_eq (length p.1) n) (list_all f.legal p.1) l.1 in
    let size : length (p.0 ∷ p.1) ≡ suc n = omega (arith, eqb-true (length p.1) n m.0) in
    (p.0 ∷ p.1, both_true _ _ (eq-eqb (length (p.0 ∷ p.1)) (suc n) size) (both_true _ _ l.0 m.1), refl))
    (as_pair f n)

-- a list is its count, and so many values
counted_read : {X : Type 0} (count : Format ℕ) (f : Format X) (bytes : List ℕ) (flaw : Flaw) → listed_at count f bytes ≡ Err flaw → pair_at count (items f) bytes ≡ Err flaw
unfolding listed_at
counted_read count f bytes flaw e =
    elim (bind_err (count.read bytes) (λ n. items_at f n.0 n.1) flaw e) [
      | inl first ↦ rw first refl
      | inr second ↦ rw (second.1, second.2) refl
    ]

listed_parts : {X : Type 0} (count : Format ℕ) (f : Format X) → Places count → Places f → (xs : List X) → joined ((listed count f).fields xs) ≡ listed_spelled count.spell f.spell xs
unfolding listed_spelled
listed_parts count f cl fl xs =
    joined-append (count.fields (length xs)) (flat_map f.fields xs) ∙ ap (λ (b : List ℕ). b ++ joined (flat_map f.fields xs)) (cl.parts (length xs)) ∙ ap (λ (b : List ℕ). count.spell (length xs) ++ b) (items_parts f fl xs)

pub listed_places : {X : Type 0} (count : Format ℕ) (f : Format X) → Places count → Places f → Places (listed count f)
listed_places count f cl fl =
    carried (listed count f) (followed count (items f)) (listed_exact count f cl.exact fl.exact) (listed_parts count f cl fl) (followed_places count (items f) cl (items_places f fl))
    (λ bytes flaw h e. counted_read count f bytes flaw e)
    (λ p legal.
    let l = both (count.legal p.0) ((items f p.0).legal p.1) legal in
    let m = both (nat_eq (length p.1) p.0) (list_all f.legal p.1) l.1 in
    let size : length p.1 ≡ p.0 = eqb-true (length p.1) p.0 m.0 in
    (p.1, both_true _ _ (ap count.legal size ∙ l.0) m.1, ap (λ (k : ℕ). count.fields k ++ flat_map f.fields p.1) size))
    (λ xs legal.
    let l = both (count.legal (length xs)) (list_all f.legal xs) legal in
    ((length xs, xs), both_true _ _ l.0 (both_true _ _ (eq-eqb (length xs) (length xs) refl) l.1), refl))
