-- How far bytes agree with the fields of legal values, and what follows for a format.
use Rattle.std.proofs.Common.{◌≡◌, ◌⊎◌, ℕ, ◌≤◌, true, List, [], ◌∷◌, ◌++◌, length, take, drop, Err, refl, sym, ap, subst, ◌∙◌, arith, inl, inr}
use Rattle.std.proofs.lemmas.List.{append-nil, length-append, take-append-le, take-append-drop, take_at}
use Rattle.std.proofs.lemmas.List.Concat.{flat_map-append}
use Rattle.record_fields.specs.declared.flaw.Flaw.{Flaw}
use Rattle.record_fields.specs.Formats.{Format}
use Rattle.record_fields.specs.Laws.{AreBytes, Exact, IsField, Reaches, Places, joined, left_of}

-- ---- general laws of lists; they belong to fsrm_base
-- what begins a list that is joined of two begins the first, or goes past it
pub parted : {X : Type 0} (a b front after : List X) → a ++ b ≡ front ++ after → ((d : List X) × (a ≡ front ++ d)) ⊎ ((d : List X) × (front ≡ a ++ d) × (b ≡ d ++ after))
parted [] b front after e = inr (front, refl, e)
parted (x ∷ a) b [] after e = inl (x ∷ a, refl)
parted (x ∷ a) b (y ∷ front) after e =
    let same : x ≡ y = cc in
    let tails : a ++ b ≡ front ++ after = cc in
    elim (parted a b front after tails) [
      | inl p ↦ inl (p.0, cc (same, p.1))
      | inr p ↦ inr (p.0, cc (same, p.1), p.2)
    ]

-- the longer of two beginnings begins with the other one
pub goes_past : (p q r s : List ℕ) → p ++ r ≡ q ++ s → length q ≤ length p → p ≡ q ++ drop (length q) p
goes_past p q r s e long =
    let front : take (length q) p ≡ q = sym (take-append-le (length q) p r long) ∙ ap (take (length q)) e ∙ take_at q s (length q) refl in
    sym (take-append-drop (length q) p) ∙ ap (λ (x : List ℕ). x ++ drop (length q) p) front

pub joined-append : (a b : List (List ℕ)) → joined (a ++ b) ≡ joined a ++ joined b
joined-append a b = flat_map-append (λ (field : List ℕ). field) a b

pub nothing_before : {X : Type 0} (front after : List X) → [] ≡ front ++ after → front ≡ []
nothing_before [] after e = refl
nothing_before (x ∷ front) after e = absurd cc

-- ---- places
-- bytes begin with no field at all
pub at_start : {X : Type 0} (f : Format X) (bytes : List ℕ) (x : X) → f.legal x ≡ true → Reaches f bytes (length bytes)
at_start f bytes x legal = record { value = x; front = []; after = f.fields x; rest = bytes; legal = legal; begins = refl; agrees = refl; leaves = refl }

pub reaches_within : {X : Type 0} (f : Format X) (bytes : List ℕ) (left : ℕ) → Reaches f bytes left → left ≤ length bytes
reaches_within f bytes left r = omega (arith, ap length r.agrees, length-append (joined r.front) r.rest, r.leaves)

-- a flaw stands among the bytes
pub flaw_within : {X : Type 0} (f : Format X) → Places f → (bytes : List ℕ) (flaw : Flaw) → AreBytes bytes → f.read bytes ≡ Err flaw → left_of flaw ≤ length bytes
flaw_within f law bytes flaw h e = reaches_within f bytes (left_of flaw) (law.sound bytes flaw h e)

-- bytes that can't be read don't begin with a whole spelling
pub not_whole : {X : Type 0} (f : Format X) → Exact f → (bytes : List ℕ) (flaw : Flaw) (x : X) (rest : List ℕ) → f.read bytes ≡ Err flaw → f.legal x ≡ true → bytes ≡ f.spell x ++ rest → ⊥
not_whole f law bytes flaw x rest e legal is = absurd (cc (law.again x rest legal, ap f.read is, e))

-- ---- single fields
field_farthest : {X : Type 0} (f : Format X) → Exact f → (bytes : List ℕ) (flaw : Flaw) → f.read bytes ≡ Err flaw → (x : X) → f.legal x ≡ true
    → (front after : List (List ℕ)) (rest : List ℕ) → f.spell x ∷ [] ≡ front ++ after → bytes ≡ joined front ++ rest → length bytes ≤ length rest
field_farthest f law bytes flaw e x legal [] after rest begins agrees = omega (arith, ap length agrees)
field_farthest f law bytes flaw e x legal (field ∷ front) after rest begins agrees =
    let same : f.spell x ≡ field = cc in
    let none : front ≡ [] = nothing_before front after cc in
    let alone : joined (field ∷ front) ≡ f.spell x = ap (λ l. joined (field ∷ l)) none ∙ append-nil field ∙ sym same in
    absurd (not_whole f law bytes flaw x rest e legal (agrees ∙ ap (λ (b : List ℕ). b ++ rest) alone))

pub field_places : {X : Type 0} (f : Format X) → Exact f → IsField f → (x : X) → f.legal x ≡ true → Places f
field_places f law is x legal = record {
  exact = law;
  parts = λ y. ap joined (is.one y) ∙ append-nil (f.spell y);
  some = x;
  some_legal = legal;
  sound = λ bytes flaw h e. subst (Reaches f bytes) (sym (is.first bytes flaw e)) (at_start f bytes x legal);
  farthest = λ bytes flaw left h e r.
      let far = field_farthest f law bytes flaw e r.value r.legal r.front r.after r.rest (sym (is.one r.value) ∙ r.begins) r.agrees in
      omega (arith, far, r.leaves, is.first bytes flaw e);
}

-- ---- formats that read the same fields
-- what one can't read the other can't, and the legal values of both have the same fields
pub carried : {C D : Type 0} (h : Format C) (k : Format D) → Exact h → ((c : C) → joined (h.fields c) ≡ h.spell c) → Places k
    → ((bytes : List ℕ) (flaw : Flaw) → AreBytes bytes → h.read bytes ≡ Err flaw → k.read bytes ≡ Err flaw)
    → ((d : D) → k.legal d ≡ true → (c : C) × (h.legal c ≡ true) × (h.fields c ≡ k.fields d))
    → ((c : C) → h.legal c ≡ true → (d : D) × (k.legal d ≡ true) × (k.fields d ≡ h.fields c))
    → Places h
carried h k exact parts law read to from =
    let some = to law.some law.some_legal in
    record {
      exact = exact;
      parts = parts;
      some = some.0;
      some_legal = some.1;
      sound = λ bytes flaw are e.
          let r = law.sound bytes flaw are (read bytes flaw are e) in
          let c = to r.value r.legal in
          record { value = c.0; front = r.front; after = r.after; rest = r.rest; legal = c.1; begins = c.2 ∙ r.begins; agrees = r.agrees; leaves = r.leaves };
      farthest = λ bytes flaw left are e r.
          let d = from r.value r.legal in
          law.farthest bytes flaw left are (read bytes flaw are e)
          record { value = d.0; front = r.front; after = r.after; rest = r.rest; legal = d.1; begins = d.2 ∙ r.begins; agrees = r.agrees; leaves = r.leaves };
    }
