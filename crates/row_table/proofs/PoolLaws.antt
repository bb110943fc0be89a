-- What a pool keeps if a row comes or goes.
use Rattle.std.proofs.Common.{◌≡◌, ℕ, zero, suc, ◌<◌, ◌≤◌, ◌==◌, false, not, ◌||◌, inl, inr, List, [], ◌∷◌, ◌++◌, length, length-append, get_or, reverse, set, Option, Some, None, refl, sym, ◌∙◌, ap, arith}
use Rattle.std.proofs.lemmas.List.{get_or-set_other, length-set, reverse-append}
use Rattle.std.proofs.lemmas.Option.{none-some}
use Rattle.fsrm_base.specs.Numbers.{is_in, each_once}
use Rattle.fsrm_base.proofs.TestLaws.{both, both_true, clash, eq_is, eq_same, is_false, is_or, not_true, or_later}
use Rattle.row_table.specs.Pooled.{IsPool, in_slot}

within_slots : {X : Type 0} (slots : List (Option X)) (s : ℕ) (r : X) → in_slot slots s ≡ Some r → s < length slots
within_slots [] s r h = cc
within_slots (o ∷ slots) zero r h = omega arith
within_slots (o ∷ slots) (suc s) r h = let l : s < length slots = within_slots slots s r h in omega arith

-- what is written where nothing else is read past the end
pub set_default : {X : Type 0} (xs : List X) (i : ℕ) (d : X) → get_or (set xs i d) i d ≡ d
set_default [] i d = refl
set_default (x ∷ xs) zero d = refl
set_default (x ∷ xs) (suc i) d = set_default xs i d

module _ {X : Type 0} {slots : List (Option X)} {free : List ℕ} {room slots_memory free_memory : ℕ} (is : IsPool slots free room slots_memory free_memory) where
  -- the last of the free slots
  pub last_slot : (rest : List ℕ) (slot : ℕ) → free ≡ rest ++ slot ∷ [] → (slot < length slots) × (in_slot slots slot ≡ None)
  last_slot rest slot e =
      is.vacant slot (ap (λ ns. is_in ns slot) (ap reverse e ∙ reverse-append rest (slot ∷ [])) ∙ ap (λ b. b || is_in (reverse rest) slot) (eq_same slot))

  pub pool_put : (rest : List ℕ) (slot : ℕ) (row : Option X) → free ≡ rest ++ slot ∷ [] → IsPool (set slots slot row) rest room slots_memory free_memory
  pool_put rest slot row e =
      let last : reverse free ≡ slot ∷ reverse rest = ap reverse e ∙ reverse-append rest (slot ∷ []) in
      let once = both (not (is_in (reverse rest) slot)) (each_once (reverse rest)) (ap each_once (sym last) ∙ is.once) in
      record {
        vacant = λ s free_is.
            (let old = is.vacant s (ap (λ ns. is_in ns s) last ∙ or_later (slot == s) (is_in (reverse rest) s) free_is) in (
              omega (arith, old.0, length-set slots slot row),
              get_or-set_other slots slot s row None (λ at. clash (is_in (reverse rest) s) free_is (ap (is_in (reverse rest)) at ∙ is_false _ once.0)) ∙ old.1,
            ));
        once = once.1;
        fewer = omega (arith, is.fewer, ap length e, length-append rest (slot ∷ []), length-set slots slot row);
        few = omega (arith, is.few, length-set slots slot row);
        small = is.small;
        slots_fit = is.slots_fit;
        free_fit = is.free_fit;
      }

  pub pool_taken : (slot memory : ℕ) (r : X) → in_slot slots slot ≡ Some r → length free < length slots → free_memory ≤ memory → IsPool (set slots slot None) (free ++ slot ∷ []) room slots_memory memory
  pool_taken slot memory r h less up =
      let last : reverse (free ++ slot ∷ []) ≡ slot ∷ reverse free = reverse-append free (slot ∷ []) in
      let held : is_in (reverse free) slot ≡ false = not_true (is_in (reverse free) slot) (λ free_is. none-some r (sym (is.vacant slot free_is).1 ∙ h)) in
      let within : slot < length slots = within_slots slots slot r h in
      record {
        vacant = λ s free_is.
            elim (is_or (slot == s) (is_in (reverse free) s) (ap (λ ns. is_in ns s) (sym last) ∙ free_is)) [
              | inl same ↦
                  let at : slot ≡ s = eq_is slot s same in
                  (omega (arith, within, at, length-set slots slot None), ap (λ k. get_or (set slots slot None) k None) (sym at) ∙ set_default slots slot None)
              | inr there ↦
                  let old = is.vacant s there in
                  (omega (arith, old.0, length-set slots slot None), get_or-set_other slots slot s None None (λ at. clash (is_in (reverse free) s) there (ap (is_in (reverse free)) at ∙ held)) ∙ old.1)
            ];
        once = ap each_once last ∙ both_true _ _ (ap not held) is.once;
        fewer = omega (arith, less, length-append free (slot ∷ []), length-set slots slot None);
        few = omega (arith, is.few, length-set slots slot None);
        small = is.small;
        slots_fit = is.slots_fit;
        free_fit = omega (arith, is.free_fit, up);
      }
