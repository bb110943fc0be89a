-- The keys of rows, when a name is stored or released.
use Rattle.std.proofs.Common.{◌≡◌, ◌≢◌, ℕ, ◌<◌, ◌⊎◌, true, false, List, [], length, Option, Some, None, refl, sym, ◌∙◌, ap, inl, inr}
use Rattle.std.specs.Prelude.{is_some, option_map, unwrap_or}
use Rattle.std.proofs.lemmas.Bool.{cases_eq, cases_lt}
use Rattle.std.proofs.lemmas.List.{get_or-set_same, get_or-set_other, get_or_past}
use Rattle.std.proofs.lemmas.Option.{none-some, same_Some}
use Rattle.name_region.specs.Contents.{Contents, is_live, text_of, with_text}
use Rattle.node_table.specs.declared.row.Row.{Row}
use Rattle.node_table.specs.Kept.{AreKeys, name_under, slot_in}
use Rattle.node_table.specs.Rows.{empty_row, key_of, row_at, row_in}
use Rattle.node_table.specs.Slots.{with_at}
use Rattle.node_table.proofs.PlaceLaws.{at_same, at_other}

-- ---- texts under keys
pub text_same : (c : Contents) (k : ℕ) (text : Option (List ℕ)) → k < length c.texts → text_of (with_text c k text) k ≡ text
text_same c k text within = get_or-set_same c.texts k text None within

text_other : (c : Contents) (k j : ℕ) (text : Option (List ℕ)) → j ≢ k → text_of (with_text c k text) j ≡ text_of c j
text_other c k j text ne = get_or-set_other c.texts k j text None ne

pub live_within : (c : Contents) (k : ℕ) → is_live c k ≡ true → k < length c.texts
live_within c k live =
    elim (cases_lt k (length c.texts)) [
      | inl within ↦ within
      | inr past ↦ absurd (let clash : false ≡ true = sym (ap is_some (get_or_past c.texts k None past)) ∙ live in cc clash)
    ]

same_map : {A B : Type 0} (f g : A → B) (o : Option A) → ((x : A) → o ≡ Some x → f x ≡ g x) → option_map f o ≡ option_map g o
same_map f g None same = refl
same_map f g (Some x) same = ap Some (same x refl)

-- a row says the same of its node where another key gets a text or loses it
pub slot_same : (n k : ℕ) (r : Row) (c : Contents) (text : Option (List ℕ)) → ((j : ℕ) → key_of r ≡ Some j → j ≢ k) → slot_in n r (with_text c k text) ≡ slot_in n r c
slot_same n k r c text others =
    same_map (λ j. row_in n r (name_under (with_text c k text) j)) (λ j. row_in n r (name_under c j)) (key_of r) (λ j has. ap (λ (o : Option (List ℕ)). row_in n r (unwrap_or o [])) (text_other c k j text (others j has)))

-- ---- a row is put into a slot
module _ (rs : List Row) (c : Contents) (keyed : AreKeys rs c) (n : ℕ) where
  -- a key is that of the new row, or was that of a row in another slot
  held : (r : Row) (m j : ℕ) → key_of (row_at (with_at empty_row rs n r) m) ≡ Some j → ((m ≡ n) × (key_of r ≡ Some j)) ⊎ ((m ≢ n) × (key_of (row_at rs m) ≡ Some j))
  held r m j has =
      elim (cases_eq m n) [
        | inl here ↦ inl (here, sym (ap key_of (at_same empty_row rs n r)) ∙ (ap (λ i. key_of (row_at (with_at empty_row rs n r) i)) (sym here) ∙ has))
        | inr ne ↦ inr (ne, sym (ap key_of (at_other empty_row rs n m r ne)) ∙ has)
      ]

  keys_with : (r : Row) (new : Contents) → ((m j : ℕ) → m ≢ n → key_of (row_at rs m) ≡ Some j → is_live new j ≡ true) → ((j : ℕ) → key_of r ≡ Some j → is_live new j ≡ true) → ((m j : ℕ) → m ≢ n → key_of r ≡ Some j → key_of (row_at rs m) ≡ Some j → ⊥) → AreKeys (with_at empty_row rs n r) new
  keys_with r new others own alone =
      record {
        live = λ m j has. elim (held r m j has) [ inl h ↦ own j h.1 | inr h ↦ others m j h.0 h.1 ];
        apart = λ a b j has_a has_b.
            elim (held r a j has_a) [
              | inl x ↦ elim (held r b j has_b) [ inl y ↦ x.0 ∙ sym y.0 | inr y ↦ absurd (alone b j y.0 x.1 y.1) ]
              | inr x ↦ elim (held r b j has_b) [ inl y ↦ absurd (alone a j x.0 y.1 x.1) | inr y ↦ keyed.apart a b j x.1 y.1 ]
            ];
      }

  -- a key without a text isn't that of a row
  pub not_held : (k m j : ℕ) → text_of c k ≡ None → key_of (row_at rs m) ≡ Some j → j ≢ k
  not_held k m j dead has is =
      let clash : true ≡ false = sym (keyed.live m j has) ∙ (ap (is_live c) is ∙ ap is_some dead) in cc clash

  pub keys_put : (k : ℕ) (r : Row) (text : List ℕ) → text_of c k ≡ None → k < length c.texts → key_of r ≡ Some k → AreKeys (with_at empty_row rs n r) (with_text c k (Some text))
  keys_put k r text dead within own =
      let its : (j : ℕ) → key_of r ≡ Some j → j ≡ k = λ j has. same_Some j k (sym has ∙ own) in
      keys_with r (with_text c k (Some text)) (λ m j _ has. ap is_some (text_other c k j (Some text) (not_held k m j dead has)) ∙ keyed.live m j has)
      (λ j has. ap (is_live (with_text c k (Some text))) (its j has) ∙ ap is_some (text_same c k (Some text) within)) (λ m j _ mine has. not_held k m j dead has (its j mine))

  pub keys_take : (k : ℕ) → key_of (row_at rs n) ≡ Some k → AreKeys (with_at empty_row rs n empty_row) (with_text c k None)
  keys_take k held_here =
      keys_with empty_row (with_text c k None) (λ m j ne has. ap is_some (text_other c k j None (λ is. ne (keyed.apart m n k (has ∙ ap Some is) held_here))) ∙ keyed.live m j has)
      (λ j has. absurd (none-some j has)) (λ m j _ mine has. none-some j mine)

  pub keys_change : (r : Row) → key_of r ≡ key_of (row_at rs n) → AreKeys (with_at empty_row rs n r) c
  keys_change r same =
      keys_with r c (λ m j _ has. keyed.live m j has) (λ j has. keyed.live n j (sym same ∙ has)) (λ m j ne mine has. ne (keyed.apart m n j has (sym same ∙ mine)))
