-- Texts of a log by their keys.
use Rattle.std.proofs.Common.{◌≡◌, ◌≢◌, ℕ, zero, suc, ◌<◌, ◌≤◌, Bool, true, false, List, [], ◌∷◌, ◌++◌, length, get_or, set, Option, Some, None, refl, sym, ◌∙◌, ap, inl, inr, arith, cond}
use Rattle.std.specs.Prelude.{◌⊎◌, filter, slice_index}
use Rattle.std.specs.List.{sum_by, count_by, AllPairs}
use Rattle.std.proofs.lemmas.Bool.{cases_eq, cases_lt}
use Rattle.std.proofs.lemmas.Bool.Decides.{nat_tests}
use Rattle.std.proofs.lemmas.List.{get_or_append_left, get_or_push, length_push, length-set, get_or-set_same, get_or-set_other, get_or_default}
use Rattle.std.proofs.lemmas.List.Elements.{All-filter, All-from_get_or, All-get_or, filter_passes}
use Rattle.std.proofs.lemmas.List.Kept.{AllPairs-filter}
use Rattle.std.proofs.lemmas.List.Sums.{sum_by-cons}
use Rattle.name_region.specs.Log.{Stored, no_key, no_text, stored_at, is_kept, text_len, used_len}
use Rattle.name_region.specs.Keys.{text_under, IsIndexed}
use Rattle.name_region.proofs.GatherLaws.{kept_is, released_is}

pub under-same : (k : ℕ) (s : Stored) (ss : List Stored) → s.key ≡ k → text_under k (s ∷ ss) ≡ Some s.text
under-same k s ss same = grind (arith, nat_tests)

pub under-other : (k : ℕ) (s : Stored) (ss : List Stored) → s.key ≢ k → text_under k (s ∷ ss) ≡ text_under k ss
under-other k s ss other = grind (arith, nat_tests)

-- ---- which text it is
pub record IsFound (k : ℕ) (ss : List Stored) (text : List ℕ) : Type 0 where
  pub index : ℕ
  pub within : index < length ss
  pub key_is : (stored_at ss index).key ≡ k
  pub text_is : (stored_at ss index).text ≡ text

pub found : (k : ℕ) (ss : List Stored) (text : List ℕ) → text_under k ss ≡ Some text → IsFound k ss text
found k [] text is = absurd (cc is)
found k (s ∷ ss) text is =
    elim (cases_eq s.key k) [
      | inl same ↦ let here : Some s.text ≡ Some text = sym (under-same k s ss same) ∙ is in record { index = 0; within = omega arith; key_is = same; text_is = cc here }
      | inr other ↦
          let rest = found k ss text (sym (under-other k s ss other) ∙ is) in
          record { index = suc rest.index; within = omega (arith, rest.within); key_is = rest.key_is; text_is = rest.text_is }
    ]

pub not_under : (k : ℕ) (ss : List Stored) → ((j : ℕ) → j < length ss → (stored_at ss j).key ≢ k) → text_under k ss ≡ None
not_under k [] none = refl
not_under k (s ∷ ss) none = under-other k s ss (none 0 (omega arith)) ∙ not_under k ss (λ j within. none (suc j) (omega arith))

pub under_none : (k : ℕ) (ss : List Stored) (j : ℕ) → text_under k ss ≡ None → j < length ss → (stored_at ss j).key ≢ k
under_none k [] j none within = absurd (omega arith)
under_none k (s ∷ ss) zero none within = λ same. absurd (let clash : Some s.text ≡ None = sym (under-same k s ss same) ∙ none in cc clash)
under_none k (s ∷ ss) (suc j) none within =
    elim (cases_eq s.key k) [
      | inl same ↦ absurd (let clash : Some s.text ≡ None = sym (under-same k s ss same) ∙ none in cc clash)
      | inr other ↦ under_none k ss j (sym (under-other k s ss other) ∙ none) (omega arith)
    ]

option_cases : (o : Option (List ℕ)) → (o ≡ None) ⊎ ((text : List ℕ) × (o ≡ Some text))
option_cases None = inl refl
option_cases (Some text) = inr (text, refl)

-- a key has one text at most
pub same_place : (ss : List Stored) (places : List ℕ) (k i j : ℕ) → IsIndexed ss places → k ≢ no_key → i < length ss → j < length ss → (stored_at ss i).key ≡ k → (stored_at ss j).key ≡ k → i ≡ j
same_place ss places k i j indexed live i_in j_in i_is j_is =
    let at_i : slice_index places k ≡ i = ap (slice_index places) (sym i_is) ∙ indexed.place i i_in (λ none. live (sym i_is ∙ none)) in
    let at_j : slice_index places k ≡ j = ap (slice_index places) (sym j_is) ∙ indexed.place j j_in (λ none. live (sym j_is ∙ none)) in
    sym at_i ∙ at_j

pub under_at : (ss : List Stored) (places : List ℕ) (k i : ℕ) → IsIndexed ss places → k ≢ no_key → i < length ss → (stored_at ss i).key ≡ k → text_under k ss ≡ Some (stored_at ss i).text
under_at ss places k i indexed live within is =
    elim (option_cases (text_under k ss)) [
      | inl none ↦ absurd (under_none k ss i none within is)
      | inr some ↦
          let f = found k ss some.0 some.1 in
          let same = same_place ss places k f.index i indexed live f.within within f.key_is is in
          some.1 ∙ ap Some (sym f.text_is ∙ ap (λ j. (stored_at ss j).text) same)
    ]

-- ---- a text more
pub under-push_other : (k : ℕ) (ss : List Stored) (s : Stored) → s.key ≢ k → text_under k (ss ++ s ∷ []) ≡ text_under k ss
under-push_other k [] s other = under-other k s [] other
under-push_other k (x ∷ ss) s other =
    elim (cases_eq x.key k) [
      | inl same ↦ under-same k x (ss ++ s ∷ []) same ∙ sym (under-same k x ss same)
      | inr ne ↦ under-other k x (ss ++ s ∷ []) ne ∙ (under-push_other k ss s other ∙ sym (under-other k x ss ne))
    ]

pub under-push_same : (k : ℕ) (ss : List Stored) (s : Stored) → s.key ≡ k → text_under k ss ≡ None → text_under k (ss ++ s ∷ []) ≡ Some s.text
under-push_same k [] s same none = under-same k s [] same
under-push_same k (x ∷ ss) s same none =
    let ne = under_none k (x ∷ ss) 0 none (omega arith) in
    under-other k x (ss ++ s ∷ []) ne ∙ under-push_same k ss s same (sym (under-other k x ss ne) ∙ none)

pub indexed-push : (ss : List Stored) (places new : List ℕ) (s : Stored) → IsIndexed ss places → s.key ≢ no_key → text_under s.key ss ≡ None → length places ≤ length new → s.key < length new → ((k : ℕ) → k < length places → slice_index new k ≡ slice_index places k)
    → IsIndexed (ss ++ s ∷ []) (set new s.key (length ss))
indexed-push ss places new s indexed live none longer within same = record {
  within = λ i i_in i_live. rw (length-set new s.key (length ss)) (elim (cases_lt i (length ss)) [
    | inl lt ↦ let old = old_key i lt in let was = indexed.within i lt (λ dead. i_live (old ∙ dead)) in omega (arith, old, was, longer)
    | inr ge ↦ let last : (stored_at (ss ++ s ∷ []) i).key ≡ s.key = last_key i (omega (arith, i_in, length_push ss s)) in omega (arith, last, within)
  ]);
  place = λ i i_in i_live.
      elim (cases_lt i (length ss)) [
        | inl lt ↦
            let old = old_key i lt in
            let was_live : (stored_at ss i).key ≢ no_key = λ dead. i_live (old ∙ dead) in
            ap (slice_index (set new s.key (length ss))) old
            ∙ (get_or-set_other new s.key (stored_at ss i).key (length ss) 0 (under_none s.key ss i none lt)
            ∙ (same (stored_at ss i).key (indexed.within i lt was_live) ∙ indexed.place i lt was_live))
        | inr ge ↦
            let at : i ≡ length ss = omega (arith, i_in, length_push ss s) in
            ap (slice_index (set new s.key (length ss))) (last_key i at) ∙ (get_or-set_same new s.key (length ss) 0 within ∙ sym at)
      ];
}
  where
    old_key : (i : ℕ) → i < length ss → (stored_at (ss ++ s ∷ []) i).key ≡ (stored_at ss i).key
    old_key i lt = ap (λ (x : Stored). x.key) (get_or_append_left ss (s ∷ []) no_text i lt)

    last_key : (i : ℕ) → i ≡ length ss → (stored_at (ss ++ s ∷ []) i).key ≡ s.key
    last_key i at = ap (λ (x : Stored). x.key) (get_or_push ss s no_text i (sym at))

-- ---- a text is released
module _ (ss : List Stored) (places : List ℕ) (k i : ℕ) (indexed : IsIndexed ss places) (live : k ≢ no_key) (within : i < length ss) (is : (stored_at ss i).key ≡ k) where
  gone : Stored
  gone = record (stored_at ss i) { key = no_key }

  key_same : (j : ℕ) → j ≢ i → (stored_at (set ss i (record (stored_at ss i) { key = no_key })) j).key ≡ (stored_at ss j).key
  key_same j ne = ap (λ (x : Stored). x.key) (get_or-set_other ss i j (record (stored_at ss i) { key = no_key }) no_text ne)

  key_gone : (j : ℕ) → j ≡ i → (stored_at (set ss i (record (stored_at ss i) { key = no_key })) j).key ≡ no_key
  key_gone j at = ap (λ n. (stored_at (set ss i (record (stored_at ss i) { key = no_key })) n).key) at ∙ ap (λ (x : Stored). x.key) (get_or-set_same ss i (record (stored_at ss i) { key = no_key }) no_text within)

  pub under-release_same : text_under k (set ss i (record (stored_at ss i) { key = no_key })) ≡ None
  under-release_same = not_under k (set ss i (record (stored_at ss i) { key = no_key })) (λ j j_in.
      elim (cases_eq j i) [
        | inl at ↦ λ same. live (sym same ∙ key_gone j at)
        | inr ne ↦ λ same. ne (same_place ss places k j i indexed live (omega (arith, j_in, length-set ss i (record (stored_at ss i) { key = no_key }))) within (sym (key_same j ne) ∙ same) is)
      ])

  pub indexed-release : IsIndexed (set ss i (record (stored_at ss i) { key = no_key })) places
  indexed-release = record {
    within = λ j j_in j_live.
        elim (cases_eq j i) [
          | inl at ↦ absurd (j_live (key_gone j at))
          | inr ne ↦
              let old = key_same j ne in
              let was = indexed.within j (omega (arith, j_in, length-set ss i (record (stored_at ss i) { key = no_key }))) (λ dead. j_live (old ∙ dead)) in
              omega (arith, old, was)
        ];
    place = λ j j_in j_live.
        elim (cases_eq j i) [
          | inl at ↦ absurd (j_live (key_gone j at))
          | inr ne ↦
              let old = key_same j ne in
              ap (slice_index places) old ∙ indexed.place j (omega (arith, j_in, length-set ss i (record (stored_at ss i) { key = no_key }))) (λ dead. j_live (old ∙ dead))
        ];
  }

pub under-release_other : (q : ℕ) (ss : List Stored) (i : ℕ) → q ≢ no_key → (stored_at ss i).key ≢ q → text_under q (set ss i (record (stored_at ss i) { key = no_key })) ≡ text_under q ss
under-release_other q [] i live other = refl
under-release_other q (s ∷ ss) zero live other = under-other q (record s { key = no_key }) ss (λ same. live (sym same)) ∙ sym (under-other q s ss other)
under-release_other q (s ∷ ss) (suc i) live other =
    elim (cases_eq s.key q) [
      | inl same ↦ under-same q s (set ss i (record (stored_at ss i) { key = no_key })) same ∙ sym (under-same q s ss same)
      | inr ne ↦ under-other q s (set ss i (record (stored_at ss i) { key = no_key })) ne ∙ (under-release_other q ss i live other ∙ sym (under-other q s ss ne))
    ]

-- ---- the texts are gathered
filter_kept : (s : Stored) (ss : List Stored) → s.key ≢ no_key → filter is_kept (s ∷ ss) ≡ s ∷ filter is_kept ss
filter_kept s ss live = ap (λ b. cond b (s ∷ filter is_kept ss) (filter is_kept ss)) (kept_is s live)

filter_released : (s : Stored) (ss : List Stored) → s.key ≡ no_key → filter is_kept (s ∷ ss) ≡ filter is_kept ss
filter_released s ss dead = ap (λ b. cond b (s ∷ filter is_kept ss) (filter is_kept ss)) (released_is s dead)

pub under-filter : (k : ℕ) (ss : List Stored) → k ≢ no_key → text_under k (filter is_kept ss) ≡ text_under k ss
under-filter k [] live = refl
under-filter k (s ∷ ss) live =
    elim (cases_eq s.key no_key) [
      | inl dead ↦ ap (text_under k) (filter_released s ss dead) ∙ (under-filter k ss live ∙ sym (under-other k s ss (λ same. live (sym same ∙ dead))))
      | inr kept ↦
          ap (text_under k) (filter_kept s ss kept)
          ∙ elim (cases_eq s.key k) [
            | inl same ↦ under-same k s (filter is_kept ss) same ∙ sym (under-same k s ss same)
            | inr ne ↦ under-other k s (filter is_kept ss) ne ∙ (under-filter k ss live ∙ sym (under-other k s ss ne))
          ]
    ]

pub used_kept : (s : Stored) → s.key ≢ no_key → used_len s ≡ text_len s
used_kept s live = ap (λ b. cond b (length s.text) 0) (kept_is s live)

pub used_released : (s : Stored) → s.key ≡ no_key → used_len s ≡ 0
used_released s dead = ap (λ b. cond b (length s.text) 0) (released_is s dead)

pub bytes-filter : (ss : List Stored) → sum_by text_len (filter is_kept ss) ≡ sum_by used_len ss
bytes-filter [] = refl
bytes-filter (s ∷ ss) =
    elim (cases_eq s.key no_key) [
      | inl dead ↦ let rest = bytes-filter ss in omega (arith, ap (sum_by text_len) (filter_released s ss dead), rest, sum_by-cons used_len s ss, used_released s dead)
      | inr kept ↦ let rest = bytes-filter ss in omega (arith, ap (sum_by text_len) (filter_kept s ss kept), sum_by-cons text_len s (filter is_kept ss), rest, sum_by-cons used_len s ss, used_kept s kept)
    ]

pub used-filter : (ss : List Stored) → sum_by used_len (filter is_kept ss) ≡ sum_by used_len ss
used-filter [] = refl
used-filter (s ∷ ss) =
    elim (cases_eq s.key no_key) [
      | inl dead ↦ let rest = used-filter ss in omega (arith, ap (sum_by used_len) (filter_released s ss dead), rest, sum_by-cons used_len s ss, used_released s dead)
      | inr kept ↦ let rest = used-filter ss in omega (arith, ap (sum_by used_len) (filter_kept s ss kept), sum_by-cons used_len s (filter is_kept ss), rest, sum_by-cons used_len s ss)
    ]

abbrev pub kept_one : Stored → ℕ
kept_one s = cond (is_kept s) 1 0

pub one_kept : (s : Stored) → s.key ≢ no_key → kept_one s ≡ 1
one_kept s live = let at : Bool → ℕ = λ b. cond b 1 0 in ap at (kept_is s live)

pub one_released : (s : Stored) → s.key ≡ no_key → kept_one s ≡ 0
one_released s dead = let at : Bool → ℕ = λ b. cond b 1 0 in ap at (released_is s dead)

pub count-filter : (ss : List Stored) → count_by is_kept (filter is_kept ss) ≡ count_by is_kept ss
count-filter [] = refl
count-filter (s ∷ ss) =
    elim (cases_eq s.key no_key) [
      | inl dead ↦ let rest = count-filter ss in omega (arith, ap (count_by is_kept) (filter_released s ss dead), rest, sum_by-cons kept_one s ss, one_released s dead)
      | inr kept ↦ let rest = count-filter ss in omega (arith, ap (count_by is_kept) (filter_kept s ss kept), sum_by-cons kept_one s (filter is_kept ss), rest, sum_by-cons kept_one s ss)
    ]

-- those that are left aren't released
kept_key : (s : Stored) → is_kept s ≡ true → s.key ≢ no_key
kept_key s kept = λ dead. absurd (let clash : true ≡ false = sym kept ∙ released_is s dead in cc clash)

key_live : (ss : List Stored) (i : ℕ) (d : Stored) → i < length (filter is_kept ss) → (get_or (filter is_kept ss) i d).key ≢ no_key
key_live ss i d within = kept_key (get_or (filter is_kept ss) i d) (All-get_or (λ (s : Stored). is_kept s ≡ true) (filter is_kept ss) i d within (filter_passes is_kept ss))

pub within-filter : (ss : List Stored) (places : List ℕ) → IsIndexed ss places → (i : ℕ) → i < length (filter is_kept ss) → (stored_at (filter is_kept ss) i).key < length places
within-filter ss places indexed i within =
    let old = All-from_get_or (λ (s : Stored). s.key ≢ no_key → s.key < length places) ss no_text indexed.within in
    All-get_or (λ (s : Stored). s.key ≢ no_key → s.key < length places) (filter is_kept ss) i no_text within (All-filter is_kept (λ (s : Stored). s.key ≢ no_key → s.key < length places) ss old) (key_live ss i no_text within)

apart : (ss : List Stored) (places : List ℕ) → IsIndexed ss places → AllPairs (λ (s t : Stored). s.key ≢ no_key → s.key ≢ t.key) ss
apart ss places indexed i j d before within = λ live same.
    let at_i : get_or ss i d ≡ stored_at ss i = get_or_default ss i d no_text (omega arith) in
    let at_j : get_or ss j d ≡ stored_at ss j = get_or_default ss j d no_text within in
    let is = same_place ss places (get_or ss i d).key i j indexed live (omega arith) within (sym (ap (λ (s : Stored). s.key) at_i)) (sym (ap (λ (s : Stored). s.key) at_j) ∙ sym same) in
    absurd (omega (arith, is, before))

pub apart-filter : (ss : List Stored) (places : List ℕ) → IsIndexed ss places → AllPairs (λ (s t : Stored). s.key ≢ t.key) (filter is_kept ss)
apart-filter ss places indexed i j d before within =
    AllPairs-filter (λ (s t : Stored). s.key ≢ no_key → s.key ≢ t.key) is_kept ss (apart ss places indexed) i j d before within (key_live ss i d (omega arith))
