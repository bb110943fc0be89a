-- The numbers that words hold, as a set, and the set of the places of words above them.
use Rattle.std.proofs.Common.{◌≡◌, ℕ, zero, suc, ◌+◌, ◌*◌, ◌/◌, ◌%◌, ◌<◌, ◌≤◌, ◌==◌, Bool, true, false, cond, not, ◌||◌, ◌&&◌, List, [], ◌∷◌, length, get_or, replicate, Option, Some, None, refl, sym, ◌∙◌, ap, subst, inl, inr, arith}
use Rattle.std.proofs.lemmas.Bool.{cases_lt}
use Rattle.std.proofs.lemmas.List.{get_or_past, get_or-replicate, length-replicate}
use Rattle.std.proofs.lemmas.List.FromFn.{length-range_with_len}
use Rattle.std.proofs.lemmas.Nat.Bits.{bit_at-zero}
use Rattle.std.specs.Int.{bit_at}
use Rattle.std.specs.List.{range_with_len}
use Rattle.std.specs.Prelude.{slice_get, filter, MatchOption}
use Rattle.fsrm_base.specs.Numbers.{is_in, is_set, with_number, without_number}
use Rattle.fsrm_base.proofs.TestLaws.{is_or_not, eq_is, lt_test, not_true, eq_test}
use Rattle.number_set.specs.Numbers.{Numbers, no_numbers}
use Rattle.number_set.specs.Words.{has_bit, is_occupied, numbers_of, Marks, IsLeastIn}
use Rattle.fsrm_base.proofs.NumberLaws.{in_with, in_without, in_filter, set_with, set_without, set_filter, same_set, first_least}
use Rattle.number_set.proofs.TakenLaws.{none_first}
use Rattle.number_set.proofs.WordLaws.{test_apart, empty_word}

-- the numbers from one on
in_range : (a k m : ℕ) → a ≤ m → m < a + k → is_in (range_with_len a k) m ≡ true
in_range a zero m le lt = absurd (omega arith)
in_range a (suc k) m le lt =
    elim (is_or_not (a == m)) [
      | inl e ↦ ap (λ b. b || is_in (range_with_len (a + 1) k) m) e
      | inr e ↦
          let apart : a ≡ m → ⊥ = λ h. (let t : (a == m) ≡ true = eq_test a m h in cc) in
          ap (λ b. b || is_in (range_with_len (a + 1) k) m) e ∙ in_range (a + 1) k m (omega arith) (omega arith)
    ]

set_range : (a k : ℕ) → is_set (range_with_len a k) ≡ true
set_range a zero = refl
set_range a (suc zero) = refl
set_range a (suc (suc k)) = ap (λ b. b && is_set (range_with_len (a + 1) (suc k))) (lt_test a (a + 1) (omega arith)) ∙ set_range (a + 1) (suc k)

-- no bit is set past the last word
pub past : (words : List ℕ) (n : ℕ) → length words ≤ n / 64 → has_bit words n ≡ false
unfolding has_bit
past words n h = ap (λ w. bit_at w (n % 64) == 1) (get_or_past words (n / 64) 0 h) ∙ ap (λ b. b == 1) (bit_at-zero (n % 64))

within : (b c : Bool) → c ≡ true → (b && c) ≡ b
within true c h = h
within false c h = refl

pub in_numbers_of : (words : List ℕ) (n : ℕ) → is_in (numbers_of words) n ≡ has_bit words n
unfolding numbers_of
in_numbers_of words n =
    in_filter (has_bit words) (range_with_len 0 (64 * length words)) n
    ∙ elim (cases_lt n (64 * length words)) [
      | inl l ↦ within (has_bit words n) _ (in_range 0 (64 * length words) n (omega arith) (omega arith))
      | inr l ↦ let none : has_bit words n ≡ false = past words n (omega arith) in ap (λ b. b && is_in (range_with_len 0 (64 * length words)) n) none ∙ sym none
    ]

pub inside_words : (words : List ℕ) (n : ℕ) → is_in (numbers_of words) n ≡ true → n / 64 < length words
inside_words words n h =
    elim (cases_lt (n / 64) (length words)) [
      | inl l ↦ l
      | inr l ↦ let none : is_in (numbers_of words) n ≡ false = in_numbers_of words n ∙ past words n l in cc
    ]

pub set_numbers_of : (words : List ℕ) → is_set (numbers_of words) ≡ true
unfolding numbers_of
set_numbers_of words = set_filter (has_bit words) (range_with_len 0 (64 * length words)) (set_range 0 (64 * length words))

-- with a bit more, and with one less
pub numbers_with : (old new : List ℕ) (m : ℕ) → ((n : ℕ) → has_bit new n ≡ ((m == n) || has_bit old n)) → numbers_of new ≡ with_number m (numbers_of old)
numbers_with old new m bits =
    same_set _ _ (set_numbers_of new) (set_with m (numbers_of old) (set_numbers_of old)) (λ n.
    in_numbers_of new n ∙ (bits n ∙ sym (in_with m n (numbers_of old) ∙ ap (λ b. (m == n) || b) (in_numbers_of old n))))

pub numbers_without : (old new : List ℕ) (m : ℕ) → ((n : ℕ) → has_bit new n ≡ (not (m == n) && has_bit old n)) → numbers_of new ≡ without_number m (numbers_of old)
numbers_without old new m bits =
    same_set _ _ (set_numbers_of new) (set_without m (numbers_of old) (set_numbers_of old)) (λ n.
    in_numbers_of new n ∙ (bits n ∙ sym (in_without m n (numbers_of old) ∙ ap (λ b. not (m == n) && b) (in_numbers_of old n))))

-- the places above, after a bit was set in word p
pub marks_with : (up new : Numbers) (old words : List ℕ) (p : ℕ) → Marks up old → length words ≡ length old → ((k : ℕ) → is_occupied words k ≡ ((p == k) || is_occupied old k)) → new ≡ record up { members = with_number p up.members } → Marks new words
marks_with up new old words p m same occupied is =
    subst (λ (v : Numbers). Marks v words) (sym is) (record {
      several = omega (arith, m.several);
      bound = m.bound ∙ sym same;
      set = set_with p up.members m.set;
      members = λ k. in_with p k up.members ∙ (ap (λ b. (p == k) || b) (m.members k) ∙ sym (occupied k));
    })

-- if the places stay
pub marks_stay : (up : Numbers) (old words : List ℕ) → Marks up old → length words ≡ length old → ((k : ℕ) → is_occupied words k ≡ is_occupied old k) → Marks up words
marks_stay up old words m same occupied =
    record { several = omega (arith, m.several); bound = m.bound ∙ sym same; set = m.set; members = λ k. m.members k ∙ sym (occupied k) }

pub absorbed_place : (old : List ℕ) (p k : ℕ) → false ≡ not (is_occupied old p) → ((p == k) || is_occupied old k) ≡ is_occupied old k
absorbed_place old p k h =
    elim (is_or_not (p == k)) [
      | inl e ↦ ap (λ b. b || is_occupied old k) e ∙ (sym (not_not (is_occupied old p) h) ∙ ap (is_occupied old) (eq_is p k e))
      | inr e ↦ ap (λ b. b || is_occupied old k) e
    ]
  where
    not_not : (b : Bool) → false ≡ not b → b ≡ true
    not_not true h = refl
    not_not false h = cc

-- after a bit was cleared in word p, which is empty then
pub marks_without : (up new : Numbers) (old words : List ℕ) (p : ℕ) → Marks up old → length words ≡ length old → ((k : ℕ) → is_occupied words k ≡ (not (p == k) && is_occupied old k)) → new ≡ record up { members = without_number p up.members } → Marks new words
marks_without up new old words p m same occupied is =
    subst (λ (v : Numbers). Marks v words) (sym is) (record {
      several = omega (arith, m.several);
      bound = m.bound ∙ sym same;
      set = set_without p up.members m.set;
      members = λ k. in_without p k up.members ∙ (ap (λ b. not (p == k) && b) (m.members k) ∙ sym (occupied k));
    })

-- what a set is seen as once a bit of its words has changed
pub view_with : (b m : ℕ) (old at new : List ℕ) (v : Numbers) → record { bound = b; members = numbers_of old } ≡ v → at ≡ old → ((n : ℕ) → has_bit new n ≡ ((m == n) || has_bit at n)) → record { bound = b; members = numbers_of new } ≡ record v { members = with_number m v.members }
view_with b m old at new v is same bits =
    let now : record { bound = b; members = numbers_of new } ≡ record { bound = b; members = with_number m (numbers_of old) } =
    ap (λ ms. record { bound = b; members = ms }) (numbers_with old new m (λ n. bits n ∙ ap (λ ws. (m == n) || has_bit ws n) same)) in
    now ∙ ap (λ (w : Numbers). record w { members = with_number m w.members }) is

pub view_without : (b m : ℕ) (old at new : List ℕ) (v : Numbers) → record { bound = b; members = numbers_of old } ≡ v → at ≡ old → ((n : ℕ) → has_bit new n ≡ (not (m == n) && has_bit at n)) → record { bound = b; members = numbers_of new } ≡ record v { members = without_number m v.members }
view_without b m old at new v is same bits =
    let now : record { bound = b; members = numbers_of new } ≡ record { bound = b; members = without_number m (numbers_of old) } =
    ap (λ ms. record { bound = b; members = ms }) (numbers_without old new m (λ n. bits n ∙ ap (λ ws. not (m == n) && has_bit ws n) same)) in
    now ∙ ap (λ (w : Numbers). record w { members = without_number m w.members }) is

-- a word without a bit
pub no_bit : (words : List ℕ) (n : ℕ) → is_occupied words (n / 64) ≡ false → has_bit words n ≡ false
unfolding has_bit is_occupied
no_bit words n h =
    let zero_word : get_or words (n / 64) 0 ≡ 0 = is_zero (get_or words (n / 64) 0) h in
    ap (λ w. bit_at w (n % 64) == 1) zero_word ∙ ap (λ b. b == 1) (bit_at-zero (n % 64))
  where
    is_zero : (w : ℕ) → not (w == 0) ≡ false → w ≡ 0
    is_zero w e =
        elim (is_or_not (w == 0)) [
          | inl t ↦ eq_is w 0 t
          | inr f ↦ let g : not (w == 0) ≡ true = ap not f in cc
        ]

-- the place of a word with a bit is above
pub place_above : (up : Numbers) (words : List ℕ) (n : ℕ) → Marks up words → is_in (numbers_of words) n ≡ true → is_in up.members (n / 64) ≡ true
place_above up words n m h =
    m.members (n / 64) ∙ elim (is_or_not (is_occupied words (n / 64))) [
      | inl e ↦ e
      | inr e ↦ let none : is_in (numbers_of words) n ≡ false = in_numbers_of words n ∙ no_bit words n e in cc
    ]

-- the members of words without any bit
pub none_of : (words : List ℕ) → ((n : ℕ) → has_bit words n ≡ false) → numbers_of words ≡ []
none_of words h = same_set _ _ (set_numbers_of words) refl (λ n. in_numbers_of words n ∙ h n)

pub empty_words : (count : ℕ) (k : ℕ) → is_occupied (replicate count 0) k ≡ false
empty_words count k =
    empty_word (replicate count 0) k (elim (cases_lt k count) [
      | inl l ↦ get_or-replicate count k 0 0 l
      | inr l ↦ get_or_past (replicate count 0) k 0 (omega (arith, length-replicate {A = ℕ}))
    ])

pub no_members : (count : ℕ) → numbers_of (replicate count 0) ≡ []
no_members count = none_of (replicate count 0) (λ n. no_bit (replicate count 0) n (empty_words count (n / 64)))

-- the least member
pub first_is_least : (ns : List ℕ) (m : ℕ) → is_set ns ≡ true → is_in ns m ≡ true → ((n : ℕ) → n < m → is_in ns n ≡ false) → Some m ≡ slice_get ns 0
first_is_least [] m h g below = cc
first_is_least (k ∷ ns) m h g below =
    elim (is_or_not (k == m)) [
      | inl e ↦ ap Some (sym (eq_is k m e))
      | inr e ↦
          let later : is_in ns m ≡ true = sym (ap (λ b. b || is_in ns m) e) ∙ g in
          let l : k < m = first_least k m ns h later in
          let there : is_in (k ∷ ns) k ≡ true = ap (λ b. b || is_in ns k) (eq_test k k refl) in
          let not_there : is_in (k ∷ ns) k ≡ false = below k l in
          cc
    ]

-- the first word that has a bit, if any has
pub record IsFirstWord (words : List ℕ) (place : ℕ) : Type 0 where
  pub inside : place < length words
  pub below : (k : ℕ) → k < place → is_occupied words k ≡ false
  pub only : is_occupied words place ≡ false → length words ≡ 1

pub only_word : (words : List ℕ) (place : ℕ) → length words ≡ 1 → place ≡ 0 → IsFirstWord words place
only_word words place one e = record { inside = omega arith; below = λ k l. absurd (omega arith); only = λ h. one }

pub first_word : (up : Numbers) (words : List ℕ) (place : ℕ) → Marks up words → Some place ≡ slice_get up.members 0 → IsFirstWord words place
first_word up words place m is = at up.members is m.set refl
  where
    at : (ns : List ℕ) → Some place ≡ slice_get ns 0 → is_set ns ≡ true → up.members ≡ ns → IsFirstWord words place
    at [] h set is = cc
    at (k ∷ ns) h set is =
        let first : place ≡ k = cc in
        let has : is_in (k ∷ ns) place ≡ true = ap (λ b. b || is_in ns place) (eq_test k place (sym first)) in
        let there : is_occupied words place ≡ true = sym (m.members place) ∙ (ap (λ ms. is_in ms place) is ∙ has) in
        record {
          inside = elim (cases_lt place (length words)) [
            | inl l ↦ l
            | inr l ↦ let none : is_occupied words place ≡ false = empty_word words place (get_or_past words place 0 l) in cc
          ];
          below = λ j less.
              sym (m.members j) ∙ (ap (λ ms. is_in ms j) is ∙ not_true _ (λ t.
              let other : (k == j) ≡ false = test_apart k j (λ e. (let n : j < j = omega arith in omega arith)) in
              let later : is_in ns j ≡ true = sym (ap (λ b. b || is_in ns j) other) ∙ t in
              let above : k < j = first_least k j ns set later in
              omega arith));
          only = λ none. (let same : is_occupied words place ≡ true = there in cc);
        }

pub least_some : (words : List ℕ) (place n : ℕ) → IsFirstWord words place → IsLeastIn words place n → Some n ≡ slice_get (numbers_of words) 0
least_some words place n f l =
    first_is_least (numbers_of words) n (set_numbers_of words) (in_numbers_of words n ∙ l.bit) (λ m less.
    in_numbers_of words m ∙ elim (cases_lt (m / 64) place) [
      | inl lt ↦ no_bit words m (f.below (m / 64) lt)
      | inr le ↦ let at : n / 64 ≡ place = l.place_is in l.least m (omega arith) less
    ])

pub least_none : (words : List ℕ) (place : ℕ) → IsFirstWord words place → is_occupied words place ≡ false → None ≡ slice_get (numbers_of words) 0
least_none words place f empty =
    sym (ap (λ ms. slice_get ms 0) (none_of words (λ n.
    elim (cases_lt (n / 64) place) [
      | inl lt ↦ no_bit words n (f.below (n / 64) lt)
      | inr le ↦
          elim (is_or_not (n / 64 == place)) [
            | inl e ↦ no_bit words n (ap (is_occupied words) (eq_is _ _ e) ∙ empty)
            | inr e ↦
                let one : length words ≡ 1 = f.only empty in
                let apart : n / 64 ≡ place → ⊥ = λ h. (let t : (n / 64 == place) ≡ true = eq_test _ _ h in cc) in
                past words n (omega arith)
          ]
    ])))

pub least_above_none : (up : Numbers) (words : List ℕ) → Marks up words → None ≡ slice_get up.members 0 → None ≡ slice_get (numbers_of words) 0
least_above_none up words m is =
    sym (ap (λ ms. slice_get ms 0) (none_of words (λ n. no_bit words n (sym (m.members (n / 64)) ∙ ap (λ ms. is_in ms (n / 64)) (none_first up.members (sym is))))))

one_more : (b : Bool) (k : ℕ) (ns ms : List ℕ) → length ms ≤ length ns → length (cond b (k ∷ ms) ms) ≤ length (k ∷ ns)
one_more true k ns ms h = omega arith
one_more false k ns ms h = omega arith

kept : (p : ℕ → Bool) (ns : List ℕ) → length (filter p ns) ≤ length ns
kept p [] = omega arith
kept p (k ∷ ns) = one_more (p k) k ns (filter p ns) (kept p ns)

-- no more members than bits
pub few_numbers : (words : List ℕ) → length (numbers_of words) ≤ 64 * length words
unfolding numbers_of
few_numbers words = omega (arith, kept (has_bit words) (range_with_len 0 (64 * length words)), length-range_with_len 0 (64 * length words))

pub least_is : (words : List ℕ) (place : ℕ) (r : Option ℕ) → IsFirstWord words place → MatchOption r (is_occupied words place ≡ false) (λ n. IsLeastIn words place n) → r ≡ slice_get (numbers_of words) 0
least_is words place None f h = least_none words place f h
least_is words place (Some n) f h = least_some words place n f h

-- new words
pub new_view : (bound count : ℕ) (words : List ℕ) → words ≡ replicate count 0 → record { bound = bound; members = numbers_of words } ≡ no_numbers bound
new_view bound count words is =
    let seen : List ℕ → Numbers = λ ms. record { bound = bound; members = ms } in
    ap seen (ap numbers_of is ∙ no_members count)

pub new_level : (count : ℕ) (words : List ℕ) (up : Numbers) → 1 < count → words ≡ replicate count 0 → up ≡ no_numbers count → Marks up words
new_level count words up several is empty =
    let size : length words ≡ count = ap length is ∙ length-replicate count 0 in
    subst (λ (v : Numbers). Marks v words) (sym empty) (record {
      several = omega arith;
      bound = sym size;
      set = refl;
      members = λ k. sym (ap (λ ws. is_occupied ws k) is ∙ empty_words count k);
    })
