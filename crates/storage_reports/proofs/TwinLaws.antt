-- Files whose slots are shared.
use Rattle.std.proofs.Common.{◌≡◌, ℕ, suc, ◌+◌, ◌<◌, ◌≤◌, ◌==◌, ◌&&◌, Bool, true, false, cond, inl, inr, List, [], ◌∷◌, length, map, filter, nat_lt, refl, sym, ◌∙◌, ap, subst, arith}
use Rattle.std.specs.Prelude.{◌%◌, ◌^◌, ◌||◌, if◌then◌else◌}
use Rattle.std.specs.List.{AllByRecursion}
use Rattle.std.proofs.lemmas.Slice.Eq.{bytes_eq-Decides}
use Rattle.fsrm_base.specs.Numbers.{is_in, with_number}
use Rattle.fsrm_base.proofs.NumberLaws.{in_with}
use Rattle.fsrm_base.proofs.TestLaws.{is_or_not, clash, eq_is, eq_same, ge_is, lt_is, and_false}
use Rattle.fsrm_model.specs.declared.row.Capacity.{Capacity}
use Rattle.fsrm_model.specs.declared.row.NodeRow.{NodeRow}
use Rattle.fsrm_model.specs.values.Space.{space}
use Rattle.fsrm_model.specs.reports.Files.{first_number}
use Rattle.fsrm_model.specs.reports.Reports.{alike, file_key, file_row, first_alike, has_double, length_of, same_file}
use Rattle.storage_reports.specs.declared.ranked.Ranked.{Ranked}
use Rattle.storage_reports.specs.Doubles.{AreLeft, Counts, Shares, count_in, may_double, mixed, once_more, slot_of, times}
use Rattle.storage_reports.specs.Files.{Fits}
use Rattle.storage_reports.specs.Marks.{bit}
use Rattle.number_set.specs.Numbers.{Numbers}
use Rattle.storage_reports.specs.Ranks.{twice_ranked}
use Rattle.storage_reports.proofs.ByNumber.{filter_same, filter_twice}
use Rattle.storage_reports.proofs.FileGroups.{part_count, part_sum}

everywhere : {X : Type 0} (P : X → Type 0) → ((x : X) → P x) → (xs : List X) → AllByRecursion P xs
everywhere P h [] = tt
everywhere P h (x ∷ xs) = (h x, everywhere P h xs)

fewer_pass : {X : Type 0} (p q : X → Bool) (xs : List X) → ((x : X) → p x ≡ true → q x ≡ true) → length (filter p xs) ≤ length (filter q xs)
fewer_pass p q [] h = omega arith
fewer_pass {X} p q (x ∷ xs) h = elim (is_or_not (p x)) [
  | inl t ↦ both (p x) (q x) t (h x t) (fewer_pass p q xs h)
  | inr f ↦ first (p x) (q x) f (fewer_pass p q xs h)
]
  where
    both : (a b : Bool) → a ≡ true → b ≡ true → length (filter p xs) ≤ length (filter q xs) → length (cond a (x ∷ filter p xs) (filter p xs)) ≤ length (cond b (x ∷ filter q xs) (filter q xs))
    both true true e g l = omega arith
    both true false e g l = absurd (cc)
    both false b e g l = absurd (cc)

    first : (a b : Bool) → a ≡ false → length (filter p xs) ≤ length (filter q xs) → length (cond a (x ∷ filter p xs) (filter p xs)) ≤ length (cond b (x ∷ filter q xs) (filter q xs))
    first true b e l = absurd (cc)
    first false true e l = omega arith
    first false false e l = omega arith

keys_same : (x y : NodeRow) → same_file x y ≡ true → file_key x ≡ file_key y
keys_same x y h = (bytes_eq-Decides (file_key x) (file_key y)).0 h

-- ---- the slots
more_times : (v r : ℕ) → 2 ≤ v + (1 + r) → 2 ≤ once_more v + r
more_times v r h = elim (is_or_not (nat_lt v 2)) [
  | inl t ↦ omega (arith, ap (λ b. cond b (v + 1) v) t)
  | inr f ↦ omega (arith, ap (λ b. cond b (v + 1) v) f, ge_is v 2 f)
]

again_shared : (e o s : Bool) → (e ≡ true → o ≡ true) → bit o + bit (e || s) ≡ (if e then once_more (bit o + bit s) else bit o + bit s)
again_shared true true true h = refl
again_shared true true false h = refl
again_shared true false s h = let t = h refl in absurd (cc)
again_shared false o s h = refl

newly_taken : (e o s : Bool) → (e ≡ true → o ≡ false) → bit (e || o) + bit s ≡ (if e then once_more (bit o + bit s) else bit o + bit s)
newly_taken true true s h = let t = h refl in absurd (cc)
newly_taken true false true h = refl
newly_taken true false false h = refl
newly_taken false o s h = refl

-- a slot that is taken again, and one that is taken for the first time
pub shared_again : (slot : ℕ) (taken shared new : Numbers) → is_in taken.members slot ≡ true → new ≡ (record shared { members = with_number slot shared.members }) → (n : ℕ) → times taken new n ≡ (if slot == n then once_more (times taken shared n) else times taken shared n)
shared_again slot taken shared new h e n =
    ap (λ (s : Numbers). times taken s n) e
    ∙ (ap (λ b. bit (is_in taken.members n) + bit b) (in_with slot n shared.members)
    ∙ again_shared (slot == n) (is_in taken.members n) (is_in shared.members n) (λ t. ap (is_in taken.members) (sym (eq_is slot n t)) ∙ h))

pub taken_first : (slot : ℕ) (taken shared new : Numbers) → is_in taken.members slot ≡ false → new ≡ (record taken { members = with_number slot taken.members }) → (n : ℕ) → times new shared n ≡ (if slot == n then once_more (times taken shared n) else times taken shared n)
taken_first slot taken shared new h e n =
    ap (λ (t : Numbers). times t shared n) e
    ∙ (ap (λ b. bit b + bit (is_in shared.members n)) (in_with slot n taken.members)
    ∙ newly_taken (slot == n) (is_in taken.members n) (is_in shared.members n) (λ t. ap (is_in taken.members) (sym (eq_is slot n t)) ∙ h))

pub counts_all : (slots : ℕ) (all left : List NodeRow) (taken shared : Numbers) → left ≡ all → Counts slots all left taken shared
counts_all slots all left taken shared e = record { each = λ n h. omega (arith, h, ap (count_in slots n) e) }

pub counts_more : (slots : ℕ) (all rest : List NodeRow) (x : NodeRow) (taken shared taken' shared' : Numbers) (s : ℕ) → s ≡ slot_of slots x → ((n : ℕ) → times taken' shared' n ≡ (if s == n then once_more (times taken shared n) else times taken shared n)) → Counts slots all (x ∷ rest) taken shared → Counts slots all rest taken' shared'
counts_more slots all rest x taken shared taken' shared' s is more c =
    record {
      each = λ n h. elim (is_or_not (slot_of slots x == n)) [
        | inl t ↦
            let one : count_in slots n (x ∷ rest) ≡ suc (count_in slots n rest) = ap (λ b. length (cond b (x ∷ own n) (own n))) t in
            let grown = more_times (times taken shared n) (count_in slots n rest) (omega (arith, c.each n h, one)) in
            let now : times taken' shared' n ≡ once_more (times taken shared n) = more n ∙ ap (λ b. cond b (once_more (times taken shared n)) (times taken shared n)) (ap (λ k. k == n) is ∙ t) in
            omega (arith, grown, now)
        | inr f ↦
            let one : count_in slots n (x ∷ rest) ≡ count_in slots n rest = ap (λ b. length (cond b (x ∷ own n) (own n))) f in
            let now : times taken' shared' n ≡ times taken shared n = more n ∙ ap (λ b. cond b (once_more (times taken shared n)) (times taken shared n)) (ap (λ k. k == n) is ∙ f) in
            omega (arith, c.each n h, one, now)
      ];
    }
  where
    own : ℕ → List NodeRow
    own n = filter (λ node. slot_of slots node == n) rest

both_times : (o s : Bool) → 2 ≤ bit o + bit s → s ≡ true
both_times o true h = refl
both_times true false h = absurd (omega arith)
both_times false false h = absurd (omega arith)

pub all_shared : (slots : ℕ) (all left : List NodeRow) (taken shared : Numbers) → left ≡ [] → shared.bound ≡ slots → Counts slots all left taken shared → Shares all shared
all_shared slots all left taken shared e is c =
    record {
      each = λ n h.
          let two : 2 ≤ count_in slots n all = subst (λ (k : ℕ). 2 ≤ count_in k n all) is h in
          both_times (is_in taken.members n) (is_in shared.members n) (omega (arith, c.each n two, ap (count_in slots n) e));
    }

-- ---- all files that have a double pass, and files that may be one pass together
module _ (all : List NodeRow) (shared : Numbers) (c : Shares all shared) where
  abbrev pub kept : List NodeRow
  kept = filter (may_double shared) all

  passes : (x : NodeRow) → has_double all x ≡ true → may_double shared x ≡ true
  passes x h =
      let slot = slot_of shared.bound x in
      let two : 1 < length (alike all x) = lt_is 1 _ h in
      let most = fewer_pass (same_file x) (λ y. slot_of shared.bound y == slot) all (λ y e. ap (λ (key : List ℕ). mixed 0 key % 2 ^ 32 % shared.bound == slot) (sym (keys_same x y e)) ∙ eq_same slot) in
      c.each slot (omega (arith, two, most))

  alike_kept : (x : NodeRow) → may_double shared x ≡ true → alike kept x ≡ alike all x
  alike_kept x h =
      filter_twice (same_file x) (may_double shared) all
      ∙ filter_same (λ y. may_double shared y && same_file x y) (same_file x) all (everywhere (λ y. (may_double shared y && same_file x y) ≡ same_file x y) each all)
    where
      each : (y : NodeRow) → (may_double shared y && same_file x y) ≡ same_file x y
      each y = elim (is_or_not (same_file x y)) [
        | inl e ↦ ap (λ b. b && same_file x y) (ap (λ (key : List ℕ). is_in shared.members (mixed 0 key % 2 ^ 32 % shared.bound)) (sym (keys_same x y e)) ∙ h)
        | inr f ↦ ap (λ b. may_double shared y && b) f ∙ (and_false (may_double shared y) ∙ sym f)
      ]

  module _ (K : Capacity) where
    abbrev pub row : List NodeRow → NodeRow → Ranked
    row files = twice_ranked length_of (first_alike files) (file_row K)

    map_cond : (f : NodeRow → Ranked) (b : Bool) (y : NodeRow) (ys : List NodeRow) → map f (cond b (y ∷ ys) ys) ≡ cond b (f y ∷ map f ys) (map f ys)
    map_cond f true y ys = refl
    map_cond f false y ys = refl

    -- so they have the same rows
    twins_among : (ys : List NodeRow) → map (row kept) (filter (has_double kept) (filter (may_double shared) ys)) ≡ map (row all) (filter (has_double all) ys)
    twins_among [] = refl
    twins_among (y ∷ ys) = at (may_double shared y) refl (twins_among ys)
      where
        of_alike : List NodeRow → List Ranked → List Ranked
        of_alike files rest = cond (nat_lt 1 (length files)) ((record { rank = y.length; second = first_number files; row = file_row K y }) ∷ rest) rest

        at : (b : Bool) → may_double shared y ≡ b → map (row kept) (filter (has_double kept) (filter (may_double shared) ys)) ≡ map (row all) (filter (has_double all) ys)
            → map (row kept) (filter (has_double kept) (cond b (y ∷ filter (may_double shared) ys) (filter (may_double shared) ys))) ≡ map (row all) (filter (has_double all) (y ∷ ys))
        at true e h =
            map_cond (row kept) (has_double kept y) y (filter (has_double kept) (filter (may_double shared) ys))
            ∙ (ap (of_alike (alike kept y)) h
            ∙ (ap (λ (files : List NodeRow). of_alike files (map (row all) (filter (has_double all) ys))) (alike_kept y e)
            ∙ sym (map_cond (row all) (has_double all y) y (filter (has_double all) ys))))
        at false e h = elim (is_or_not (has_double all y)) [
          | inl t ↦ absurd (clash _ (passes y t) e)
          | inr f ↦ h ∙ sym (ap (λ b. map (row all) (cond b (y ∷ filter (has_double all) ys) (filter (has_double all) ys))) f)
        ]

    pub twins : map (row kept) (filter (has_double kept) kept) ≡ map (row all) (filter (has_double all) all)
    twins = twins_among all

pub fits_part : (K : Capacity) (p : NodeRow → Bool) (files : List NodeRow) → Fits K files → Fits K (filter p files)
fits_part K p files f = record {
  few = omega (arith, f.few, part_count p files);
  lengths = omega (arith, f.lengths, part_sum (λ node. node.length) p files);
  alloc = omega (arith, f.alloc, part_sum (space K) p files);
}

pub fits_left : (K : Capacity) (all left : List NodeRow) → AreLeft all left → Fits K all → Fits K left
fits_left K all left l f = subst (Fits K) (sym l.are) (fits_part K (may_double l.shared) all f)

pub left_rows : (K : Capacity) (all left files : List NodeRow) → files ≡ left → AreLeft all left → map (twice_ranked length_of (first_alike files) (file_row K)) (filter (has_double files) files) ≡ map (twice_ranked length_of (first_alike all) (file_row K)) (filter (has_double all) all)
left_rows K all left files e l =
    ap (λ (fs : List NodeRow). map (twice_ranked length_of (first_alike fs) (file_row K)) (filter (has_double fs) fs)) (e ∙ l.are)
    ∙ twins all l.shared l.shares K
