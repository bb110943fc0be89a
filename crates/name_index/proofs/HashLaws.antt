-- Hashes of names: one for all spellings, and how that of a name of ASCII is found by its bytes.
use Rattle.std.proofs.Common.{◌≡◌, ℕ, zero, suc, ◌+◌, ◌-◌, ◌*◌, ◌/◌, ◌%◌, ◌^◌, ◌<◌, ◌≤◌, ◌==◌, ◌&&◌, Bool, true, List, [], ◌∷◌, ◌++◌, length, map, take, drop, get_or, replicate, bit_and, bit_or, inl, inr, refl, sym, ◌∙◌, ap, set, subst, arith, append_assoc, length-append, length-set}
use Rattle.std.specs.Char.{to_ascii_lowercase}
use Rattle.std.specs.Int.{w64, from_le_bytes}
use Rattle.std.specs.List.{fold}
use Rattle.std.specs.Simd.{first_chunks}
use Rattle.std.specs.Str.{IsAscii, IsUtf8}
use Rattle.std.proofs.lemmas.Bool.{and_parts, cases_eq, cases_lt}
use Rattle.std.proofs.lemmas.List.{get_or-drop, get_or-map, get_or_append_left, get_or_past, length-drop, length-map, length-replicate, length-take, take_all, take_more_set, append-nil}
use Rattle.std.proofs.Math.Seq.{get_or-append_right}
use Rattle.std.proofs.lemmas.List.Sums.{fold_more}
use Rattle.std.proofs.lemmas.Simd.{map-map}
use Rattle.std.proofs.lemmas.Slice.Eq.{bytes_eq-Decides}
use Rattle.std.proofs.lemmas.Str.{chars-IsAscii}
use Rattle.ucd_case.specs.CaseFolding.{simple_fold}
use Rattle.ucd_case.proofs.CaseFoldingLemmas.{simple_fold-ascii}
use Rattle.fsrm_base.proofs.TestLaws.{both, eq_is}
use Rattle.fsrm_model.specs.values.Name.{folded, same_name}
use Rattle.name_rules.proofs.Words.{ascii_word, word_at}
use Rattle.name_index.specs.Hash.{bytes_hash, hashed, last_eight, low_bits, name_hash, spread, stir, with_word, word_of}
use Rattle.name_index.proofs.WordLaws.{hash_alike, read_past, read_take, same_number}

-- two spellings of a name have one hash
pub one_hash : (folder : ℕ) (a b : List ℕ) → same_name a b ≡ true → name_hash folder a ≡ name_hash folder b
unfolding name_hash
one_hash folder a b same =
    let one : folded a ≡ folded b = (bytes_eq-Decides (folded a) (folded b)).0 same in
    ap (λ (cs : List ℕ). (bytes_hash (take 256 (map (λ c. c % 128) cs)) + folder * 0xd134_2543_de82_ef95) % 2 ^ 64 / 2 ^ 32) one

-- ---- what is hashed of a character of ASCII is the character but for its case: held against the definition at each one, by computing
unfoldable same_below : (ℕ → ℕ) → (ℕ → ℕ) → ℕ → Bool
same_below f g zero = true
same_below f g (suc n) = (f n == g n) && same_below f g n

same_at : (f g : ℕ → ℕ) (n : ℕ) → same_below f g n ≡ true → (b : ℕ) → b < n → f b ≡ g b
unfolding same_below
same_at f g zero h b l = absurd (omega (arith, l))
same_at f g (suc n) h b l =
    let two = both (f n == g n) (same_below f g n) h in
    elim (cases_eq b n) [ inl same ↦ rw same (eq_is (f n) (g n) two.0) | inr other ↦ same_at f g n two.1 b (omega (arith, l, other)) ]

lower_alike : (b : ℕ) → b < 128 → bit_or (to_ascii_lowercase b % 128) 32 ≡ bit_or b 32
unfolding same_below
lower_alike b l = same_at (λ b. bit_or (to_ascii_lowercase b % 128) 32) (λ b. bit_or b 32) 128 refl b l

low_is : (b : ℕ) → b < 128 → simple_fold b % 128 ≡ to_ascii_lowercase b % 128
low_is b l = ap (λ c. c % 128) (simple_fold-ascii b l)

pub ascii_hash : (name : List ℕ) → IsAscii name → length name ≤ 256 → bytes_hash name ≡ bytes_hash (hashed name)
ascii_hash name ascii few =
    let g = λ (c : ℕ). simple_fold c % 128 in
    let low : low_bits name ≡ map g name = ap (λ (cs : List ℕ). map (λ c. c % 128) (map simple_fold cs)) (chars-IsAscii name ascii) ∙ map-map (λ c. c % 128) simple_fold name in
    let long : length (map g name) ≡ length name = length-map name g in
    let all : hashed name ≡ map g name = ap (take 256) low ∙ take_all 256 (map g name) (omega (arith, few, long)) in
    let zero_low : g 0 ≡ 0 = low_is 0 (omega arith) in
    let read : (i : ℕ) → get_or (map g name) i 0 ≡ g (get_or name i 0) =
    λ i. elim (cases_lt i (length name)) [
      | inl inside ↦ get_or-map g name i 0 0 inside
      | inr past ↦ get_or_past (map g name) i 0 (omega (arith, past, long)) ∙ sym (ap g (get_or_past name i 0 past) ∙ zero_low)
    ] in
    hash_alike name (map g name) (sym long) (record {
      small = λ i. omega (arith, ascii i);
      small' = λ i. rw (read i) (omega arith);
      alike = λ i. sym (ap (λ v. bit_or v 32) (read i ∙ low_is (get_or name i 0) (ascii i)) ∙ lower_alike (get_or name i 0) (ascii i));
    })
    ∙ sym (ap bytes_hash all)

-- ---- the loop over words
small_part : (bytes : List ℕ) (from : ℕ) → ((i : ℕ) → get_or bytes i 0 < 256) → (i : ℕ) → get_or (take 8 (drop from bytes)) i 0 < 256
small_part bytes from small i =
    elim (cases_lt i 8) [
      | inl inside ↦ rw (read_take 8 (drop from bytes) i inside) (rw (get_or-drop from bytes i 0) (small (from + i)))
      | inr past ↦ rw (read_past 8 (drop from bytes) i past) (omega arith)
    ]

-- what is known when so many words are stirred in
pub record AreStirred (bytes : List ℕ) (done hash : ℕ) (ascii : Bool) : Type 0 where
  pub hash_is : hash ≡ fold with_word 0x9e37_79b9_7f4a_7c15 (take done (first_chunks 8 (length bytes / 8) bytes))
  pub ascii_so_far : ascii ≡ true → (i : ℕ) → i < 8 * done → get_or bytes i 0 < 128

pub none_stirred : (bytes : List ℕ) → AreStirred bytes 0 0x9e37_79b9_7f4a_7c15 true
none_stirred bytes = record { hash_is = refl; ascii_so_far = λ _ i l. absurd (omega (arith, l)) }

module _ (bytes : List ℕ) (small : (i : ℕ) → get_or bytes i 0 < 256) (done hash : ℕ) (ascii : Bool) (is : AreStirred bytes done hash ascii) where
  pub one_stirred : (chunk : List ℕ) (word hash' : ℕ) (here : Bool) → done < length bytes / 8 → length (first_chunks 8 (length bytes / 8) bytes) ≡ length bytes / 8
      → chunk ≡ get_or (first_chunks 8 (length bytes / 8) bytes) done [] → word ≡ from_le_bytes w64 chunk
      → hash' ≡ stir hash (bit_or word 0x2020_2020_2020_2020) → here ≡ (bit_and word 0x8080_8080_8080_8080 == 0) → AreStirred bytes (done + 1) hash' (ascii && here)
  one_stirred chunk word hash' here inside count at word_is stirred test =
      let chunks = first_chunks 8 (length bytes / 8) bytes in
      let part : chunk ≡ take 8 (drop (8 * done) bytes) = at ∙ word_at (length bytes / 8) bytes [] done inside in
      let rest : length (drop (8 * done) bytes) ≡ length bytes - 8 * done = length-drop (8 * done) bytes in
      let long : length chunk ≡ 8 = ap length part ∙ (length-take 8 (drop (8 * done) bytes) ∙ omega (arith, rest, inside)) in
      let more : fold with_word 0x9e37_79b9_7f4a_7c15 (take (done + 1) chunks) ≡ with_word (fold with_word 0x9e37_79b9_7f4a_7c15 (take done chunks)) (get_or chunks done []) =
      fold_more with_word 0x9e37_79b9_7f4a_7c15 chunks done [] (omega (arith, inside, count)) in
      let now : hash' ≡ with_word hash chunk = stirred ∙ ap (λ w. stir hash (bit_or w 0x2020_2020_2020_2020)) word_is in
      record {
        hash_is = now ∙ (ap (λ h. with_word h chunk) is.hash_is ∙ (ap (with_word (fold with_word 0x9e37_79b9_7f4a_7c15 (take done chunks))) at ∙ sym more));
        ascii_so_far = λ t i l.
            let two = and_parts ascii here t in
            elim (cases_lt i (8 * done)) [
              | inl before ↦ is.ascii_so_far two.0 i before
              | inr from ↦
                  let none : bit_and word 0x8080_8080_8080_8080 ≡ 0 = eq_is _ 0 (sym test ∙ two.1) in
                  let chunk_small : (j : ℕ) → get_or chunk j 0 < 256 = λ j. subst (λ (c : List ℕ). get_or c j 0 < 256) (sym part) (small_part bytes (8 * done) small j) in
                  let low = ascii_word chunk word long chunk_small word_is none (i - 8 * done) in
                  let place : 8 * done + (i - 8 * done) ≡ i = omega (arith, from) in
                  let read : get_or chunk (i - 8 * done) 0 ≡ get_or bytes i 0 =
                  ap (λ (c : List ℕ). get_or c (i - 8 * done) 0) part
                  ∙ (read_take 8 (drop (8 * done) bytes) (i - 8 * done) (omega (arith, from, l)) ∙ (get_or-drop (8 * done) bytes (i - 8 * done) 0 ∙ ap (λ k. get_or bytes k 0) place)) in
                  subst (λ v. v < 128) read low
            ];
      }

  -- when all are, and the last eight bytes
  pub all_stirred_hash : (last : List ℕ) (word hash' : ℕ) → length (first_chunks 8 (length bytes / 8) bytes) ≤ done → last ≡ drop (length bytes - 8) bytes → word ≡ from_le_bytes w64 last
      → hash' ≡ stir hash (spread (bit_or word 0x2020_2020_2020_2020)) → hash' ≡ bytes_hash bytes
  all_stirred_hash last word hash' all last_is word_is stirred =
      let chunks = first_chunks 8 (length bytes / 8) bytes in
      let front : hash ≡ fold with_word 0x9e37_79b9_7f4a_7c15 chunks = is.hash_is ∙ ap (fold with_word 0x9e37_79b9_7f4a_7c15) (take_all done chunks all) in
      let word_last : bit_or word 0x2020_2020_2020_2020 ≡ word_of (last_eight bytes) = ap (λ w. bit_or w 0x2020_2020_2020_2020) (word_is ∙ ap (from_le_bytes w64) last_is) in
      stirred ∙ (ap (stir hash) (ap spread word_last) ∙ ap (λ h. stir h (spread (word_of (last_eight bytes)))) front)

  pub all_stirred_ascii : (last : List ℕ) (word : ℕ) (here : Bool) → length bytes / 8 ≤ done → 8 ≤ length bytes → last ≡ drop (length bytes - 8) bytes → length last ≡ 8 → word ≡ from_le_bytes w64 last
      → here ≡ (bit_and word 0x8080_8080_8080_8080 == 0) → (ascii && here) ≡ true → IsAscii bytes
  all_stirred_ascii last word here all enough last_is long word_is test t i =
      let two = and_parts ascii here t in
      elim (cases_lt i (8 * done)) [
        | inl before ↦ is.ascii_so_far two.0 i before
        | inr from ↦
            let start = length bytes - 8 in
            let none : bit_and word 0x8080_8080_8080_8080 ≡ 0 = eq_is _ 0 (sym test ∙ two.1) in
            let last_small : (j : ℕ) → get_or last j 0 < 256 = λ j. subst (λ (c : List ℕ). get_or c j 0 < 256) (sym last_is) (rw (get_or-drop start bytes j 0) (small (start + j))) in
            let low = ascii_word last word long last_small word_is none (i - start) in
            let place : start + (i - start) ≡ i = omega (arith, from, all, enough) in
            let read : get_or last (i - start) 0 ≡ get_or bytes i 0 = ap (λ (c : List ℕ). get_or c (i - start) 0) last_is ∙ (get_or-drop start bytes (i - start) 0 ∙ ap (λ k. get_or bytes k 0) place) in
            subst (λ v. v < 128) read low
      ]

-- ---- fewer than eight bytes
module _ (bytes : List ℕ) (few : length bytes < 8) where
  pub few_hash : (word hash' : ℕ) → word ≡ from_le_bytes w64 bytes → hash' ≡ stir 0x9e37_79b9_7f4a_7c15 (spread (bit_or word 0x2020_2020_2020_2020)) → hash' ≡ bytes_hash bytes
  few_hash word hash' word_is stirred =
      let none : length bytes / 8 ≡ 0 = omega (arith, few) in
      let start : length bytes - 8 ≡ 0 = omega (arith, few) in
      let word_last : bit_or word 0x2020_2020_2020_2020 ≡ word_of (last_eight bytes) =
      ap (λ w. bit_or w 0x2020_2020_2020_2020) (word_is ∙ ap (λ k. from_le_bytes w64 (drop k bytes)) (sym start)) in
      stirred ∙ (ap (λ w. stir 0x9e37_79b9_7f4a_7c15 (spread w)) word_last ∙ ap (λ k. stir (fold with_word 0x9e37_79b9_7f4a_7c15 (first_chunks 8 k bytes)) (spread (word_of (last_eight bytes)))) (sym none))

  pub few_ascii : (word : ℕ) → ((i : ℕ) → get_or bytes i 0 < 256) → word ≡ from_le_bytes w64 bytes → bit_and word 0x8080_8080_8080_8080 ≡ 0 → IsAscii bytes
  few_ascii word small word_is none i =
      let padded = bytes ++ replicate (8 - length bytes) 0 in
      let same : (j : ℕ) → get_or padded j 0 ≡ get_or bytes j 0 = λ j. padded_read (8 - length bytes) j in
      let long : length padded ≡ 8 = length-append bytes (replicate (8 - length bytes) 0) ∙ omega (arith, few, length-replicate {A = ℕ} (8 - length bytes) 0) in
      subst (λ v. v < 128) (same i)
      (ascii_word padded word long (λ j. rw (same j) (small j)) (word_is ∙ sym (same_number padded bytes same)) none i)
    where
      zeros : (n j : ℕ) → get_or {A = ℕ} (replicate n 0) j 0 ≡ 0
      zeros zero j = refl
      zeros (suc n) zero = refl
      zeros (suc n) (suc j) = zeros n j

      padded_read : (n j : ℕ) → get_or (bytes ++ replicate n 0) j 0 ≡ get_or bytes j 0
      padded_read n j =
          elim (cases_lt j (length bytes)) [
            | inl inside ↦ get_or_append_left bytes (replicate n 0) 0 j inside
            | inr past ↦ get_or-append_right bytes (replicate n 0) j 0 past ∙ (zeros n (j - length bytes) ∙ sym (get_or_past bytes j 0 past))
          ]

-- ---- characters that are folded into bytes
pub record AreFolded (name : List ℕ) (done : ℕ) (bytes rest : List ℕ) : Type 0 where
  pub long : length bytes ≡ 256
  pub text : IsUtf8 rest
  pub so_far : hashed name ≡ take done bytes ++ take (256 - done) (low_bits rest)

pub none_folded : (name bytes : List ℕ) → length bytes ≡ 256 → IsUtf8 name → AreFolded name 0 bytes name
none_folded name bytes long text = record { long = long; text = text; so_far = refl }

module _ (name : List ℕ) (done : ℕ) (bytes rest : List ℕ) (is : AreFolded name done bytes rest) where
  pub one_folded : (byte : ℕ) (rest' : List ℕ) → done < 256 → IsUtf8 rest' → low_bits rest ≡ byte ∷ low_bits rest' → AreFolded name (done + 1) (set bytes done byte) rest'
  one_folded byte rest' inside text next =
      let left : 256 - done ≡ suc (256 - (done + 1)) = omega (arith, inside) in
      let front : take (done + 1) (set bytes done byte) ≡ take done bytes ++ byte ∷ [] = take_more_set bytes done byte (omega (arith, inside, is.long)) in
      record {
        long = length-set bytes done byte ∙ is.long;
        text = text;
        so_far =
            is.so_far
            ∙ (ap (λ (cs : List ℕ). take done bytes ++ take (256 - done) cs) next
            ∙ (ap (λ n. take done bytes ++ take n (byte ∷ low_bits rest')) left
            ∙ (sym (append_assoc (take done bytes) (byte ∷ []) (take (256 - (done + 1)) (low_bits rest')))
            ∙ ap (λ (f : List ℕ). f ++ take (256 - (done + 1)) (low_bits rest')) (sym front))));
      }

  pub ended : low_bits rest ≡ [] → take done bytes ≡ hashed name
  ended none =
      let nothing : take (256 - done) (low_bits rest) ≡ [] = ap (take (256 - done)) none ∙ take_nil (256 - done) in
      sym (is.so_far ∙ (ap (λ (cs : List ℕ). take done bytes ++ cs) nothing ∙ append-nil (take done bytes)))
    where
      take_nil : (n : ℕ) → take {A = ℕ} n [] ≡ []
      take_nil zero = refl
      take_nil (suc n) = refl

  pub full : 256 ≤ done → take 256 bytes ≡ hashed name
  full most =
      let left : 256 - done ≡ 0 = omega (arith, most) in
      let all : take done bytes ≡ bytes = take_all done bytes (omega (arith, most, is.long)) in
      take_all 256 bytes (omega (arith, is.long)) ∙ (sym all ∙ sym (is.so_far ∙ (ap (λ n. take done bytes ++ take n (low_bits rest)) left ∙ append-nil (take done bytes))))
