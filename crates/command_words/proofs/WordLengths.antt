-- How the length of a word goes on after its plain bytes and after its quotes.
use Rattle.std.proofs.Common.{◌≡◌, ℕ, suc, ◌+◌, ◌-◌, ◌<◌, ◌≤◌, Bool, true, false, cond, List, [], ◌∷◌, length, drop, refl, sym, ap, ◌∙◌, arith, zero-add, get_or, take, subst}
use Rattle.std.proofs.lemmas.List.{drop-drop, length-drop, take_rest}
use Rattle.std.proofs.lemmas.List.Sums.{prefix_len-le-length}
use Rattle.std.proofs.Math.Seq.{drop-cons}
use Rattle.std.specs.Prelude.{not, ◌&&◌, ◌||◌}
use Rattle.std.specs.List.{prefix_len}
use Rattle.fsrm_model.specs.lines.Words.{is_blank, is_quote}
use Rattle.command_words.specs.Lengths.{is_plain, word_length, quoted_length}
use Rattle.fsrm_base.proofs.TestLaws.{and_false}

-- neither passes
pub neither : (a b : Bool) → not (a || b) ≡ true → (a ≡ false) × (b ≡ false)
neither true b h = absurd cc
neither false true h = absurd cc
neither false false h = (refl, refl)

-- after plain bytes
pub word_length-plain : (text : List ℕ) → word_length false text ≡ prefix_len is_plain text + word_length false (drop (prefix_len is_plain text) text)
word_length-plain [] = refl
word_length-plain (b ∷ bs) = at (is_plain b) refl (word_length-plain bs)
  where
    at : (plain : Bool) → is_plain b ≡ plain → word_length false bs ≡ prefix_len is_plain bs + word_length false (drop (prefix_len is_plain bs) bs)
        → word_length false (b ∷ bs) ≡ cond plain (1 + prefix_len is_plain bs) 0 + word_length false (drop (cond plain (1 + prefix_len is_plain bs) 0) (b ∷ bs))
    at false e ih = sym (zero-add (word_length false (b ∷ bs)))
    at true e ih =
        let tests : (is_blank b ≡ false) × (is_quote b ≡ false) = neither (is_blank b) (is_quote b) e in
        let one : 1 + prefix_len is_plain bs ≡ suc (prefix_len is_plain bs) = omega arith in
        rw (one, tests.0, tests.1) (omega (arith, ih))

-- after the quote that ends what stands within quotes
pub word_length-quoted : (text : List ℕ) → word_length true text ≡ quoted_length text + word_length false (drop (quoted_length text) text)
word_length-quoted [] = refl
word_length-quoted (b ∷ bs) = at (is_quote b) refl (word_length-quoted bs)
  where
    at : (quote : Bool) → is_quote b ≡ quote → word_length true bs ≡ quoted_length bs + word_length false (drop (quoted_length bs) bs)
        → word_length true (b ∷ bs) ≡ quoted_length (b ∷ bs) + word_length false (drop (quoted_length (b ∷ bs)) (b ∷ bs))
    at true e ih =
        let one : quoted_length (b ∷ bs) ≡ 1 = rw e (omega arith) in
        rw (one, and_false (is_blank b), e) (omega arith)
    at false e ih =
        let more : quoted_length (b ∷ bs) ≡ suc (quoted_length bs) = rw e (omega arith) in
        rw (more, and_false (is_blank b), e) (omega (arith, ih))

-- a quote opens what stands within quotes

pub word_length-le-length : (quoted : Bool) (text : List ℕ) → word_length quoted text ≤ length text
word_length-le-length quoted [] = omega arith
word_length-le-length quoted (b ∷ bs) = at (is_blank b && not quoted) (word_length-le-length (cond (is_quote b) (not quoted) quoted) bs)
  where
    at : (end : Bool) → word_length (cond (is_quote b) (not quoted) quoted) bs ≤ length bs → cond end 0 (suc (word_length (cond (is_quote b) (not quoted) quoted) bs)) ≤ suc (length bs)
    at true h = omega arith
    at false h = omega arith

-- after plain bytes stands no plain byte
pub prefix_len-after : (p : ℕ → Bool) (text : List ℕ) → prefix_len p (drop (prefix_len p text) text) ≡ 0
prefix_len-after p [] = refl
prefix_len-after p (b ∷ bs) = at (p b) refl (prefix_len-after p bs)
  where
    at : (passes : Bool) → p b ≡ passes → prefix_len p (drop (prefix_len p bs) bs) ≡ 0 → prefix_len p (drop (cond passes (1 + prefix_len p bs) 0) (b ∷ bs)) ≡ 0
    at false e ih = rw e refl
    at true e ih = let one : 1 + prefix_len p bs ≡ suc (prefix_len p bs) = omega arith in rw one ih

-- one turn of the search for a word's end
pub record Turn (text : List ℕ) (place next : ℕ) : Type 0 where
  pub within : next ≤ length text
  pub word : place + word_length false (drop place text) ≡ next + word_length false (drop next text)
  pub marked : prefix_len is_plain (drop next text) ≡ 0

pub turn : (text : List ℕ) (place quoted plain : ℕ) → place < length text → get_or text place 0 ≡ 34
    → quoted ≡ quoted_length (take (length text - (place + 1)) (drop (place + 1) text))
    → plain ≡ prefix_len is_plain (take (length text - (place + 1 + quoted)) (drop (place + 1 + quoted) text))
    → Turn text place (place + 1 + quoted + plain)
turn text place quoted plain within quote quoted_is plain_is =
    let bs : List ℕ = drop (suc place) text in
    let here : drop place text ≡ 34 ∷ drop (suc place) text = drop-cons text place 0 within ∙ ap (λ (b : ℕ). b ∷ drop (suc place) text) quote in
    let one : place + 1 ≡ suc place = omega arith in
    let quoted_len : quoted ≡ quoted_length (drop (suc place) text) = quoted_is ∙ ap quoted_length (take_rest text (place + 1)) ∙ ap (λ (k : ℕ). quoted_length (drop k text)) one in
    let plain_len : plain ≡ prefix_len is_plain (drop (place + 1 + quoted) text) = plain_is ∙ ap (prefix_len is_plain) (take_rest text (place + 1 + quoted)) in
    let after_quotes : drop quoted (drop (suc place) text) ≡ drop (place + 1 + quoted) text = drop-drop quoted (suc place) text ∙ (let k : suc place + quoted ≡ place + 1 + quoted = omega arith in ap (λ (k : ℕ). drop k text) k) in
    let after_all : drop plain (drop (place + 1 + quoted) text) ≡ drop (place + 1 + quoted + plain) text = drop-drop plain (place + 1 + quoted) text in
    record {
      within =
          let a = length-drop (suc place) text in
          let b = length-drop (place + 1 + quoted) text in
          omega (arith, prefix_len-le-length is_plain (drop (place + 1 + quoted) text));
      word =
          let a : word_length false (drop place text) ≡ suc (word_length true (drop (suc place) text)) = ap (word_length false) here in
          let b : word_length true (drop (suc place) text) ≡ quoted + word_length false (drop quoted (drop (suc place) text)) = rw quoted_len (word_length-quoted (drop (suc place) text)) in
          let c : word_length false (drop (place + 1 + quoted) text) ≡ plain + word_length false (drop plain (drop (place + 1 + quoted) text)) = rw plain_len (word_length-plain (drop (place + 1 + quoted) text)) in
          let d = ap (word_length false) after_quotes in
          let e = ap (word_length false) after_all in
          omega arith;
      marked = subst (λ (rest : List ℕ). prefix_len is_plain rest ≡ 0) after_all (rw plain_len (prefix_len-after is_plain (drop (place + 1 + quoted) text)));
    }

-- where the search begins
pub first_turn : (text : List ℕ) (plain : ℕ) → plain ≡ prefix_len is_plain text → (plain ≤ length text) × (word_length false text ≡ plain + word_length false (drop plain text)) × (prefix_len is_plain (drop plain text) ≡ 0)
first_turn text plain e = rw e (prefix_len-le-length is_plain text, word_length-plain text, prefix_len-after is_plain text)
