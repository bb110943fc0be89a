-- Texts after their length.
use Rattle.std.proofs.Common.{◌≡◌, ℕ, ◌+◌, ◌<◌, ◌≤◌, Bool, true, false, cond, ltb, List, [], ◌++◌, length, take, drop, Ok, Err, refl, sym, ap, subst, ◌∙◌, append_assoc, arith}
use Rattle.std.specs.Str.{is_utf8}
use Rattle.std.proofs.lemmas.Str.{is_utf8-from_IsUtf8, IsUtf8-nil}
use Rattle.std.proofs.lemmas.Bool.{ltb-false, ltb-true, lt-ltb, le-ltb}
use Rattle.std.proofs.lemmas.List.{take_at, drop_at, take-append-drop, take-append-le, drop-append-le, length-append, length-take}
use Rattle.byteorder.specs.Endian.{little_number}
use Rattle.byteorder.specs.Numbers.{little_from-append, little_number-reads_back, little_from-lt, length-bytes_low_first}
use Rattle.record_fields.specs.declared.flaw.Flaw.{Flaw}
use Rattle.record_fields.specs.declared.flaw.Flaw.TheVariants.{Truncated, Illegal}
use Rattle.record_fields.specs.Formats.{Read, number_spelled, text, text_at, text_rest, text_legal, text_spelled}
use Rattle.record_fields.specs.Laws.{Exact, AreBytes, IsField, Places, left_of}
use Rattle.record_fields.proofs.Reaching.{field_places}
use Rattle.fsrm_base.proofs.TestLaws.{both, both_true}
use Rattle.record_fields.proofs.NumberLaws.{width_2}

text_ok : (b c : Bool) (d f : Flaw) (x y : List ℕ × List ℕ) → cond b (Err d) (cond c (Ok x) (Err f)) ≡ Ok y → (b ≡ false) × (c ≡ true) × (x ≡ y)
text_ok true c d f x y e = absurd cc
text_ok false true d f x y e = (refl, refl, cc)
text_ok false false d f x y e = absurd cc

text_bad : (b c : Bool) (n m left : ℕ) (x : List ℕ × List ℕ) → cond b (Err (Truncated n)) (cond c (Ok x) (Err (Illegal m))) ≡ Err (Illegal left) → (b ≡ false) × (c ≡ false) × (m ≡ left)
text_bad true c n m left x e = absurd cc
text_bad false true n m left x e = absurd cc
text_bad false false n m left x e = (refl, refl, cc)

long_ok : (b : Bool) (d : Flaw) (r : Read (List ℕ)) (y : List ℕ × List ℕ) → cond b (Err d) r ≡ Ok y → (b ≡ false) × (r ≡ Ok y)
long_ok true d r y e = absurd cc
long_ok false d r y e = (refl, e)

long_bad : (b : Bool) (n left : ℕ) (r : Read (List ℕ)) → cond b (Err (Truncated n)) r ≡ Err (Illegal left) → (b ≡ false) × (r ≡ Err (Illegal left))
long_bad true n left r e = absurd cc
long_bad false n left r e = (refl, e)

text_again : (t rest : List ℕ) → text_legal t ≡ true → text_at (text_spelled t ++ rest) ≡ Ok (t, rest)
unfolding text_at text_spelled number_spelled
text_again t rest legal =
    let l = both (ltb (length t) 65536) (is_utf8 t) legal in
    let fits : length t < 65536 = ltb-true _ _ l.0 in
    let split : text_spelled t ++ rest ≡ number_spelled 2 (length t) ++ (t ++ rest) = append_assoc (number_spelled 2 (length t)) t rest in
    let n : little_number 2 (number_spelled 2 (length t) ++ (t ++ rest)) ≡ length t = little_number-reads_back 2 (length t) (t ++ rest) fits in
    let front : take (length t) (t ++ rest) ≡ t = take_at t rest (length t) refl in
    let back : drop (length t) (t ++ rest) ≡ rest = drop_at t rest (length t) refl in
    let long : ltb (length (t ++ rest)) (length t) ≡ false = le-ltb _ _ (omega (arith, length-append t rest)) in
    let ends : text_rest (text_spelled t ++ rest) (length t) (t ++ rest) ≡ Ok (t, rest) = rw (long, front, back, l.1) refl in
    let bytes = text_spelled t ++ rest in
    let outer : ltb (length bytes) 2 ≡ false = le-ltb _ _ (omega (arith, length-append (text_spelled t) rest, length-append (number_spelled 2 (length t)) t, length-bytes_low_first 0 2 (length t))) in
    let begin : drop 2 bytes ≡ t ++ rest = ap (drop 2) split ∙ drop_at (number_spelled 2 (length t)) (t ++ rest) 2 refl in
    ap (λ (b : Bool). cond b (Err (Truncated (length bytes))) (text_rest bytes (little_number 2 bytes) (drop 2 bytes))) outer
    ∙ ap (λ (k : ℕ). text_rest bytes k (drop 2 bytes)) (ap (little_number 2) split ∙ n)
    ∙ ap (λ (r : List ℕ). text_rest bytes (length t) r) begin ∙ ends

text_takes : (bytes t rest : List ℕ) → AreBytes bytes → text_at bytes ≡ Ok (t, rest) → (text_legal t ≡ true) × (bytes ≡ text_spelled t ++ rest)
unfolding text_at text_spelled number_spelled
text_takes bytes t rest h e =
    let n = little_number 2 bytes in
    let a = long_ok (ltb (length bytes) 2) (Truncated (length bytes)) (text_rest bytes n (drop 2 bytes)) (t, rest) e in
    let b = text_ok (ltb (length (drop 2 bytes)) n) (is_utf8 (take n (drop 2 bytes))) (Truncated (length bytes)) (Illegal (length bytes)) (take n (drop 2 bytes), drop n (drop 2 bytes)) (t, rest) a.1 in
    let long : 2 ≤ length bytes = ltb-false _ _ a.0 in
    let more : n ≤ length (drop 2 bytes) = ltb-false _ _ b.0 in
    let size : length (take n (drop 2 bytes)) ≡ n = omega (arith, length-take n (drop 2 bytes)) in
    let fits : n < 65536 = little_from-lt 0 2 bytes h in
    let legal : text_legal (take n (drop 2 bytes)) ≡ true = both_true _ _ (lt-ltb _ _ (omega (arith, size, fits))) b.1 in
    let front : bytes ≡ number_spelled 2 n ++ drop 2 bytes = sym (take-append-drop 2 bytes) ∙ ap (λ (x : List ℕ). x ++ drop 2 bytes) (sym (width_2.back bytes long h)) in
    let parts : bytes ≡ (number_spelled 2 n ++ take n (drop 2 bytes)) ++ drop n (drop 2 bytes) = front ∙ ap (λ (x : List ℕ). number_spelled 2 n ++ x) (sym (take-append-drop n (drop 2 bytes))) ∙ sym (append_assoc (number_spelled 2 n) (take n (drop 2 bytes)) (drop n (drop 2 bytes))) in
    let sized : bytes ≡ text_spelled (take n (drop 2 bytes)) ++ drop n (drop 2 bytes) = parts ∙ ap (λ (k : ℕ). (number_spelled 2 k ++ take n (drop 2 bytes)) ++ drop n (drop 2 bytes)) (sym size) in
    subst (λ (x : List ℕ × List ℕ). (text_legal x.0 ≡ true) × (bytes ≡ text_spelled x.0 ++ x.1)) b.2 (legal, sized)

text_wrong : (bytes more : List ℕ) (left : ℕ) → AreBytes bytes → text_at bytes ≡ Err (Illegal left) → text_at (bytes ++ more) ≡ Err (Illegal (left + length more))
unfolding text_at text_spelled number_spelled
text_wrong bytes more left h e =
    let n = little_number 2 bytes in
    let a = long_bad (ltb (length bytes) 2) (length bytes) left (text_rest bytes n (drop 2 bytes)) e in
    let b = text_bad (ltb (length (drop 2 bytes)) n) (is_utf8 (take n (drop 2 bytes))) (length bytes) (length bytes) left (take n (drop 2 bytes), drop n (drop 2 bytes)) a.1 in
    let long : 2 ≤ length bytes = ltb-false _ _ a.0 in
    let wide : n ≤ length (drop 2 bytes) = ltb-false _ _ b.0 in
    let long' : ltb (length (bytes ++ more)) 2 ≡ false = le-ltb _ _ (omega (arith, length-append bytes more)) in
    let number' : little_number 2 (bytes ++ more) ≡ n = little_from-append 2 bytes more long in
    let after : drop 2 (bytes ++ more) ≡ drop 2 bytes ++ more = drop-append-le 2 bytes more long in
    let wide' : ltb (length (drop 2 bytes ++ more)) n ≡ false = le-ltb _ _ (omega (arith, length-append (drop 2 bytes) more)) in
    let front : take n (drop 2 bytes ++ more) ≡ take n (drop 2 bytes) = take-append-le n (drop 2 bytes) more wide in
    let size : length (bytes ++ more) ≡ left + length more = omega (arith, length-append bytes more, b.2) in
    rw (long', number', after, wide', front, b.1, size) refl

pub text_exact : Exact text
text_exact = record { again = text_again; takes = text_takes; illegal = text_wrong }

text_flaw : (b c d : Bool) (n : ℕ) (x : List ℕ × List ℕ) (flaw : Flaw) → cond b (Err (Truncated n)) (cond c (Err (Truncated n)) (cond d (Ok x) (Err (Illegal n)))) ≡ Err flaw → left_of flaw ≡ n
text_flaw true c d n x flaw e = let is : Truncated n ≡ flaw = cc in ap left_of (sym is)
text_flaw false true d n x flaw e = let is : Truncated n ≡ flaw = cc in ap left_of (sym is)
text_flaw false false true n x flaw e = absurd cc
text_flaw false false false n x flaw e = let is : Illegal n ≡ flaw = cc in ap left_of (sym is)

text_first : (bytes : List ℕ) (flaw : Flaw) → text_at bytes ≡ Err flaw → left_of flaw ≡ length bytes
unfolding text_at
text_first bytes flaw e =
    let n = little_number 2 bytes in
    let rest = drop 2 bytes in
    text_flaw (ltb (length bytes) 2) (ltb (length rest) n) (is_utf8 (take n rest)) (length bytes) (take n rest, drop n rest) flaw e

pub text_field : IsField text
text_field = record { one = λ t. refl; first = text_first }

pub text_places : Places text
text_places = field_places text text_exact text_field [] (is_utf8-from_IsUtf8 [] IsUtf8-nil)
