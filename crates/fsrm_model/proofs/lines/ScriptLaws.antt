-- Laws of lines and of the text of their replies.
use Rattle.std.proofs.Common.{◌≡◌, ℕ, ◌+◌, ◌<◌, ◌≤◌, List, [], ◌∷◌, ◌++◌, length, take, refl, sym, ap, ◌∙◌, true, false, arith, append_assoc, inl, inr, Some}
use Rattle.std.specs.Prelude.{nat_lt, Err}
use Rattle.std.specs.List.{list_any}
use Rattle.std.proofs.lemmas.Bool.{lt-ltb, cases_lt}
use Rattle.std.proofs.lemmas.List.{take_all, length-take}
use Rattle.fsrm_model.specs.declared.row.Capacity.{Capacity}
use Rattle.fsrm_model.specs.declared.row.Rows.{Rows}
use Rattle.fsrm_model.specs.declared.command.Refusal.TheVariants.{LineTooLong}
use Rattle.fsrm_model.specs.lines.Line.{read_line}
use Rattle.fsrm_model.specs.lines.Script.{is_end, lines, onto_first, spelled_lines, AreLines, without_cr, replied, replied_to, text_from, fold_from, line_cost, read_cost, cost_from}
use Rattle.fsrm_base.proofs.TestLaws.{neither}

-- a line that has ended
pub lines_ended : (line rest : List ℕ) → list_any is_end line ≡ false → lines (line ++ 10 ∷ rest) ≡ line ∷ lines rest
lines_ended [] rest h = refl
lines_ended (byte ∷ line) rest h =
    let tests = neither (is_end byte) (list_any is_end line) h in
    rw tests.0 (ap (onto_first byte) (lines_ended line rest tests.1))

-- the last line, which has no LF
pub lines_last : (byte : ℕ) (line : List ℕ) → list_any is_end (byte ∷ line) ≡ false → lines (byte ∷ line) ≡ (byte ∷ line) ∷ []
lines_last byte [] h = rw (neither (is_end byte) false h).0 refl
lines_last byte (next ∷ line) h =
    let tests = neither (is_end byte) (list_any is_end (next ∷ line)) h in
    rw tests.0 (ap (onto_first byte) (lines_last next line tests.1))

-- whole lines in front
pub lines_spelled : (ended : List (List ℕ)) (rest : List ℕ) → AreLines ended → lines (spelled_lines ended ++ rest) ≡ ended ++ lines rest
lines_spelled [] rest each = refl
lines_spelled (line ∷ ended) rest each =
    ap lines (append_assoc line (10 ∷ spelled_lines ended) rest)
    ∙ lines_ended line (spelled_lines ended ++ rest) each.0
    ∙ ap (λ (ls : List (List ℕ)). line ∷ ls) (lines_spelled ended rest each.1)

pub spelled_lines-append : (xs ys : List (List ℕ)) → spelled_lines (xs ++ ys) ≡ spelled_lines xs ++ spelled_lines ys
spelled_lines-append [] ys = refl
spelled_lines-append (x ∷ xs) ys =
    ap (λ (bs : List ℕ). x ++ 10 ∷ bs) (spelled_lines-append xs ys)
    ∙ sym (append_assoc x (10 ∷ spelled_lines xs) (spelled_lines ys))

pub AreLines-append : (xs ys : List (List ℕ)) → AreLines xs → AreLines ys → AreLines (xs ++ ys)
AreLines-append [] ys p q = q
AreLines-append (x ∷ xs) ys p q = (p.0, AreLines-append xs ys p.1 q)

without_cr_long : (line : List ℕ) → length line ≤ length (without_cr line) + 1
without_cr_long [] = omega arith
without_cr_long (b ∷ []) = omega arith
without_cr_long (b ∷ c ∷ bs) = omega (arith, without_cr_long (c ∷ bs))

pub too_long : (line : List ℕ) → 65536 < length line → read_line line ≡ Some (Err LineTooLong)
unfolding read_line
too_long line h = let test : nat_lt 65536 (length line) ≡ true = lt-ltb 65536 (length line) h in rw test refl

-- two bytes more than a line may have tell that it is too long, one of which may be a CR
pub read_line-held : (line : List ℕ) → read_line (without_cr (take 65538 line)) ≡ read_line (without_cr line)
read_line-held line = elim (cases_lt 65537 (length line)) [
  | inl longer ↦
      let some = without_cr_long line in
      let front = without_cr_long (take 65538 line) in
      let taken = length-take 65538 line in
      too_long (without_cr (take 65538 line)) (omega arith) ∙ sym (too_long (without_cr line) (omega arith))
  | inr short ↦ ap (λ (bs : List ℕ). read_line (without_cr bs)) (take_all 65538 line (omega arith))
]

pub replied-held : (K : Capacity) (R : Rows) (number : ℕ) (line : List ℕ) → replied K R number (take 65538 line) ≡ replied K R number line
unfolding replied
replied-held K R number line = ap (replied_to K R number) (read_line-held line)

pub line_cost-held : (K : Capacity) (R : Rows) (line : List ℕ) → line_cost K R (take 65538 line) ≡ line_cost K R line
unfolding line_cost
line_cost-held K R line = ap (read_cost K R) (read_line-held line)

-- the replies to lines and to more lines
pub text_from-append : (K : Capacity) (R : Rows) (number : ℕ) (xs ys : List (List ℕ)) → text_from K R number (xs ++ ys) ≡ text_from K R number xs ++ text_from K (fold_from K R number xs) (number + length xs) ys
text_from-append K R number [] ys = ap (λ (n : ℕ). text_from K R n ys) (omega arith)
text_from-append K R number (x ∷ xs) ys =
    let r = replied K R number x in
    let more : (number + 1) + length xs ≡ number + length (x ∷ xs) = omega arith in
    ap (λ (ts : List ℕ). r.text ++ ts) (text_from-append K r.rows (number + 1) xs ys ∙ ap (λ (n : ℕ). text_from K r.rows (number + 1) xs ++ text_from K (fold_from K r.rows (number + 1) xs) n ys) more)
    ∙ sym (append_assoc r.text (text_from K r.rows (number + 1) xs) (text_from K (fold_from K R number (x ∷ xs)) (number + length (x ∷ xs)) ys))

pub fold_from-append : (K : Capacity) (R : Rows) (number : ℕ) (xs ys : List (List ℕ)) → fold_from K R number (xs ++ ys) ≡ fold_from K (fold_from K R number xs) (number + length xs) ys
fold_from-append K R number [] ys = ap (λ (n : ℕ). fold_from K R n ys) (omega arith)
fold_from-append K R number (x ∷ xs) ys =
    let r = replied K R number x in
    let more : (number + 1) + length xs ≡ number + length (x ∷ xs) = omega arith in
    fold_from-append K r.rows (number + 1) xs ys ∙ ap (λ (n : ℕ). fold_from K (fold_from K r.rows (number + 1) xs) n ys) more

-- and the looks at nodes that they may take
pub cost_from-append : (K : Capacity) (R : Rows) (number : ℕ) (xs ys : List (List ℕ)) → cost_from K R number (xs ++ ys) ≡ cost_from K R number xs + cost_from K (fold_from K R number xs) (number + length xs) ys
cost_from-append K R number [] ys =
    let e : number ≡ number + 0 = omega arith in
    let same : cost_from K R number ys ≡ cost_from K R (number + 0) ys = ap (λ (n : ℕ). cost_from K R n ys) e in
    same ∙ (let sum : cost_from K R (number + 0) ys ≡ 0 + cost_from K R (number + 0) ys = omega arith in sum)
cost_from-append K R number (x ∷ xs) ys =
    let r = replied K R number x in
    let more : (number + 1) + length xs ≡ number + length (x ∷ xs) = omega arith in
    omega (arith, cost_from-append K r.rows (number + 1) xs ys, ap (λ (n : ℕ). cost_from K (fold_from K r.rows (number + 1) xs) n ys) more)
