-- Single bytes after a write.
use Rattle.std.proofs.Common.{◌≡◌, ℕ, ◌+◌, ◌-◌, ◌≤◌, ◌<◌, List, [], ◌∷◌, ◌++◌, length, get_or, take, drop, sym, ◌∙◌, ap, arith, append_assoc, length-append, length-take}
use Rattle.std.proofs.lemmas.List.{get_or-append_right, get_or-drop, get_or-take, get_or_append_left}
use Rattle.fsrm_outside.specs.Changes.{over}
use Rattle.fsrm_journal.proofs.NextLaws.{gate_at}

-- the last byte that is written
pub over_last : (place : ℕ) (bytes old : List ℕ) (byte : ℕ) → place ≤ length old → get_or (over place (bytes ++ byte ∷ []) old) (place + length bytes) 0 ≡ byte
over_last place bytes old byte within =
    let front = take place old ++ bytes in
    let rest = drop (place + length (bytes ++ byte ∷ [])) old in
    let long : length front ≡ place + length bytes = omega (arith, length-append (take place old) bytes, length-take place old) in
    ap (λ (l : List ℕ). get_or l (place + length bytes) 0) (regroup (take place old) bytes byte rest) ∙ ap (λ (k : ℕ). get_or (front ++ byte ∷ rest) k 0) (sym long) ∙ gate_at front rest byte
  where
    regroup : (a b : List ℕ) (x : ℕ) (c : List ℕ) → (a ++ (b ++ x ∷ [])) ++ c ≡ (a ++ b) ++ x ∷ c
    regroup a b x c = simp append_assoc

-- a byte before what is written
pub over_before : (place : ℕ) (bytes old : List ℕ) (k : ℕ) → place ≤ length old → k < place → get_or (over place bytes old) k 0 ≡ get_or old k 0
over_before place bytes old k within before =
    let front = take place old in
    let rest = bytes ++ drop (place + length bytes) old in
    ap (λ (l : List ℕ). get_or l k 0) (append_assoc front bytes (drop (place + length bytes) old)) ∙ get_or_append_left front rest 0 k (omega (arith, before, within, length-take place old)) ∙ get_or-take place old k 0 before

-- a byte after it
pub over_after : (place : ℕ) (bytes old : List ℕ) (k : ℕ) → place ≤ length old → place + length bytes ≤ k → get_or (over place bytes old) k 0 ≡ get_or old k 0
over_after place bytes old k within after =
    let n = place + length bytes in
    let front = take place old ++ bytes in
    let back : n + (k - n) ≡ k = omega (arith, after) in
    get_or-append_right front (drop n old) n k 0 (omega (arith, within, length-append (take place old) bytes, length-take place old)) after ∙ get_or-drop n old (k - n) 0 ∙ ap (λ (i : ℕ). get_or old i 0) back
