-- Bytes that were read ahead.
use Rattle.std.proofs.Common.{◌≡◌, ℕ, ◌+◌, ◌-◌, ◌≤◌, List, [], ◌++◌, length, take, drop, refl, sym, ◌∙◌, ap, subst, arith, length-take}
use Rattle.std.proofs.lemmas.List.{take_all, take-take, take-append-le, drop-drop, drop-take}
use Rattle.fsrm_journal.specs.Ahead.{StandThere}

-- none
pub none_there : (half : List ℕ) (place : ℕ) (bytes : List ℕ) → bytes ≡ [] → StandThere half place bytes
none_there half place bytes none = subst (StandThere half place) (sym none) refl

-- what was read from there on
pub read_there : (half : List ℕ) (place : ℕ) (bytes : List ℕ) (n : ℕ) → bytes ≡ take n (drop place half) → StandThere half place bytes
read_there half place bytes n is =
    let few : length bytes ≤ n = omega (arith, ap length is, length-take n (drop place half)) in
    sym (take_all (length bytes) bytes (omega arith)) ∙ ap (take (length bytes)) is ∙ take-take (length bytes) n (drop place half) few

-- those after the first ones
pub rest_there : (half : List ℕ) (place : ℕ) (bytes : List ℕ) (n : ℕ) → StandThere half place bytes → n ≤ length bytes → StandThere half (place + n) (drop n bytes)
rest_there half place bytes n s few =
    let l = drop place half in
    let rest = length bytes - n in
    let is : n + rest ≡ length bytes = omega arith in
    let same : drop n bytes ≡ take rest (drop (place + n) half) =
    ap (drop n) s ∙ ap (λ (m : ℕ). drop n (take m l)) (sym is) ∙ drop-take n rest l ∙ ap (take rest) (drop-drop n place half) in
    read_there half (place + n) (drop n bytes) rest same

-- some in their middle
pub inner_there : (half : List ℕ) (place : ℕ) (bytes : List ℕ) (from n : ℕ) → StandThere half place bytes → from + n ≤ length bytes → take n (drop from bytes) ≡ take n (drop (place + from) half)
inner_there half place bytes from n s few =
    let l = drop place half in
    let rest = length bytes - from in
    let is : from + rest ≡ length bytes = omega arith in
    ap (λ (m : List ℕ). take n (drop from m)) s ∙ ap (λ (m : ℕ). take n (drop from (take m l))) (sym is) ∙ ap (take n) (drop-take from rest l) ∙ take-take n rest (drop from l) (omega (arith, is, few)) ∙ ap (take n) (drop-drop from place half)

-- the front of a buffer
pub front_read : (count m : ℕ) (xs ys : List ℕ) → count ≤ length xs → count ≤ m → take count (take m (xs ++ ys)) ≡ take count xs
front_read count m xs ys few most = take-take count m (xs ++ ys) most ∙ take-append-le count xs ys few
