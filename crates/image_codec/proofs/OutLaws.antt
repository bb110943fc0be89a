-- What a writer of an image has written, and what it has still to write.
use Rattle.std.proofs.Common.{◌≡◌, ℕ, suc, ◌+◌, ◌-◌, ◌≤◌, ◌<◌, List, [], ◌∷◌, ◌++◌, length, get_or, take, drop, sym, ap, ◌∙◌, append_assoc, arith, ◌⊎◌, inl, inr}
use Rattle.std.specs.Prelude.{min, map}
use Rattle.std.proofs.lemmas.Bool.{cases_lt}
use Rattle.std.proofs.lemmas.List.{take_all, drop_all, drop-drop, drop-take, nil_from_length, get_or-map, length-map, length-append, length-take, take-append-drop}
use Rattle.std.proofs.Math.Seq.{take-append-add, drop-cons}
use Rattle.record_fields.specs.Writers.{Writes}

-- an item of a list, and those after it
pub map_at : {X Y : Type 0} (f : X → Y) (xs : List X) (i : ℕ) (x : X) → i < length xs → x ≡ get_or xs i x → drop i (map f xs) ≡ f x ∷ drop (i + 1) (map f xs)
map_at f xs i x inside is =
    let there : get_or (map f xs) i (f x) ≡ f x = get_or-map f xs i x (f x) inside ∙ ap f (sym is) in
    let later : suc i ≡ i + 1 = omega arith in
    drop-cons (map f xs) i (f x) (omega (arith, length-map xs f)) ∙ ap (λ y. y ∷ drop (suc i) (map f xs)) there ∙ ap (λ (n : ℕ). f x ∷ drop n (map f xs)) later

-- how far a writer comes
written_end : (old new bytes : List ℕ) (at end : ℕ) → at ≤ length old → Writes old at new end bytes → end ≡ min (length old) (at + length bytes)
written_end old new bytes at end place w =
    omega (arith, w.within, ap length w.text, length-take end new, length-take (length old) (take at old ++ bytes), length-append (take at old) bytes, length-take at old)

-- what it writes of the bytes
pub written_part : (old new bytes : List ℕ) (at end : ℕ) → at ≤ length old → Writes old at new end bytes → take end new ≡ take at old ++ take (end - at) bytes
written_part old new bytes at end place w =
    let front : length (take at old) ≡ at = omega (arith, length-take at old) in
    let so_far : end ≡ min (length old) (at + length bytes) = written_end old new bytes at end place w in
    elim (cases_lt end (length old)) [
      | inl lt ↦
          w.text ∙ take_all (length old) (take at old ++ bytes) (omega (arith, length-append (take at old) bytes))
          ∙ ap (λ (b : List ℕ). take at old ++ b) (sym (take_all (end - at) bytes (omega arith)))
      | inr le ↦
          let parts : length old ≡ length (take at old) + (end - at) = omega (arith, w.onward) in
          w.text ∙ ap (λ (n : ℕ). take n (take at old ++ bytes)) parts ∙ take-append-add (take at old) bytes (end - at)
    ]

-- it leaves none out if there is still room
pub written_whole : (old new bytes : List ℕ) (at end : ℕ) → at ≤ length old → Writes old at new end bytes → end < length new → drop (end - at) bytes ≡ []
written_whole old new bytes at end place w room =
    drop_all (end - at) bytes (omega (arith, written_end old new bytes at end place w, w.room))

-- one more piece: of all there is, so much is done, then a piece comes, and then the rest
pub step_on : (all before left piece rest after cut : List ℕ) → all ≡ before ++ left → left ≡ piece ++ rest → before ++ piece ≡ after ++ cut → all ≡ after ++ (cut ++ rest)
step_on all before left piece rest after cut so_far next wrote =
    so_far ∙ ap (λ (b : List ℕ). before ++ b) next ∙ sym (append_assoc before piece rest) ∙ ap (λ (b : List ℕ). b ++ rest) wrote ∙ append_assoc after cut rest

-- a buffer is full, or nothing is left
pub filled : (into all left : List ℕ) (end : ℕ) → end ≤ length into → all ≡ take end into ++ left → (length into ≤ end) ⊎ (left ≡ []) → end ≡ min (length into) (length all)
filled into all left end within so_far (inl full) = omega (arith, within, full, ap length so_far, length-append (take end into) left, length-take end into)
filled into all left end within so_far (inr none) = omega (arith, within, ap length none, ap length so_far, length-append (take end into) left, length-take end into)

-- ---- a piece that is written at a place, in two parts
pub put_parts : (old new piece : List ℕ) (at end : ℕ) → at ≤ length old → Writes old at new end piece → take at old ++ piece ≡ take end new ++ drop (end - at) piece
put_parts old new piece at end place w =
    ap (λ (b : List ℕ). take at old ++ b) (sym (take-append-drop (end - at) piece)) ∙ sym (append_assoc (take at old) (take (end - at) piece) (drop (end - at) piece))
    ∙ ap (λ (b : List ℕ). b ++ drop (end - at) piece) (sym (written_part old new piece at end place w))

-- what had no room is what is kept of the row
pub put_cut : (old new piece row : List ℕ) (at end till : ℕ) → at ≤ length old → Writes old at new end piece → take till row ≡ piece → take at old ++ piece ≡ take end new ++ drop (end - at) (take till row)
put_cut old new piece row at end till place w is = put_parts old new piece at end place w ∙ ap (λ (b : List ℕ). take end new ++ drop (end - at) b) (sym is)

-- all had room
pub put_whole : (old new piece cut : List ℕ) (at end : ℕ) → at ≤ length old → Writes old at new end piece → end < length new → cut ≡ [] → take at old ++ piece ≡ take end new ++ cut
put_whole old new piece cut at end place w room none =
    put_parts old new piece at end place w ∙ ap (λ (b : List ℕ). take end new ++ b) (written_whole old new piece at end place w room ∙ sym none)

-- ---- what is kept of a row, written at the front
kept_is : (row held : List ℕ) (from till : ℕ) → held ≡ row → from ≤ till → drop from (take till row) ≡ take (till - from) (drop from held)
kept_is row held from till same le =
    let parts : till ≡ from + (till - from) = omega arith in
    ap (λ (n : ℕ). drop from (take n row)) parts ∙ drop-take from (till - from) row ∙ ap (λ (b : List ℕ). take (till - from) (drop from b)) (sym same)

kept_later : (row held : List ℕ) (from till end : ℕ) → held ≡ row → from ≤ till → drop (from + end) (take till row) ≡ drop end (take (till - from) (drop from held))
kept_later row held from till end same le = sym (drop-drop end from (take till row)) ∙ ap (drop end) (kept_is row held from till same le)

pub kept_on : (old new row held : List ℕ) (from till end : ℕ) → held ≡ row → from ≤ till → Writes old 0 new end (take (till - from) (drop from held)) → drop from (take till row) ≡ take end new ++ drop (from + end) (take till row)
kept_on old new row held from till end same le w =
    let bytes = take (till - from) (drop from held) in
    let all : end - 0 ≡ end = omega arith in
    kept_is row held from till same le ∙ put_parts old new bytes 0 end (omega arith) w
    ∙ ap (λ (n : ℕ). take end new ++ drop n bytes) all ∙ ap (λ (b : List ℕ). take end new ++ b) (sym (kept_later row held from till end same le))

pub kept_whole : (old new row held : List ℕ) (from till end : ℕ) → held ≡ row → from ≤ till → Writes old 0 new end (take (till - from) (drop from held)) → end < length new → drop (from + end) (take till row) ≡ []
kept_whole old new row held from till end same le w room =
    let bytes = take (till - from) (drop from held) in
    let all : end ≡ end - 0 = omega arith in
    kept_later row held from till end same le ∙ ap (λ (n : ℕ). drop n bytes) all ∙ written_whole old new bytes 0 end (omega arith) w room

pub nothing_after : (a b : List ℕ) → a ++ b ≡ [] → b ≡ []
nothing_after a b none = nil_from_length b (omega (arith, length-append a b, ap length none))
