-- The texts of a log in their block.
use Rattle.std.proofs.Common.{◌≡◌, ℕ, zero, suc, ◌+◌, ◌-◌, ◌<◌, ◌≤◌, List, [], ◌∷◌, ◌++◌, length, get_or, set, take, drop, Bool, inl, inr, refl, sym, ◌∙◌, ap, subst, arith, length-drop}
use Rattle.std.proofs.lemmas.List.{drop-take, length-take-le, take-append-le, drop_at, take-take, get_or_past, take_all}
use Rattle.std.proofs.lemmas.List.Sums.{sum_by-cons}
use Rattle.std.proofs.lemmas.Bool.{cases_lt}
use Rattle.std.proofs.lemmas.List.Elements.{All-filter, All-from_get_or, All-get_or}
use Rattle.std.specs.Prelude.{Result, Ok, Err, IsOk, is_ok, if◌then◌else◌, filter}
use Rattle.std.specs.List.{sum_by}
use Rattle.std.specs.Str.{IsUtf8}
use Rattle.name_region.specs.declared.log.Record.{Record}
use Rattle.name_region.specs.Log.{Stored, no_text, stored_at, text_len, stored_in, end_of, AreEnds}

pub length-stored_in : (start : ℕ) (rs : List Record) (block : List ℕ) → length (stored_in start rs block) ≡ length rs
length-stored_in start [] block = refl
length-stored_in start (r ∷ rs) block = ap suc (length-stored_in r.end rs block)

-- one text of the log
abbrev pub stored_as : ℕ → Record → List ℕ → Stored
stored_as start r block = record { key = r.key; text = take (r.end - start) (drop start block) }

pub get-stored_in : (start : ℕ) (rs : List Record) (block : List ℕ) (i : ℕ) (r : Record) (d : Stored) → i < length rs → r ≡ get_or rs i r → get_or (stored_in start rs block) i d ≡ stored_as (end_of start (take i rs)) r block
get-stored_in start [] block i r d within is = absurd (omega arith)
get-stored_in start (x ∷ rs) block zero r d within is = ap (λ (y : Record). stored_as start y block) (sym is)
get-stored_in start (x ∷ rs) block (suc i) r d within is = get-stored_in x.end rs block i r d (omega arith) is

pub stored_in-append : (start : ℕ) (xs ys : List Record) (block : List ℕ) → stored_in start (xs ++ ys) block ≡ stored_in start xs block ++ stored_in (end_of start xs) ys block
stored_in-append start [] ys block = refl
stored_in-append start (x ∷ xs) ys block = ap (λ ss. stored_as start x block ∷ ss) (stored_in-append x.end xs ys block)

pub stored_in-set : (start : ℕ) (rs : List Record) (block : List ℕ) (i : ℕ) (r d : Record) (e : Stored) → i < length rs → r.end ≡ (get_or rs i d).end → stored_in start (set rs i r) block ≡ set (stored_in start rs block) i (record (get_or (stored_in start rs block) i e) { key = r.key })
stored_in-set start [] block i r d e within same = absurd (omega arith)
stored_in-set start (x ∷ rs) block zero r d e within same = ap (λ n. record { key = r.key; text = take (n - start) (drop start block) } ∷ stored_in n rs block) same
stored_in-set start (x ∷ rs) block (suc i) r d e within same = ap (λ ss. stored_as start x block ∷ ss) (stored_in-set x.end rs block i r d e (omega arith) same)

-- ---- where texts end
pub end_of-append : (start : ℕ) (xs ys : List Record) → end_of start (xs ++ ys) ≡ end_of (end_of start xs) ys
end_of-append start [] ys = refl
end_of-append start (x ∷ xs) ys = end_of-append x.end xs ys

pub end_is : (start : ℕ) (rs : List Record) (size : ℕ) → AreEnds start rs size → end_of start rs ≡ size
end_is start [] size ends = ends
end_is start (r ∷ rs) size ends = end_is r.end rs size ends.1

pub ends_from : (start : ℕ) (rs : List Record) (size : ℕ) → AreEnds start rs size → start ≤ size
ends_from start [] size ends = omega arith
ends_from start (r ∷ rs) size ends = let rest = ends_from r.end rs size ends.1 in omega (arith, ends.0, rest)

pub ends-push : (start : ℕ) (rs : List Record) (size : ℕ) (r : Record) → AreEnds start rs size → size ≤ r.end → AreEnds start (rs ++ r ∷ []) r.end
ends-push start [] size r ends more = (omega arith, refl)
ends-push start (x ∷ rs) size r ends more = (ends.0, ends-push x.end rs size r ends.1 more)

pub ends-set : (start : ℕ) (rs : List Record) (size i : ℕ) (r d : Record) → i < length rs → r.end ≡ (get_or rs i d).end → AreEnds start rs size → AreEnds start (set rs i r) size
ends-set start [] size i r d within same ends = absurd (omega arith)
ends-set start (x ∷ rs) size zero r d within same ends = (omega (arith, same, ends.0), subst (λ n. AreEnds n rs size) (sym same) ends.1)
ends-set start (x ∷ rs) size (suc i) r d within same ends = (ends.0, ends-set x.end rs size i r d (omega arith) same ends.1)

-- where one of the texts begins and ends
pub record IsPlaced (start : ℕ) (rs : List Record) (size i : ℕ) (r : Record) : Type 0 where
  pub begins : start ≤ end_of start (take i rs)
  pub ends : end_of start (take i rs) ≤ r.end
  pub within : r.end ≤ size

pub placed : (start : ℕ) (rs : List Record) (size i : ℕ) (r : Record) → AreEnds start rs size → i < length rs → r ≡ get_or rs i r → IsPlaced start rs size i r
placed start [] size i r ends within is = absurd (omega arith)
placed start (x ∷ rs) size zero r ends within is =
    let same = ap (λ (y : Record). y.end) is in
    record { begins = omega arith; ends = omega (arith, same, ends.0); within = omega (arith, same, ends_from x.end rs size ends.1) }
placed start (x ∷ rs) size (suc i) r ends within is =
    let rest = placed x.end rs size i r ends.1 (omega arith) is in
    record { begins = omega (arith, rest.begins, ends.0); ends = rest.ends; within = rest.within }

-- ---- the block elsewhere
in_front : (start n size : ℕ) (block : List ℕ) → start + n ≤ size → take n (drop start (take size block)) ≡ take n (drop start block)
in_front start n size block within =
    sym (drop-take start n (take size block)) ∙ (ap (drop start) (take-take (start + n) size block within) ∙ drop-take start n block)

-- only what stands before the end of the last text counts
pub stored_in-same : (start : ℕ) (rs : List Record) (size : ℕ) (old new : List ℕ) → AreEnds start rs size → take size old ≡ take size new → stored_in start rs old ≡ stored_in start rs new
stored_in-same start [] size old new ends same = refl
stored_in-same start (r ∷ rs) size old new ends same =
    let from = ends_from r.end rs size ends.1 in
    let within : start + (r.end - start) ≤ size = omega (arith, ends.0, from) in
    let text : take (r.end - start) (drop start old) ≡ take (r.end - start) (drop start new) =
    sym (in_front start (r.end - start) size old within) ∙ (ap (λ b. take (r.end - start) (drop start b)) same ∙ in_front start (r.end - start) size new within) in
    ap (λ t. record { key = r.key; text = t } ∷ stored_in r.end rs old) text ∙ ap (λ ss. stored_as start r new ∷ ss) (stored_in-same r.end rs size old new ends.1 same)

-- the texts fill the block
pub size-stored_in : (start : ℕ) (rs : List Record) (block : List ℕ) → AreEnds start rs (length block) → start + sum_by text_len (stored_in start rs block) ≡ length block
size-stored_in start [] block ends = omega (arith, ends)
size-stored_in start (r ∷ rs) block ends =
    let rest = size-stored_in r.end rs block ends.1 in
    let last = ends_from r.end rs (length block) ends.1 in
    let here = length-take-le (r.end - start) (drop start block) (omega (arith, length-drop start block, last)) in
    let sum = sum_by-cons text_len (stored_as start r block) (stored_in r.end rs block) in
    omega (arith, rest, here, sum, ends.0)

-- a text more
pub stored_in-push : (rs : List Record) (block : List ℕ) (r : Record) (text : List ℕ) → AreEnds 0 rs (length block) → r.end ≡ length block + length text
    → stored_in 0 (rs ++ r ∷ []) (block ++ text) ≡ stored_in 0 rs block ++ record { key = r.key; text = text } ∷ []
stored_in-push rs block r text ends is =
    let start = end_is 0 rs (length block) ends in
    let n : r.end - length block ≡ length text = omega (arith, is) in
    let front = stored_in-same 0 rs (length block) (block ++ text) block ends (take-append-le (length block) block text (omega arith)) in
    let last : take (r.end - end_of 0 rs) (drop (end_of 0 rs) (block ++ text)) ≡ text =
    ap (λ s. take (r.end - s) (drop s (block ++ text))) start ∙ (ap (take (r.end - length block)) (drop_at block text (length block) refl) ∙ (ap (λ m. take m text) n ∙ take_all (length text) text (omega arith))) in
    stored_in-append 0 rs (r ∷ []) (block ++ text)
    ∙ (ap (λ ss. ss ++ stored_in (end_of 0 rs) (r ∷ []) (block ++ text)) front ∙ ap (λ t. stored_in 0 rs block ++ record { key = r.key; text = t } ∷ []) last)

-- ---- each text is UTF-8
abbrev pub AreTexts : List Stored → Type 0
AreTexts stored = (i : ℕ) → IsUtf8 (stored_at stored i).text

pub texts-push : (stored : List Stored) (s : Stored) → AreTexts stored → IsUtf8 s.text → AreTexts (stored ++ s ∷ [])
texts-push [] s old new zero = new
texts-push [] s old new (suc i) = old 0
texts-push (x ∷ stored) s old new zero = old 0
texts-push (x ∷ stored) s old new (suc i) = texts-push stored s (λ j. old (suc j)) new i

text-set : (stored : List Stored) (i j k : ℕ) → (stored_at (set stored i (record (stored_at stored i) { key = k })) j).text ≡ (stored_at stored j).text
text-set [] i j k = refl
text-set (x ∷ stored) zero zero k = refl
text-set (x ∷ stored) zero (suc j) k = refl
text-set (x ∷ stored) (suc i) zero k = refl
text-set (x ∷ stored) (suc i) (suc j) k = text-set stored i j k

pub texts-set : (stored : List Stored) (i k : ℕ) → AreTexts stored → AreTexts (set stored i (record (stored_at stored i) { key = k }))
texts-set stored i k old j = subst IsUtf8 (sym (text-set stored i j k)) (old j)

pub texts-filter : (p : Stored → Bool) (stored : List Stored) → AreTexts stored → AreTexts (filter p stored)
texts-filter p stored old i =
    let all = All-filter p (λ (s : Stored). IsUtf8 s.text) stored (All-from_get_or (λ (s : Stored). IsUtf8 s.text) stored no_text (λ j _. old j)) in
    elim (cases_lt i (length (filter p stored))) [
      | inl within ↦ All-get_or (λ (s : Stored). IsUtf8 s.text) (filter p stored) i no_text within all
      | inr past ↦
          subst (λ (s : Stored). IsUtf8 s.text) (sym (get_or_past (filter p stored) i no_text past))
          (subst (λ (s : Stored). IsUtf8 s.text) (get_or_past stored (length stored) no_text (omega arith)) (old (length stored)))
    ]

-- what a call leaves that succeeds
pub succeeded : {V E A : Type 0} (r : Result V E) (x y z : A) → IsOk r → z ≡ (if is_ok r then x else y) → z ≡ x
succeeded (Ok v) x y z ok is = is
succeeded (Err e) x y z ok is = cc
