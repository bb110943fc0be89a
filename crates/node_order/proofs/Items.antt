-- Lists with the same items, and lists in order.
use Rattle.std.proofs.Common.{◌≡◌, ℕ, zero, suc, ◌<◌, Bool, true, false, cond, All, AllPairs, ◌⊎◌, inl, inr, List, [], ◌∷◌, ◌++◌, length, get_or, filter, find, remove, fold, IsPermutation, Some, refl, sym, ◌∙◌, ap, subst, arith, append-nil}
use Rattle.std.specs.List.{Contains}
use Rattle.std.proofs.lemmas.List.{nil_from_length}
use Rattle.std.proofs.lemmas.List.Edits.{length-remove}
use Rattle.std.proofs.lemmas.List.Elements.{All-cons, All-head, All-tail, All-filter, All-contains, All-contains_itself, filter_passes}
use Rattle.std.proofs.lemmas.List.Kept.{AllPairs-cons}
use Rattle.std.proofs.lemmas.List.Sorted.{IsPermutation-refl, IsPermutation-cons, IsPermutation-trans, IsPermutation-middle, IsPermutation-sym, IsPermutation-append_right, IsPermutation-remove, All-permutation, Contains-permutation}
use Rattle.std.proofs.lemmas.Option.{same_Some}
use Rattle.fsrm_base.specs.Order.{put, in_order}

-- items of a list with one more in front
pub contains_head : {X : Type 0} (x : X) (xs : List X) → Contains (x ∷ xs) x
contains_head x xs = (0, omega arith, refl)

pub contains_more : {X : Type 0} (y : X) (xs : List X) (x : X) → Contains xs x → Contains (y ∷ xs) x
contains_more y xs x c = let l = c.1 in (suc c.0, omega arith, c.2)

cases_at : {X : Type 0} (y : X) (xs : List X) (x : X) (k : ℕ) → k < length (y ∷ xs) → get_or (y ∷ xs) k x ≡ x → (y ≡ x) ⊎ Contains xs x
cases_at y xs x zero l e = inl e
cases_at y xs x (suc k) l e = inr (k, omega arith, e)

pub contains_cases : {X : Type 0} (y : X) (xs : List X) (x : X) → Contains (y ∷ xs) x → (y ≡ x) ⊎ Contains xs x
contains_cases y xs x c = cases_at y xs x c.0 c.1 c.2

pub contains_none : {X : Type 0} (x : X) → Contains [] x → ⊥
contains_none x c = let l = c.1 in omega arith

-- items that pass a test
kept_at : {X : Type 0} (y x : X) (kept : List X) (b : Bool) → Contains kept x → Contains (cond b (y ∷ kept) kept) x
kept_at y x kept true c = contains_more y kept x c
kept_at y x kept false c = c

head_at : {X : Type 0} (y : X) (kept : List X) (b : Bool) → b ≡ true → Contains (cond b (y ∷ kept) kept) y
head_at y kept true h = contains_head y kept
head_at y kept false h = cc

pub contains_passing : {X : Type 0} (p : X → Bool) (xs : List X) (x : X) → p x ≡ true → Contains xs x → Contains (filter p xs) x
contains_passing p [] x h c = absurd (contains_none x c)
contains_passing p (y ∷ ys) x h c =
    elim (contains_cases y ys x c) [
      | inl e ↦ subst (Contains (filter p (y ∷ ys))) e (head_at y (filter p ys) (p y) (ap p e ∙ h))
      | inr d ↦ kept_at y x (filter p ys) (p y) (contains_passing p ys x h d)
    ]

pub passes_kept : {X : Type 0} (p : X → Bool) (xs : List X) (x : X) → Contains (filter p xs) x → p x ≡ true
passes_kept p xs x c = All-contains (λ y. p y ≡ true) (filter p xs) x (filter_passes p xs) c

pub contains_kept : {X : Type 0} (p : X → Bool) (xs : List X) (x : X) → Contains (filter p xs) x → Contains xs x
contains_kept p xs x c = All-contains (Contains xs) (filter p xs) x (All-filter p (Contains xs) xs (All-contains_itself xs)) c

-- what a search finds is an item
found_at : {X : Type 0} (y : X) (ys : List X) (r : X) (b : Bool) (p : X → Bool) → cond b (Some y) (find p ys) ≡ Some r → (find p ys ≡ Some r → Contains ys r) → Contains (y ∷ ys) r
found_at y ys r true p h f = subst (Contains (y ∷ ys)) (same_Some y r h) (contains_head y ys)
found_at y ys r false p h f = contains_more y ys r (f h)

pub contains_found : {X : Type 0} (p : X → Bool) (xs : List X) (r : X) → find p xs ≡ Some r → Contains xs r
contains_found p [] r h = cc
contains_found p (x ∷ xs) r h = found_at x xs r (p x) p h (contains_found p xs r)

-- pairs of a list without its first item, and its first item with a later one
pub pairs_rest : {X : Type 0} (R : X → X → Type 0) (x : X) (xs : List X) → AllPairs R (x ∷ xs) → AllPairs R xs
pairs_rest R x xs h = λ i j d l m. h (suc i) (suc j) d (omega arith) (omega arith)

pub pairs_first : {X : Type 0} (R : X → X → Type 0) (x : X) (xs : List X) (y : X) → AllPairs R (x ∷ xs) → Contains xs y → R x y
pairs_first R x xs y h c = let l = c.1 in subst (R x) c.2 (h 0 (suc c.0) y (omega arith) (omega arith))

-- lists of one length, of which the one has different items that the other has all
pub same_items : {X : Type 0} (xs ys : List X) → AllPairs (λ a b. a ≡ b → ⊥) xs → All (Contains ys) xs → length xs ≡ length ys → IsPermutation xs ys
same_items [] ys apart all size = subst (IsPermutation []) (sym (nil_from_length ys (sym size))) (IsPermutation-refl [])
same_items (x ∷ xs) ys apart all size =
    let c = All-head (Contains ys) x xs all in
    let less = remove ys c.0 in
    let taken : IsPermutation ys (x ∷ less) = IsPermutation-remove ys c.0 x c.1 (sym c.2) in
    let count = length-remove ys c.0 c.1 in
    let rest : All (Contains less) xs = λ k d l.
    elim (contains_cases x less (get_or xs k d) (Contains-permutation ys (x ∷ less) (get_or xs k d) taken (All-tail (Contains ys) x xs all k d l))) [
      | inl e ↦ absurd (apart 0 (suc k) d (omega arith) (omega arith) e)
      | inr h ↦ h
    ] in
    IsPermutation-trans (x ∷ xs) (x ∷ less) ys
    (IsPermutation-cons x xs less (same_items xs less (pairs_rest (λ a b. a ≡ b → ⊥) x xs apart) rest (omega arith)))
    (IsPermutation-sym ys (x ∷ less) taken)

-- lists in order with the same items are one
pub same_sorted : {X : Type 0} (R : X → X → Type 0) → ((x y : X) → R x y → R y x → ⊥) → (xs ys : List X) → AllPairs R xs → AllPairs R ys → All (Contains ys) xs → All (Contains xs) ys → xs ≡ ys
same_sorted R never [] [] h g to back = refl
same_sorted R never [] (y ∷ ys) h g to back = absurd (contains_none y (All-head (Contains []) y ys back))
same_sorted R never (x ∷ xs) [] h g to back = absurd (contains_none x (All-head (Contains []) x xs to))
same_sorted R never (x ∷ xs) (y ∷ ys) h g to back =
    let first : x ≡ y =
    elim (contains_cases y ys x (All-head (Contains (y ∷ ys)) x xs to)) [
      | inl e ↦ sym e
      | inr c ↦ elim (contains_cases x xs y (All-head (Contains (x ∷ xs)) y ys back)) [
        | inl e ↦ e
        | inr d ↦ absurd (never x y (pairs_first R x xs y h d) (pairs_first R y ys x g c))
      ]
    ] in
    let to_rest : All (Contains ys) xs = λ k d l.
    elim (contains_cases y ys (get_or xs k d) (All-tail (Contains (y ∷ ys)) x xs to k d l)) [
      | inl e ↦ let r : R x (get_or xs k d) = h 0 (suc k) d (omega arith) (omega arith) in let s : R x x = subst (R x) (sym (first ∙ e)) r in absurd (never x x s s)
      | inr c ↦ c
    ] in
    let back_rest : All (Contains xs) ys = λ k d l.
    elim (contains_cases x xs (get_or ys k d) (All-tail (Contains (x ∷ xs)) y ys back k d l)) [
      | inl e ↦ let r : R y (get_or ys k d) = g 0 (suc k) d (omega arith) (omega arith) in let s : R y y = subst (R y) (sym (sym first ∙ e)) r in absurd (never y y s s)
      | inr c ↦ c
    ] in
    ap (λ z. z ∷ xs) first ∙ ap (λ zs. y ∷ zs) (same_sorted R never xs ys (pairs_rest R x xs h) (pairs_rest R y ys g) to_rest back_rest)

-- order only moves items
put_at : {X : Type 0} (x y : X) (ys more : List X) (b : Bool) → IsPermutation (x ∷ ys) more → IsPermutation (x ∷ y ∷ ys) (cond b (x ∷ y ∷ ys) (y ∷ more))
put_at x y ys more true h = IsPermutation-refl (x ∷ y ∷ ys)
put_at x y ys more false h =
    IsPermutation-trans (x ∷ y ∷ ys) (y ∷ x ∷ ys) (y ∷ more) (IsPermutation-middle (x ∷ []) y ys) (IsPermutation-cons y (x ∷ ys) more h)

pub put_moves : {X : Type 0} (before : X → X → Bool) (x : X) (xs : List X) → IsPermutation (x ∷ xs) (put before x xs)
put_moves before x [] = IsPermutation-refl (x ∷ [])
put_moves before x (y ∷ ys) = put_at x y ys (put before x ys) (before x y) (put_moves before x ys)

moves_from : {X : Type 0} (before : X → X → Bool) (sorted xs : List X) → IsPermutation (xs ++ sorted) (fold (λ ys x. put before x ys) sorted xs)
moves_from before sorted [] = IsPermutation-refl sorted
moves_from before sorted (x ∷ xs) =
    let all = fold (λ ys y. put before y ys) (put before x sorted) xs in
    let first : IsPermutation (xs ++ x ∷ sorted) (x ∷ (xs ++ sorted)) = IsPermutation-middle xs x sorted in
    IsPermutation-trans (x ∷ (xs ++ sorted)) (xs ++ put before x sorted) all
    (IsPermutation-trans (x ∷ (xs ++ sorted)) (xs ++ x ∷ sorted) (xs ++ put before x sorted)
    (IsPermutation-sym (xs ++ x ∷ sorted) (x ∷ (xs ++ sorted)) first)
    (IsPermutation-append_right xs (x ∷ sorted) (put before x sorted) (put_moves before x sorted)))
    (moves_from before (put before x sorted) xs)

pub in_order_moves : {X : Type 0} (before : X → X → Bool) (xs : List X) → IsPermutation xs (in_order before xs)
in_order_moves before xs = subst (λ ys. IsPermutation ys (in_order before xs)) (append-nil xs) (moves_from before [] xs)

-- an item that one of two comes before is put in its place
abbrev pub Comes : {X : Type 0} → (X → X → Bool) → X → X → Type 0
Comes before a b = before a b ≡ true

abbrev pub Differs : {X : Type 0} → (X → X → Bool) → X → X → Type 0
Differs before a b = before b a ≡ false → before a b ≡ true

sorted_at : {X : Type 0} (before : X → X → Bool) → ((a b c : X) → Comes before a b → Comes before b c → Comes before a c) → (x y : X) (ys more : List X) (b : Bool) → before x y ≡ b → AllPairs (Comes before) (y ∷ ys) → Differs before y x → IsPermutation (x ∷ ys) more → AllPairs (Comes before) more → AllPairs (Comes before) (cond b (x ∷ y ∷ ys) (y ∷ more))
sorted_at before trans x y ys more true e h u m s =
    AllPairs-cons (Comes before) x (y ∷ ys)
    (All-cons (Comes before x) y ys e (λ k d l. trans x y (get_or ys k d) e (h 0 (suc k) d (omega arith) (omega arith))))
    h
sorted_at before trans x y ys more false e h u m s =
    AllPairs-cons (Comes before) y more
    (All-permutation (Comes before y) (x ∷ ys) more m (All-cons (Comes before y) x ys (u e) (λ k d l. h 0 (suc k) d (omega arith) (omega arith))))
    s

pub put_sorted : {X : Type 0} (before : X → X → Bool) → ((a b c : X) → Comes before a b → Comes before b c → Comes before a c) → (x : X) (xs : List X) → AllPairs (Comes before) xs → All (λ y. Differs before y x) xs → AllPairs (Comes before) (put before x xs)
put_sorted before trans x [] h u = λ i j d l m. absurd (omega arith)
put_sorted before trans x (y ∷ ys) h u =
    sorted_at before trans x y ys (put before x ys) (before x y) refl h (All-head (λ z. Differs before z x) y ys u) (put_moves before x ys)
    (put_sorted before trans x ys (pairs_rest (Comes before) y ys h) (All-tail (λ z. Differs before z x) y ys u))

sorted_from : {X : Type 0} (before : X → X → Bool) → ((a b c : X) → Comes before a b → Comes before b c → Comes before a c) → (sorted xs : List X) → AllPairs (Comes before) sorted → ((u v : X) → Contains sorted u → Contains xs v → Differs before u v) → AllPairs (Differs before) xs → AllPairs (Comes before) (fold (λ ys x. put before x ys) sorted xs)
sorted_from before trans sorted [] h u p = h
sorted_from before trans sorted (x ∷ xs) h u p =
    let next : AllPairs (Comes before) (put before x sorted) =
    put_sorted before trans x sorted h (λ k d l. u (get_or sorted k d) x (All-contains_itself sorted k d l) (contains_head x xs)) in
    sorted_from before trans (put before x sorted) xs next
    (λ a v c e. elim (contains_cases x sorted a (Contains-permutation (put before x sorted) (x ∷ sorted) a (IsPermutation-sym (x ∷ sorted) (put before x sorted) (put_moves before x sorted)) c)) [
      | inl is ↦ subst (λ z. Differs before z v) is (pairs_first (Differs before) x xs v p e)
      | inr d ↦ u a v d (contains_more x xs v e)
    ])
    (pairs_rest (Differs before) x xs p)

pub in_order_sorted : {X : Type 0} (before : X → X → Bool) → ((a b c : X) → Comes before a b → Comes before b c → Comes before a c) → (xs : List X) → AllPairs (Differs before) xs → AllPairs (Comes before) (in_order before xs)
in_order_sorted before trans xs p = sorted_from before trans [] xs (λ i j d l m. absurd (omega arith)) (λ u v c e. absurd (contains_none u c)) p
