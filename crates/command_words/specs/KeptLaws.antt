-- What is held of an option stays if another is given: the law of `Options`. An impl's law may cite only specs/, so its
-- lemmas stand here.
use Rattle.std.proofs.Common.{◌≡◌, ℕ, ◌+◌, ◌==◌, Bool, false, cond, List, [], ◌∷◌, ◌++◌, None, refl, sym, ◌∙◌, ap, arith}
use Rattle.std.specs.Prelude.{if◌then◌else◌, Option, Some}
use Rattle.std.specs.List.{cons_option}
use Rattle.std.specs.Option.{option_or}
use Rattle.std.proofs.lemmas.List.{append-nil}
use Rattle.std.proofs.lemmas.List.Folds.{list_any-append}
use Rattle.std.proofs.lemmas.List.Elements.{filter_map-append}
use Rattle.std.proofs.lemmas.List.Sums.{sum_by-append, sum_by-cons}
use Rattle.fsrm_model.specs.lines.ValueForms.{Value}
use Rattle.fsrm_model.specs.lines.Options.{Key, Given, is_same, is_of, its, first_in, one, each_of, times_in}
use Rattle.fsrm_base.proofs.TestLaws.{neither}
use Rattle.command_words.specs.OptionWords.{HoldsOnce, HoldsEach, in_keys}

pub neither_in : (key : Key) (xs ys : List Key) → in_keys (xs ++ ys) key ≡ false
    → (in_keys xs key ≡ false) × (in_keys ys key ≡ false)
neither_in key xs ys h =
    neither (in_keys xs key) (in_keys ys key) (sym (list_any-append (λ (other : Key). is_same other key) xs ys) ∙ h)

or_none : {X : Type 0} (o : Option X) → option_or o None ≡ o
or_none None = refl
or_none (Some x) = refl

pub first_more : {X : Type 0} (value : Given → Option X) (given : List Given) (next : Given)
    → first_in value (given ++ next ∷ []) ≡ option_or (first_in value given) (value next)
first_more value [] next = or_none (value next)
first_more value (first ∷ given) next =
    at (value first) (first_in value (given ++ next ∷ [])) (first_in value given) (value next) (first_more value given next)
  where
    at : {X : Type 0} (o a b c : Option X) → a ≡ option_or b c → option_or o a ≡ option_or (option_or o b) c
    at None a b c h = h
    at (Some x) a b c h = refl

abbrev pub counted : Key → Given → ℕ
counted key g = cond (is_of key g) 1 0

pub times_more : (key : Key) (given : List Given) (next : Given)
    → times_in key (given ++ next ∷ []) ≡ times_in key given + counted key next
times_more key given next =
    omega (arith, sum_by-append (counted key) given (next ∷ []), sum_by-cons (counted key) next [])

record IsOther {X : Type 0} (of : Value → Option X) (key : Key) (given : List Given) (next : Given) : Type 0 where
  one_same : one of key given ≡ one of key (given ++ next ∷ [])
  each_same : each_of of key given ≡ each_of of key (given ++ next ∷ [])
  times_same : times_in key given ≡ times_in key (given ++ next ∷ [])

other : {X : Type 0} (of : Value → Option X) (key : Key) (given : List Given) (next : Given)
    → in_keys (key ∷ []) next.key ≡ false → IsOther of key given next
other {X} of key given next apart =
    let not_it : is_of key next ≡ false = (neither (is_of key next) false apart).0 in
    let none : its of key next ≡ None = ap (λ (b : Bool). if b then of next.value else None) not_it in
    let zero : counted key next ≡ 0 = ap (λ (b : Bool). cond {A = ℕ} b 1 0) not_it in
    record {
      one_same = sym (first_more (its of key) given next ∙ ap (option_or (one of key given)) none ∙ or_none (one of key given));
      each_same = sym (filter_map-append (its of key) given (next ∷ []) ∙ ap (λ (o : Option X). each_of of key given ++ cons_option o []) none ∙ append-nil (each_of of key given));
      times_same = omega (arith, zero, times_more key given next);
    }

pub once_kept : {X : Type 0} (of : Value → Option X) (key : Key) (held : Option X) (given : List Given) (next : Given)
    → in_keys (key ∷ []) next.key ≡ false → HoldsOnce of key held given → HoldsOnce of key held (given ++ next ∷ [])
once_kept of key held given next apart h =
    let o = other of key given next apart in
    record { value = h.value ∙ o.one_same; none = h.none ∙ ap (λ (n : ℕ). n == 0) o.times_same }

pub each_kept : {X : Type 0} (of : Value → Option X) (key : Key) (held : List X) (given : List Given) (next : Given)
    → in_keys (key ∷ []) next.key ≡ false → HoldsEach of key held given → HoldsEach of key held (given ++ next ∷ [])
each_kept of key held given next apart h =
    let o = other of key given next apart in
    record { values = h.values ∙ o.each_same; count = h.count ∙ o.times_same }
