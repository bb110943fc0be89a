-- What is taken from a script.
use Rattle.std.proofs.Common.{◌≡◌, ℕ, ◌≤◌, ◌<◌, List, [], ◌++◌, length, take, drop, refl, sym, ap, ◌∙◌, append_assoc}
use Rattle.std.specs.Prelude.{Option, Some, None, Result, Ok, Err, IfOk}
use Rattle.std.specs.Option.{option_map, ForSome}
use Rattle.std.proofs.lemmas.List.{take-append-drop, take-append-le}
use Rattle.fsrm_outside.specs.Told.{GivesFront}
use Rattle.fsrm_modes.specs.Bytes.{Taken, IsAtEnd}

-- what a read gave to the front of a buffer was taken
pub taken_read : {E : Type 0} (r : Result ℕ E) (before after : Option (List ℕ)) (into back : List ℕ) → IfOk r (λ n. n ≤ length into) → ForSome before (λ bytes. IfOk r (λ n. GivesFront bytes n into)) → IfOk r (λ n. after ≡ option_map (drop n) before) → IfOk r (λ n. Taken before after (take n (into ++ back)))
taken_read (Ok n) before after into back few gives rest = record {
  rest = λ script e. (
    drop n script,
    sym (take-append-drop n script) ∙ ap (λ (bs : List ℕ). bs ++ drop n script) (sym (gives script e).front ∙ sym (take-append-le n into back few)),
    rest ∙ ap (option_map (drop n)) e,
  );
}
taken_read (Err fault) before after into back few gives rest = tt

-- nothing if there was room: the end
pub ended_read : {E : Type 0} (r : Result ℕ E) (before after : Option (List ℕ)) (into : List ℕ) → 0 < length into → ForSome before (λ bytes. IfOk r (λ n. GivesFront bytes n into)) → IfOk r (λ n. after ≡ option_map (drop n) before) → IfOk r (λ n. n ≡ 0 → IsAtEnd after)
ended_read (Ok n) None after into some gives rest = λ none. record { ended = λ script e. cc }
ended_read (Ok n) (Some bytes) after into some gives rest = λ none. record {
  ended = λ script e.
      let nothing : bytes ≡ [] = (gives bytes refl).ended none some in
      let same : Some script ≡ Some bytes = sym e ∙ rest ∙ ap (λ (n : ℕ). Some (drop n bytes)) none in
      let is : script ≡ bytes = cc in
      is ∙ nothing;
}
ended_read (Err fault) before after into some gives rest = tt

pub taken_nothing : (left : Option (List ℕ)) → Taken left left []
taken_nothing left = record { rest = λ script e. (script, refl, e) }

pub taken_then : (a b c : Option (List ℕ)) (xs ys : List ℕ) → Taken a b xs → Taken b c ys → Taken a c (xs ++ ys)
taken_then a b c xs ys p q = record {
  rest = λ script e.
      let one = p.rest script e in
      let two = q.rest one.0 one.2 in
      (two.0, one.1 ∙ ap (λ (bs : List ℕ). xs ++ bs) two.1 ∙ sym (append_assoc xs ys two.0), two.2);
}
