-- Names among the parts of a path.
use Rattle.std.proofs.Common.{◌≡◌, ℕ, ◌&&◌, ◌||◌, not, Bool, true, false, List, [], ◌∷◌, ◌++◌, Ok, drop, length, nat_lt, nat_le, ap, refl, ◌∙◌, arith}
use Rattle.std.specs.Prelude.{bytes_eq, codes}
use Rattle.std.specs.List.{list_all}
use Rattle.std.proofs.lemmas.Bool.{false≢true, lt-ltb}
use Rattle.fsrm_model.specs.values.Limits.{longest_name}
use Rattle.fsrm_model.specs.values.Name.{is_name, is_name_byte}
use Rattle.fsrm_model.specs.lines.Reading.{path_from, path_parts, is_on_volume, has_path_form}
use Rattle.fsrm_model.specs.meaning.PathNames.{parts_of}
use Rattle.fsrm_base.proofs.TestLaws.{and_false, both}

-- an item that fails a test
pub all_broken : {X : Type 0} (p : X → Bool) (xs : List X) (x : X) (ys : List X) → p x ≡ false → list_all p (xs ++ x ∷ ys) ≡ false
all_broken p [] x ys fails = ap (λ b. b && list_all p ys) fails
all_broken p (first ∷ xs) x ys fails = ap (λ b. p first && b) (all_broken p xs x ys fails) ∙ and_false (p first)

-- no name is empty
names_full : (names : List (List ℕ)) → list_all is_name names ≡ true → list_all (λ part. nat_lt 0 (length part)) names ≡ true
names_full [] h = refl
names_full ([] ∷ names) h = absurd (false≢true h)
names_full ((b ∷ name) ∷ names) h =
    let parts : (is_name (b ∷ name) ≡ true) × (list_all is_name names ≡ true) = both _ _ h in
    let some : nat_lt 0 (length (b ∷ name)) ≡ true = lt-ltb 0 (length (b ∷ name)) (omega arith) in
    rw some (names_full names parts.1)

-- a text after the volume whose parts are names is a path
pub path_read : (text : List ℕ) (names : List (List ℕ)) → is_on_volume text ≡ true → names ≡ parts_of (drop 3 text) → list_all is_name names ≡ true → path_from text ≡ Ok names
path_read text names volume is valid =
    let named : list_all is_name (path_parts text) ≡ true = rw is at valid in
    let full : list_all (λ part. nat_lt 0 (length part)) (path_parts text) ≡ true = names_full (path_parts text) named in
    let form : has_path_form text ≡ true = rw (volume, full) refl in
    rw (is, form, named) refl

-- a name has no other bytes
pub not_named : (text : List ℕ) → list_all is_name_byte text ≡ false → is_name text ≡ false
not_named text h =
    let short = nat_lt 0 (length text) && nat_le (length text) longest_name in
    let other = not (bytes_eq text (codes ".") || bytes_eq text (codes "..")) in
    ap (λ b. (short && b) && other) h ∙ ap (λ b. b && other) (and_false short)
