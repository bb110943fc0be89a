-- Names, compared after simple case folding (The Unicode Standard, Default Case Algorithms; CaseFolding.txt, statuses C and S).
use Rattle.std.specs.Prelude.{ℕ, ◌==◌, ◌&&◌, ◌||◌, nat_lt, nat_le, not, Bool, true, false, List, [], ◌∷◌, length, map, chars, bytes_eq, codes}
use Rattle.std.specs.List.{list_all, list_any}
use Rattle.std.specs.declared.cmp.Ordering.{Ordering}
use Rattle.std.specs.Ordering.{is_lt, nat_cmp}
use Rattle.std.specs.Cmp.Lexicographic.{slice_cmp}
use Rattle.ucd_case.specs.CaseFolding.{simple_fold}
use Rattle.fsrm_model.specs.values.Limits.{longest_name}

-- the characters of a text, each one folded to one
abbrev pub folded : List ℕ → List ℕ
folded text = map simple_fold (chars text)

-- whether two spellings are one name
abbrev pub same_name : List ℕ → List ℕ → Bool
same_name a b = bytes_eq (folded a) (folded b)

-- whether a row has a name, in any spelling
abbrev pub is_named : {X : Type 0} → (X → List ℕ) → List ℕ → X → Bool
is_named name_in name row = same_name (name_in row) name

-- whether each name is that of one row only
abbrev pub names_differ : {X : Type 0} → (X → List ℕ) → List X → Bool
names_differ name_in [] = true
names_differ name_in (row ∷ rows) = not (list_any (is_named name_in (name_in row)) rows) && names_differ name_in rows

-- whether two paths spell the same names
abbrev pub same_names : List (List ℕ) → List (List ℕ) → Bool
same_names [] [] = true
same_names [] (b ∷ bs) = false
same_names (a ∷ as') [] = false
same_names (a ∷ as') (b ∷ bs) = same_name a b && same_names as' bs

-- the order of two names, by their folded characters
abbrev pub name_cmp : List ℕ → List ℕ → Ordering
name_cmp a b = slice_cmp nat_cmp (folded a) (folded b)

abbrev pub name_before : List ℕ → List ℕ → Bool
name_before a b = is_lt (name_cmp a b)

-- A byte that may stand in a name: none of < > : " / \ | ? *, no control character of ASCII (0 to 31
-- and 127). Each byte of a character outside ASCII may.
abbrev pub is_name_byte : ℕ → Bool
is_name_byte b = (nat_le 32 b && not (b == 127)) && not (list_any (λ c. b == c) (codes "<>:\"/\\|?*"))

-- whether a text, which is UTF-8, is a name: 1 to 255 bytes, but neither . nor ..
abbrev pub is_name : List ℕ → Bool
is_name text =
    ((nat_lt 0 (length text) && nat_le (length text) longest_name) && list_all is_name_byte text)
    && not (bytes_eq text (codes ".") || bytes_eq text (codes ".."))
