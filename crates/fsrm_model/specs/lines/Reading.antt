-- Values that words spell, each as it reads or with the refusal of the line.
use Rattle.std.specs.Prelude.{ℕ, ◌*◌, ◌^◌, ◌==◌, ◌&&◌, ◌||◌, nat_lt, nat_le, Bool, true, false, List, [], ◌∷◌, length, take, drop, find, codes, bytes_eq, Option, Some, None, option_map, Result, Ok, Err, if◌then◌else◌}
use Rattle.std.specs.List.{list_all, slice_split, prefix_len}
use Rattle.std.specs.Char.{is_ascii_digit}
use Rattle.std.specs.Str.{str_eq_ignore_ascii_case}
use Rattle.std.specs.Str.Parse.{digits_value}
use Rattle.fsrm_model.specs.declared.command.Refusal.{Refusal}
use Rattle.fsrm_model.specs.declared.command.Refusal.TheVariants.{BadLine, OutOfRange, InvalidPath, InvalidName, InvalidLimit}
use Rattle.fsrm_model.specs.values.Name.{is_name}
use Rattle.fsrm_model.specs.objects.Quota.{is_limit}

-- a value, or the refusal of the line
abbrev pub Read : Type 0 → Type 0
Read X = Result X Refusal

-- what is read next, if this could be read
infixl 10 ◌>>=◌
abbrev pub ◌>>=◌ : {A B : Type 0} → Read A → (A → Read B) → Read B
(Ok x) >>= f = f x
(Err refusal) >>= f = Err refusal

-- x, if the test holds
abbrev pub guarded : {A : Type 0} → Bool → Refusal → A → Read A
guarded true refusal x = Ok x
guarded false refusal x = Err refusal

-- 1 to 20 digits. Zeros in front count
abbrev pub is_number : List ℕ → Bool
is_number text = (nat_lt 0 (length text) && nat_le (length text) 20) && list_all is_ascii_digit text

-- a number from low to high, in a word at this column
abbrev pub number_from : ℕ → ℕ → ℕ → List ℕ → Read ℕ
number_from low high column text = do
  digits ← guarded (is_number text) (BadLine column) text
  let n = digits_value 10 digits in guarded (nat_le low n && nat_le n high) OutOfRange n

abbrev pub is_backslash : ℕ → Bool
is_backslash b = b == 92

-- parts without the last one, if that is empty
abbrev pub without_last_empty : List (List ℕ) → List (List ℕ)
without_last_empty [] = []
without_last_empty ([] ∷ []) = []
without_last_empty ([] ∷ part ∷ parts) = [] ∷ without_last_empty (part ∷ parts)
without_last_empty ((b ∷ bs) ∷ parts) = (b ∷ bs) ∷ without_last_empty parts

-- what stands between the backslashes after the volume. A last backslash ends the path
abbrev pub path_parts : List ℕ → List (List ℕ)
path_parts text = without_last_empty (slice_split is_backslash (drop 3 text))

-- whether a text begins with the volume D:\
abbrev pub is_on_volume : List ℕ → Bool
is_on_volume text = bytes_eq (take 3 text) (codes "D:\\") || bytes_eq (take 3 text) (codes "d:\\")

-- the volume, and no part that is empty
abbrev pub has_path_form : List ℕ → Bool
has_path_form text = is_on_volume text && list_all (λ part. nat_lt 0 (length part)) (path_parts text)

-- a path: the form of the whole comes before its names
abbrev pub path_from : List ℕ → Read (List (List ℕ))
path_from text = do
  parts ← guarded (has_path_form text) InvalidPath (path_parts text)
  guarded (list_all is_name parts) InvalidName parts

-- a value that is there, or the refusal
abbrev pub known : {A : Type 0} → Refusal → Option A → Read A
known refusal None = Err refusal
known refusal (Some x) = Ok x

-- the units of a limit, in letters of either case, and how many bytes each of them is
abbrev pub units : List (List ℕ × ℕ)
units = ([], 1) ∷ (codes "kb", 2 ^ 10) ∷ (codes "mb", 2 ^ 20) ∷ (codes "gb", 2 ^ 30) ∷ (codes "tb", 2 ^ 40) ∷ []

abbrev pub unit_bytes : List ℕ → Option ℕ
unit_bytes unit = option_map (λ (row : List ℕ × ℕ). row.1) (find (λ (row : List ℕ × ℕ). str_eq_ignore_ascii_case row.0 unit) units)

-- the digits that a text begins with
abbrev pub digits_of : List ℕ → List ℕ
digits_of text = take (prefix_len is_ascii_digit text) text

-- a limit: digits, as many as are given, and a unit
abbrev pub limit_from : ℕ → List ℕ → Read ℕ
limit_from column text = do
  digits ← guarded (nat_lt 0 (length (digits_of text))) (BadLine column) (digits_of text)
  bytes ← known (BadLine column) (unit_bytes (drop (length digits) text))
  let limit = digits_value 10 digits * bytes in guarded (is_limit limit) InvalidLimit limit

-- one of two words, in letters of either case
abbrev pub choice_from : List ℕ → List ℕ → ℕ → List ℕ → Read Bool
choice_from first second column text =
    if str_eq_ignore_ascii_case first text then Ok true
    else if str_eq_ignore_ascii_case second text then Ok false else Err (BadLine column)
