-- The spelling of a path.
use Rattle.std.proofs.Common.{◌≡◌, ◌⊎◌, inl, inr, ℕ, zero, suc, ◌+◌, ◌-◌, ◌*◌, ◌<◌, Bool, true, false, List, [], ◌∷◌, ◌++◌, length, Some, None, Ok, Err, refl, sym, ap, subst, ◌∙◌, append_assoc, arith, length-append}
use Rattle.std.specs.Prelude.{◌==◌, ◌&&◌, ◌||◌, ◌/◌, ◌%◌, not, nat_lt, nat_le, slice_index, bytes_eq, codes}
use Rattle.std.specs.List.{join_with_byte, list_all}
use Rattle.std.specs.Str.{IsAscii, IsUtf8, is_utf8}
use Rattle.std.proofs.lemmas.Str.{IsUtf8-append, IsUtf8-from_ascii, is_utf8-from_IsUtf8}
use Rattle.std.proofs.lemmas.Bool.{and_parts, and_from, eqb-true, ltb-true, ne_eqb, cases_Bool, true≢false}
use Rattle.std.proofs.lemmas.List.{get_or-append-add}
use Rattle.std.proofs.lemmas.Slice.Eq.{bytes_eq-Decides}
use Rattle.fsrm_base.proofs.TestLaws.{same_tests}
use Rattle.fsrm_model.specs.declared.command.Refusal.{Refusal}
use Rattle.fsrm_model.specs.commands.Entry.{Path}
use Rattle.fsrm_model.specs.lines.Reading.{path_from}
use Rattle.fsrm_model.specs.values.Limits.{longest_name}
use Rattle.fsrm_model.specs.values.Name.{is_name, is_name_byte}
use Rattle.fsrm_model.proofs.lines.PathLaws.{path_writes}
use Rattle.record_fields.specs.Formats.{number_spelled, text_spelled}
use Rattle.record_fields.specs.Writers.{Writes}
use Rattle.record_fields.proofs.WriterLaws.{writes_then}
use Rattle.record_codec.specs.Fields.{path_text, path_of}
use Rattle.record_codec.specs.Paths.{is_spelled_so}
use Rattle.record_codec.specs.Typed.{is_path_text}

-- ---- the last byte of a path
abbrev end_of : List ℕ → ℕ
end_of xs = slice_index xs (length xs - 1)

end_after : (xs ys : List ℕ) → 0 < length ys → end_of (xs ++ ys) ≡ end_of ys
end_after xs ys some =
    let place : length (xs ++ ys) - 1 ≡ length xs + (length ys - 1) = omega (arith, length-append xs ys) in
    ap (slice_index (xs ++ ys)) place ∙ get_or-append-add xs ys (length ys - 1) 0

byte_at_place : (xs : List ℕ) (i : ℕ) → i < length xs → list_all is_name_byte xs ≡ true → is_name_byte (slice_index xs i) ≡ true
byte_at_place [] i inside all = absurd (omega (arith, inside))
byte_at_place (x ∷ xs) zero inside all = (and_parts (is_name_byte x) (list_all is_name_byte xs) all).0
byte_at_place (x ∷ xs) (suc i) inside all = byte_at_place xs i (omega (arith, inside)) (and_parts (is_name_byte x) (list_all is_name_byte xs) all).1

-- a text that ends with no backslash
abbrev EndsPlain : List ℕ → Type 0
EndsPlain xs = (0 < length xs) × ((end_of xs == 92) ≡ false)

no_backslash : (b : ℕ) → is_name_byte b ≡ true → (b == 92) ≡ false
no_backslash b legal = elim (cases_Bool (b == 92)) [
  | inl is ↦ absurd (true≢false (sym (subst (λ (c : ℕ). is_name_byte c ≡ true) (eqb-true b 92 is) legal)))
  | inr other ↦ other
]

name_ends : (name : List ℕ) → is_name name ≡ true → EndsPlain name
name_ends name legal =
    let long = nat_lt 0 (length name) && nat_le (length name) longest_name in
    let whole = and_parts (long && list_all is_name_byte name) (not (bytes_eq name (codes ".") || bytes_eq name (codes ".."))) legal in
    let bytes = and_parts long (list_all is_name_byte name) whole.0 in
    let some : 0 < length name = ltb-true 0 (length name) (and_parts (nat_lt 0 (length name)) (nat_le (length name) longest_name) bytes.0).0 in
    (some, no_backslash (end_of name) (byte_at_place name (length name - 1) (omega (arith, some)) bytes.1))

names_end : (path : Path) → list_all is_name path ≡ true → 0 < length path → EndsPlain (join_with_byte 92 path)
names_end [] legal some = absurd (omega (arith, some))
names_end (name ∷ []) legal some = name_ends name (and_parts (is_name name) true legal).0
names_end (name ∷ next ∷ path) legal some =
    let after = names_end (next ∷ path) (and_parts (is_name name) (list_all is_name (next ∷ path)) legal).1 (omega arith) in
    let rest = join_with_byte 92 (next ∷ path) in
    let same : end_of (name ++ 92 ∷ rest) ≡ end_of rest = end_after name (92 ∷ rest) (omega arith) ∙ end_after (92 ∷ []) rest after.0 in
    (omega (arith, length-append name (92 ∷ rest)), ap (λ b. b == 92) same ∙ after.1)

-- ---- the test by which the code knows a spelling
-- the names of a path, written after its volume
abbrev Written : List ℕ → List ℕ → Path → Type 0
Written text volume path =
    (text ≡ volume ++ join_with_byte 92 path) ⊎ ((0 < length path) × (text ≡ volume ++ (join_with_byte 92 path ++ 92 ∷ [])))

abbrev IsVolume : List ℕ → Type 0
IsVolume volume = (volume ≡ codes "D:\\") ⊎ (volume ≡ codes "d:\\")

so_spelled : (text volume : List ℕ) (path : Path) → list_all is_name path ≡ true → IsVolume volume → Written text volume path → is_spelled_so text ≡ true → text ≡ path_text path
so_spelled text volume path legal (inl v) (inl e) so = e ∙ ap (λ (w : List ℕ). w ++ join_with_byte 92 path) v
so_spelled text volume path legal (inr v) (inl e) so =
    let first = eqb-true _ _ (and_parts (slice_index text 0 == 68) _ so).0 in
    absurd (omega (arith, sym first ∙ ap (λ (t : List ℕ). slice_index t 0) (e ∙ ap (λ (w : List ℕ). w ++ join_with_byte 92 path) v)))
so_spelled text volume path legal v (inr e) so =
    let names = names_end path legal e.0 in
    let three : length volume ≡ 3 = elim v [ inl d ↦ ap length d | inr d ↦ ap length d ] in
    let size : length text ≡ 3 + (length (join_with_byte 92 path) + 1) = ap length e.1 ∙ length-append volume (join_with_byte 92 path ++ 92 ∷ []) ∙ omega (arith, three, length-append (join_with_byte 92 path) (92 ∷ [])) in
    let last : end_of text ≡ 92 = ap end_of e.1 ∙ end_after volume (join_with_byte 92 path ++ 92 ∷ []) (omega (arith, length-append (join_with_byte 92 path) (92 ∷ []))) ∙ end_after (join_with_byte 92 path) (92 ∷ []) (omega arith) in
    let other : ((length text == 3) || not (end_of text == 92)) ≡ false = rw (ne_eqb (length text) 3 (λ is. omega (arith, size, names.0, is)), last) refl in
    absurd (true≢false (sym (and_parts (slice_index text 0 == 68) _ so).1 ∙ other))

spelled_so : (path : Path) → list_all is_name path ≡ true → is_spelled_so (path_text path) ≡ true
spelled_so [] legal = refl
spelled_so (name ∷ path) legal =
    let names = names_end (name ∷ path) legal (omega arith) in
    let last : end_of (path_text (name ∷ path)) ≡ end_of (join_with_byte 92 (name ∷ path)) = end_after (codes "D:\\") (join_with_byte 92 (name ∷ path)) names.0 in
    and_from (slice_index (path_text (name ∷ path)) 0 == 68) _ refl
    (or_right (length (path_text (name ∷ path)) == 3) (ap (λ b. not (b == 92)) last ∙ ap not names.1))
  where
    or_right : (a : Bool) {b : Bool} → b ≡ true → (a || b) ≡ true
    or_right true e = refl
    or_right false e = e

pub is_spelled : (text : List ℕ) (path : Path) → path_from text ≡ Ok path → is_spelled_so text ≡ bytes_eq text (path_text path)
is_spelled text path read =
    let w = path_writes text path read in
    same_tests (is_spelled_so text) (bytes_eq text (path_text path))
    (λ so. (bytes_eq-Decides text (path_text path)).1 (so_spelled text w.volume path w.each w.volume_is w.names so))
    (λ same. ap is_spelled_so ((bytes_eq-Decides text (path_text path)).0 same) ∙ spelled_so path w.each)

-- what a text spells
pub spells : (text : List ℕ) (path : Path) → path_from text ≡ Ok path → bytes_eq text (path_text path) ≡ true → path_of text ≡ Some path
unfolding path_of
spells text path read same = rw (read, same) refl

pub spells_none : (text : List ℕ) (path : Path) → path_from text ≡ Ok path → bytes_eq text (path_text path) ≡ false → path_of text ≡ None
unfolding path_of
spells_none text path read other = rw (read, other) refl

pub reads_none : (text : List ℕ) (refusal : Refusal) → path_from text ≡ Err refusal → path_of text ≡ None
unfolding path_of
reads_none text refusal read = rw read refl

-- ---- how a path is written
-- the low two bytes of a number
pub low_bytes : (n : ℕ) → number_spelled 2 (n % 65536) ≡ number_spelled 2 n
unfolding number_spelled
low_bytes n =
    let first : n % 65536 % 256 ≡ n % 256 = omega arith in
    let second : n % 65536 / 256 % 256 ≡ n / 256 % 256 = omega arith in
    rw (first, second) refl

-- a path's length and its volume, as one number
pub front_spelled : (size : ℕ) → number_spelled 5 (size % 65536 + 6044228 * 65536) ≡ number_spelled 2 size ++ codes "D:\\"
unfolding number_spelled
front_spelled size =
    let first : (size % 65536 + 6044228 * 65536) % 256 ≡ size % 256 = omega arith in
    let second : (size % 65536 + 6044228 * 65536) / 256 % 256 ≡ size / 256 % 256 = omega arith in
    let third : (size % 65536 + 6044228 * 65536) / 65536 % 256 ≡ 68 = omega arith in
    let fourth : (size % 65536 + 6044228 * 65536) / 16777216 % 256 ≡ 58 = omega arith in
    let fifth : (size % 65536 + 6044228 * 65536) / 4294967296 % 256 ≡ 92 = omega arith in
    rw (first, second, third, fourth, fifth) refl

-- a path's length and its volume, and then the names
pub path_written : {o m n : List ℕ} {a b c : ℕ} (path : Path) (names : List ℕ) (front : ℕ) → names ≡ join_with_byte 92 path → number_spelled 5 front ≡ number_spelled 2 (3 + length names) ++ codes "D:\\"
    → Writes o a m b (number_spelled 5 front) → Writes m b n c names → Writes o a n c (text_spelled (path_text path))
unfolding text_spelled
path_written {o = o} {m = m} {n = n} {a = a} {b = b} {c = c} path names front is spelled p q =
    let text : codes "D:\\" ++ names ≡ path_text path = ap (λ ns. codes "D:\\" ++ ns) is in
    let size : 3 + length names ≡ length (path_text path) = omega (arith, ap length text) in
    let parts : number_spelled 5 front ++ names ≡ number_spelled 2 (length (path_text path)) ++ path_text path =
    ap (λ (f : List ℕ). f ++ names) spelled ∙ append_assoc (number_spelled 2 (3 + length names)) (codes "D:\\") names
    ∙ ap (λ (k : ℕ). number_spelled 2 k ++ (codes "D:\\" ++ names)) size ∙ ap (λ (t : List ℕ). number_spelled 2 (length (path_text path)) ++ t) text in
    subst (Writes o a n c) parts (writes_then p q)

-- ---- a path's text is UTF-8
are_ascii : (bytes : List ℕ) → list_all (λ b. nat_lt b 128) bytes ≡ true → IsAscii bytes
are_ascii [] all i = omega arith
are_ascii (b ∷ bytes) all zero = ltb-true b 128 (and_parts (nat_lt b 128) (list_all (λ b. nat_lt b 128) bytes) all).0
are_ascii (b ∷ bytes) all (suc i) = are_ascii bytes (and_parts (nat_lt b 128) (list_all (λ b. nat_lt b 128) bytes) all).1 i

pub ascii_text : (bytes : List ℕ) → list_all (λ b. nat_lt b 128) bytes ≡ true → IsUtf8 bytes
ascii_text bytes all = IsUtf8-from_ascii bytes (are_ascii bytes all)

pub is_path_text_of : (path : Path) (names : List ℕ) → names ≡ join_with_byte 92 path → IsUtf8 names → is_path_text path ≡ true
is_path_text_of path names is are =
    ap (λ ns. is_utf8 (codes "D:\\" ++ ns)) (sym is)
    ∙ is_utf8-from_IsUtf8 (codes "D:\\" ++ names) (IsUtf8-append (codes "D:\\") names (ascii_text (codes "D:\\") refl) are)
