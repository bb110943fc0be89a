-- A path is read exactly as it is written.
use Rattle.std.proofs.Common.{◌≡◌, ℕ, ◌<◌, List, [], ◌∷◌, ◌++◌, Bool, true, false, length, take, drop, refl, sym, ◌∙◌, ap, subst, inl, inr, arith, append_assoc}
use Rattle.std.specs.Prelude.{Ok, ◌⊎◌, ◌&&◌, ◌||◌, not, nat_lt, nat_le, codes, bytes_eq}
use Rattle.std.specs.List.{list_all, list_any, onto_first, slice_split, join_with_byte}
use Rattle.std.proofs.lemmas.Bool.{and_parts, and_from, or_parts, or_from, or_cases, eqb-true, true≢false, cases_Bool}
use Rattle.std.proofs.lemmas.List.{append-nil, take-append-drop}
use Rattle.std.proofs.lemmas.List.Splits.{join_with_byte-slice_split}
use Rattle.std.proofs.lemmas.Slice.Eq.{bytes_eq-Decides}
use Rattle.fsrm_model.specs.declared.command.Refusal.TheVariants.{InvalidPath, InvalidName}
use Rattle.fsrm_model.specs.values.Limits.{longest_name}
use Rattle.fsrm_model.specs.values.Name.{is_name, is_name_byte}
use Rattle.fsrm_model.specs.lines.Reading.{Read, guarded, is_backslash, without_last_empty, path_parts, is_on_volume, has_path_form, path_from}
use Rattle.fsrm_model.specs.meaning.Spelling.{WritesPath}
use Rattle.fsrm_base.proofs.TestLaws.{eq_same}
use Rattle.fsrm_model.proofs.lines.ReadLaws.{then_ok, guarded_then, guarded_ok, guarded_from}
use Rattle.fsrm_model.proofs.lines.ValueLaws.{is_mark}

-- bytes in front of the first part
abbrev pub in_front : List ℕ → List (List ℕ) → List (List ℕ)
in_front [] parts = parts
in_front (b ∷ bs) parts = onto_first b (in_front bs parts)

-- a first part that is empty takes them all
pub in_front-empty : (front : List ℕ) (parts : List (List ℕ)) → in_front front ([] ∷ parts) ≡ front ∷ parts
in_front-empty [] parts = refl
in_front-empty (b ∷ front) parts = ap (onto_first b) (in_front-empty front parts)

-- no byte of a name is a backslash, nor is the name empty
name_byte_plain : (b : ℕ) → is_name_byte b ≡ true → is_backslash b ≡ false
name_byte_plain b h = elim (cases_Bool (is_backslash b)) [
  | inl is ↦ absurd (true≢false (sym (subst (λ (c : ℕ). is_name_byte c ≡ true) (eqb-true b 92 is) h)))
  | inr other ↦ other
]

bytes_plain : (name : List ℕ) → list_all is_name_byte name ≡ true → list_any is_backslash name ≡ false
bytes_plain [] h = refl
bytes_plain (b ∷ name) h =
    let parts = and_parts (is_name_byte b) (list_all is_name_byte name) h in
    or_from (is_backslash b) (list_any is_backslash name) (name_byte_plain b parts.0) (bytes_plain name parts.1)

name_parts : (name : List ℕ) → is_name name ≡ true → (nat_lt 0 (length name) ≡ true) × (list_any is_backslash name ≡ false)
name_parts name h =
    let long = nat_lt 0 (length name) && nat_le (length name) longest_name in
    let whole = and_parts (long && list_all is_name_byte name) (not (bytes_eq name (codes ".") || bytes_eq name (codes ".."))) h in
    let bytes = and_parts long (list_all is_name_byte name) whole.0 in
    ((and_parts (nat_lt 0 (length name)) (nat_le (length name) longest_name) bytes.0).0, bytes_plain name bytes.1)

-- the same of each name of a path
abbrev is_filled : List ℕ → Bool
is_filled part = nat_lt 0 (length part)

abbrev has_backslash : List ℕ → Bool
has_backslash part = list_any is_backslash part

names_filled : (path : List (List ℕ)) → list_all is_name path ≡ true → list_all is_filled path ≡ true
names_filled [] h = refl
names_filled (name ∷ path) h =
    let parts = and_parts (is_name name) (list_all is_name path) h in
    and_from (is_filled name) (list_all is_filled path) (name_parts name parts.0).0 (names_filled path parts.1)

names_plain : (path : List (List ℕ)) → list_all is_name path ≡ true → list_any has_backslash path ≡ false
names_plain [] h = refl
names_plain (name ∷ path) h =
    let parts = and_parts (is_name name) (list_all is_name path) h in
    or_from (has_backslash name) (list_any has_backslash path) (name_parts name parts.0).1 (names_plain path parts.1)

-- a text is parted after a front without a mark
abbrev pub has_mark : ℕ → List ℕ → Bool
has_mark mark part = list_any (is_mark mark) part

split_front : (mark : ℕ) (front rest : List ℕ) → has_mark mark front ≡ false → slice_split (is_mark mark) (front ++ rest) ≡ in_front front (slice_split (is_mark mark) rest)
split_front mark [] rest h = refl
split_front mark (b ∷ front) rest h =
    let tests = or_parts (is_mark mark b) (has_mark mark front) h in
    rw tests.0 (ap (onto_first b) (split_front mark front rest tests.1))

split_mark : (mark : ℕ) (rest : List ℕ) → slice_split (is_mark mark) (mark ∷ rest) ≡ [] ∷ slice_split (is_mark mark) rest
split_mark mark rest = rw (eq_same mark) refl

-- joined parts are parted again
pub split_join : (mark : ℕ) (part : List ℕ) (parts : List (List ℕ)) → list_any (has_mark mark) (part ∷ parts) ≡ false → slice_split (is_mark mark) (join_with_byte mark (part ∷ parts)) ≡ part ∷ parts
split_join mark part [] h =
    ap (slice_split (is_mark mark)) (sym (append-nil part))
    ∙ split_front mark part [] (or_parts (has_mark mark part) false h).0
    ∙ in_front-empty part []
split_join mark part (next ∷ parts) h =
    let tests = or_parts (has_mark mark part) (list_any (has_mark mark) (next ∷ parts)) h in
    split_front mark part (mark ∷ join_with_byte mark (next ∷ parts)) tests.0
    ∙ ap (in_front part) (split_mark mark (join_with_byte mark (next ∷ parts)))
    ∙ in_front-empty part (slice_split (is_mark mark) (join_with_byte mark (next ∷ parts)))
    ∙ ap (λ (ps : List (List ℕ)). part ∷ ps) (split_join mark next parts tests.1)

-- one more empty part is one more backslash
join_last : (part : List ℕ) (parts : List (List ℕ)) → join_with_byte 92 (part ∷ (parts ++ [] ∷ [])) ≡ join_with_byte 92 (part ∷ parts) ++ 92 ∷ []
join_last part [] = refl
join_last part (next ∷ parts) =
    ap (λ (bs : List ℕ). part ++ 92 ∷ bs) (join_last next parts)
    ∙ sym (append_assoc part (92 ∷ join_with_byte 92 (next ∷ parts)) (92 ∷ []))

last_plain : (parts : List (List ℕ)) → list_any has_backslash parts ≡ false → list_any has_backslash (parts ++ [] ∷ []) ≡ false
last_plain [] h = refl
last_plain (part ∷ parts) h =
    let tests = or_parts (has_backslash part) (list_any has_backslash parts) h in
    or_from (has_backslash part) (list_any has_backslash (parts ++ [] ∷ [])) tests.0 (last_plain parts tests.1)

-- parts that are filled stay, with or without one more that is empty
none_dropped : (parts : List (List ℕ)) → list_all is_filled parts ≡ true → without_last_empty parts ≡ parts
none_dropped [] h = refl
none_dropped ([] ∷ parts) h = absurd (true≢false (sym h))
none_dropped ((b ∷ bs) ∷ parts) h = ap (λ (ps : List (List ℕ)). (b ∷ bs) ∷ ps) (none_dropped parts (and_parts (is_filled (b ∷ bs)) (list_all is_filled parts) h).1)

one_dropped : (parts : List (List ℕ)) → list_all is_filled parts ≡ true → without_last_empty (parts ++ [] ∷ []) ≡ parts
one_dropped [] h = refl
one_dropped ([] ∷ parts) h = absurd (true≢false (sym h))
one_dropped ((b ∷ bs) ∷ parts) h = ap (λ (ps : List (List ℕ)). (b ∷ bs) ∷ ps) (one_dropped parts (and_parts (is_filled (b ∷ bs)) (list_all is_filled parts) h).1)

-- what was dropped, if any
dropped : (parts : List (List ℕ)) → (parts ≡ without_last_empty parts) ⊎ (parts ≡ without_last_empty parts ++ [] ∷ [])
dropped [] = inl refl
dropped ([] ∷ []) = inr refl
dropped ([] ∷ part ∷ parts) = elim (dropped (part ∷ parts)) [
  | inl e ↦ inl (ap (λ (ps : List (List ℕ)). [] ∷ ps) e)
  | inr e ↦ inr (ap (λ (ps : List (List ℕ)). [] ∷ ps) e)
]
dropped ((b ∷ bs) ∷ parts) = elim (dropped parts) [
  | inl e ↦ inl (ap (λ (ps : List (List ℕ)). (b ∷ bs) ∷ ps) e)
  | inr e ↦ inr (ap (λ (ps : List (List ℕ)). (b ∷ bs) ∷ ps) e)
]

-- the two spellings of the names
abbrev pub AreNames : List ℕ → List (List ℕ) → Type 0
AreNames rest path = (rest ≡ join_with_byte 92 path) ⊎ ((0 < length path) × (rest ≡ join_with_byte 92 path ++ 92 ∷ []))

names_joined : (rest : List ℕ) (path parts : List (List ℕ)) → join_with_byte 92 parts ≡ rest → (parts ≡ path) ⊎ (parts ≡ path ++ [] ∷ []) → AreNames rest path
names_joined rest path parts e (inl same) = inl (sym e ∙ ap (join_with_byte 92) same)
names_joined rest [] parts e (inr more) = inl (sym e ∙ ap (join_with_byte 92) more)
names_joined rest (part ∷ path) parts e (inr more) = inr (omega arith, sym e ∙ ap (join_with_byte 92) more ∙ join_last part path)

pub names_of : (rest : List ℕ) → AreNames rest (without_last_empty (slice_split is_backslash rest))
names_of rest = names_joined rest (without_last_empty (slice_split is_backslash rest)) (slice_split is_backslash rest) (join_with_byte-slice_split 92 rest) (dropped (slice_split is_backslash rest))

names_parted : (rest : List ℕ) (path : List (List ℕ)) → list_all is_name path ≡ true → AreNames rest path → without_last_empty (slice_split is_backslash rest) ≡ path
names_parted rest [] each (inl e) = ap (λ (bs : List ℕ). without_last_empty (slice_split is_backslash bs)) e
names_parted rest [] each (inr e) = absurd (omega (arith, e.0))
names_parted rest (part ∷ path) each (inl e) =
    ap (λ (bs : List ℕ). without_last_empty (slice_split is_backslash bs)) e
    ∙ ap without_last_empty (split_join 92 part path (names_plain (part ∷ path) each))
    ∙ none_dropped (part ∷ path) (names_filled (part ∷ path) each)
names_parted rest (part ∷ path) each (inr e) =
    ap (λ (bs : List ℕ). without_last_empty (slice_split is_backslash bs)) (e.1 ∙ sym (join_last part path))
    ∙ ap without_last_empty (split_join 92 part (path ++ [] ∷ []) (last_plain (part ∷ path) (names_plain (part ∷ path) each)))
    ∙ one_dropped (part ∷ path) (names_filled (part ∷ path) each)

-- the volume, in letters of either case
volume_of : (text : List ℕ) → is_on_volume text ≡ true → (take 3 text ≡ codes "D:\\") ⊎ (take 3 text ≡ codes "d:\\")
volume_of text h = elim (or_cases (bytes_eq (take 3 text) (codes "D:\\")) (bytes_eq (take 3 text) (codes "d:\\")) h) [
  | inl e ↦ inl ((bytes_eq-Decides (take 3 text) (codes "D:\\")).0 e)
  | inr e ↦ inr ((bytes_eq-Decides (take 3 text) (codes "d:\\")).0 e)
]

-- and what stands after it
abbrev After : List ℕ → List ℕ → Type 0
After text rest = (is_on_volume text ≡ true) × (drop 3 text ≡ rest)

after : (text volume rest : List ℕ) → (volume ≡ codes "D:\\") ⊎ (volume ≡ codes "d:\\") → text ≡ volume ++ rest → After text rest
after text volume rest (inl v) e = subst (λ (bs : List ℕ). After bs rest) (sym (e ∙ ap (λ (bs : List ℕ). bs ++ rest) v)) (refl, refl)
after text volume rest (inr v) e = subst (λ (bs : List ℕ). After bs rest) (sym (e ∙ ap (λ (bs : List ℕ). bs ++ rest) v)) (refl, refl)

abbrev named_parts : List (List ℕ) → Read (List (List ℕ))
named_parts parts = guarded (list_all is_name parts) InvalidName parts

-- a path that is read is written there
pub path_writes : (text : List ℕ) (path : List (List ℕ)) → path_from text ≡ Ok path → WritesPath text path
path_writes text path h =
    let form = guarded_then (has_path_form text) InvalidPath (path_parts text) named_parts path h in
    let named = guarded_ok (list_all is_name (path_parts text)) InvalidName (path_parts text) path form.1 in
    let volume = and_parts (is_on_volume text) (list_all is_filled (path_parts text)) form.0 in
    let whole : text ≡ take 3 text ++ drop 3 text = sym (take-append-drop 3 text) in
    let names : AreNames (drop 3 text) path = subst (AreNames (drop 3 text)) named.1 (names_of (drop 3 text)) in
    record {
      each = subst (λ (ps : List (List ℕ)). list_all is_name ps ≡ true) named.1 named.0;
      volume = take 3 text;
      volume_is = volume_of text volume.0;
      names = elim names [
        | inl e ↦ inl (whole ∙ ap (λ (bs : List ℕ). take 3 text ++ bs) e)
        | inr e ↦ inr (e.0, whole ∙ ap (λ (bs : List ℕ). take 3 text ++ bs) e.1)
      ];
    }

path_reads_after : (text rest : List ℕ) (path : List (List ℕ)) → After text rest → AreNames rest path → list_all is_name path ≡ true → path_from text ≡ Ok path
path_reads_after text rest path on names each =
    let parts : path_parts text ≡ path = ap (λ (bs : List ℕ). without_last_empty (slice_split is_backslash bs)) on.1 ∙ names_parted rest path each names in
    let filled : list_all is_filled (path_parts text) ≡ true = ap (list_all is_filled) parts ∙ names_filled path each in
    let form : has_path_form text ≡ true = and_from (is_on_volume text) (list_all is_filled (path_parts text)) on.0 filled in
    then_ok (guarded (has_path_form text) InvalidPath (path_parts text)) (path_parts text) named_parts (guarded_from (has_path_form text) InvalidPath (path_parts text) form)
    ∙ ap named_parts parts
    ∙ guarded_from (list_all is_name path) InvalidName path each

-- and a path that is written is read
pub path_reads : (text : List ℕ) (path : List (List ℕ)) → WritesPath text path → path_from text ≡ Ok path
path_reads text path w = elim w.names [
  | inl e ↦ path_reads_after text (join_with_byte 92 path) path (after text w.volume (join_with_byte 92 path) w.volume_is e) (inl refl) w.each
  | inr e ↦
      path_reads_after text (join_with_byte 92 path ++ 92 ∷ []) path (after text w.volume (join_with_byte 92 path ++ 92 ∷ []) w.volume_is e.1) (inr (e.0, refl)) w.each
]
