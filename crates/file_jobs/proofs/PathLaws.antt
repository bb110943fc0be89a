-- The texts of paths.
use Rattle.std.proofs.Common.{◌≡◌, ℕ, ◌==◌, true, false, List, [], ◌∷◌, ◌++◌, length, inl, refl, sym, ◌∙◌, ap, append_assoc}
use Rattle.std.specs.Prelude.{Ok, codes}
use Rattle.std.specs.List.{join_with_byte, list_all}
use Rattle.fsrm_base.proofs.TestLaws.{clash, suc_apart}
use Rattle.fsrm_model.specs.lines.Reading.{path_from}
use Rattle.fsrm_model.specs.values.Name.{is_name}
use Rattle.fsrm_model.proofs.lines.PathLaws.{path_reads}
use Rattle.file_jobs.specs.Moves.{text_of}

-- a path's text is read as the path
pub reads : (text : List ℕ) (path names : List (List ℕ)) → path_from text ≡ Ok path → list_all is_name names ≡ true → text ≡ text_of names → path ≡ names
reads text path names read legal is = cc (read, path_reads text names (record { each = legal; volume = codes "D:\\"; volume_is = inl refl; names = inl is }))

-- one more name
join_one : (name : List ℕ) (names : List (List ℕ)) (last : List ℕ) → join_with_byte 92 ((name ∷ names) ++ last ∷ []) ≡ join_with_byte 92 (name ∷ names) ++ 92 ∷ last
join_one name [] last = refl
join_one name (next ∷ names) last =
    ap (λ (bs : List ℕ). name ++ 92 ∷ bs) (join_one next names last) ∙ sym (append_assoc name (92 ∷ join_with_byte 92 (next ∷ names)) (92 ∷ last))

pub root_then : (names : List (List ℕ)) (last : List ℕ) → (length names == 0) ≡ true → text_of names ++ last ≡ text_of (names ++ last ∷ [])
root_then [] last e = refl
root_then (name ∷ names) last e = absurd (clash _ e (suc_apart (length names)))

pub folder_then : (names : List (List ℕ)) (last : List ℕ) → (length names == 0) ≡ false → (text_of names ++ 92 ∷ []) ++ last ≡ text_of (names ++ last ∷ [])
folder_then [] last e = absurd (cc)
folder_then (name ∷ names) last e =
    append_assoc (text_of (name ∷ names)) (92 ∷ []) last
    ∙ (append_assoc (codes "D:\\") (join_with_byte 92 (name ∷ names)) (92 ∷ last) ∙ ap (λ (bs : List ℕ). codes "D:\\" ++ bs) (sym (join_one name names last)))
