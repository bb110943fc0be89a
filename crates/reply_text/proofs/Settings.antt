-- The lines of settings.
use Rattle.std.proofs.Common.{◌≡◌, ℕ, List, [], ◌∷◌, ◌++◌, length, ap, ◌∙◌, append_assoc}
use Rattle.std.specs.Prelude.{decimal, codes}
use Rattle.fsrm_model.specs.declared.row.Capacity.{Capacity}
use Rattle.fsrm_model.specs.declared.row.Rows.{Rows}
use Rattle.fsrm_model.specs.texts.Printed.{body_line}
use Rattle.fsrm_model.specs.texts.SettingsText.{settings_lines}
use Rattle.fsrm_model.specs.nodes.Tree.{name_bytes}

abbrev lines_of : List ℕ → List ℕ → List ℕ → List ℕ → List ℕ → List ℕ → List ℕ
lines_of limit scans nodes most names bytes =
    body_line (codes "runlimit" ∷ limit ∷ []) ++ body_line (codes "scans" ∷ scans ∷ [])
    ++ body_line (codes "nodes" ∷ nodes ∷ most ∷ []) ++ body_line (codes "names" ∷ names ∷ bytes ∷ [])

-- the lines as they are sent, in one row
abbrev row_of_parts : List ℕ → List ℕ → List ℕ → List ℕ → List ℕ → List ℕ → List ℕ
row_of_parts limit scans nodes most names bytes =
    codes "  runlimit " ++ (limit ++ (10 ∷ codes "  scans " ++ (scans ++ (10 ∷ codes "  nodes " ++ (nodes ++ (32 ∷ (most
    ++ (10 ∷ codes "  names " ++ (names ++ (32 ∷ (bytes ++ 10 ∷ [])))))))))))

lines_same : (limit scans nodes most names bytes : List ℕ) → row_of_parts limit scans nodes most names bytes ≡ lines_of limit scans nodes most names bytes
lines_same limit scans nodes most names bytes = simp append_assoc

pub settings_shown : (K : Capacity) (R : Rows) (limit scans nodes most names bytes : ℕ) → limit ≡ R.run_limit → scans ≡ length R.queue → nodes ≡ length R.nodes → most ≡ K.nodes → names ≡ name_bytes R.nodes → bytes ≡ K.names
    → row_of_parts (decimal limit) (decimal scans) (decimal nodes) (decimal most) (decimal names) (decimal bytes) ≡ settings_lines K R
settings_shown K R limit scans nodes most names bytes a b c d e f =
    lines_same (decimal limit) (decimal scans) (decimal nodes) (decimal most) (decimal names) (decimal bytes)
    ∙ ap (λ n. lines_of (decimal n) (decimal scans) (decimal nodes) (decimal most) (decimal names) (decimal bytes)) a
    ∙ ap (λ n. lines_of (decimal R.run_limit) (decimal n) (decimal nodes) (decimal most) (decimal names) (decimal bytes)) b
    ∙ ap (λ n. lines_of (decimal R.run_limit) (decimal (length R.queue)) (decimal n) (decimal most) (decimal names) (decimal bytes)) c
    ∙ ap (λ n. lines_of (decimal R.run_limit) (decimal (length R.queue)) (decimal (length R.nodes)) (decimal n) (decimal names) (decimal bytes)) d
    ∙ ap (λ n. lines_of (decimal R.run_limit) (decimal (length R.queue)) (decimal (length R.nodes)) (decimal K.nodes) (decimal n) (decimal bytes)) e
    ∙ ap (λ n. lines_of (decimal R.run_limit) (decimal (length R.queue)) (decimal (length R.nodes)) (decimal K.nodes) (decimal (name_bytes R.nodes)) (decimal n)) f
