use Rattle.std.proofs.Common.{◌≡◌, ℕ, ◌==◌, List, [], ◌∷◌, ◌++◌, length, ◌∙◌}
use Rattle.std.specs.String.{string_bytes}
use Rattle.fsrm_model.specs.nodes.Tree.{path_of}
use Rattle.fsrm_model.proofs.valid.ValidLaws.{folder_has}
use Rattle.file_jobs.specs.Moves.{text_of}
use Rattle.file_jobs.proofs.FindLaws.{if_ok}
use Rattle.file_jobs.proofs.MoveLaws.{root_path}
use Rattle.file_jobs.proofs.moves.text_in.Goals as goal

pub path_text-requires : goal.path_text-requires
path_text-requires g c = folder_has c.args.engine.now.rows.nodes c.args.folder c.requires.folder

pub returns-clause-text : goal.returns-clause-text
returns-clause-text g c =
    let nodes = c.args.engine.now.rows.nodes in
    let folder = c.args.folder in
    if_ok c.joined.result
    (λ text. (names : List (List ℕ)) → c.as_str.result.now ≡ text_of names → (folder == 0) ≡ (length names == 0) → string_bytes text ≡ text_of (names ++ c.args.name.now ∷ []))
    (λ text. string_bytes text ≡ text_of (path_of nodes folder ++ c.args.name.now ∷ []))
    (λ text h. h (path_of nodes folder) (c.as_str.ensures ∙ c.in_ok-path.ensures.text) (root_path c.args.engine.now.size nodes folder c.requires.volume (folder_has nodes folder c.requires.folder)))
    c.joined.ensures
