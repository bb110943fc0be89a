use Rattle.std.proofs.Common.{List, ℕ, [], ◌∷◌, ◌++◌, sym, ◌∙◌, ap, arith}
use Rattle.std.specs.String.{string_bytes}
use Rattle.file_jobs.proofs.PathLaws.{folder_then, root_then}
use Rattle.file_jobs.proofs.paths.joined.Goals as goal
use Rattle.file_jobs.proofs.paths.joined.Goals.{then-not-is_root+in_ok-push, else-not-is_root}

pub returns : goal.returns
returns c names folder root =
    c.in_ok-push_str.ensures.bytes
    ∙ elim c.if-not-is_root.branch [
      | then-not-is_root+in_ok-push w ↦
          ap (λ t. string_bytes t ++ c.args.name.now) w.text-is
          ∙ (ap (λ (bs : List ℕ). bs ++ c.args.name.now)
          (w.in_ok-push.ensures.bytes ∙ ap (λ (bs : List ℕ). string_bytes c.in_ok-text.text ++ bs) (w.in_ok-push.ensures.ascii (omega arith))
          ∙ ap (λ (bs : List ℕ). bs ++ 92 ∷ []) (c.in_ok-text.ensures.ok ∙ folder))
          ∙ folder_then names c.args.name.now (sym root ∙ w.if-not-is_root.true))
      | else-not-is_root w ↦
          ap (λ t. string_bytes t ++ c.args.name.now) w.text-is
          ∙ (ap (λ (bs : List ℕ). bs ++ c.args.name.now) (c.in_ok-text.ensures.ok ∙ folder)
          ∙ root_then names c.args.name.now (sym root ∙ w.if-not-is_root.false))
    ]
