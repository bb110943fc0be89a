use Rattle.std.proofs.Common.{ℕ, List, ◌∙◌, ◌+◌, ◌++◌, length, sym, ap}
use Rattle.std.specs.Prelude.{codes}
use Rattle.record_fields.specs.Formats.{number_spelled}
use Rattle.record_codec.proofs.PathText.{path_written, is_path_text_of}
use Rattle.record_codec.proofs.paths.put_path.Goals as goal

pub returns-clause-written : goal.returns-clause-written
returns-clause-written c =
    let spelled = c.front.ensures ∙ ap (λ (names : List ℕ). number_spelled 2 (3 + length names) ++ codes "D:\\") (sym c.as_bytes.ensures.value) in
    path_written c.args.path.now c.as_bytes.result.now c.front.result (c.as_bytes.ensures.value ∙ c.joined-names.ensures) spelled c.put_number-begun.ensures c.put.ensures

pub returns-clause-text : goal.returns-clause-text
returns-clause-text c = is_path_text_of c.args.path.now c.as_bytes.result.now (c.as_bytes.ensures.value ∙ c.joined-names.ensures) c.as_bytes.ensures.utf8
