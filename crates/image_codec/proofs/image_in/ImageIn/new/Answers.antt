use Rattle.std.proofs.Common.{ℕ, ◌+◌, ◌-◌, List, [], ◌++◌, length, take, ap, ◌∙◌}
use Rattle.std.specs.Prelude.{◌==◌}
use Rattle.fsrm_model.specs.declared.row.Rows.{Rows}
use Rattle.image_codec.specs.declared.section.Section.TheVariants.{Start}
use Rattle.image_codec.specs.Images.{of_length}
use Rattle.image_codec.specs.Sections.{resume}
use Rattle.image_codec.proofs.ImageInLaws.{begins_so}
use Rattle.image_codec.proofs.image_in.ImageIn.new.Goals as goal

pub returns : goal.returns
returns c = λ bytes.
    let len = c.args.len in
    ap (λ (held : List ℕ). of_length (0 + length bytes == len) (0 + length (take (len - 0) bytes)) (resume Start c.no_rows.result 1 (held ++ take (len - 0) bytes))) c.new.ensures.items
    ∙ ap (λ (R : Rows). of_length (0 + length bytes == len) (0 + length (take (len - 0) bytes)) (resume Start R 1 ([] ++ take (len - 0) bytes))) c.no_rows.ensures
    ∙ begins_so len bytes
