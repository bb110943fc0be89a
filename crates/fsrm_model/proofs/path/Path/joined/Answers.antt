use Rattle.std.proofs.Common.{◌∙◌, ap}
use Rattle.std.specs.List.{join_with_byte}
use Rattle.fsrm_model.specs.meaning.PathNames.{parts_of}
use Rattle.fsrm_model.proofs.JoinedNames.{joined_then, joined_else}
use Rattle.fsrm_model.proofs.path.Path.joined.Goals as goal

pub returns-then-ends_in_backslash : goal.returns-then-ends_in_backslash
returns-then-ends_in_backslash c =
    let text = c.as_str-text.result.now in
    joined_then text c.as_bytes.result.now c.before-then-ends_in_backslash.result.now c.ends_in_backslash.result c.as_bytes.ensures.value c.ends_in_backslash.ensures c.if-ends_in_backslash.true c.before-then-ends_in_backslash.ensures
    ∙ ap (join_with_byte 92) (ap parts_of c.as_str-text.ensures.value ∙ c.self.view_is)

pub returns : goal.returns
returns c =
    let text = c.as_str-text.result.now in
    joined_else text c.as_bytes.result.now c.ends_in_backslash.result c.as_bytes.ensures.value c.ends_in_backslash.ensures c.if-ends_in_backslash.false
    ∙ ap (join_with_byte 92) (ap parts_of c.as_str-text.ensures.value ∙ c.self.view_is)
