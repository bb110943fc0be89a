use Rattle.std.proofs.Common.{ℕ, ◌+◌, take, drop, ap, ◌∙◌, arith}
use Rattle.std.specs.Prelude.{position}
use Rattle.fsrm_model.specs.lines.Reading.{is_backslash}
use Rattle.fsrm_model.proofs.FirstNames.{first_of_more, first_of_last, place_is, no_place, may_cut}
use Rattle.fsrm_model.proofs.path.first_name.Goals as goal

pub before-requires : goal.before-requires
before-requires c =
    let text = c.args.text.now in
    let at = place_is text c.in-Some.end (c.in-Some.ensures ∙ ap (position is_backslash) c.as_bytes.ensures.value) in
    (may_cut text c.in-Some.end c.utf8.text at.0 at.1).0

pub after-requires : goal.after-requires
after-requires c =
    let text = c.args.text.now in
    let at = place_is text c.in-Some.end (c.in-Some.ensures ∙ ap (position is_backslash) c.as_bytes.ensures.value) in
    (may_cut text c.in-Some.end c.utf8.text at.0 at.1).1

pub returns-in-Some : goal.returns-in-Some
returns-in-Some c =
    let text = c.args.text.now in
    let at = place_is text c.in-Some.end (c.in-Some.ensures ∙ ap (position is_backslash) c.as_bytes.ensures.value) in
    first_of_more text c.before-in-Some.result.now c.after.result.now (omega (arith, at.0, at.1)) (c.before-in-Some.ensures ∙ ap (λ (k : ℕ). take k text) at.0) (c.after.ensures ∙ ap (λ (k : ℕ). drop (k + 1) text) at.0)

pub returns-in-None : goal.returns-in-None
returns-in-None c =
    let text = c.args.text.now in
    first_of_last text (no_place text (c.in-None.ensures ∙ ap (position is_backslash) c.as_bytes.ensures.value)) c.requires
