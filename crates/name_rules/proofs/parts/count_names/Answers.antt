use Rattle.std.proofs.Common.{◌≡◌, suc, ◌+◌, ◌&&◌, length, drop, arith, ap, subst, sym, ◌∙◌}
use Rattle.std.specs.List.{list_all}
use Rattle.std.proofs.lemmas.List.{take_rest}
use Rattle.fsrm_model.specs.values.Name.{is_name}
use Rattle.fsrm_model.specs.meaning.PathNames.{parts_of}
use Rattle.name_rules.specs.Parts.{IsFirstName}
use Rattle.name_rules.proofs.Taken.{parts_after}
use Rattle.name_rules.proofs.parts.count_names.Goals as goal

pub loop-start-preserved : goal.loop-start-preserved
loop-start-preserved c =
    let rest = c.args.rest.now in
    let start = c.loop-start.start in
    let size = c.in-Some.length in
    let kept = c.loop-start.invariant in
    let more = parts_of (drop (start + (size + 1)) rest) in
    let first = subst (λ text. IsFirstName text size) (take_rest rest start) c.in-Some.ensures.name in
    let parts = parts_after rest start size first in
    let long : length (parts_of (drop start rest)) ≡ suc (length more) = ap length parts in
    record {
      few = omega (arith, kept.few);
      counted = omega (arith, kept.counted, long);
      left = sym (ap (list_all is_name) parts ∙ ap (λ b. b && list_all is_name more) first.name) ∙ kept.left;
    }
