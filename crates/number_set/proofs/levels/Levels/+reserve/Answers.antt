use Rattle.std.proofs.Common.{◌+◌, ◌/◌, ◌∙◌, ap, length, arith}
use Rattle.std.proofs.lemmas.List.{length-replicate}
use Rattle.number_set.proofs.LevelLaws.{new_view, new_level}
use Rattle.number_set.proofs.levels.Levels.+reserve.Goals as goal

pub returns-then-count-eq1 : goal.returns-then-count-eq1
returns-then-count-eq1 t c = new_view c.args.bound (c.args.bound / 64 + 1) c.in_ok-words.words.items c.in_ok-words.ensures

pub invariant_of-result-2 : goal.invariant_of-result-2
invariant_of-result-2 t c =
    let count = c.args.bound / 64 + 1 in
    let words = c.in_ok-words.words.items in
    record {
      small = omega arith;
      room = ap length c.in_ok-words.ensures ∙ length-replicate count 0;
      level = new_level count words c.in_ok-new.field-0.value (omega arith) c.in_ok-words.ensures (c.in_ok-new.ensures.ok ∙ c.in_ok-above.ensures);
    }

pub returns : goal.returns
returns t c = new_view c.args.bound (c.args.bound / 64 + 1) c.in_ok-words.words.items c.in_ok-words.ensures
