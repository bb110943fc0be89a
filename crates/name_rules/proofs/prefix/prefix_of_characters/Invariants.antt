use Rattle.std.proofs.Common.{◌≡◌, ◌+◌, ◌-◌, ◌*◌, ◌^◌, ◌<◌, ◌≤◌}
use Rattle.std.specs.Str.{IsUtf8}
use Rattle.std.specs.Str.Iter.{chars_rest}
use Rattle.fsrm_model.specs.values.Name.{folded}
use Rattle.name_rules.specs.Prefix.{number_of, prefix}
use Rattle.name_rules.proofs.PrefixLaws.{to_come}
use Rattle.name_rules.proofs.prefix.prefix_of_characters.Given as goal

abbrev pub invariant-loop-left : goal.invariant-loop-left
invariant-loop-left l = record {
  text : IsUtf8 (chars_rest l.characters);
  few : l.left ≤ 8;
  digit : l.digit ≤ 255;
  small : l.number < 256 ^ (8 - l.left);
  whole : prefix l.name ≡ l.number * 256 ^ l.left + number_of l.left (to_come l.digit (folded (chars_rest l.characters)));
}

abbrev pub decreases-loop-left : goal.decreases-loop-left
decreases-loop-left l = l.left
