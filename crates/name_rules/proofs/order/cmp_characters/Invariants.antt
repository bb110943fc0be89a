use Rattle.std.proofs.Common.{◌≡◌}
use Rattle.std.specs.Str.{IsUtf8}
use Rattle.std.specs.Str.Iter.{chars_rest}
use Rattle.fsrm_model.specs.values.Name.{name_cmp}
use Rattle.name_rules.proofs.order.cmp_characters.Given as goal

abbrev pub invariant-loop-one : goal.invariant-loop-one
invariant-loop-one l = record {
  text : IsUtf8 (chars_rest l.one-iterator);
  other_text : IsUtf8 (chars_rest l.others);
  left : name_cmp (chars_rest l.one-iterator) (chars_rest l.others) ≡ name_cmp l.fn.a l.fn.b;
}
