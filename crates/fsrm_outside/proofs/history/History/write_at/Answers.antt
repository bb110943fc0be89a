use Rattle.std.proofs.Common.{rules, refl}
use Rattle.fsrm_outside.proofs.history.History.write_at.Goals as goal

-- what was kept is the copy
pub returns : goal.returns
returns c = record {
  calls = (c.in-Ok.copy, c.in-Ok.ensures.items, search rules);
  start = c.reserve.ensures.parts;
  begun = refl;
  parts = search rules;
}
