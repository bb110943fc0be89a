use Rattle.std.proofs.Common.{◌≡◌, take, true}
use Rattle.fsrm_model.specs.store.Valid.{are_groups}
use Rattle.stored_rows.proofs.group_rows.put_groups.Given as goal

abbrev pub invariant-loop-row : goal.invariant-loop-row
invariant-loop-row l = record {
  came : l.groups ≡ take l.row-index l.rows;
  are : are_groups l.groups ≡ true;
}
