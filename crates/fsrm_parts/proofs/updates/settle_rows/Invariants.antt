use Rattle.std.proofs.Common.{◌≡◌, drop, true}
use Rattle.std.specs.List.{AllByRecursion}
use Rattle.std.specs.Prelude.{map}
use Rattle.fsrm_base.specs.Numbers.{is_set}
use Rattle.templates.specs.Reached.{whole}
use Rattle.fsrm_parts.specs.Updated.{HasNow}
use Rattle.fsrm_parts.proofs.settling.SettledRows.{RowsSettled}
use Rattle.fsrm_parts.proofs.updates.settle_rows.Given as goal

-- some rows are left, whose quotas are as they were
abbrev pub invariant-loop-place : goal.invariant-loop-place
invariant-loop-place l =
    let all = map (whole l.fn.thresholds) l.fn.rows in
    record {
      settled : RowsSettled l.usage l.run_limit l.moment l.fn.marks l.marks l.fn.objects l.objects all (drop l.place all);
      now : AllByRecursion (HasNow l.fn.thresholds l.fn.objects.quotas) (drop l.place all);
      sorted : is_set l.marks.numbers ≡ true;
      rows : l.rows ≡ l.fn.rows;
      apart : l.thresholds ≡ l.fn.thresholds;
    }
