use Rattle.fsrm_parts.proofs.tables.ListLaws.{comes_at, comes_in, own_gap, own_place, there_already}
use Rattle.fsrm_parts.proofs.threshold_lists.place_of.Goals as goal

pub returns-in-Ok-clause-with : goal.returns-in-Ok-clause-with
returns-in-Ok-clause-with c =
    let at = own_place c.args.thresholds.now c.as_slice.result.now c.args.percent c.in-Ok.place c.as_slice.ensures c.in-Ok.ensures.found in
    there_already c.args.thresholds.now c.args.percent c.in-Ok.place at

pub returns-in_ok-insert-in-Err-clause-with : goal.returns-in_ok-insert-in-Err-clause-with
returns-in_ok-insert-in-Err-clause-with c =
    let gap = own_gap c.args.thresholds.now c.as_slice.result.now c.args.percent c.in-Err.place c.as_slice.ensures c.in-Err.ensures.free in
    comes_in c.args.thresholds.now c.insert.new.self c.args.percent c.in-Err.place c.new.result gap c.new.ensures c.in_ok-insert-in-Err.ensures.ok

pub returns-in_ok-insert-in-Err-clause-place : goal.returns-in_ok-insert-in-Err-clause-place
returns-in_ok-insert-in-Err-clause-place c =
    let gap = own_gap c.args.thresholds.now c.as_slice.result.now c.args.percent c.in-Err.place c.as_slice.ensures c.in-Err.ensures.free in
    comes_at c.args.thresholds.now c.insert.new.self c.args.percent c.in-Err.place c.new.result gap c.new.ensures c.in_ok-insert-in-Err.ensures.ok
