use Rattle.std.proofs.Common.{◌≡◌, []}
use Rattle.fsrm_modes.proofs.Cutting.{none_held, some_held}
use Rattle.fsrm_modes.proofs.Outcomes.{on_ok}
use Rattle.fsrm_modes.proofs.lines.hold_end.Goals as goal

pub returns-then-is_empty-clause-some : goal.returns-then-is_empty-clause-some
returns-then-is_empty-clause-some c = λ some short.
    let held = c.args.held.now in
    absurd (some (none_held _ held.items c.is_empty.result held.ok.0 c.is_empty.ensures c.if-is_empty.true))

pub returns-clause-none : goal.returns-clause-none
returns-clause-none c = λ none.
    let held = c.args.held.now in
    absurd {A = c.hold.new.held.items ≡ []} (some_held _ held.items c.is_empty.result held.ok.0 c.is_empty.ensures c.if-is_empty.false none)

pub returns-clause-some : goal.returns-clause-some
returns-clause-some c = on_ok c.hold.result (λ kept some. kept) c.hold.ensures.ok
