use Rattle.std.proofs.Common.{sym, ◌∙◌}
use Rattle.storage_reports.proofs.TwinLaws.{shared_again, taken_first}
use Rattle.storage_reports.proofs.twins.take_slot.Goals as goal

pub returns-then-contains-clause-times : goal.returns-then-contains-clause-times
returns-then-contains-clause-times c = shared_again c.args.slot c.args.taken.now c.args.shared.now c.insert.new.self (sym c.contains.ensures ∙ c.if-contains.true) c.insert.ensures

pub returns-else-contains-clause-times : goal.returns-else-contains-clause-times
returns-else-contains-clause-times c = taken_first c.args.slot c.args.taken.now c.args.shared.now c.insert-else-contains.new.self (sym c.contains.ensures ∙ c.if-contains.false) c.insert-else-contains.ensures
