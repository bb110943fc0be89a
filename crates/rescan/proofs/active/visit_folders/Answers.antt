use Rattle.std.proofs.Common.{◌≡◌, ℕ, ◌+◌, ◌≤◌, None, Option, sym, ◌∙◌, subst, arith}
use Rattle.fsrm_base.proofs.Look.{none_row, some_row}
use Rattle.rescan.specs.Frontiers.{visit_looks}
use Rattle.rescan.proofs.queued.Visiting.{made_last, made_looks, made_more}
use Rattle.rescan.proofs.active.visit_folders.Goals as goal

pub returns-then-is_none-clause-follows : goal.returns-then-is_none-clause-follows
returns-then-is_none-clause-follows g c =
    let none : c.visit.result ≡ None = none_row c.visit.result c.if-is_none.ensures in
    let free : c.visit.new.steps ≤ c.loop-visited.steps + 0 = subst (λ (o : Option ℕ). c.visit.new.steps ≤ c.loop-visited.steps + visit_looks c.args.tree.now.nodes o) none c.visit.ensures.looks in
    (made_last c.args.tree.now c.args.frontier.now c.loop-visited.frontier c.visit.new.self c.loop-visited.visited c.args.steps.now c.loop-visited.steps c.visit.new.steps c.args.most c.loop-visited.invariant (omega arith) (sym c.visit.ensures.visited ∙ none) c.visit.ensures.follows (omega arith)).0

pub returns-then-is_none-clause-looks : goal.returns-then-is_none-clause-looks
returns-then-is_none-clause-looks g c =
    let none : c.visit.result ≡ None = none_row c.visit.result c.if-is_none.ensures in
    let free : c.visit.new.steps ≤ c.loop-visited.steps + 0 = subst (λ (o : Option ℕ). c.visit.new.steps ≤ c.loop-visited.steps + visit_looks c.args.tree.now.nodes o) none c.visit.ensures.looks in
    made_looks c.args.tree.now c.args.frontier.now c.visit.new.self c.loop-visited.visited c.args.steps.now c.visit.new.steps
    (made_last c.args.tree.now c.args.frontier.now c.loop-visited.frontier c.visit.new.self c.loop-visited.visited c.args.steps.now c.loop-visited.steps c.visit.new.steps c.args.most c.loop-visited.invariant (omega arith) (sym c.visit.ensures.visited ∙ none) c.visit.ensures.follows (omega arith)).1

pub loop-visited-preserved : goal.loop-visited-preserved
loop-visited-preserved g c =
    let some = some_row c.visit.result c.if-is_none.ensures in
    made_more c.args.tree.now c.args.frontier.now c.loop-visited.frontier c.visit.new.self c.loop-visited.visited c.args.steps.now c.loop-visited.steps c.visit.new.steps some.row c.loop-visited.invariant (sym c.visit.ensures.visited ∙ some.is) c.visit.ensures.follows
    (subst (λ (o : Option ℕ). c.visit.new.steps ≤ c.loop-visited.steps + visit_looks c.args.tree.now.nodes o) some.is c.visit.ensures.looks)

pub returns-clause-looks : goal.returns-clause-looks
returns-clause-looks g c =
    made_looks c.args.tree.now c.args.frontier.now c.loop-visited.frontier c.loop-visited.visited c.args.steps.now c.loop-visited.steps c.loop-visited.invariant
