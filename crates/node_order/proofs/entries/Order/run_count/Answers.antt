use Rattle.std.proofs.Common.{◌≡◌, ◌∙◌, ap, arith, length, subst, sym}
use Rattle.block_list.specs.Runs.{entries_of, start_of}
use Rattle.node_order.specs.Entries.{Sequence}
use Rattle.node_order.proofs.EntryRuns.{count-numbers, size-numbers, start-numbers}
use Rattle.node_order.proofs.entries.Order.run_count.Goals as goal

pub returns-clause-count : goal.returns-clause-count
returns-clause-count c = c.run_count.ensures.count ∙ (sym (count-numbers c.self.inside.list.runs) ∙ ap (λ (v : Sequence). length v.runs) c.self.view_is)

pub returns-clause-few : goal.returns-clause-few
returns-clause-few c =
    omega (arith, c.run_count.ensures.few, size-numbers c.self.inside.list.runs, ap (λ (v : Sequence). length (entries_of v.runs)) c.self.view_is)

pub returns-clause-all : goal.returns-clause-all
returns-clause-all c =
    let runs = c.self.inside.list.runs in
    subst (λ (v : Sequence). start_of v.runs c.run_count.result ≡ length (entries_of v.runs)) c.self.view_is
    (start-numbers runs c.run_count.result ∙ (c.run_count.ensures.all ∙ sym (size-numbers runs)))
