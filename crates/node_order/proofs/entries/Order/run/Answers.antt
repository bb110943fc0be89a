use Rattle.std.proofs.Common.{◌≡◌, ◌+◌, ◌∙◌, ℕ, ap, arith, Contains, get_or, length, map, slice_get, Some, subst, sym}
use Rattle.block_list.specs.Runs.{entries_of, run_at, start_of}
use Rattle.node_order.specs.Entries.{Sequence, number_in, numbers_in}
use Rattle.node_order.proofs.EntryRuns.{count-numbers, get-numbers, run-numbers, run_get, run_listed, run_size-numbers, start-numbers}
use Rattle.node_order.proofs.entries.Order.run.Goals as goal

pub run-requires : goal.run-requires
run-requires c = omega (arith, c.requires, count-numbers c.self.inside.list.runs, ap (λ (v : Sequence). length v.runs) c.self.view_is)

pub returns-clause-run : goal.returns-clause-run
returns-clause-run c =
    let runs = c.self.inside.list.runs in
    ap (map number_in) c.run.ensures.run ∙ (sym (run-numbers runs c.args.run) ∙ ap (λ (v : Sequence). run_at v.runs c.args.run) c.self.view_is)

pub returns-clause-size : goal.returns-clause-size
returns-clause-size c =
    let runs = c.self.inside.list.runs in
    ap (λ (v : Sequence). length (run_at v.runs c.args.run)) (sym c.self.view_is) ∙ (run_size-numbers runs c.args.run ∙ ap length (sym c.run.ensures.run))

pub returns-clause-numbers : goal.returns-clause-numbers
returns-clause-numbers c = λ k d l.
    let runs = c.self.inside.list.runs in
    let run = c.args.run in
    let entry = get_or c.run.result.now k d in
    subst (λ (v : Sequence). slice_get (entries_of v.runs) (start_of v.runs run + k) ≡ Some entry.node) c.self.view_is
    (get-numbers runs (start_of runs run + k) (start_of (numbers_in runs) run + k) entry (ap (λ (n : ℕ). n + k) (start-numbers runs run)) (run_get runs c.run.result.now run c.run.ensures.entries k d l))

pub returns-clause-listed : goal.returns-clause-listed
returns-clause-listed c = λ k d l.
    let runs = c.self.inside.list.runs in
    subst (λ (v : Sequence). Contains v.entries (get_or c.run.result.now k d)) c.self.view_is (run_listed runs c.run.result.now c.args.run c.run.ensures.entries k d l)

pub returns-clause-next : goal.returns-clause-next
returns-clause-next c =
    let runs = c.self.inside.list.runs in
    let run = c.args.run in
    subst (λ (v : Sequence). start_of v.runs (run + 1) ≡ start_of v.runs run + length c.run.result.now) c.self.view_is
    (start-numbers runs (run + 1) ∙ (c.run.ensures.next ∙ ap (λ (n : ℕ). n + length c.run.result.now) (sym (start-numbers runs run))))
