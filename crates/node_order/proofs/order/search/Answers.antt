use Rattle.std.proofs.Common.{◌≡◌, ◌∙◌, ℕ, ap, length, subst, sym}
use Rattle.std.specs.Prelude.{IfOk, IfErr}
use Rattle.block_list.specs.Places.{index_of}
use Rattle.block_list.specs.Runs.{entries_of, start_of}
use Rattle.node_table.specs.Slots.{rows_of}
use Rattle.node_order.specs.Order.{IsNamed, IsPlace, LacksName}
use Rattle.node_order.proofs.Runs.{err_both}
use Rattle.node_order.proofs.Spans.{beyond_last, floor_first, lacks_met, place_met}
use Rattle.node_order.proofs.order.search.Goals as goal

pub returns-clause-taken : goal.returns-clause-taken
returns-clause-taken g c =
    let runs = c.args.order.now.runs in
    subst (λ (f : ℕ). IfOk c.place_of.result (λ place. IsPlace (rows_of c.args.slots.now.slots) (entries_of runs) f c.args.name.now (index_of runs place))) c.from.ensures c.place_of.ensures.taken

pub returns-clause-free : goal.returns-clause-free
returns-clause-free g c =
    let runs = c.args.order.now.runs in
    let nodes = rows_of c.args.slots.now.slots in
    let free : IfErr c.place_of.result (λ place. IsPlace nodes (entries_of runs) c.from.result c.args.name.now (index_of runs place)) =
    err_both c.place_of.result (λ place f b. place_met nodes (entries_of runs) c.from.result c.args.name.now (index_of runs place) f b) c.place_of.ensures.floor c.place_of.ensures.beyond in
    subst (λ (f : ℕ). IfErr c.place_of.result (λ place. IsPlace nodes (entries_of runs) f c.args.name.now (index_of runs place))) c.from.ensures free

pub returns-clause-named : goal.returns-clause-named
returns-clause-named g c =
    let runs = c.args.order.now.runs in
    subst (λ (f : ℕ). IfOk c.place_of.result (λ place. IsNamed (rows_of c.args.slots.now.slots) (entries_of runs) f c.args.name.now (index_of runs place))) c.from.ensures c.place_of.ensures.named

pub returns-clause-none : goal.returns-clause-none
returns-clause-none g c =
    let runs = c.args.order.now.runs in
    let nodes = rows_of c.args.slots.now.slots in
    let none : IfErr c.place_of.result (λ place. LacksName nodes (entries_of runs) c.from.result c.args.name.now) =
    err_both c.place_of.result (λ place f b. lacks_met nodes (entries_of runs) c.from.result c.args.name.now (index_of runs place) c.requires.order f b) c.place_of.ensures.floor c.place_of.ensures.beyond in
    subst (λ (f : ℕ). IfErr c.place_of.result (λ place. LacksName nodes (entries_of runs) f c.args.name.now)) c.from.ensures none

pub returns-then-run_count-eq0-clause-none : goal.returns-then-run_count-eq0-clause-none
returns-then-run_count-eq0-clause-none g c =
    let runs = c.args.order.now.runs in
    let nodes = rows_of c.args.slots.now.slots in
    let name = c.args.name.now in
    let empty : 0 ≡ length (entries_of runs) = ap (start_of runs) (sym c.if-run_count-eq0.true) ∙ c.run_count.ensures.all in
    lacks_met nodes (entries_of runs) c.args.folder name 0 c.requires.order (floor_first nodes (entries_of runs) c.args.folder name) (beyond_last nodes (entries_of runs) c.args.folder name 0 empty)
