use Rattle.std.proofs.Common.{[], ◌∷◌, arith, refl, sym, ◌∙◌, ap}
use Rattle.std.specs.Prelude.{Err}
use Rattle.fsrm_store.specs.declared.fault.StoreFault.{StoreFault}
use Rattle.fsrm_store.specs.Amortized.{bytes_left, bytes_since}
use Rattle.fsrm_session.specs.Turns.{command_turn, telling_cost, told}
use Rattle.fsrm_session.specs.declared.session.Session.{Session}
use Rattle.fsrm_session.specs.Spending.{bytes_after}
use Rattle.fsrm_session.proofs.Entering.{entered_result, full_stops, only_disk, said_told, store_enters, store_stops}
use Rattle.fsrm_session.proofs.Handing.{calm_step}
use Rattle.fsrm_session.proofs.Object.{laws_of}
use Rattle.fsrm_session.proofs.Spending.{after_same, spends_command, told_cost}
use Rattle.fsrm_session.proofs.Said.{on_ok}
use Rattle.fsrm_session.proofs.session.Session.enter.Goals as goal

pub tell-requires-clause-calm : goal.tell-requires-clause-calm
tell-requires-clause-calm g c still =
    let e = c.args.self.now.store.engine in
    let took = c.in-Ok.ensures.ok in
    took.acts_are ∙ calm_step e.size e.rows c.args.command.now (sym took.lasting_is ∙ still)

pub returns-in-Ok-clause-runs : goal.returns-in-Ok-clause-runs
returns-in-Ok-clause-runs g c =
    let laws = laws_of g.met.O.Sink g.met.O.Disk g.met.O.Outside in
    let was = c.args.self.now in
    let e = was.store.engine in
    let next : Session = record { store = c.apply.new.self; kept = was.kept; alloc = was.alloc; scratch = was.scratch } in
    let now = next.store.engine in
    let outcome = c.in-Ok.answer.outcome in
    let took = c.in-Ok.ensures.ok in
    let command = c.args.command.now in
    let number = c.args.number in
    entered_result c.tell.result (command_turn e.size number command) (told now.size now.rows now.waiting (record { number = number; moment = command.moment }) outcome) was next c.tell.new.self c.args.outside.now c.apply.new.disk c.tell.new.outside laws
    (said_told e.size now.size e.rows now.rows now.waiting outcome number command took.size_is took.rows_are took.acts_are took.outcome_is)
    (store_enters (command_turn e.size number command) command was next c.args.outside.now c.apply.new.disk laws c.apply.ensures.by (λ R. refl) refl took.size_is took.rows_are (record { leaves = c.apply.ensures.leaves }) (record { stands = c.in-Ok.ensures.store }))
    c.tell.ensures.runs

pub returns-in-NoMemory-clause-runs : goal.returns-in-NoMemory-clause-runs
returns-in-NoMemory-clause-runs g c =
    let was = c.args.self.now in
    full_stops (command_turn was.store.engine.size c.args.number c.args.command.now ∷ []) was (record { store = c.apply.new.self; kept = was.kept; alloc = was.alloc; scratch = was.scratch }) c.args.outside.now c.apply.new.disk (laws_of g.met.O.Sink g.met.O.Disk g.met.O.Outside)
    (c.apply.ensures.full (c.in-Err.is ∙ ap (λ (f : StoreFault). Err f) c.in-NoMemory.is)) refl

pub returns-in_default-clause-runs : goal.returns-in_default-clause-runs
returns-in_default-clause-runs g c =
    let was = c.args.self.now in
    store_stops (command_turn was.store.engine.size c.args.number c.args.command.now) c.args.command.now was (record { store = c.apply.new.self; kept = was.kept; alloc = was.alloc; scratch = was.scratch }) c.args.outside.now c.apply.new.disk (laws_of g.met.O.Sink g.met.O.Disk g.met.O.Outside) c.apply.ensures.by
    (λ R. refl) (record { leaves = c.apply.ensures.leaves })

pub returns-in_default-clause-counts : goal.returns-in_default-clause-counts
returns-in_default-clause-counts g c =
    let is = only_disk _ c.in-Err.fault refl c.in-Err.ensures.only c.in_default.not-NoMemory in
    ((g.met.O.Outside.disk_keeps_sink c.args.outside.now c.apply.new.disk c.apply.ensures.by).same_faults, record { later = c.apply.ensures.later; rose = c.in-Err.ensures.failed is })

-- what it takes
pub returns-in-Ok-clause-looks : goal.returns-in-Ok-clause-looks
returns-in-Ok-clause-looks g c =
    let was = c.args.self.now in
    let e = was.store.engine in
    let now = c.apply.new.self.engine in
    let outcome = c.in-Ok.answer.outcome in
    let command = c.args.command.now in
    let took = c.in-Ok.ensures.ok in
    let told = telling_cost now.size now.rows now.waiting command.moment outcome in
    spends_command c.args.number command was c.args.outside.now c.args.steps.now c.apply.new.steps told c.tell.new.steps (bytes_since c.apply.new.self.journal) (bytes_after c.tell.result c.tell.new.self) c.in-Ok.ensures.amortized
    (told_cost e.size now.size e.rows now.rows now.waiting outcome command took.size_is took.rows_are took.acts_are took.outcome_is) c.tell.ensures.looks (after_same c.tell.result c.tell.new.self c.apply.new.self.journal c.tell.ensures.journal.journal)

pub returns-in-NoMemory-clause-looks : goal.returns-in-NoMemory-clause-looks
returns-in-NoMemory-clause-looks g c =
    let now = c.apply.new.self in
    let full = c.in-Err.is ∙ ap (λ (f : StoreFault). Err f) c.in-NoMemory.is in
    spends_command c.args.number c.args.command.now c.args.self.now c.args.outside.now c.args.steps.now c.apply.new.steps 0 c.apply.new.steps (bytes_left c.apply.result now) (bytes_since now.journal) c.apply.ensures.amortized (omega arith) (omega arith)
    (omega (arith, ap (λ r. bytes_left r now) full))

pub returns-in_default-clause-looks : goal.returns-in_default-clause-looks
returns-in_default-clause-looks g c =
    spends_command c.args.number c.args.command.now c.args.self.now c.args.outside.now c.args.steps.now c.apply.new.steps 0 c.apply.new.steps (bytes_left c.apply.result c.apply.new.self) 0 c.apply.ensures.amortized (omega arith) (omega arith) (omega arith)

-- the rows that it leaves
pub returns-in-Ok-clause-rows : goal.returns-in-Ok-clause-rows
returns-in-Ok-clause-rows g c = on_ok c.tell.result _ (c.tell.ensures.rows ∙ c.in-Ok.ensures.ok.rows_are)
