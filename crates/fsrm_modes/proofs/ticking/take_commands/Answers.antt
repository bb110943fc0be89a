use Rattle.std.proofs.Common.{◌≡◌, ◌+◌, List, [], drop, length, take, rules, refl, ◌∙◌, subst, arith}
use Rattle.std.proofs.lemmas.List.{take_all}
use Rattle.std.specs.Prelude.{Err}
use Rattle.fsrm_model.specs.declared.command.Command.{Command}
use Rattle.fsrm_model.specs.store.Valued.{is_command}
use Rattle.fsrm_model.proofs.lines.Parts.{all_at}
use Rattle.fsrm_session.specs.Turns.{command_turn}
use Rattle.std.proofs.lemmas.Option.{slice_get_read}
use Rattle.fsrm_store.specs.Amortized.{bytes_since}
use Rattle.fsrm_session.specs.Members.{members}
use Rattle.fsrm_session.specs.Spending.{bytes_after, Spends}
use Rattle.fsrm_session.specs.Underway.{Goes}
use Rattle.fsrm_session.proofs.Going.{goes_nothing}
use Rattle.fsrm_session.proofs.Object.{laws_of}
use Rattle.fsrm_session.proofs.Results.{stops_passed}
use Rattle.fsrm_session.proofs.Spending.{after_fault, spends_less, spends_nothing}
use Rattle.fsrm_modes.specs.Ticks.{commands_turns}
use Rattle.fsrm_modes.proofs.TickTurns.{command_more, commands_rest, stop_spends, turn_goes, turn_spends, turn_stops}
use Rattle.fsrm_modes.proofs.ticking.take_commands.Goals as goal

pub loop-place-init : goal.loop-place-init
loop-place-init g c = record {
  goes = goes_nothing c.args.session.now c.args.outside.now (laws_of g.met.O.Sink g.met.O.Disk g.met.O.Outside);
  ready = c.requires.ready;
  size = refl;
  writes = refl;
  calls = refl;
  reads = refl;
  left = refl;
  looks = spends_nothing [] c.args.session.now c.args.outside.now c.args.steps.now;
}

pub take-requires-clause-valid : goal.take-requires-clause-valid
take-requires-clause-valid g c =
    let l = c.loop-place in
    let it = c.index-commands-place in
    all_at is_command c.args.commands.now l.place it.result c.requires.valid (slice_get_read c.args.commands.now (length c.args.commands.now) l.place it.result refl (omega arith) it.is)

pub loop-place-preserved : goal.loop-place-preserved
loop-place-preserved g c =
    let l = c.loop-place in
    let commands = c.args.commands.now in
    let K = c.args.session.now.store.engine.size in
    let it = c.index-commands-place in
    let laws = laws_of g.met.O.Sink g.met.O.Disk g.met.O.Outside in
    let done = c.in_ok-take.ensures in
    let is = command_more K l.session.store.engine.size commands l.place it.result (omega arith) it.is l.invariant.size in
    record {
      goes = turn_goes (commands_turns K 1 (take (l.place + 1) commands)) (commands_turns K 1 (take l.place commands)) (command_turn l.session.store.engine.size (l.place + 1) it.result) c.args.session.now l.session c.take.new.self c.args.outside.now l.outside c.take.new.outside laws is l.invariant.goes done.runs;
      ready = done.ready;
      size = done.size ∙ l.invariant.size;
      writes = done.counts.0 ∙ l.invariant.writes;
      calls = done.counts.1 ∙ l.invariant.calls;
      reads = done.reads ∙ l.invariant.reads;
      left = done.left ∙ l.invariant.left;
      looks = turn_spends (commands_turns K 1 (take (l.place + 1) commands)) (commands_turns K 1 (take l.place commands)) (command_turn l.session.store.engine.size (l.place + 1) it.result) c.args.session.now l.session c.args.outside.now l.outside c.args.steps.now l.steps c.take.new.steps (bytes_since c.take.new.self.store.journal) is l.invariant.goes l.invariant.looks done.looks;
    }

pub returns-in_err-take-clause-runs : goal.returns-in_err-take-clause-runs
returns-in_err-take-clause-runs g c =
    let l = c.loop-place in
    let commands = c.args.commands.now in
    let was = c.args.session.now in
    let K = was.store.engine.size in
    let it = c.index-commands-place in
    let stop = c.in_err-take.field-0.0 in
    let fault : c.from_residual.result ≡ Err stop = search rules in
    stops_passed c.from_residual.result stop (commands_turns K 1 commands) was c.take.new.self c.args.outside.now c.take.new.outside fault
    (turn_stops (commands_turns K 1 commands) (commands_turns K 1 (take l.place commands)) (commands_turns K (1 + length (take (l.place + 1) commands)) (drop (l.place + 1) commands)) (command_turn l.session.store.engine.size (l.place + 1) it.result) stop was l.session c.take.new.self c.args.outside.now l.outside c.take.new.outside (laws_of g.met.O.Sink g.met.O.Disk g.met.O.Outside)
    (commands_rest K l.session.store.engine.size commands l.place it.result (omega arith) it.is l.invariant.size) l.invariant.goes c.in_err-take.ensures.runs)

pub returns-clause-runs : goal.returns-clause-runs
returns-clause-runs g c =
    let l = c.loop-place in
    let M = members g.O.Source g.O.Sink g.O.Disk in
    subst (λ (commands : List Command). Goes M (commands_turns c.args.session.now.store.engine.size 1 commands) c.args.session.now l.session c.args.outside.now l.outside) (take_all l.place c.args.commands.now (omega arith)) l.invariant.goes

pub returns-in_err-take-clause-looks : goal.returns-in_err-take-clause-looks
returns-in_err-take-clause-looks g c =
    let l = c.loop-place in
    let commands = c.args.commands.now in
    let was = c.args.session.now in
    let now = c.take.new.self in
    let K = was.store.engine.size in
    let it = c.index-commands-place in
    let stop = c.in_err-take.field-0.0 in
    let fault : c.from_residual.result ≡ Err stop = search rules in
    spends_less (commands_turns K 1 commands) was c.args.outside.now c.args.steps.now c.args.steps.now c.take.new.steps (bytes_after {T = Unit {0}} (Err stop) now) (bytes_after c.from_residual.result now) (omega arith) (after_fault c.from_residual.result stop now fault)
    (stop_spends (commands_turns K 1 commands) (commands_turns K 1 (take l.place commands)) (commands_turns K (1 + length (take (l.place + 1) commands)) (drop (l.place + 1) commands)) (command_turn l.session.store.engine.size (l.place + 1) it.result) was l.session c.args.outside.now l.outside c.args.steps.now l.steps c.take.new.steps (bytes_after {T = Unit {0}} (Err stop) now)
    (commands_rest K l.session.store.engine.size commands l.place it.result (omega arith) it.is l.invariant.size) l.invariant.goes l.invariant.looks c.in_err-take.ensures.looks)

pub returns-clause-looks : goal.returns-clause-looks
returns-clause-looks g c =
    let l = c.loop-place in
    let M = members g.O.Source g.O.Sink g.O.Disk in
    subst (λ (commands : List Command). Spends M (commands_turns c.args.session.now.store.engine.size 1 commands) c.args.session.now c.args.outside.now c.args.steps.now l.steps (bytes_since l.session.store.journal)) (take_all l.place c.args.commands.now (omega arith)) l.invariant.looks
