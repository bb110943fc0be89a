use Rattle.std.proofs.Common.{◌≡◌, ℕ, ◌+◌, List, [], drop, get_or, take, rules, refl, sym, ◌∙◌, ap, subst, arith}
use Rattle.std.proofs.lemmas.List.{take_all}
use Rattle.std.specs.Prelude.{Err}
use Rattle.fsrm_store.specs.Amortized.{bytes_since}
use Rattle.fsrm_session.specs.Members.{members}
use Rattle.fsrm_session.specs.Spending.{bytes_after, Spends}
use Rattle.fsrm_session.specs.Underway.{Goes}
use Rattle.fsrm_session.proofs.Going.{goes_nothing}
use Rattle.fsrm_session.proofs.Object.{laws_of}
use Rattle.fsrm_session.proofs.Results.{stops_passed}
use Rattle.fsrm_session.proofs.Spending.{after_fault, spends_less, spends_nothing}
use Rattle.fsrm_modes.specs.Ticks.{unread_turn, unread_turns}
use Rattle.fsrm_modes.proofs.TickTurns.{name_more, names_rest, stop_spends, turn_goes, turn_spends, turn_stops}
use Rattle.fsrm_modes.proofs.ticking.say_names.Goals as goal

pub loop-place-init : goal.loop-place-init
loop-place-init g c = record {
  goes = goes_nothing c.args.session.now c.args.outside.now (laws_of g.met.O.Sink g.met.O.Disk g.met.O.Outside);
  ready = c.requires.ready;
  engine = refl;
  writes = refl;
  calls = refl;
  reads = refl;
  left = refl;
  looks = spends_nothing [] c.args.session.now c.args.outside.now c.args.steps.now;
}

pub loop-place-preserved : goal.loop-place-preserved
loop-place-preserved g c =
    let l = c.loop-place in
    let names = c.args.names.now in
    let name = c.as_str.result.now in
    let laws = laws_of g.met.O.Sink g.met.O.Disk g.met.O.Outside in
    let done = c.in_ok-say_name.ensures in
    let it = c.index-names-place in
    let same : name ≡ get_or names l.place name = c.as_str.ensures ∙ (it.is ∙ ap (λ (d : List ℕ). get_or names l.place d) (sym c.as_str.ensures)) in
    let is = name_more names l.place name (omega arith) same in
    record {
      goes = turn_goes (unread_turns (take (l.place + 1) names)) (unread_turns (take l.place names)) (unread_turn name) c.args.session.now l.session c.say_name.new.session c.args.outside.now l.outside c.say_name.new.outside laws is l.invariant.goes done.runs;
      ready = done.ready;
      engine = done.engine ∙ l.invariant.engine;
      writes = done.counts.0 ∙ l.invariant.writes;
      calls = done.counts.1 ∙ l.invariant.calls;
      reads = done.reads ∙ l.invariant.reads;
      left = done.left ∙ l.invariant.left;
      looks = turn_spends (unread_turns (take (l.place + 1) names)) (unread_turns (take l.place names)) (unread_turn name) c.args.session.now l.session c.args.outside.now l.outside c.args.steps.now l.steps c.say_name.new.steps (bytes_since c.say_name.new.session.store.journal) is l.invariant.goes l.invariant.looks done.looks;
    }

pub returns-in_err-say_name-clause-runs : goal.returns-in_err-say_name-clause-runs
returns-in_err-say_name-clause-runs g c =
    let l = c.loop-place in
    let names = c.args.names.now in
    let name = c.as_str.result.now in
    let was = c.args.session.now in
    let it = c.index-names-place in
    let same : name ≡ get_or names l.place name = c.as_str.ensures ∙ (it.is ∙ ap (λ (d : List ℕ). get_or names l.place d) (sym c.as_str.ensures)) in
    let stop = c.in_err-say_name.field-0.0 in
    let fault : c.from_residual.result ≡ Err stop = search rules in
    stops_passed c.from_residual.result stop (unread_turns names) was c.say_name.new.session c.args.outside.now c.say_name.new.outside fault
    (turn_stops (unread_turns names) (unread_turns (take l.place names)) (unread_turns (drop (l.place + 1) names)) (unread_turn name) stop was l.session c.say_name.new.session c.args.outside.now l.outside c.say_name.new.outside (laws_of g.met.O.Sink g.met.O.Disk g.met.O.Outside)
    (names_rest names l.place name (omega arith) same) l.invariant.goes c.in_err-say_name.ensures.runs)

pub returns-clause-runs : goal.returns-clause-runs
returns-clause-runs g c =
    let l = c.loop-place in
    let M = members g.O.Source g.O.Sink g.O.Disk in
    subst (λ (names : List (List ℕ)). Goes M (unread_turns names) c.args.session.now l.session c.args.outside.now l.outside) (take_all l.place c.args.names.now (omega arith)) l.invariant.goes

pub returns-in_err-say_name-clause-looks : goal.returns-in_err-say_name-clause-looks
returns-in_err-say_name-clause-looks g c =
    let l = c.loop-place in
    let names = c.args.names.now in
    let name = c.as_str.result.now in
    let was = c.args.session.now in
    let now = c.say_name.new.session in
    let it = c.index-names-place in
    let same : name ≡ get_or names l.place name = c.as_str.ensures ∙ (it.is ∙ ap (λ (d : List ℕ). get_or names l.place d) (sym c.as_str.ensures)) in
    let stop = c.in_err-say_name.field-0.0 in
    let fault : c.from_residual.result ≡ Err stop = search rules in
    spends_less (unread_turns names) was c.args.outside.now c.args.steps.now c.args.steps.now c.say_name.new.steps (bytes_after {T = Unit {0}} (Err stop) now) (bytes_after c.from_residual.result now) (omega arith) (after_fault c.from_residual.result stop now fault)
    (stop_spends (unread_turns names) (unread_turns (take l.place names)) (unread_turns (drop (l.place + 1) names)) (unread_turn name) was l.session c.args.outside.now l.outside c.args.steps.now l.steps c.say_name.new.steps (bytes_after {T = Unit {0}} (Err stop) now)
    (names_rest names l.place name (omega arith) same) l.invariant.goes l.invariant.looks c.in_err-say_name.ensures.looks)

pub returns-clause-looks : goal.returns-clause-looks
returns-clause-looks g c =
    let l = c.loop-place in
    let M = members g.O.Source g.O.Sink g.O.Disk in
    subst (λ (names : List (List ℕ)). Spends M (unread_turns names) c.args.session.now c.args.outside.now c.args.steps.now l.steps (bytes_since l.session.store.journal)) (take_all l.place c.args.names.now (omega arith)) l.invariant.looks
