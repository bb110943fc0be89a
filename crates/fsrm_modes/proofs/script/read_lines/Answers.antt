use Rattle.std.proofs.Common.{ℕ, ◌+◌, ◌≤◌, take, refl, ap, ◌∙◌, arith}
use Rattle.std.specs.Prelude.{Err}
use Rattle.fsrm_store.specs.Amortized.{bytes_since}
use Rattle.fsrm_session.specs.Turns.{line_turns}
use Rattle.fsrm_session.proofs.Object.{laws_of}
use Rattle.fsrm_session.proofs.Spending.{spends_less}
use Rattle.fsrm_modes.specs.Answers.{most_taken}
use Rattle.fsrm_modes.specs.Looks.{ended_lines, left_after}
use Rattle.fsrm_modes.specs.Places.{place_of}
use Rattle.fsrm_modes.specs.Reading.{start}
use Rattle.fsrm_modes.specs.declared.status.Status.{Status}
use Rattle.fsrm_modes.proofs.MostTaken.{most_then, whole_script}
use Rattle.fsrm_modes.proofs.Passed.{counts_after}
use Rattle.fsrm_modes.proofs.Passing.{at_start, stops_after, takes_nothing, takes_then}
use Rattle.fsrm_modes.proofs.Spending.{left_alike, passes_end, passes_spend, piece_spends, spends_none}
use Rattle.fsrm_modes.proofs.script.read_lines.Goals as goal

pub pieces-init : goal.pieces-init
pieces-init g c =
    let was = c.args.session.now in
    let a = place_of c.args.lines.now in
    record {
      takes = takes_nothing was.store.engine.size start a was c.args.outside.now (laws_of g.met.O.Sink g.met.O.Disk g.met.O.Outside) (at_start a c.requires.first c.requires.empty);
      spent = λ script told. spends_none was.store.engine.size start (take 0 script) was c.args.outside.now c.args.steps.now;
      within = omega arith;
      number = omega (arith, c.requires.first);
      ready = c.requires.ready;
      size = refl;
      reads_kept = refl;
      writes_kept = refl;
      disk_kept = refl;
    }

pub pass-requires-clause-taken : goal.pass-requires-clause-taken
pass-requires-clause-taken g c = c.pieces.invariant.within

pub pass-requires-clause-number : goal.pass-requires-clause-number
pass-requires-clause-number g c = c.pieces.invariant.number

pub pass-requires-clause-ready : goal.pass-requires-clause-ready
pass-requires-clause-ready g c = c.pieces.invariant.ready

pub pieces-preserved : goal.pieces-preserved
pieces-preserved g c =
    let was = c.args.session.now in
    let mid = c.pieces.session in
    let kept = c.pieces.invariant in
    let end = c.in-Ok.ensures in
    record {
      takes = takes_then was.store.engine.size mid.store.engine.size start (place_of c.pieces.lines) (place_of c.pass.new.lines) c.pieces.taken c.in-Ok.count was mid c.pass.new.session c.args.outside.now c.pieces.outside c.pass.new.outside (laws_of g.met.O.Sink g.met.O.Disk g.met.O.Outside) kept.size kept.takes end.takes;
      spent = λ script told. passes_spend was.store.engine.size mid.store.engine.size start (place_of c.pieces.lines) c.pieces.taken c.in-Ok.count script was mid c.args.outside.now c.pieces.outside c.args.steps.now c.pieces.steps c.pass.new.steps (bytes_since c.pass.new.session.store.journal)
          kept.size told kept.takes (kept.spent script told) end.looks;
      within = end.within;
      number = omega (arith, kept.number, end.number);
      ready = end.ready;
      size = end.size ∙ kept.size;
      reads_kept = end.counts.0 ∙ kept.reads_kept;
      writes_kept = end.counts.1 ∙ kept.writes_kept;
      disk_kept = end.counts.2 ∙ kept.disk_kept;
    }

-- all is read
pub returns-in-Ok-eq0 : goal.returns-in-Ok-eq0
returns-in-Ok-eq0 g c =
    let was = c.args.session.now in
    let mid = c.pieces.session in
    let kept = c.pieces.invariant in
    let end = c.in-Ok-eq0.ensures in
    let count = c.in-Ok-eq0.field-0 in
    record {
      reads = record {
        count = c.pieces.taken + count;
        short = end.within;
        takes = takes_then was.store.engine.size mid.store.engine.size start (place_of c.pieces.lines) (place_of c.pass.new.lines) c.pieces.taken count was mid c.pass.new.session c.args.outside.now c.pieces.outside c.pass.new.outside (laws_of g.met.O.Sink g.met.O.Disk g.met.O.Outside) kept.size kept.takes end.takes;
        at_end = end.end c.in-Ok-eq0.field-0-test;
      };
      stops = tt;
      taken = tt;
      ready = end.ready;
      stopped = tt;
      counts = (end.counts.0 ∙ kept.reads_kept, end.counts.1 ∙ kept.writes_kept, end.counts.2 ∙ kept.disk_kept);
      size = end.size ∙ kept.size;
      looks = λ script told. passes_end was.store.engine.size mid.store.engine.size (place_of c.pieces.lines) c.pieces.taken script was mid c.args.outside.now c.pieces.outside c.args.steps.now c.pieces.steps c.pass.new.steps (bytes_since c.pass.new.session.store.journal)
          kept.size told kept.takes (kept.spent script told) (λ rest left. piece_spends mid.store.engine.size (place_of c.pieces.lines) count rest mid c.pieces.outside c.pieces.steps c.pass.new.steps (bytes_since c.pass.new.session.store.journal) (end.looks rest left));
    }

-- a pass ended it
pub returns-in-Err : goal.returns-in-Err
returns-in-Err g c =
    let left = g.O.Source.left in
    let was = c.args.session.now in
    let mid = c.pieces.session in
    let first = c.args.outside.now in
    let half = c.pieces.outside in
    let last = c.pass.new.outside in
    let kept = c.pieces.invariant in
    let end = c.in-Err.ensures in
    let status = c.in-Err.status in
    let short : c.pieces.taken ≤ most_taken status = omega (arith, kept.within, whole_script status) in
    record {
      reads = tt;
      stops = stops_after status was.store.engine.size mid.store.engine.size start (place_of c.pieces.lines) c.pieces.taken was mid c.pass.new.session first half last (laws_of g.met.O.Sink g.met.O.Disk g.met.O.Outside) kept.size kept.takes (λ is. end.full (ap (λ (s : Status). Err s) is)) end.stops;
      taken = most_then (left first) (left half) (left last) kept.takes.bytes c.pieces.taken (most_taken status) short kept.takes.count_is kept.takes.taken end.taken;
      ready = tt;
      stopped = end.stopped;
      counts = counts_after status _ _ _ _ _ _ _ _ _ kept.reads_kept kept.writes_kept kept.disk_kept end.counts;
      size = tt;
      looks = λ script told.
          let now = c.pass.new.session in
          let more = left_after {T = ℕ} (Err status) now in
          spends_less (line_turns was.store.engine.size 1 (ended_lines script)) was first c.args.steps.now c.args.steps.now c.pass.new.steps more (left_after {T = Unit {0}} (Err status) now) (omega arith) (left_alike ℕ (Unit {0}) status now)
          (passes_end was.store.engine.size mid.store.engine.size (place_of c.pieces.lines) c.pieces.taken script was mid first half c.args.steps.now c.pieces.steps c.pass.new.steps more kept.size told kept.takes (kept.spent script told) end.looks);
    }
