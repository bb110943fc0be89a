use Rattle.std.proofs.Common.{ap, ◌∙◌, arith}
use Rattle.std.specs.Prelude.{Err}
use Rattle.std.proofs.lemmas.Result.{err_from_is_err_and}
use Rattle.fsrm_model.specs.values.Limits.{longest_script}
use Rattle.fsrm_store.specs.Amortized.{bytes_since}
use Rattle.fsrm_session.specs.Spending.{bytes_after}
use Rattle.fsrm_session.specs.Turns.{script_turns}
use Rattle.fsrm_session.proofs.Object.{laws_of}
use Rattle.fsrm_session.proofs.Spending.{spends_less}
use Rattle.fsrm_modes.specs.Answers.{most_taken}
use Rattle.fsrm_modes.specs.Looks.{left_after}
use Rattle.fsrm_modes.specs.Places.{place_of}
use Rattle.fsrm_modes.specs.Statuses.{of_stop}
use Rattle.fsrm_modes.proofs.MostTaken.{most_whole, whole_script}
use Rattle.fsrm_modes.proofs.Passed.{counts_stop, is_read_end, reading_ends, stays_ready}
use Rattle.fsrm_modes.proofs.Spending.{left_stop, script_spends, whole_lines}
use Rattle.fsrm_modes.proofs.Whole.{ends_last, is_read, stopped}
use Rattle.fsrm_modes.proofs.script.read_script.Goals as goal

-- ---- it ended before the last line
pub returns-in_err-read_lines : goal.returns-in_err-read_lines
returns-in_err-read_lines g c =
    let was = c.args.session.now in
    let now = c.read_lines.new.session in
    let first = c.args.outside.now in
    let last = c.read_lines.new.outside in
    let status = c.in_err-read_lines.field-0.0 in
    let end = c.in_err-read_lines.ensures in
    let p = err_from_is_err_and c.from_residual.result c.from_residual.ensures.1 in
    record {
      read = λ script told. rw (p.1, p.2) (stopped status was.store.engine.size script was now first last told end.stops);
      taken = rw (p.1, p.2) end.taken;
      ready = rw p.1 tt;
      stopped = rw (p.1, p.2) end.stopped;
      only = rw (p.1, p.2) (reading_ends end.stops);
      counts = rw (p.1, p.2) end.counts;
      looks = rw (p.1, p.2) (λ script told. whole_lines was.store.engine.size script was first c.args.steps.now c.read_lines.new.steps (left_after {T = Unit {0}} (Err status) now) (end.looks script told));
    }

-- ---- it ended at the last line
pub end-requires : goal.end-requires
end-requires g c = record { ready = c.in_ok-read_lines.ensures.ready }

pub returns-in_err-end : goal.returns-in_err-end
returns-in_err-end g c =
    let left = g.O.Source.left in
    let was = c.args.session.now in
    let mid = c.read_lines.new.session in
    let now = c.end.new.session in
    let first = c.args.outside.now in
    let half = c.read_lines.new.outside in
    let last = c.end.new.outside in
    let read = c.in_ok-read_lines.ensures in
    let all = read.reads in
    let stop = c.in_err-end.field-0.0 in
    let end = c.in_err-end.ensures in
    let p = err_from_is_err_and c.from_residual-in_err-end.result c.from_residual-in_err-end.ensures.1 in
    record {
      read = λ script told. rw (p.1, p.2)
          (ends_last stop was.store.engine.size mid.store.engine.size (place_of c.read_lines.new.lines) script was mid now first half last (laws_of g.met.O.Sink g.met.O.Disk g.met.O.Outside) read.size told all end.runs);
      taken = rw (p.1, p.2) (most_whole (left first) (left half) (left last) all.takes.bytes all.count (most_taken (of_stop stop)) all.takes.taken end.left all.takes.count_is all.short (whole_script (of_stop stop)));
      ready = rw p.1 tt;
      stopped = rw (p.1, p.2) (stays_ready stop (λ is. end.memory (ap Err is)));
      only = rw (p.1, p.2) (is_read_end stop);
      counts = rw (p.1, p.2) (counts_stop stop _ _ _ _ _ _ _ _ (end.reads ∙ read.counts.0) read.counts.1 read.counts.2 end.counts);
      looks = rw (p.1, p.2)
          (λ script told.
          let more = bytes_after {T = Unit {0}} (Err stop) now in
          spends_less (script_turns was.store.engine.size script) was first c.args.steps.now c.args.steps.now c.end.new.steps more (left_after {T = Unit {0}} (Err (of_stop stop)) now) (omega arith) (left_stop (Unit {0}) (Unit {0}) stop now)
          (script_spends was.store.engine.size mid.store.engine.size (place_of c.read_lines.new.lines) script was mid first half c.args.steps.now c.read_lines.new.steps c.end.new.steps more read.size told all (read.looks script told) end.looks));
    }

-- ---- all was read
pub returns : goal.returns
returns g c =
    let left = g.O.Source.left in
    let was = c.args.session.now in
    let mid = c.read_lines.new.session in
    let now = c.end.new.session in
    let first = c.args.outside.now in
    let half = c.read_lines.new.outside in
    let last = c.end.new.outside in
    let read = c.in_ok-read_lines.ensures in
    let all = read.reads in
    let end = c.in_ok-end.ensures in
    record {
      read = λ script told.
          is_read was.store.engine.size mid.store.engine.size (place_of c.read_lines.new.lines) script was mid now first half last (laws_of g.met.O.Sink g.met.O.Disk g.met.O.Outside) read.size told end.left all end.runs;
      taken = most_whole (left first) (left half) (left last) all.takes.bytes all.count longest_script all.takes.taken end.left all.takes.count_is all.short (omega arith);
      ready = end.ready.flush;
      stopped = tt;
      only = tt;
      counts = (end.reads ∙ read.counts.0, end.counts.0 ∙ read.counts.1, end.counts.1 ∙ read.counts.2);
      looks = λ script told. script_spends was.store.engine.size mid.store.engine.size (place_of c.read_lines.new.lines) script was mid first half c.args.steps.now c.read_lines.new.steps c.end.new.steps (bytes_since now.store.journal) read.size told all (read.looks script told) end.looks;
    }
