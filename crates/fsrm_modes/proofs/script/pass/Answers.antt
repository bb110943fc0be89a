use Rattle.std.proofs.Common.{List, ℕ, sym, ap, subst, ◌∙◌, take, arith}
use Rattle.std.specs.Prelude.{Option, Err, Ok}
use Rattle.std.proofs.lemmas.Result.{err_from_is_err_and}
use Rattle.fsrm_session.proofs.Object.{laws_of}
use Rattle.fsrm_store.specs.Amortized.{bytes_since}
use Rattle.fsrm_store.specs.declared.store.Store.{Store}
use Rattle.fsrm_session.specs.Spending.{bytes_after}
use Rattle.fsrm_modes.specs.Bytes.{IsAtEnd}
use Rattle.fsrm_modes.specs.Looks.{left_after, piece_of}
use Rattle.fsrm_modes.specs.Places.{place_of}
use Rattle.fsrm_modes.specs.Statuses.{of_stop}
use Rattle.fsrm_modes.specs.declared.status.Status.{Status}
use Rattle.fsrm_modes.proofs.Feeding.{fed_breaks}
use Rattle.fsrm_modes.proofs.MostTaken.{most_lost, most_stopped}
use Rattle.fsrm_modes.proofs.Passed.{counts_read, counts_stop, not_too_long, stays_ready}
use Rattle.fsrm_modes.proofs.Passing.{gives_up, halts_reading, piece_length, stops_reading, takes_piece}
use Rattle.fsrm_modes.proofs.ReadCalms.{read_flush, read_take}
use Rattle.fsrm_modes.proofs.Spending.{leaves_less, left_most, left_same, left_stop, pass_spends, spends_none, stop_spends}
use Rattle.fsrm_modes.proofs.script.pass.Goals as goal

pub feed-requires-clause-number : goal.feed-requires-clause-number
feed-requires-clause-number g c = omega (arith, c.requires.number, c.in_ok-count.ensures.within, piece_length c.next_piece.new.buffer c.in_ok-count.count c.in_ok-count.ensures.bound)

pub feed-requires-clause-ready : goal.feed-requires-clause-ready
feed-requires-clause-ready g c = read_take c.args.session.now c.args.outside.now c.next_piece.new.outside (laws_of g.met.O.Sink g.met.O.Disk g.met.O.Outside) c.in_ok-count.ensures.by c.requires.ready

pub pause-requires : goal.pause-requires
pause-requires g c = record { ready = c.in_ok-feed.ensures.ready.flush }

-- ---- a read ended it
pub returns-in_err-count : goal.returns-in_err-count
returns-in_err-count g c =
    let laws = laws_of g.met.O.Sink g.met.O.Disk g.met.O.Outside in
    let left = g.O.Source.left in
    let first = c.args.outside.now in
    let last = c.next_piece.new.outside in
    let was = c.args.session.now in
    let status = c.in_err-count.field-0.0 in
    let read = c.in_err-count.ensures in
    let p = err_from_is_err_and c.from_residual.result c.from_residual.ensures.1 in
    record {
      takes = rw p.1 tt;
      within = rw p.1 tt;
      end = rw p.1 tt;
      number = rw p.1 tt;
      stops = rw (p.1, p.2) (halts_reading status was.store.engine.size (place_of c.args.lines.now) was first last laws read.by read.lost);
      taken = rw (p.1, p.2) (most_lost status (left first) (left last) c.args.taken c.requires.taken read.lost);
      full = rw (p.1, p.2) read.full;
      ready = rw p.1 tt;
      stopped = rw (p.1, p.2) (λ write disk. read_flush was first last laws read.by c.requires.ready.flush);
      counts = rw (p.1, p.2) (counts_read status (left first) (left last) _ _ _ _ _ _ read.lost read.later (λ is. read.cause (ap (λ (s : Status). Err s) is)) read.kept (laws.read_keeps_sink first last read.by).same_faults (laws.read_keeps_disk first last read.by).same_faults);
      size = rw p.1 tt;
      shown = rw p.1 tt;
      looks = λ script told. leaves_less was.store.engine.size (place_of c.args.lines.now) (piece_of c.from_residual.result script) was first c.args.steps.now c.args.steps.now (bytes_since was.store.journal) (left_after c.from_residual.result was) (left_most c.from_residual.result was)
          (spends_none was.store.engine.size (place_of c.args.lines.now) (piece_of c.from_residual.result script) was first c.args.steps.now);
    }

-- ---- the session stopped as it took lines
pub returns-in_err-feed : goal.returns-in_err-feed
returns-in_err-feed g c =
    let laws = laws_of g.met.O.Sink g.met.O.Disk g.met.O.Outside in
    let left = g.O.Source.left in
    let first = c.args.outside.now in
    let mid = c.next_piece.new.outside in
    let last = c.feed.new.outside in
    let was = c.args.session.now in
    let now = c.feed.new.session in
    let size = was.store.engine.size in
    let a = place_of c.args.lines.now in
    let count = c.in_ok-count.count in
    let bytes = take count c.next_piece.new.buffer in
    let read = c.in_ok-count.ensures in
    let stop = c.in_err-feed.field-0.0 in
    let end = c.in_err-feed.ensures in
    let p = err_from_is_err_and c.from_residual-in_err-feed.result c.from_residual-in_err-feed.ensures.1 in
    record {
      takes = rw p.1 tt;
      within = rw p.1 tt;
      end = rw p.1 tt;
      number = rw p.1 tt;
      stops = rw (p.1, p.2) (stops_reading stop size a 0 was now first last (gives_up size stop a bytes was now first mid last laws read.bytes end.left read.by end.runs));
      taken = rw (p.1, p.2) (most_stopped stop (left first) (left mid) (left last) bytes count c.args.taken read.bytes end.left (piece_length c.next_piece.new.buffer count read.bound) read.within);
      full = λ long. absurd (not_too_long c.from_residual-in_err-feed.result stop (p.1 ∙ ap (λ (s : Status). Err s) p.2) long);
      ready = rw p.1 tt;
      stopped = rw (p.1, p.2) (stays_ready stop (λ is. end.memory (ap Err is)));
      counts = rw (p.1, p.2) (counts_stop stop _ _ _ _ _ _ _ _ (end.reads ∙ read.kept) (laws.read_keeps_sink first mid read.by).same_faults (laws.read_keeps_disk first mid read.by).same_faults end.counts);
      size = rw p.1 tt;
      shown = rw p.1 tt;
      looks = rw (p.1, p.2)
          (λ script told. stop_spends size a bytes script was first mid c.args.steps.now c.feed.new.steps (bytes_after {T = Unit {0}} (Err stop) now) (left_after {T = ℕ} (Err (of_stop stop)) now) laws read.by read.bytes told (left_stop (Unit {0}) ℕ stop now) end.looks);
    }

-- ---- the session stopped as it showed what waited
pub returns-in_err-pause : goal.returns-in_err-pause
returns-in_err-pause g c =
    let laws = laws_of g.met.O.Sink g.met.O.Disk g.met.O.Outside in
    let left = g.O.Source.left in
    let first = c.args.outside.now in
    let mid = c.next_piece.new.outside in
    let half = c.feed.new.outside in
    let last = c.pause.new.outside in
    let was = c.args.session.now in
    let now = c.pause.new.self in
    let size = was.store.engine.size in
    let a = place_of c.args.lines.now in
    let b = place_of c.feed.new.lines in
    let count = c.in_ok-count.count in
    let bytes = take count c.next_piece.new.buffer in
    let read = c.in_ok-count.ensures in
    let fed = c.in_ok-feed.ensures in
    let stop = c.in_err-pause.field-0.0 in
    let end = c.in_err-pause.ensures in
    let p = err_from_is_err_and c.from_residual-in_err-pause.result c.from_residual-in_err-pause.ensures.1 in
    record {
      takes = rw p.1 tt;
      within = rw p.1 tt;
      end = rw p.1 tt;
      number = rw p.1 tt;
      stops = rw (p.1, p.2)
          (stops_reading stop size a 0 was now first last
          (gives_up size stop a bytes was now first mid last laws read.bytes (end.left ∙ fed.left) read.by (fed_breaks size stop a b bytes was c.feed.new.session now mid half last laws fed.runs end.runs)));
      taken = rw (p.1, p.2) (most_stopped stop (left first) (left mid) (left last) bytes count c.args.taken read.bytes (end.left ∙ fed.left) (piece_length c.next_piece.new.buffer count read.bound) read.within);
      full = λ long. absurd (not_too_long c.from_residual-in_err-pause.result stop (p.1 ∙ ap (λ (s : Status). Err s) p.2) long);
      ready = rw p.1 tt;
      stopped = rw (p.1, p.2) (stays_ready stop (λ is. absurd (end.memory (ap Err is))));
      counts = rw (p.1, p.2) (counts_stop stop _ _ _ _ _ _ _ _ (end.reads ∙ fed.reads ∙ read.kept) (fed.counts.0 ∙ (laws.read_keeps_sink first mid read.by).same_faults) (fed.counts.1 ∙ (laws.read_keeps_disk first mid read.by).same_faults) end.counts);
      size = rw p.1 tt;
      shown = rw p.1 tt;
      looks = rw (p.1, p.2)
          (λ script told. stop_spends size a bytes script was first mid c.args.steps.now c.feed.new.steps (bytes_since c.feed.new.session.store.journal) (left_after {T = ℕ} (Err (of_stop stop)) now) laws read.by read.bytes told
          (left_same {T = ℕ} (Err (of_stop stop)) c.feed.new.session now (ap (λ (s : Store). s.journal) end.store)) fed.looks);
    }

-- ---- all was done
pub returns : goal.returns
returns g c =
    let laws = laws_of g.met.O.Sink g.met.O.Disk g.met.O.Outside in
    let first = c.args.outside.now in
    let mid = c.next_piece.new.outside in
    let half = c.feed.new.outside in
    let last = c.pause.new.outside in
    let was = c.args.session.now in
    let size = was.store.engine.size in
    let a = place_of c.args.lines.now in
    let b = place_of c.feed.new.lines in
    let count = c.in_ok-count.count in
    let bytes = take count c.next_piece.new.buffer in
    let read = c.in_ok-count.ensures in
    let fed = c.in_ok-feed.ensures in
    let end = c.in_ok-pause.ensures in
    let left = end.left ∙ fed.left in
    let long = piece_length c.next_piece.new.buffer count read.bound in
    record {
      takes = takes_piece size a b bytes count was c.feed.new.session c.pause.new.self first mid half last laws long read.bytes left read.by fed.runs end.runs;
      within = read.within;
      end = λ none. subst (λ (l : Option (List ℕ)). IsAtEnd l) (sym left) (read.end none);
      number = omega (arith, fed.number, long);
      stops = tt;
      taken = tt;
      full = λ e. absurd cc;
      ready = record { flush = end.ready; idle = ap (λ (s : Store). s.engine.waiting) end.store ∙ fed.ready.idle };
      stopped = tt;
      counts = (
        end.reads ∙ fed.reads ∙ read.kept,
        end.counts.0 ∙ fed.counts.0 ∙ (laws.read_keeps_sink first mid read.by).same_faults,
        end.counts.1 ∙ fed.counts.1 ∙ (laws.read_keeps_disk first mid read.by).same_faults,
      );
      size = ap (λ (s : Store). s.engine.size) end.store ∙ fed.size;
      shown = λ none. end.empty (sym (ap (λ (s : Store). s.journal.held) end.store) ∙ none);
      looks = λ script told. leaves_less size a (take count script) was first c.args.steps.now c.feed.new.steps (bytes_since c.feed.new.session.store.journal) (bytes_since c.pause.new.self.store.journal) (left_same (Ok count) c.feed.new.session c.pause.new.self (ap (λ (s : Store). s.journal) end.store))
          (pass_spends size a bytes script count was first mid c.args.steps.now c.feed.new.steps (bytes_since c.feed.new.session.store.journal) laws read.by long read.bytes told fed.looks);
    }
