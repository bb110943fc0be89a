use Rattle.std.proofs.Common.{[], refl, sym, ◌∙◌, subst, arith}
use Rattle.std.proofs.lemmas.Result.{err_from_is_err_and}
use Rattle.fsrm_outside.proofs.Settling.{still_stable}
use Rattle.fsrm_outside.proofs.Stages.{DiskLaws}
use Rattle.fsrm_store.specs.Recovery.{IsRefused}
use Rattle.fsrm_store.proofs.EntriesRead.{failed_looks, redone_looks, redone_more, redone_valid}
use Rattle.fsrm_store.proofs.QuietCalls.{on_none, on_then, reads_none, reads_then, refused_memory, told_none, told_ok, told_then}
use Rattle.fsrm_store.proofs.replay.replay.Goals as goal

pub entries-init : goal.entries-init
entries-init g c =
    let M = g.met.D.Disk in
    let laws : DiskLaws g.D.Disk.disk_clock g.D.Disk.images g.D.Disk.by_disk = record { same = M.disk_same; then_by = M.disk_then; later = M.disk_later; past = M.disk_past } in
    record {
      room = c.requires.room;
      redone = record { entries = []; valid = refl; size = refl; rows = refl; idle = c.requires.idle; few = omega arith; read = λ parts head base told h. h };
      same = on_none c.args.journal.now;
      quiet = reads_none g.D.Disk.reads laws c.args.disk.now;
      kept = refl;
    }

pub entries-preserved : goal.entries-preserved
entries-preserved g c =
    let M = g.met.D.Disk in
    let laws : DiskLaws g.D.Disk.disk_clock g.D.Disk.images g.D.Disk.by_disk = record { same = M.disk_same; then_by = M.disk_then; later = M.disk_later; past = M.disk_past } in
    let i = c.entries.invariant in
    let e = c.in_ok-entry.ensures in
    let valid = rw c.in-Some.is at e.valid in
    record {
      room = omega (arith, i.room, c.next_entry.auto.buffer);
      redone =
          redone_more _ c.args.journal.now c.entries.journal c.next_entry.new.journal c.args.engine.now c.entries.engine c.redo.new.engine c.args.steps.now c.entries.steps c.redo.new.steps c.in-Some.entry
          i.redone valid c.in_ok-redo.ensures.size c.in_ok-redo.ensures.rows c.redo.ensures.idle c.in_ok-redo.ensures.looks
          (λ parts head base entries told h. let next = e.next parts head base entries (i.quiet.same ∙ told) h in rw c.in-Some.is at next);
      same = on_then _ _ _ i.same e.same;
      quiet = reads_then g.D.Disk.reads laws _ _ _ i.quiet e.quiet;
      kept = told_ok _ _ _ e.cause ∙ i.kept;
    }

pub entries-smaller : goal.entries-smaller
entries-smaller g c =
    let further = rw c.in-Some.is at c.in_ok-entry.ensures.further in
    omega (arith, further, c.next_entry.new.journal.in_part)

pub redo-requires-clause-valid : goal.redo-requires-clause-valid
redo-requires-clause-valid g c = rw c.in-Some.is at c.in_ok-entry.ensures.valid

-- all is done
pub returns-clause-all : goal.returns-clause-all
returns-clause-all g c = λ parts head base told stable h.
    let M = g.met.D.Disk in
    let laws : DiskLaws g.D.Disk.disk_clock g.D.Disk.images g.D.Disk.by_disk = record { same = M.disk_same; then_by = M.disk_then; later = M.disk_later; past = M.disk_past } in
    let i = c.entries.invariant in
    let r = i.redone in
    record {
      entries = r.entries;
      valid = r.valid;
      rows = r.rows;
      size = r.size;
      read = c.in_ok-entry.ensures.all parts head base r.entries (i.quiet.same ∙ told) (r.read parts head base told h) (still_stable g.D.Disk.reads laws _ _ i.quiet.ran i.quiet.crash i.quiet.same stable) c.in_default.is;
    }

pub returns-clause-valid : goal.returns-clause-valid
returns-clause-valid g c = λ valid.
    redone_valid _ c.args.journal.now c.entries.journal c.args.engine.now c.entries.engine c.args.steps.now c.entries.steps c.entries.invariant.redone valid

pub returns-clause-looks : goal.returns-clause-looks
returns-clause-looks g c =
    let i = c.entries.invariant in
    redone_looks _ c.args.journal.now c.entries.journal c.args.engine.now c.entries.engine c.args.steps.now c.entries.steps i.redone i.same.ruling

pub returns-clause-same : goal.returns-clause-same
returns-clause-same g c = on_then _ _ _ c.entries.invariant.same c.in_ok-entry.ensures.same

pub returns-clause-quiet : goal.returns-clause-quiet
returns-clause-quiet g c =
    let M = g.met.D.Disk in
    let laws : DiskLaws g.D.Disk.disk_clock g.D.Disk.images g.D.Disk.by_disk = record { same = M.disk_same; then_by = M.disk_then; later = M.disk_later; past = M.disk_past } in
    reads_then g.D.Disk.reads laws _ _ _ c.entries.invariant.quiet c.in_ok-entry.ensures.quiet

pub returns-clause-cause : goal.returns-clause-cause
returns-clause-cause g c = told_none _ _ _ (λ err. absurd (cc err)) (told_ok _ _ _ c.in_ok-entry.ensures.cause ∙ c.entries.invariant.kept)

-- no entry is read
pub returns-in_err-entry-clause-refused : goal.returns-in_err-entry-clause-refused
returns-in_err-entry-clause-refused g c = λ parts head base told h.
    let i = c.entries.invariant in
    let p = err_from_is_err_and c.from_residual.result c.from_residual.ensures.1 in
    rw p.1 (subst (IsRefused parts) (sym p.2) (c.in_err-entry.ensures.refused parts head base i.redone.entries (i.quiet.same ∙ told) (i.redone.read parts head base told h)))

pub returns-in_err-entry-clause-only : goal.returns-in_err-entry-clause-only
returns-in_err-entry-clause-only g c =
    let p = err_from_is_err_and c.from_residual.result c.from_residual.ensures.1 in
    rw p.1 (λ err. c.in_err-entry.ensures.only (cc (err, p.2)))

pub returns-in_err-entry-clause-looks : goal.returns-in_err-entry-clause-looks
returns-in_err-entry-clause-looks g c =
    let i = c.entries.invariant in
    redone_looks _ c.args.journal.now c.entries.journal c.args.engine.now c.entries.engine c.args.steps.now c.entries.steps i.redone i.same.ruling

pub returns-in_err-entry-clause-same : goal.returns-in_err-entry-clause-same
returns-in_err-entry-clause-same g c = on_then _ _ _ c.entries.invariant.same c.next_entry.ensures.same

pub returns-in_err-entry-clause-quiet : goal.returns-in_err-entry-clause-quiet
returns-in_err-entry-clause-quiet g c =
    let M = g.met.D.Disk in
    let laws : DiskLaws g.D.Disk.disk_clock g.D.Disk.images g.D.Disk.by_disk = record { same = M.disk_same; then_by = M.disk_then; later = M.disk_later; past = M.disk_past } in
    reads_then g.D.Disk.reads laws _ _ _ c.entries.invariant.quiet c.next_entry.ensures.quiet

pub returns-in_err-entry-clause-cause : goal.returns-in_err-entry-clause-cause
returns-in_err-entry-clause-cause g c =
    let p = err_from_is_err_and c.from_residual.result c.from_residual.ensures.1 in
    rw (p.1, p.2) (told_then _ _ _ c.in_err-entry.field-0.0 c.entries.invariant.kept c.in_err-entry.ensures.cause)

-- memory runs out
pub returns-in_err-redo-clause-refused : goal.returns-in_err-redo-clause-refused
returns-in_err-redo-clause-refused g c = λ parts head base told h.
    let p = err_from_is_err_and c.from_residual-in_err-redo.result c.from_residual-in_err-redo.ensures.1 in
    rw p.1 (refused_memory parts p.0 p.2)

pub returns-in_err-redo-clause-only : goal.returns-in_err-redo-clause-only
returns-in_err-redo-clause-only g c =
    let p = err_from_is_err_and c.from_residual-in_err-redo.result c.from_residual-in_err-redo.ensures.1 in
    rw p.1 (λ err. absurd (cc (err, p.2)))

pub returns-in_err-redo-clause-looks : goal.returns-in_err-redo-clause-looks
returns-in_err-redo-clause-looks g c =
    let i = c.entries.invariant in
    let e = c.in_ok-entry.ensures in
    failed_looks _ c.args.journal.now c.entries.journal c.next_entry.new.journal c.args.engine.now c.entries.engine c.args.steps.now c.entries.steps c.redo.new.steps c.in-Some.entry
    i.redone (e.same.ruling ∙ i.same.ruling) c.redo.ensures.looks
    (λ parts head base entries told h. let next = e.next parts head base entries (i.quiet.same ∙ told) h in rw c.in-Some.is at next)

pub returns-in_err-redo-clause-same : goal.returns-in_err-redo-clause-same
returns-in_err-redo-clause-same g c = on_then _ _ _ c.entries.invariant.same c.in_ok-entry.ensures.same

pub returns-in_err-redo-clause-quiet : goal.returns-in_err-redo-clause-quiet
returns-in_err-redo-clause-quiet g c =
    let M = g.met.D.Disk in
    let laws : DiskLaws g.D.Disk.disk_clock g.D.Disk.images g.D.Disk.by_disk = record { same = M.disk_same; then_by = M.disk_then; later = M.disk_later; past = M.disk_past } in
    reads_then g.D.Disk.reads laws _ _ _ c.entries.invariant.quiet c.in_ok-entry.ensures.quiet

pub returns-in_err-redo-clause-cause : goal.returns-in_err-redo-clause-cause
returns-in_err-redo-clause-cause g c =
    let p = err_from_is_err_and c.from_residual-in_err-redo.result c.from_residual-in_err-redo.ensures.1 in
    rw p.1 (told_none _ _ _ (λ err. absurd (cc (err, p.2))) (told_ok _ _ _ c.in_ok-entry.ensures.cause ∙ c.entries.invariant.kept))
