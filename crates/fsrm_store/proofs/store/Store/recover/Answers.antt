use Rattle.std.proofs.Common.{inl, inr, ℕ, ◌<◌, [], length, refl, sym, ◌∙◌, ap, subst, arith}
use Rattle.std.specs.Prelude.{nat_eq, Err, Ok}
use Rattle.std.proofs.lemmas.Result.{err_from_is_err_and}
use Rattle.fsrm_outside.specs.Parts.{other, part_of}
use Rattle.fsrm_outside.specs.declared.traits.Part.{Part}
use Rattle.fsrm_outside.proofs.Settling.{settles_as, settles_then}
use Rattle.fsrm_outside.proofs.Stages.{DiskLaws, quiet_then}
use Rattle.fsrm_journal.specs.Heads.{head_of}
use Rattle.fsrm_journal.specs.HeadSays.{head_says}
use Rattle.fsrm_journal.specs.declared.heads.Head.{Head}
use Rattle.fsrm_store.specs.Keeps.{HasTail}
use Rattle.fsrm_store.specs.Recovery.{IsRefused}
use Rattle.fsrm_store.proofs.Amortizing.{since_tail}
use Rattle.fsrm_store.proofs.Opened.{gate_there, head_not_already, refused_head, rows_kept, state_held, still_holding}
use Rattle.fsrm_store.proofs.QuietCalls.{journal_disk, kept_ok, told_journal, told_ok, told_then}
use Rattle.fsrm_store.proofs.Told.{standing_told}
use Rattle.fsrm_store.proofs.store.Store.recover.Goals as goal

pub restore-requires-clause-size : goal.restore-requires-clause-size
restore-requires-clause-size g c = c.in_ok-journal.ensures.legal.size

pub returns-clause-state : goal.returns-clause-state
returns-clause-state g c = λ parts told.
    let D = g.D.Disk in
    let o = c.in_ok-journal.ensures in
    let after = o.reads ∙ told in
    let r = c.in_ok-engine.ensures.restored parts after o.stable (o.reading parts told) in
    state_held D.reads D.disk_clock D.images c.in_ok-journal.head c.in_ok-engine.engine c.restore.new.journal c.restore.new.disk parts r (c.in_ok-engine.ensures.quiet.same ∙ after)

pub returns-clause-stands : goal.returns-clause-stands
returns-clause-stands g c = λ parts told.
    let D = g.D.Disk in
    let o = c.in_ok-journal.ensures in
    let r = c.in_ok-engine.ensures.restored parts (o.reads ∙ told) o.stable (o.reading parts told) in
    record {
      head = c.in_ok-journal.head;
      bytes = r.read.image;
      bodies = r.read.bodies;
      held = [];
      stands = r.read.stands;
      holding = still_holding _ _ c.in_ok-engine.ensures.same o.holding;
      keeps = rows_kept D.reads D.disk_clock D.images c.in_ok-journal.head c.in_ok-engine.engine c.restore.new.journal c.restore.new.disk r;
      size = sym r.size;
      long = r.read.stands.at.store.whole;
      version = refl;
    }

pub returns-clause-ready : goal.returns-clause-ready
returns-clause-ready g c = λ parts told.
    let D = g.D.Disk in
    let o = c.in_ok-journal.ensures in
    let e = c.in_ok-engine.ensures in
    let before = sym (e.quiet.same ∙ o.reads) ∙ told in
    let r = e.restored parts (o.reads ∙ before) o.stable (o.reading parts before) in
    let beside = o.beside parts before in (
      gate_there D.reads D.disk_clock D.images c.in_ok-journal.head r.read.image r.read.bodies c.restore.new.journal c.restore.new.disk parts r.read.stands told,
      subst (λ (p : Part). 0 < length (part_of (other p) parts)) (sym e.same.ruling) beside,
    )

pub returns-clause-none : goal.returns-clause-none
returns-clause-none g c = c.in_ok-engine.ensures.same.held ∙ c.in_ok-journal.ensures.none

pub returns-clause-tail : goal.returns-clause-tail
returns-clause-tail g c = λ parts told.
    let now = c.in_ok-engine.ensures.quiet.same ∙ c.in_ok-journal.ensures.reads ∙ told in
    let none = c.in_ok-engine.ensures.same.held ∙ c.in_ok-journal.ensures.none in
    subst (λ (n : ℕ). HasTail n parts) (sym (since_tail c.restore.new.journal none)) (standing_told parts (returns-clause-stands g c parts told) now).tail

pub returns-clause-old : goal.returns-clause-old
returns-clause-old g c = λ parts told.
    let opened = c.in_ok-journal.ensures.opened parts told in
    let ruling = sym c.in_ok-engine.ensures.same.ruling in
    (opened.rules ∙ ap Ok ruling, ap (λ (h : Head). nat_eq h.version 1) opened.says ∙ ap (λ (p : Part). nat_eq (head_says (head_of (part_of p parts))).version 1) ruling)

pub returns-clause-looks : goal.returns-clause-looks
returns-clause-looks g c = λ parts told.
    c.restore.ensures.looks parts (c.in_ok-journal.ensures.reads ∙ told) (c.in_ok-journal.ensures.reading parts told)

pub returns-clause-reads : goal.returns-clause-reads
returns-clause-reads g c = c.restore.ensures.quiet.same ∙ c.in_ok-journal.ensures.reads

pub returns-clause-any_moment : goal.returns-clause-any_moment
returns-clause-any_moment g c =
    let M = g.met.D.Disk in
    let laws : DiskLaws g.D.Disk.disk_clock g.D.Disk.images g.D.Disk.by_disk = record { same = M.disk_same; then_by = M.disk_then; later = M.disk_later; past = M.disk_past } in
    let q = c.restore.ensures.quiet in
    settles_then laws _ _ _ c.open_at.ensures.by q.ran q.crash q.same (λ err. absurd (cc err)) c.in_ok-journal.ensures.any_moment

pub returns-clause-crash : goal.returns-clause-crash
returns-clause-crash g c =
    let M = g.met.D.Disk in
    let laws : DiskLaws g.D.Disk.disk_clock g.D.Disk.images g.D.Disk.by_disk = record { same = M.disk_same; then_by = M.disk_then; later = M.disk_later; past = M.disk_past } in
    let q = c.restore.ensures.quiet in
    quiet_then laws _ _ _ c.open_at.ensures.by q.ran c.open_at.ensures.crash q.crash

pub returns-clause-by : goal.returns-clause-by
returns-clause-by g c = g.met.D.Disk.disk_then _ _ _ c.open_at.ensures.by c.restore.ensures.quiet.ran

pub returns-clause-later : goal.returns-clause-later
returns-clause-later g c = omega (arith, c.open_at.ensures.later, c.restore.ensures.cause.later)

pub returns-clause-counted : goal.returns-clause-counted
returns-clause-counted g c = inr (told_ok _ _ _ c.in_ok-engine.ensures.cause ∙ kept_ok _ c.in_ok-journal.ensures.counted)

-- the heads refuse it, or the disk fails
pub returns-in_err-journal-clause-refused : goal.returns-in_err-journal-clause-refused
returns-in_err-journal-clause-refused g c = λ parts told.
    let p = err_from_is_err_and c.from_residual.result c.from_residual.ensures.1 in
    rw p.1 (subst (IsRefused parts) (sym p.2) (refused_head parts c.in_err-journal.field-0.0 (c.in_err-journal.ensures.refused parts told) (λ is. c.in_err-journal.ensures.only (ap Err is))))

pub returns-in_err-journal-clause-only : goal.returns-in_err-journal-clause-only
returns-in_err-journal-clause-only g c =
    let p = err_from_is_err_and c.from_residual.result c.from_residual.ensures.1 in
    rw p.1 (λ err. head_not_already c.in_err-journal.field-0.0 p.0 p.2 (λ is. c.in_err-journal.ensures.only (ap Err is)) err)

pub returns-in_err-journal-clause-looks : goal.returns-in_err-journal-clause-looks
returns-in_err-journal-clause-looks g c = λ parts told. inl refl

pub returns-in_err-journal-clause-any_moment : goal.returns-in_err-journal-clause-any_moment
returns-in_err-journal-clause-any_moment g c =
    let p = err_from_is_err_and c.from_residual.result c.from_residual.ensures.1 in
    rw p.1 (settles_as _ _ (λ err. ap Err (journal_disk c.in_err-journal.field-0.0 p.0 p.2 err)) c.in_err-journal.ensures.any_moment)

pub returns-in_err-journal-clause-failed : goal.returns-in_err-journal-clause-failed
returns-in_err-journal-clause-failed g c =
    let p = err_from_is_err_and c.from_residual.result c.from_residual.ensures.1 in
    let e = c.in_err-journal.ensures in
    rw p.1 (λ err. (told_journal _ _ c.in_err-journal.field-0.0 p.0 p.2 e.later e.failed e.counted).failed err)

pub returns-in_err-journal-clause-counted : goal.returns-in_err-journal-clause-counted
returns-in_err-journal-clause-counted g c =
    let p = err_from_is_err_and c.from_residual.result c.from_residual.ensures.1 in
    let e = c.in_err-journal.ensures in
    rw p.1 ((told_journal _ _ c.in_err-journal.field-0.0 p.0 p.2 e.later e.failed e.counted).counted)

-- no memory for the buffer
pub returns-in_default-clause-refused : goal.returns-in_default-clause-refused
returns-in_default-clause-refused g c = λ parts told. tt

pub returns-in_default-clause-looks : goal.returns-in_default-clause-looks
returns-in_default-clause-looks g c = λ parts told. inl refl

pub returns-in_default-clause-any_moment : goal.returns-in_default-clause-any_moment
returns-in_default-clause-any_moment g c = settles_as _ _ (λ err. absurd (cc err)) c.in_ok-journal.ensures.any_moment

pub returns-in_default-clause-counted : goal.returns-in_default-clause-counted
returns-in_default-clause-counted g c = inr (kept_ok _ c.in_ok-journal.ensures.counted)

-- what is there isn't all read
pub returns-in_err-engine-clause-refused : goal.returns-in_err-engine-clause-refused
returns-in_err-engine-clause-refused g c = λ parts told.
    let p = err_from_is_err_and c.from_residual-in_err-engine.result c.from_residual-in_err-engine.ensures.1 in
    let o = c.in_ok-journal.ensures in
    rw p.1 (subst (IsRefused parts) (sym p.2) (c.in_err-engine.ensures.refused parts (o.reads ∙ told) (o.reading parts told)))

pub returns-in_err-engine-clause-only : goal.returns-in_err-engine-clause-only
returns-in_err-engine-clause-only g c =
    let p = err_from_is_err_and c.from_residual-in_err-engine.result c.from_residual-in_err-engine.ensures.1 in
    rw p.1 (λ err. c.in_err-engine.ensures.only (cc (err, p.2)))

pub returns-in_err-engine-clause-looks : goal.returns-in_err-engine-clause-looks
returns-in_err-engine-clause-looks g c = λ parts told.
    c.restore.ensures.looks parts (c.in_ok-journal.ensures.reads ∙ told) (c.in_ok-journal.ensures.reading parts told)

pub returns-in_err-engine-clause-reads : goal.returns-in_err-engine-clause-reads
returns-in_err-engine-clause-reads g c = c.restore.ensures.quiet.same ∙ c.in_ok-journal.ensures.reads

pub returns-in_err-engine-clause-any_moment : goal.returns-in_err-engine-clause-any_moment
returns-in_err-engine-clause-any_moment g c =
    let M = g.met.D.Disk in
    let laws : DiskLaws g.D.Disk.disk_clock g.D.Disk.images g.D.Disk.by_disk = record { same = M.disk_same; then_by = M.disk_then; later = M.disk_later; past = M.disk_past } in
    let q = c.restore.ensures.quiet in
    settles_then laws _ _ _ c.open_at.ensures.by q.ran q.crash q.same (λ err. absurd (cc err)) c.in_ok-journal.ensures.any_moment

pub returns-in_err-engine-clause-crash : goal.returns-in_err-engine-clause-crash
returns-in_err-engine-clause-crash g c =
    let M = g.met.D.Disk in
    let laws : DiskLaws g.D.Disk.disk_clock g.D.Disk.images g.D.Disk.by_disk = record { same = M.disk_same; then_by = M.disk_then; later = M.disk_later; past = M.disk_past } in
    let q = c.restore.ensures.quiet in
    quiet_then laws _ _ _ c.open_at.ensures.by q.ran c.open_at.ensures.crash q.crash

pub returns-in_err-engine-clause-by : goal.returns-in_err-engine-clause-by
returns-in_err-engine-clause-by g c = g.met.D.Disk.disk_then _ _ _ c.open_at.ensures.by c.restore.ensures.quiet.ran

pub returns-in_err-engine-clause-later : goal.returns-in_err-engine-clause-later
returns-in_err-engine-clause-later g c = omega (arith, c.open_at.ensures.later, c.restore.ensures.cause.later)

pub returns-in_err-engine-clause-failed : goal.returns-in_err-engine-clause-failed
returns-in_err-engine-clause-failed g c =
    let p = err_from_is_err_and c.from_residual-in_err-engine.result c.from_residual-in_err-engine.ensures.1 in
    rw (p.1, p.2) (λ err. (told_then _ _ _ c.in_err-engine.field-0.0 (kept_ok _ c.in_ok-journal.ensures.counted) c.in_err-engine.ensures.cause).failed err)

pub returns-in_err-engine-clause-counted : goal.returns-in_err-engine-clause-counted
returns-in_err-engine-clause-counted g c =
    let p = err_from_is_err_and c.from_residual-in_err-engine.result c.from_residual-in_err-engine.ensures.1 in
    rw (p.1, p.2) ((told_then _ _ _ c.in_err-engine.field-0.0 (kept_ok _ c.in_ok-journal.ensures.counted) c.in_err-engine.ensures.cause).counted)
