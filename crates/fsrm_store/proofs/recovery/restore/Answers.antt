use Rattle.std.proofs.Common.{◌≡◌, true, [], refl, sym, ◌∙◌, subst}
use Rattle.std.specs.Prelude.{IfErr, IfOk, Result}
use Rattle.std.proofs.lemmas.Result.{err_from_is_err_and}
use Rattle.fsrm_outside.proofs.Settling.{still_stable}
use Rattle.fsrm_outside.proofs.Stages.{DiskLaws}
use Rattle.fsrm_model.specs.store.Lasting.{lasting}
use Rattle.fsrm_model.specs.store.Valid.{is_valid}
use Rattle.fsrm_model.proofs.valid.ValidTests.{test_by_valid}
use Rattle.fsrm_engine.specs.Machine.{Machine}
use Rattle.fsrm_store.specs.Recovery.{IsRefused, Restored, TellsFaults}
use Rattle.fsrm_store.specs.declared.fault.StoreFault.{StoreFault}
use Rattle.fsrm_store.specs.declared.fault.StoreFault.TheVariants.{AlreadyStore}
use Rattle.fsrm_store.proofs.Opened.{err_back, err_given_up, few_entries, ok_given_up, restored_all, told_given_up}
use Rattle.fsrm_store.proofs.QuietCalls.{on_then, reads_then, told_ok, told_then}
use Rattle.fsrm_store.proofs.recovery.restore.Goals as goal

pub returns-clause-restored : goal.returns-clause-restored
returns-clause-restored g c = λ parts told stable r.
    let M = g.met.D.Disk in
    let laws : DiskLaws g.D.Disk.disk_clock g.D.Disk.images g.D.Disk.by_disk = record { same = M.disk_same; then_by = M.disk_then; later = M.disk_later; past = M.disk_past } in
    let D = g.D.Disk in
    let head = c.args.head.now in
    let first = c.in_ok-engine.engine in
    let now = c.replay-done.new.engine in
    let quiet = c.in_ok-engine.ensures.quiet in
    let read = c.in_ok-engine.ensures.read parts told r in
    let redone = c.replay-done.ensures.all parts head first.rows (quiet.same ∙ told) (still_stable D.reads laws _ _ quiet.ran quiet.crash quiet.same stable) read in
    subst (λ (result : Result Machine StoreFault). IfOk result (λ engine. Restored D.reads D.disk_clock D.images head engine c.replay-done.new.journal c.replay-done.new.disk)) (sym c.finished.ensures)
    (ok_given_up (λ engine. Restored D.reads D.disk_clock D.images head engine c.replay-done.new.journal c.replay-done.new.disk) c.replay-done.result now redone (λ all. restored_all D.reads D.disk_clock D.images head first.rows c.replay-done.new.journal first now _ c.replay-done.new.disk all c.in_ok-engine.ensures.size refl refl refl))

pub returns-clause-idle : goal.returns-clause-idle
returns-clause-idle g c =
    subst (λ (result : Result Machine StoreFault). IfOk result (λ engine. engine.waiting ≡ [])) (sym c.finished.ensures)
    (ok_given_up (λ engine. engine.waiting ≡ []) c.replay-done.result c.replay-done.new.engine c.replay-done.ensures.idle (λ idle. idle))

pub returns-clause-valid : goal.returns-clause-valid
returns-clause-valid g c =
    subst (λ (result : Result Machine StoreFault). IfOk result (λ engine. is_valid engine.size engine.rows ≡ true)) (sym c.finished.ensures)
    (ok_given_up (λ engine. is_valid engine.size engine.rows ≡ true) c.replay-done.result c.replay-done.new.engine (c.replay-done.ensures.valid c.in_ok-engine.ensures.valid) (λ valid. test_by_valid c.replay-done.new.engine.size (lasting c.replay-done.new.engine.rows) valid))

pub returns-clause-refused : goal.returns-clause-refused
returns-clause-refused g c = λ parts told r.
    let quiet = c.in_ok-engine.ensures.quiet in
    let read = c.in_ok-engine.ensures.read parts told r in
    subst (λ (result : Result Machine StoreFault). IfErr result (IsRefused parts)) (sym c.finished.ensures)
    (err_given_up (IsRefused parts) c.replay-done.result c.replay-done.new.engine (c.replay-done.ensures.refused parts c.args.head.now c.in_ok-engine.engine.rows (quiet.same ∙ told) read))

pub returns-clause-only : goal.returns-clause-only
returns-clause-only g c = λ err. c.replay-done.ensures.only (err_back c.replay-done.result c.replay-done.new.engine AlreadyStore (sym c.finished.ensures ∙ err))

pub returns-clause-looks : goal.returns-clause-looks
returns-clause-looks g c = λ parts told r.
    let e = c.in_ok-engine.ensures in
    let read = e.read parts told r in
    few_entries _ c.args.head.now c.in_ok-engine.engine.rows parts c.in_ok-engine.engine c.args.steps.now c.first_engine.new.steps c.replay-done.new.steps e.looks e.size refl
    (c.replay-done.ensures.looks parts c.args.head.now c.in_ok-engine.engine.rows (e.quiet.same ∙ told) read)

pub returns-clause-same : goal.returns-clause-same
returns-clause-same g c = on_then _ _ _ c.in_ok-engine.ensures.same c.replay-done.ensures.same

pub returns-clause-quiet : goal.returns-clause-quiet
returns-clause-quiet g c =
    let M = g.met.D.Disk in
    let laws : DiskLaws g.D.Disk.disk_clock g.D.Disk.images g.D.Disk.by_disk = record { same = M.disk_same; then_by = M.disk_then; later = M.disk_later; past = M.disk_past } in
    reads_then g.D.Disk.reads laws _ _ _ c.in_ok-engine.ensures.quiet c.replay-done.ensures.quiet

pub returns-clause-cause : goal.returns-clause-cause
returns-clause-cause g c =
    let D = g.D.Disk in
    subst (TellsFaults (D.disk_faults c.args.disk.now) (D.disk_faults c.replay-done.new.disk)) (sym c.finished.ensures)
    (told_given_up _ _ _ c.replay-done.result c.replay-done.new.engine (told_ok _ _ _ c.in_ok-engine.ensures.cause) c.replay-done.ensures.cause)

-- no engine is made
pub returns-in_err-engine-clause-refused : goal.returns-in_err-engine-clause-refused
returns-in_err-engine-clause-refused g c = λ parts told r.
    let p = err_from_is_err_and c.from_residual.result c.from_residual.ensures.1 in
    rw p.1 (subst (IsRefused parts) (sym p.2) (c.in_err-engine.ensures.refused parts told r))

pub returns-in_err-engine-clause-only : goal.returns-in_err-engine-clause-only
returns-in_err-engine-clause-only g c =
    let p = err_from_is_err_and c.from_residual.result c.from_residual.ensures.1 in
    rw p.1 (λ err. c.in_err-engine.ensures.only (cc (err, p.2)))

pub returns-in_err-engine-clause-looks : goal.returns-in_err-engine-clause-looks
returns-in_err-engine-clause-looks g c = λ parts told r. c.in_err-engine.ensures.few parts told r

pub returns-in_err-engine-clause-same : goal.returns-in_err-engine-clause-same
returns-in_err-engine-clause-same g c = c.in_err-engine.ensures.same

pub returns-in_err-engine-clause-quiet : goal.returns-in_err-engine-clause-quiet
returns-in_err-engine-clause-quiet g c = c.in_err-engine.ensures.quiet

pub returns-in_err-engine-clause-cause : goal.returns-in_err-engine-clause-cause
returns-in_err-engine-clause-cause g c =
    let p = err_from_is_err_and c.from_residual.result c.from_residual.ensures.1 in
    rw (p.1, p.2) (told_then _ _ _ c.in_err-engine.field-0.0 refl c.in_err-engine.ensures.cause)
