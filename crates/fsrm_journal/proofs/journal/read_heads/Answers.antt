use Rattle.std.proofs.Common.{take, ap, ◌∙◌, ℕ}
use Rattle.std.proofs.lemmas.Result.{err_from_is_err_and}
use Rattle.fsrm_outside.proofs.Settling.{still_stable, settles_never, settles_from}
use Rattle.fsrm_outside.proofs.Stages.{DiskLaws, quiet_then}
use Rattle.fsrm_journal.proofs.journal.read_heads.Goals as goal

pub returns-in_err-zero_len-clause-crash : goal.returns-in_err-zero_len-clause-crash
returns-in_err-zero_len-clause-crash g c =
    let M = g.met.D.Disk in
    let laws : DiskLaws g.D.Disk.disk_clock g.D.Disk.images g.D.Disk.by_disk = record { same = M.disk_same; then_by = M.disk_then; later = M.disk_later; past = M.disk_past } in
    quiet_then laws _ _ _ c.sync.ensures.by c.read_at.ensures.by c.sync.ensures.crash c.read_at.ensures.crash

pub returns-in_err-one_len-clause-crash : goal.returns-in_err-one_len-clause-crash
returns-in_err-one_len-clause-crash g c =
    let M = g.met.D.Disk in
    let laws : DiskLaws g.D.Disk.disk_clock g.D.Disk.images g.D.Disk.by_disk = record { same = M.disk_same; then_by = M.disk_then; later = M.disk_later; past = M.disk_past } in
    let two = quiet_then laws _ _ _ c.sync.ensures.by c.read_at.ensures.by c.sync.ensures.crash c.read_at.ensures.crash in
    quiet_then laws _ _ _ (M.disk_then _ _ _ c.sync.ensures.by c.read_at.ensures.by) c.read_at-2.ensures.by two c.read_at-2.ensures.crash

pub returns-clause-crash : goal.returns-clause-crash
returns-clause-crash g c =
    let M = g.met.D.Disk in
    let laws : DiskLaws g.D.Disk.disk_clock g.D.Disk.images g.D.Disk.by_disk = record { same = M.disk_same; then_by = M.disk_then; later = M.disk_later; past = M.disk_past } in
    let two = quiet_then laws _ _ _ c.sync.ensures.by c.read_at.ensures.by c.sync.ensures.crash c.read_at.ensures.crash in
    quiet_then laws _ _ _ (M.disk_then _ _ _ c.sync.ensures.by c.read_at.ensures.by) c.read_at-2.ensures.by two c.read_at-2.ensures.crash

pub returns-clause-stable : goal.returns-clause-stable
returns-clause-stable g c =
    let M = g.met.D.Disk in
    let laws : DiskLaws g.D.Disk.disk_clock g.D.Disk.images g.D.Disk.by_disk = record { same = M.disk_same; then_by = M.disk_then; later = M.disk_later; past = M.disk_past } in
    let ran = M.disk_then _ _ _ c.read_at.ensures.by c.read_at-2.ensures.by in
    let two = quiet_then laws _ _ _ c.read_at.ensures.by c.read_at-2.ensures.by c.read_at.ensures.crash c.read_at-2.ensures.crash in
    still_stable g.D.Disk.reads laws _ _ ran two (c.read_at-2.ensures.reads ∙ c.read_at.ensures.reads) c.in_ok-sync.ensures.durable

pub returns-clause-zero : goal.returns-clause-zero
returns-clause-zero g c parts told =
    c.in_ok-zero_len.ensures.bytes parts (c.sync.ensures.reads ∙ told) ∙ ap (λ (k : ℕ). take k parts.zero) c.requires.zero

pub returns-clause-one : goal.returns-clause-one
returns-clause-one g c parts told =
    c.in_ok-one_len.ensures.bytes parts (c.read_at.ensures.reads ∙ (c.sync.ensures.reads ∙ told)) ∙ ap (λ (k : ℕ). take k parts.one) c.requires.one

pub returns-in_err-sync-clause-any_moment : goal.returns-in_err-sync-clause-any_moment
returns-in_err-sync-clause-any_moment g c =
    let p = err_from_is_err_and c.from_residual.result c.from_residual.ensures.1 in
    settles_never _ _ (p.0, p.1) c.sync.ensures.clock

pub returns-in_err-zero_len-clause-any_moment : goal.returns-in_err-zero_len-clause-any_moment
returns-in_err-zero_len-clause-any_moment g c =
    let M = g.met.D.Disk in
    let laws : DiskLaws g.D.Disk.disk_clock g.D.Disk.images g.D.Disk.by_disk = record { same = M.disk_same; then_by = M.disk_then; later = M.disk_later; past = M.disk_past } in
    settles_from laws _ _ _ c.sync.ensures.by c.sync.ensures.clock c.read_at.ensures.by c.read_at.ensures.crash c.read_at.ensures.reads c.in_ok-sync.ensures.durable

pub returns-in_err-one_len-clause-any_moment : goal.returns-in_err-one_len-clause-any_moment
returns-in_err-one_len-clause-any_moment g c =
    let M = g.met.D.Disk in
    let laws : DiskLaws g.D.Disk.disk_clock g.D.Disk.images g.D.Disk.by_disk = record { same = M.disk_same; then_by = M.disk_then; later = M.disk_later; past = M.disk_past } in
    let ran = M.disk_then _ _ _ c.read_at.ensures.by c.read_at-2.ensures.by in
    let two = quiet_then laws _ _ _ c.read_at.ensures.by c.read_at-2.ensures.by c.read_at.ensures.crash c.read_at-2.ensures.crash in
    settles_from laws _ _ _ c.sync.ensures.by c.sync.ensures.clock ran two (c.read_at-2.ensures.reads ∙ c.read_at.ensures.reads) c.in_ok-sync.ensures.durable

pub returns-clause-any_moment : goal.returns-clause-any_moment
returns-clause-any_moment g c =
    let M = g.met.D.Disk in
    let laws : DiskLaws g.D.Disk.disk_clock g.D.Disk.images g.D.Disk.by_disk = record { same = M.disk_same; then_by = M.disk_then; later = M.disk_later; past = M.disk_past } in
    let ran = M.disk_then _ _ _ c.read_at.ensures.by c.read_at-2.ensures.by in
    let two = quiet_then laws _ _ _ c.read_at.ensures.by c.read_at-2.ensures.by c.read_at.ensures.crash c.read_at-2.ensures.crash in
    settles_from laws _ _ _ c.sync.ensures.by c.sync.ensures.clock ran two (c.read_at-2.ensures.reads ∙ c.read_at.ensures.reads) c.in_ok-sync.ensures.durable
