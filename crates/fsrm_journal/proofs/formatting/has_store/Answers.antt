use Rattle.fsrm_outside.proofs.Stages.{DiskLaws, quiet_then}
use Rattle.fsrm_journal.proofs.formatting.has_store.Goals as goal

pub returns-in_err-zero-clause-crash : goal.returns-in_err-zero-clause-crash
returns-in_err-zero-clause-crash g c =
    let M = g.met.D.Disk in
    let laws : DiskLaws g.D.Disk.disk_clock g.D.Disk.images g.D.Disk.by_disk = record { same = M.disk_same; then_by = M.disk_then; later = M.disk_later; past = M.disk_past } in
    quiet_then laws _ _ _ c.sync.ensures.by c.is_open_at.ensures.by c.sync.ensures.crash c.is_open_at.ensures.crash

pub returns-in_err-one-clause-crash : goal.returns-in_err-one-clause-crash
returns-in_err-one-clause-crash g c =
    let M = g.met.D.Disk in
    let laws : DiskLaws g.D.Disk.disk_clock g.D.Disk.images g.D.Disk.by_disk = record { same = M.disk_same; then_by = M.disk_then; later = M.disk_later; past = M.disk_past } in
    let two = quiet_then laws _ _ _ c.sync.ensures.by c.is_open_at.ensures.by c.sync.ensures.crash c.is_open_at.ensures.crash in
    quiet_then laws _ _ _ (M.disk_then _ _ _ c.sync.ensures.by c.is_open_at.ensures.by) c.is_open_at-2.ensures.by two c.is_open_at-2.ensures.crash

pub returns-then-zero-clause-crash : goal.returns-then-zero-clause-crash
returns-then-zero-clause-crash g c =
    let M = g.met.D.Disk in
    let laws : DiskLaws g.D.Disk.disk_clock g.D.Disk.images g.D.Disk.by_disk = record { same = M.disk_same; then_by = M.disk_then; later = M.disk_later; past = M.disk_past } in
    let two = quiet_then laws _ _ _ c.sync.ensures.by c.is_open_at.ensures.by c.sync.ensures.crash c.is_open_at.ensures.crash in
    quiet_then laws _ _ _ (M.disk_then _ _ _ c.sync.ensures.by c.is_open_at.ensures.by) c.is_open_at-2.ensures.by two c.is_open_at-2.ensures.crash

pub returns-else-zero-clause-crash : goal.returns-else-zero-clause-crash
returns-else-zero-clause-crash g c =
    let M = g.met.D.Disk in
    let laws : DiskLaws g.D.Disk.disk_clock g.D.Disk.images g.D.Disk.by_disk = record { same = M.disk_same; then_by = M.disk_then; later = M.disk_later; past = M.disk_past } in
    let two = quiet_then laws _ _ _ c.sync.ensures.by c.is_open_at.ensures.by c.sync.ensures.crash c.is_open_at.ensures.crash in
    quiet_then laws _ _ _ (M.disk_then _ _ _ c.sync.ensures.by c.is_open_at.ensures.by) c.is_open_at-2.ensures.by two c.is_open_at-2.ensures.crash
