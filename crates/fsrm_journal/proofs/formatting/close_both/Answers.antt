use Rattle.std.proofs.Common.{◌∙◌, arith}
use Rattle.fsrm_outside.specs.declared.traits.Part.TheVariants.{Zero, One}
use Rattle.fsrm_outside.proofs.Stages.{DiskLaws, tick_forth}
use Rattle.fsrm_journal.specs.Formatted.{SameButGates}
use Rattle.fsrm_journal.proofs.Files.{told_forth}
use Rattle.fsrm_journal.proofs.NewStore.{gate_torn, gates_stay, through_as, gates_then, ticks_then, both_shut}
use Rattle.fsrm_journal.proofs.formatting.close_both.Goals as goal

pub returns-in_err-write_at-clause-crash : goal.returns-in_err-write_at-clause-crash
returns-in_err-write_at-clause-crash g c = through_as g.D.Disk.disk_clock g.D.Disk.images _ _ _ SameButGates (gate_torn Zero) c.write_at.ensures.crash

pub returns-in_err-write_at-2-clause-crash : goal.returns-in_err-write_at-2-clause-crash
returns-in_err-write_at-2-clause-crash g c =
    let M = g.met.D.Disk in
    let laws : DiskLaws g.D.Disk.disk_clock g.D.Disk.images g.D.Disk.by_disk = record { same = M.disk_same; then_by = M.disk_then; later = M.disk_later; past = M.disk_past } in
    gates_then laws _ _ _ c.write_at.ensures.by c.write_at-2.ensures.by (through_as g.D.Disk.disk_clock g.D.Disk.images _ _ _ SameButGates (gate_torn Zero) c.write_at.ensures.crash) (through_as g.D.Disk.disk_clock g.D.Disk.images _ _ _ SameButGates (gate_torn One) c.write_at-2.ensures.crash)

pub returns-in_err-sync-clause-crash : goal.returns-in_err-sync-clause-crash
returns-in_err-sync-clause-crash g c =
    let M = g.met.D.Disk in
    let laws : DiskLaws g.D.Disk.disk_clock g.D.Disk.images g.D.Disk.by_disk = record { same = M.disk_same; then_by = M.disk_then; later = M.disk_later; past = M.disk_past } in
    let two = gates_then laws _ _ _ c.write_at.ensures.by c.write_at-2.ensures.by (through_as g.D.Disk.disk_clock g.D.Disk.images _ _ _ SameButGates (gate_torn Zero) c.write_at.ensures.crash) (through_as g.D.Disk.disk_clock g.D.Disk.images _ _ _ SameButGates (gate_torn One) c.write_at-2.ensures.crash) in
    gates_then laws _ _ _ (M.disk_then _ _ _ c.write_at.ensures.by c.write_at-2.ensures.by) c.sync.ensures.by two (through_as g.D.Disk.disk_clock g.D.Disk.images _ _ _ SameButGates (gates_stay) c.sync.ensures.crash)

pub returns-clause-crash : goal.returns-clause-crash
returns-clause-crash g c =
    let M = g.met.D.Disk in
    let laws : DiskLaws g.D.Disk.disk_clock g.D.Disk.images g.D.Disk.by_disk = record { same = M.disk_same; then_by = M.disk_then; later = M.disk_later; past = M.disk_past } in
    let two = gates_then laws _ _ _ c.write_at.ensures.by c.write_at-2.ensures.by (through_as g.D.Disk.disk_clock g.D.Disk.images _ _ _ SameButGates (gate_torn Zero) c.write_at.ensures.crash) (through_as g.D.Disk.disk_clock g.D.Disk.images _ _ _ SameButGates (gate_torn One) c.write_at-2.ensures.crash) in
    gates_then laws _ _ _ (M.disk_then _ _ _ c.write_at.ensures.by c.write_at-2.ensures.by) c.sync.ensures.by two (through_as g.D.Disk.disk_clock g.D.Disk.images _ _ _ SameButGates (gates_stay) c.sync.ensures.crash)

pub returns-clause-closed : goal.returns-clause-closed
returns-clause-closed g c parts told =
    both_shut parts c.sync.new.self (c.sync.ensures.reads ∙ (c.in_ok-write_at-2.ensures.written ∙ told_forth _ _ _ (c.in_ok-write_at.ensures.written ∙ told_forth _ _ parts told))) c.in_ok-sync.ensures.durable

pub returns-in_err-write_at-clause-soon : goal.returns-in_err-write_at-clause-soon
returns-in_err-write_at-clause-soon g c s t at_old at_new = omega (arith, tick_forth _ _ s t c.write_at.ensures.clock at_old at_new)

pub returns-in_err-write_at-2-clause-soon : goal.returns-in_err-write_at-2-clause-soon
returns-in_err-write_at-2-clause-soon g c s t at_old at_new =
    let M = g.met.D.Disk in
    let laws : DiskLaws g.D.Disk.disk_clock g.D.Disk.images g.D.Disk.by_disk = record { same = M.disk_same; then_by = M.disk_then; later = M.disk_later; past = M.disk_past } in
    omega (arith, ticks_then laws 1 _ _ _ c.write_at.ensures.by (λ u v at_u at_v. tick_forth _ _ u v c.write_at.ensures.clock at_u at_v) c.write_at-2.ensures.clock s t at_old at_new)

pub returns-in_err-sync-clause-soon : goal.returns-in_err-sync-clause-soon
returns-in_err-sync-clause-soon g c s t at_old at_new =
    let M = g.met.D.Disk in
    let laws : DiskLaws g.D.Disk.disk_clock g.D.Disk.images g.D.Disk.by_disk = record { same = M.disk_same; then_by = M.disk_then; later = M.disk_later; past = M.disk_past } in
    omega (arith, ticks_then laws 2 _ _ _ (M.disk_then _ _ _ c.write_at.ensures.by c.write_at-2.ensures.by) (ticks_then laws 1 _ _ _ c.write_at.ensures.by (λ u v at_u at_v. tick_forth _ _ u v c.write_at.ensures.clock at_u at_v) c.write_at-2.ensures.clock) c.sync.ensures.clock s t at_old at_new)

pub returns-clause-soon : goal.returns-clause-soon
returns-clause-soon g c s t at_old at_new =
    let M = g.met.D.Disk in
    let laws : DiskLaws g.D.Disk.disk_clock g.D.Disk.images g.D.Disk.by_disk = record { same = M.disk_same; then_by = M.disk_then; later = M.disk_later; past = M.disk_past } in
    omega (arith, ticks_then laws 2 _ _ _ (M.disk_then _ _ _ c.write_at.ensures.by c.write_at-2.ensures.by) (ticks_then laws 1 _ _ _ c.write_at.ensures.by (λ u v at_u at_v. tick_forth _ _ u v c.write_at.ensures.clock at_u at_v) c.write_at-2.ensures.clock) c.sync.ensures.clock s t at_old at_new)
