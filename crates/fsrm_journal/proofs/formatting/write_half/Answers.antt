use Rattle.std.proofs.Common.{[]}
use Rattle.fsrm_outside.proofs.Stages.{DiskLaws}
use Rattle.fsrm_journal.specs.Halves.{AllButGate}
use Rattle.fsrm_journal.proofs.Untils.{until_never, until_then}
use Rattle.fsrm_journal.proofs.formatting.write_half.Goals as goal

pub returns-in_err-write_content-clause-any_moment : goal.returns-in_err-write_content-clause-any_moment
returns-in_err-write_content-clause-any_moment g c half b =
    ([], until_never (AllButGate c.args.ruling half c.args.head.now c.args.image.now []) c.write_content.new.disk (c.write_content.ensures.any_moment half b))

pub returns-clause-any_moment : goal.returns-clause-any_moment
returns-clause-any_moment g c half b =
    let M = g.met.D.Disk in
    let laws : DiskLaws g.D.Disk.disk_clock g.D.Disk.images g.D.Disk.by_disk = record { same = M.disk_same; then_by = M.disk_then; later = M.disk_later; past = M.disk_past } in
    let w = c.open_beside.ensures.any_moment half c.args.image.now c.args.head.now (c.in_ok-write_content.ensures.written half b) in
    (w.0, until_then laws _ _ _ c.write_content.ensures.by c.open_beside.ensures.by (c.write_content.ensures.any_moment half b) w.1)

pub returns-clause-opened : goal.returns-clause-opened
returns-clause-opened g c half b = c.open_beside.ensures.opened half c.args.image.now c.args.head.now (c.in_ok-write_content.ensures.written half b)
