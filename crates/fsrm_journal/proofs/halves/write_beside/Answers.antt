use Rattle.std.proofs.Common.{List, ℕ, ◌≤◌, length, get_or, ap, sym, ◌∙◌, arith}
use Rattle.fsrm_outside.specs.Changes.{Written}
use Rattle.fsrm_outside.specs.Parts.{Parts, part_of, other}
use Rattle.fsrm_outside.specs.declared.traits.Part.{Part}
use Rattle.fsrm_outside.proofs.Stages.{DiskLaws}
use Rattle.fsrm_journal.proofs.Besides.{writes_beside, wrote_beside}
use Rattle.fsrm_journal.proofs.Files.{told_back, told_forth, written_here, written_beside, length-over}
use Rattle.fsrm_journal.proofs.Gates.{over_before}
use Rattle.fsrm_journal.proofs.halves.write_beside.Goals as goal

pub returns-in_err-write_at-clause-any_moment : goal.returns-in_err-write_at-clause-any_moment
returns-in_err-write_at-clause-any_moment g c half front at b =
    writes_beside c.args.ruling c.other.result c.args.place (length c.args.bytes.now) c.other.ensures (omega (arith, at)) b c.write_at.new.self c.write_at.ensures.crash

pub returns-clause-any_moment : goal.returns-clause-any_moment
returns-clause-any_moment g c half front at b =
    writes_beside c.args.ruling c.other.result c.args.place (length c.args.bytes.now) c.other.ensures (omega (arith, at)) b c.write_at.new.self c.write_at.ensures.crash

pub returns-clause-written : goal.returns-clause-written
returns-clause-written g c half front at b =
    let M = g.met.D.Disk in
    let laws : DiskLaws g.D.Disk.disk_clock g.D.Disk.images g.D.Disk.by_disk = record { same = M.disk_same; then_by = M.disk_then; later = M.disk_later; past = M.disk_past } in
    wrote_beside laws c.args.ruling c.other.result c.args.place c.args.bytes.now c.other.ensures at b c.write_at.new.self c.write_at.ensures.by c.write_at.ensures.crash (c.in_ok-write_at.ensures.written ∙ told_forth _ _ b.parts b.told)

pub returns-clause-longer : goal.returns-clause-longer
returns-clause-longer g c x told =
    let b = told_back _ _ x (sym c.in_ok-write_at.ensures.written ∙ told) in
    let o = c.other.result in
    let within : c.args.place ≤ length (part_of (other c.args.ruling) b.0) = c.requires b.0 b.1 in
    omega (arith, within, length-over c.args.place c.args.bytes.now (part_of o b.0) (omega (arith, within, ap (λ (r : Part). length (part_of r b.0)) c.other.ensures)), ap (λ (p : Parts). length (part_of (other c.args.ruling) p)) b.2, ap (λ (r : Part). length (part_of r (Written o c.args.place c.args.bytes.now b.0))) c.other.ensures, ap length (written_here o c.args.place c.args.bytes.now b.0))

pub returns-clause-here : goal.returns-clause-here
returns-clause-here g c n long x told =
    let b = told_back _ _ x (sym c.in_ok-write_at.ensures.written ∙ told) in
    let r = c.args.ruling in
    omega (arith, long b.0 b.1, ap (λ (p : Parts). length (part_of r p)) b.2, ap length (written_beside r c.other.result c.args.place c.args.bytes.now b.0 c.other.ensures))

pub returns-clause-gate : goal.returns-clause-gate
returns-clause-gate g c byte after was x told =
    let b = told_back _ _ x (sym c.in_ok-write_at.ensures.written ∙ told) in
    let o = c.other.result in
    let place = c.args.place in
    let bytes = c.args.bytes.now in
    let within : place ≤ length (part_of (other c.args.ruling) b.0) = c.requires b.0 b.1 in
    ap (λ (r : Part). get_or (part_of r x) 0 0) (sym c.other.ensures) ∙ ap (λ (p : Parts). get_or (part_of o p) 0 0) b.2 ∙ ap (λ (l : List ℕ). get_or l 0 0) (written_here o place bytes b.0)
    ∙ over_before place bytes (part_of o b.0) 0 (omega (arith, within, ap (λ (r : Part). length (part_of r b.0)) c.other.ensures)) (omega (arith, after))
    ∙ ap (λ (r : Part). get_or (part_of r b.0) 0 0) c.other.ensures ∙ was b.0 b.1
