use Rattle.std.proofs.Common.{List, ℕ, [], ◌∷◌, length, get_or, ap, refl, sym, ◌∙◌, arith}
use Rattle.fsrm_outside.specs.Changes.{Written}
use Rattle.fsrm_outside.specs.Parts.{Parts, part_of, other}
use Rattle.fsrm_outside.specs.declared.traits.Part.{Part}
use Rattle.fsrm_outside.proofs.Stages.{DiskLaws, started, stayed}
use Rattle.fsrm_journal.specs.Halves.{Stays}
use Rattle.fsrm_journal.proofs.Besides.{always, closed_before, closes, closed_now}
use Rattle.fsrm_journal.proofs.Files.{told_back, told_forth, written_here, written_beside, length-over-old}
use Rattle.fsrm_journal.proofs.halves.close_beside.Goals as goal

pub returns-then-not-gate_is_open-clause-any_moment : goal.returns-then-not-gate_is_open-clause-any_moment
returns-then-not-gate_is_open-clause-any_moment g c parts certain rules flag =
    started (always (Stays c.args.ruling (part_of c.args.ruling parts)) certain (record { rules = rules; same = refl }))

pub returns-then-not-gate_is_open-clause-closed : goal.returns-then-not-gate_is_open-clause-closed
returns-then-not-gate_is_open-clause-closed g c parts certain rules flag = closed_before c.args.ruling certain rules (sym flag ∙ c.if-not-gate_is_open.true)

pub returns-in_err-write_at-clause-any_moment : goal.returns-in_err-write_at-clause-any_moment
returns-in_err-write_at-clause-any_moment g c parts certain rules flag =
    let M = g.met.D.Disk in
    let laws : DiskLaws g.D.Disk.disk_clock g.D.Disk.images g.D.Disk.by_disk = record { same = M.disk_same; then_by = M.disk_then; later = M.disk_later; past = M.disk_past } in
    let s1 = closes laws c.args.ruling c.other.result c.other.ensures certain rules (sym flag ∙ c.if-not-gate_is_open.false) c.write_at.new.self c.write_at.ensures.by c.write_at.ensures.crash in
    s1.each

pub returns-in_err-sync-clause-any_moment : goal.returns-in_err-sync-clause-any_moment
returns-in_err-sync-clause-any_moment g c parts certain rules flag =
    let M = g.met.D.Disk in
    let laws : DiskLaws g.D.Disk.disk_clock g.D.Disk.images g.D.Disk.by_disk = record { same = M.disk_same; then_by = M.disk_then; later = M.disk_later; past = M.disk_past } in
    let s1 = closes laws c.args.ruling c.other.result c.other.ensures certain rules (sym flag ∙ c.if-not-gate_is_open.false) c.write_at.new.self c.write_at.ensures.by c.write_at.ensures.crash in
    let s2 = stayed laws c.sync.new.self s1 c.sync.ensures.by c.sync.ensures.crash (λ i p. p) in
    s2.each

pub returns-clause-any_moment : goal.returns-clause-any_moment
returns-clause-any_moment g c parts certain rules flag =
    let M = g.met.D.Disk in
    let laws : DiskLaws g.D.Disk.disk_clock g.D.Disk.images g.D.Disk.by_disk = record { same = M.disk_same; then_by = M.disk_then; later = M.disk_later; past = M.disk_past } in
    let s1 = closes laws c.args.ruling c.other.result c.other.ensures certain rules (sym flag ∙ c.if-not-gate_is_open.false) c.write_at.new.self c.write_at.ensures.by c.write_at.ensures.crash in
    let s2 = stayed laws c.sync.new.self s1 c.sync.ensures.by c.sync.ensures.crash (λ i p. p) in
    s2.each

pub returns-clause-closed : goal.returns-clause-closed
returns-clause-closed g c parts certain rules flag =
    closed_now parts c.args.ruling c.other.result c.other.ensures rules c.sync.new.self (c.sync.ensures.reads ∙ (c.in_ok-write_at.ensures.written ∙ told_forth _ _ parts certain.told)) c.in_ok-sync.ensures.durable

pub returns-clause-longer : goal.returns-clause-longer
returns-clause-longer g c n long x told =
    let b = told_back _ _ x (sym c.in_ok-write_at.ensures.written ∙ (sym c.sync.ensures.reads ∙ told)) in
    let o = c.other.result in
    omega (arith, long b.0 b.1, length-over-old 0 (0 ∷ []) (part_of o b.0) (omega arith), ap (λ (p : Parts). length (part_of (other c.args.ruling) p)) b.2, ap (λ (r : Part). length (part_of r (Written o 0 (0 ∷ []) b.0))) c.other.ensures, ap (λ (r : Part). length (part_of r b.0)) c.other.ensures, ap length (written_here o 0 (0 ∷ []) b.0))

pub returns-clause-here : goal.returns-clause-here
returns-clause-here g c n long x told =
    let b = told_back _ _ x (sym c.in_ok-write_at.ensures.written ∙ (sym c.sync.ensures.reads ∙ told)) in
    let r = c.args.ruling in
    omega (arith, long b.0 b.1, ap (λ (p : Parts). length (part_of r p)) b.2, ap length (written_beside r c.other.result 0 (0 ∷ []) b.0 c.other.ensures))

pub returns-clause-gate : goal.returns-clause-gate
returns-clause-gate g c opened x told =
    let b = told_back _ _ x (sym c.in_ok-write_at.ensures.written ∙ (sym c.sync.ensures.reads ∙ told)) in
    let o = c.other.result in
    ap (λ (r : Part). get_or (part_of r x) 0 0) (sym c.other.ensures) ∙ ap (λ (p : Parts). get_or (part_of o p) 0 0) b.2 ∙ ap (λ (l : List ℕ). get_or l 0 0) (written_here o 0 (0 ∷ []) b.0)
