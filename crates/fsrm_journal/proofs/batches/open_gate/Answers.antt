use Rattle.std.proofs.Common.{List, ℕ, [], ◌∷◌, length, get_or, ap, sym, ◌∙◌, arith}
use Rattle.fsrm_outside.specs.Parts.{Parts, part_of, other}
use Rattle.fsrm_outside.proofs.Stages.{DiskLaws, stayed}
use Rattle.fsrm_journal.proofs.Files.{told_back, told_forth, written_here, written_there, length-over-old}
use Rattle.fsrm_journal.proofs.Gates.{over_after}
use Rattle.fsrm_journal.proofs.Staging.{opens, makes_settled}
use Rattle.fsrm_journal.proofs.batches.open_gate.Goals as goal

pub returns-in_err-write_at-clause-any_moment : goal.returns-in_err-write_at-clause-any_moment
returns-in_err-write_at-clause-any_moment g c log bodies body more rules s =
    let M = g.met.D.Disk in
    let laws : DiskLaws g.D.Disk.disk_clock g.D.Disk.images g.D.Disk.by_disk = record { same = M.disk_same; then_by = M.disk_then; later = M.disk_later; past = M.disk_past } in
    let s1 = opens body more laws s c.write_at.new.self c.args.ruling rules c.write_at.ensures.by c.write_at.ensures.crash in
    s1.each

pub returns-in_err-sync-clause-any_moment : goal.returns-in_err-sync-clause-any_moment
returns-in_err-sync-clause-any_moment g c log bodies body more rules s =
    let M = g.met.D.Disk in
    let laws : DiskLaws g.D.Disk.disk_clock g.D.Disk.images g.D.Disk.by_disk = record { same = M.disk_same; then_by = M.disk_then; later = M.disk_later; past = M.disk_past } in
    let s1 = opens body more laws s c.write_at.new.self c.args.ruling rules c.write_at.ensures.by c.write_at.ensures.crash in
    let s2 = stayed laws c.sync.new.self s1 c.sync.ensures.by c.sync.ensures.crash (λ i p. p) in
    s2.each

pub returns-clause-any_moment : goal.returns-clause-any_moment
returns-clause-any_moment g c log bodies body more rules s =
    let M = g.met.D.Disk in
    let laws : DiskLaws g.D.Disk.disk_clock g.D.Disk.images g.D.Disk.by_disk = record { same = M.disk_same; then_by = M.disk_then; later = M.disk_later; past = M.disk_past } in
    let s1 = opens body more laws s c.write_at.new.self c.args.ruling rules c.write_at.ensures.by c.write_at.ensures.crash in
    let s2 = stayed laws c.sync.new.self s1 c.sync.ensures.by c.sync.ensures.crash (λ i p. p) in
    s2.each

pub returns-clause-opened : goal.returns-clause-opened
returns-clause-opened g c log bodies body more rules s =
    makes_settled body more s c.sync.new.self c.args.ruling rules (c.sync.ensures.reads ∙ (c.in_ok-write_at.ensures.written ∙ told_forth _ _ s.parts s.told)) c.in_ok-sync.ensures.durable

pub returns-clause-longer : goal.returns-clause-longer
returns-clause-longer g c n long x told =
    let b = told_back _ _ x (sym c.in_ok-write_at.ensures.written ∙ (sym c.sync.ensures.reads ∙ told)) in
    let r = c.args.ruling in
    omega (arith, long b.0 b.1, length-over-old c.args.gate (1 ∷ []) (part_of r b.0) (omega (arith, c.requires b.0 b.1)), ap (λ (p : Parts). length (part_of r p)) b.2, ap length (written_here r c.args.gate (1 ∷ []) b.0))

pub returns-clause-beside : goal.returns-clause-beside
returns-clause-beside g c n long x told =
    let b = told_back _ _ x (sym c.in_ok-write_at.ensures.written ∙ (sym c.sync.ensures.reads ∙ told)) in
    let r = c.args.ruling in
    omega (arith, long b.0 b.1, ap (λ (p : Parts). length (part_of (other r) p)) b.2, ap length (written_there r c.args.gate (1 ∷ []) b.0))

pub returns-clause-after : goal.returns-clause-after
returns-clause-after g c n byte after was x told =
    let b = told_back _ _ x (sym c.in_ok-write_at.ensures.written ∙ (sym c.sync.ensures.reads ∙ told)) in
    let r = c.args.ruling in
    ap (λ (p : Parts). get_or (part_of r p) n 0) b.2 ∙ ap (λ (l : List ℕ). get_or l n 0) (written_here r c.args.gate (1 ∷ []) b.0)
    ∙ over_after c.args.gate (1 ∷ []) (part_of r b.0) n (omega (arith, c.requires b.0 b.1)) (omega (arith, after)) ∙ was b.0 b.1
