use Rattle.std.proofs.Common.{◌≡◌, ℕ, ◌+◌, List, [], ◌∷◌, ◌++◌, length, get_or, length-append, ap, sym, ◌∙◌, arith}
use Rattle.fsrm_outside.specs.Changes.{over}
use Rattle.fsrm_outside.specs.Parts.{Parts, part_of, other}
use Rattle.fsrm_outside.proofs.Stages.{DiskLaws, some_is, stayed}
use Rattle.fsrm_journal.proofs.Files.{told_back, told_forth, front_holds, written_here, written_there}
use Rattle.fsrm_journal.proofs.Gates.{over_before, over_last}
use Rattle.fsrm_journal.proofs.Staging.{begins, writes, makes_staged}
use Rattle.fsrm_journal.proofs.batches.stage.Goals as goal

pub returns-in_err-write_at-clause-any_moment : goal.returns-in_err-write_at-clause-any_moment
returns-in_err-write_at-clause-any_moment g c log bodies s =
    let M = g.met.D.Disk in
    let laws : DiskLaws g.D.Disk.disk_clock g.D.Disk.images g.D.Disk.by_disk = record { same = M.disk_same; then_by = M.disk_then; later = M.disk_later; past = M.disk_past } in
    let s1 = writes laws c.write_at.new.self c.args.ruling (c.args.gate + 1) _ s.rules s.holds.closed (omega (arith, s.ends)) (begins laws s) c.write_at.ensures.by c.write_at.ensures.crash in
    s1.each

pub returns-in_err-sync-clause-any_moment : goal.returns-in_err-sync-clause-any_moment
returns-in_err-sync-clause-any_moment g c log bodies s =
    let M = g.met.D.Disk in
    let laws : DiskLaws g.D.Disk.disk_clock g.D.Disk.images g.D.Disk.by_disk = record { same = M.disk_same; then_by = M.disk_then; later = M.disk_later; past = M.disk_past } in
    let s1 = writes laws c.write_at.new.self c.args.ruling (c.args.gate + 1) _ s.rules s.holds.closed (omega (arith, s.ends)) (begins laws s) c.write_at.ensures.by c.write_at.ensures.crash in
    let s2 = stayed laws c.sync.new.self s1 c.sync.ensures.by c.sync.ensures.crash (λ i f. front_holds log bodies s.holds.gate i s.holds.closed f) in
    s2.each

pub returns-clause-any_moment : goal.returns-clause-any_moment
returns-clause-any_moment g c log bodies s =
    let M = g.met.D.Disk in
    let laws : DiskLaws g.D.Disk.disk_clock g.D.Disk.images g.D.Disk.by_disk = record { same = M.disk_same; then_by = M.disk_then; later = M.disk_later; past = M.disk_past } in
    let s1 = writes laws c.write_at.new.self c.args.ruling (c.args.gate + 1) _ s.rules s.holds.closed (omega (arith, s.ends)) (begins laws s) c.write_at.ensures.by c.write_at.ensures.crash in
    let s2 = stayed laws c.sync.new.self s1 c.sync.ensures.by c.sync.ensures.crash (λ i f. front_holds log bodies s.holds.gate i s.holds.closed f) in
    s2.each

pub returns-clause-staged : goal.returns-clause-staged
returns-clause-staged g c log bodies bytes is s =
    makes_staged s c.sync.new.self bytes c.args.closed.now is (c.sync.ensures.reads ∙ (c.in_ok-write_at.ensures.written ∙ told_forth _ _ s.parts s.told)) c.in_ok-sync.ensures.durable

pub returns-clause-beside : goal.returns-clause-beside
returns-clause-beside g c n long x told =
    let b = told_back _ _ x (sym c.in_ok-write_at.ensures.written ∙ (sym c.sync.ensures.reads ∙ told)) in
    let r = c.args.ruling in
    omega (arith, long b.0 b.1, ap (λ (p : Parts). length (part_of (other r) p)) b.2, ap length (written_there r (c.args.gate + 1) c.args.closed.now b.0))

pub returns-clause-gate : goal.returns-clause-gate
returns-clause-gate g c bytes is x told =
    let b = told_back _ _ x (sym c.in_ok-write_at.ensures.written ∙ (sym c.sync.ensures.reads ∙ told)) in
    let r = c.args.ruling in
    let place = c.args.gate + 1 in
    let closed = c.args.closed.now in
    let n = c.args.gate + length closed in
    let half = part_of r b.0 in
    let at : n ≡ place + length bytes = omega (arith, ap length is, length-append bytes (0 ∷ [])) in
    ap (λ (p : Parts). get_or (part_of r p) n 0) b.2 ∙ ap (λ (l : List ℕ). get_or l n 0) (written_here r place closed b.0)
    ∙ ap (λ (l : List ℕ). get_or (over place l half) n 0) is ∙ ap (λ (k : ℕ). get_or (over place (bytes ++ 0 ∷ []) half) k 0) at
    ∙ over_last place bytes half 0 (omega (arith, c.requires.place b.0 b.1))

pub returns-clause-first : goal.returns-clause-first
returns-clause-first g c was at x told =
    let b = told_back _ _ x (sym c.in_ok-write_at.ensures.written ∙ (sym c.sync.ensures.reads ∙ told)) in
    let r = c.args.ruling in
    let place = c.args.gate + 1 in
    ap (λ (p : Parts). get_or (part_of r p) c.args.gate 0) b.2 ∙ ap (λ (l : List ℕ). get_or l c.args.gate 0) (written_here r place c.args.closed.now b.0)
    ∙ over_before place c.args.closed.now (part_of r b.0) c.args.gate (omega (arith, c.requires.place b.0 b.1)) (omega arith)
    ∙ ap (λ (p : Parts). get_or (part_of r p) c.args.gate 0) (some_is (sym b.1 ∙ at))
