use Rattle.std.proofs.Common.{◌≡◌, ◌+◌, ℕ, List, [], ◌++◌, length, take, drop, refl, ap, subst}
use Rattle.fsrm_outside.proofs.Stages.{DiskLaws, joined}
use Rattle.fsrm_journal.specs.Halves.{head_tail, Beside}
use Rattle.fsrm_journal.proofs.HeadBytes.{place_after}
use Rattle.fsrm_journal.proofs.formatting.write_content.Goals as goal

pub returns-in_err-write_beside-clause-any_moment : goal.returns-in_err-write_beside-clause-any_moment
returns-in_err-write_beside-clause-any_moment g c half b = c.write_beside.ensures.any_moment half [] refl b

pub returns-in_err-write_beside-2-clause-any_moment : goal.returns-in_err-write_beside-2-clause-any_moment
returns-in_err-write_beside-2-clause-any_moment g c half b =
    let M = g.met.D.Disk in
    let laws : DiskLaws g.D.Disk.disk_clock g.D.Disk.images g.D.Disk.by_disk = record { same = M.disk_same; then_by = M.disk_then; later = M.disk_later; past = M.disk_past } in
    let D = g.D.Disk in
    let r = c.args.ruling in
    let head = c.args.head.now in
    let bytes : take 47 (drop 1 c.spelled_head-bytes.result) ≡ head_tail head = ap (λ (l : List ℕ). take 47 (drop 1 l)) c.spelled_head-bytes.ensures in
    let b1 = subst (λ (l : List ℕ). Beside D.reads D.disk_clock D.images r half l c.write_beside.new.disk) bytes (c.in_ok-write_beside.ensures.written half [] refl b) in
    joined laws c.write_beside.ensures.by c.write_beside-2.ensures.by (c.write_beside.ensures.any_moment half [] refl b) (c.write_beside-2.ensures.any_moment half (head_tail head) refl b1)

pub returns-clause-any_moment : goal.returns-clause-any_moment
returns-clause-any_moment g c half b =
    let M = g.met.D.Disk in
    let laws : DiskLaws g.D.Disk.disk_clock g.D.Disk.images g.D.Disk.by_disk = record { same = M.disk_same; then_by = M.disk_then; later = M.disk_later; past = M.disk_past } in
    let D = g.D.Disk in
    let r = c.args.ruling in
    let head = c.args.head.now in
    let image = c.args.image.now in
    let bytes : take 47 (drop 1 c.spelled_head-bytes.result) ≡ head_tail head = ap (λ (l : List ℕ). take 47 (drop 1 l)) c.spelled_head-bytes.ensures in
    let b1 = subst (λ (l : List ℕ). Beside D.reads D.disk_clock D.images r half l c.write_beside.new.disk) bytes (c.in_ok-write_beside.ensures.written half [] refl b) in
    let b2 = c.in_ok-write_beside-2.ensures.written half (head_tail head) refl b1 in
    let place = place_after head image (48 + length image) refl in
    let two = joined laws c.write_beside.ensures.by c.write_beside-2.ensures.by (c.write_beside.ensures.any_moment half [] refl b) (c.write_beside-2.ensures.any_moment half (head_tail head) refl b1) in
    joined laws (M.disk_then _ _ _ c.write_beside.ensures.by c.write_beside-2.ensures.by) c.write_beside-3.ensures.by two (c.write_beside-3.ensures.any_moment half (head_tail head ++ image) place b2)

pub returns-clause-written : goal.returns-clause-written
returns-clause-written g c half b =
    let D = g.D.Disk in
    let r = c.args.ruling in
    let head = c.args.head.now in
    let image = c.args.image.now in
    let bytes : take 47 (drop 1 c.spelled_head-bytes.result) ≡ head_tail head = ap (λ (l : List ℕ). take 47 (drop 1 l)) c.spelled_head-bytes.ensures in
    let b1 = subst (λ (l : List ℕ). Beside D.reads D.disk_clock D.images r half l c.write_beside.new.disk) bytes (c.in_ok-write_beside.ensures.written half [] refl b) in
    let b2 = c.in_ok-write_beside-2.ensures.written half (head_tail head) refl b1 in
    let place = place_after head image (48 + length image) refl in
    c.write_beside-3.ensures.written half (head_tail head ++ image) place b2
