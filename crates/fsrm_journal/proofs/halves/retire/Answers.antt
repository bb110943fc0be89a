use Rattle.std.proofs.Common.{◌≡◌, ⊎_elim, ◌-◌, ◌^◌, [], ◌∷◌, length, ap, sym, ◌∙◌, arith}
use Rattle.fsrm_outside.specs.Parts.{Parts, part_of, other}
use Rattle.fsrm_outside.proofs.Stages.{DiskLaws, started, stayed}
use Rattle.fsrm_journal.specs.Halves.{StaysOrFresh}
use Rattle.fsrm_journal.specs.Heads.{head_of, generation_at}
use Rattle.fsrm_journal.proofs.Besides.{always, rules_by_generation, retires, retired_now}
use Rattle.fsrm_journal.proofs.Files.{told_back, told_forth, written_here, written_there, length-over-old}
use Rattle.fsrm_journal.proofs.Turns.{both_open}
use Rattle.fsrm_journal.proofs.halves.retire.Goals as goal

pub returns-then-generation-lt18446744073709551615-clause-any_moment : goal.returns-then-generation-lt18446744073709551615-clause-any_moment
returns-then-generation-lt18446744073709551615-clause-any_moment g c half image head parts f whole at certain o =
    started (always (StaysOrFresh c.args.ruling half head image) certain (both_open c.args.ruling half head image parts f whole o))

pub returns-then-generation-lt18446744073709551615-clause-rules : goal.returns-then-generation-lt18446744073709551615-clause-rules
returns-then-generation-lt18446744073709551615-clause-rules g c half image head parts f whole at certain o =
    (parts, certain, rules_by_generation c.args.ruling image head f (omega (arith, at, c.if-generation-lt18446744073709551615.true)) o)

pub returns-in_err-write_at-clause-any_moment : goal.returns-in_err-write_at-clause-any_moment
returns-in_err-write_at-clause-any_moment g c half image head parts f whole at certain o =
    let M = g.met.D.Disk in
    let laws : DiskLaws g.D.Disk.disk_clock g.D.Disk.images g.D.Disk.by_disk = record { same = M.disk_same; then_by = M.disk_then; later = M.disk_later; past = M.disk_past } in
    let s1 = retires laws c.args.ruling image head f whole certain o c.write_at.new.self c.write_at.ensures.by c.write_at.ensures.crash in
    s1.each

pub returns-in_err-sync-clause-any_moment : goal.returns-in_err-sync-clause-any_moment
returns-in_err-sync-clause-any_moment g c half image head parts f whole at certain o =
    let M = g.met.D.Disk in
    let laws : DiskLaws g.D.Disk.disk_clock g.D.Disk.images g.D.Disk.by_disk = record { same = M.disk_same; then_by = M.disk_then; later = M.disk_later; past = M.disk_past } in
    let s1 = retires laws c.args.ruling image head f whole certain o c.write_at.new.self c.write_at.ensures.by c.write_at.ensures.crash in
    let s2 = stayed laws c.sync.new.self s1 c.sync.ensures.by c.sync.ensures.crash (λ i p. p) in
    s2.each

pub returns-clause-any_moment : goal.returns-clause-any_moment
returns-clause-any_moment g c half image head parts f whole at certain o =
    let M = g.met.D.Disk in
    let laws : DiskLaws g.D.Disk.disk_clock g.D.Disk.images g.D.Disk.by_disk = record { same = M.disk_same; then_by = M.disk_then; later = M.disk_later; past = M.disk_past } in
    let s1 = retires laws c.args.ruling image head f whole certain o c.write_at.new.self c.write_at.ensures.by c.write_at.ensures.crash in
    let s2 = stayed laws c.sync.new.self s1 c.sync.ensures.by c.sync.ensures.crash (λ i p. p) in
    s2.each

pub returns-clause-rules : goal.returns-clause-rules
returns-clause-rules g c half image head parts f whole at certain o =
    let greatest : generation_at (head_of half) ≡ 2 ^ 64 - 1 = ⊎_elim (λ less. absurd (omega (arith, less.0, at, c.if-generation-lt18446744073709551615.false))) (λ last. last.0) f.next in
    retired_now c.args.ruling image head f greatest o c.sync.new.self (c.sync.ensures.reads ∙ (c.in_ok-write_at.ensures.written ∙ told_forth _ _ parts certain.told)) c.in_ok-sync.ensures.durable

pub returns-clause-longer : goal.returns-clause-longer
returns-clause-longer g c n long x told =
    let b = told_back _ _ x (sym c.in_ok-write_at.ensures.written ∙ (sym c.sync.ensures.reads ∙ told)) in
    omega (arith, long b.0 b.1, ap (λ (p : Parts). length (part_of (other c.args.ruling) p)) b.2, ap length (written_there c.args.ruling 0 (0 ∷ []) b.0))

pub returns-clause-here : goal.returns-clause-here
returns-clause-here g c n long x told =
    let b = told_back _ _ x (sym c.in_ok-write_at.ensures.written ∙ (sym c.sync.ensures.reads ∙ told)) in
    let r = c.args.ruling in
    omega (arith, long b.0 b.1, length-over-old 0 (0 ∷ []) (part_of r b.0) (omega arith), ap (λ (p : Parts). length (part_of r p)) b.2, ap length (written_here r 0 (0 ∷ []) b.0))
