use Rattle.std.proofs.Common.{[], ◌∷◌, length, ap, sym, ◌∙◌, arith}
use Rattle.fsrm_outside.specs.Changes.{Written}
use Rattle.fsrm_outside.specs.Parts.{Parts, part_of, other}
use Rattle.fsrm_outside.specs.declared.traits.Part.{Part}
use Rattle.fsrm_outside.proofs.Stages.{DiskLaws}
use Rattle.fsrm_journal.proofs.Besides.{stays_shut, quiet_after, synced_beside, opens_whole, opened_now}
use Rattle.fsrm_journal.proofs.Files.{told_back, told_forth, written_here, written_beside, length-over-old}
use Rattle.fsrm_journal.specs.Halves.{AllButGate}
use Rattle.fsrm_journal.proofs.Untils.{until_never, until_at}
use Rattle.fsrm_journal.proofs.halves.open_beside.Goals as goal

pub returns-clause-opened : goal.returns-clause-opened
returns-clause-opened g c half image head b =
    opened_now c.args.ruling c.other.result image head c.other.ensures b c.sync-2.new.self
    (c.sync-2.ensures.reads ∙ (c.in_ok-write_at.ensures.written ∙ told_forth _ _ b.parts (c.sync.ensures.reads ∙ b.told))) c.in_ok-sync-2.ensures.durable

pub returns-clause-longer : goal.returns-clause-longer
returns-clause-longer g c n long x told =
    let b = told_back _ _ x (sym c.in_ok-write_at.ensures.written ∙ (sym c.sync-2.ensures.reads ∙ told)) in
    let o = c.other.result in
    omega (arith, long b.0 (sym c.sync.ensures.reads ∙ b.1), length-over-old 0 (1 ∷ []) (part_of o b.0) (omega arith), ap (λ (p : Parts). length (part_of (other c.args.ruling) p)) b.2, ap (λ (r : Part). length (part_of r (Written o 0 (1 ∷ []) b.0))) c.other.ensures, ap (λ (r : Part). length (part_of r b.0)) c.other.ensures, ap length (written_here o 0 (1 ∷ []) b.0))

pub returns-clause-here : goal.returns-clause-here
returns-clause-here g c n long x told =
    let b = told_back _ _ x (sym c.in_ok-write_at.ensures.written ∙ (sym c.sync-2.ensures.reads ∙ told)) in
    let r = c.args.ruling in
    omega (arith, long b.0 (sym c.sync.ensures.reads ∙ b.1), ap (λ (p : Parts). length (part_of r p)) b.2, ap length (written_beside r c.other.result 0 (1 ∷ []) b.0 c.other.ensures))

pub returns-in_err-sync-clause-any_moment : goal.returns-in_err-sync-clause-any_moment
returns-in_err-sync-clause-any_moment g c half image head b =
    (b.rest, until_never (AllButGate c.args.ruling half head image b.rest) c.sync.new.self (stays_shut c.args.ruling b c.sync.new.self c.sync.ensures.crash))

pub returns-in_err-write_at-clause-any_moment : goal.returns-in_err-write_at-clause-any_moment
returns-in_err-write_at-clause-any_moment g c half image head b =
    let M = g.met.D.Disk in
    let laws : DiskLaws g.D.Disk.disk_clock g.D.Disk.images g.D.Disk.by_disk = record { same = M.disk_same; then_by = M.disk_then; later = M.disk_later; past = M.disk_past } in
    let e1 = stays_shut c.args.ruling b c.sync.new.self c.sync.ensures.crash in
    let certain = synced_beside b c.sync.new.self c.sync.ensures.reads c.in_ok-sync.ensures.durable in
    let e2 = opens_whole c.args.ruling c.other.result image head c.other.ensures b c.sync.new.self c.write_at.new.self certain c.write_at.ensures.crash in
    (b.rest, until_at laws _ _ _ c.sync.ensures.by c.write_at.ensures.by e1 e2)

pub returns-in_err-sync-2-clause-any_moment : goal.returns-in_err-sync-2-clause-any_moment
returns-in_err-sync-2-clause-any_moment g c half image head b =
    let M = g.met.D.Disk in
    let laws : DiskLaws g.D.Disk.disk_clock g.D.Disk.images g.D.Disk.by_disk = record { same = M.disk_same; then_by = M.disk_then; later = M.disk_later; past = M.disk_past } in
    let e1 = stays_shut c.args.ruling b c.sync.new.self c.sync.ensures.crash in
    let certain = synced_beside b c.sync.new.self c.sync.ensures.reads c.in_ok-sync.ensures.durable in
    let e2 = opens_whole c.args.ruling c.other.result image head c.other.ensures b c.sync.new.self c.write_at.new.self certain c.write_at.ensures.crash in
    let e3 = quiet_after laws c.write_at.ensures.by c.sync-2.ensures.by c.sync-2.ensures.crash e2 in
    (b.rest, until_at laws _ _ _ c.sync.ensures.by (M.disk_then _ _ _ c.write_at.ensures.by c.sync-2.ensures.by) e1 e3)

pub returns-clause-any_moment : goal.returns-clause-any_moment
returns-clause-any_moment g c half image head b =
    let M = g.met.D.Disk in
    let laws : DiskLaws g.D.Disk.disk_clock g.D.Disk.images g.D.Disk.by_disk = record { same = M.disk_same; then_by = M.disk_then; later = M.disk_later; past = M.disk_past } in
    let e1 = stays_shut c.args.ruling b c.sync.new.self c.sync.ensures.crash in
    let certain = synced_beside b c.sync.new.self c.sync.ensures.reads c.in_ok-sync.ensures.durable in
    let e2 = opens_whole c.args.ruling c.other.result image head c.other.ensures b c.sync.new.self c.write_at.new.self certain c.write_at.ensures.crash in
    let e3 = quiet_after laws c.write_at.ensures.by c.sync-2.ensures.by c.sync-2.ensures.crash e2 in
    (b.rest, until_at laws _ _ _ c.sync.ensures.by (M.disk_then _ _ _ c.write_at.ensures.by c.sync-2.ensures.by) e1 e3)
