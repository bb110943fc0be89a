use Rattle.std.proofs.Common.{◌≡◌, ◌+◌, ◌++◌, ◌∙◌, ap, length, length-take, take, drop, refl, arith}
use Rattle.std.proofs.lemmas.List.{take-append-le}
use Rattle.fsrm_outside.proofs.Settling.{still_stable}
use Rattle.fsrm_outside.proofs.Stages.{DiskLaws}
use Rattle.fsrm_journal.proofs.Ahead.{none_there}
use Rattle.fsrm_journal.proofs.Readings.{none_left, read_piece}
use Rattle.fsrm_journal.proofs.journal.Journal.read_image.Goals as goal

pub returns-in_err-count-clause-stable : goal.returns-in_err-count-clause-stable
returns-in_err-count-clause-stable g c stable =
    let M = g.met.D.Disk in
    let laws : DiskLaws g.D.Disk.disk_clock g.D.Disk.images g.D.Disk.by_disk = record { same = M.disk_same; then_by = M.disk_then; later = M.disk_later; past = M.disk_past } in
    still_stable g.D.Disk.reads laws _ _ c.read_at.ensures.by c.read_at.ensures.crash c.read_at.ensures.reads stable

pub returns-clause-stable : goal.returns-clause-stable
returns-clause-stable g c stable =
    let M = g.met.D.Disk in
    let laws : DiskLaws g.D.Disk.disk_clock g.D.Disk.images g.D.Disk.by_disk = record { same = M.disk_same; then_by = M.disk_then; later = M.disk_later; past = M.disk_past } in
    still_stable g.D.Disk.reads laws _ _ c.read_at.ensures.by c.read_at.ensures.crash c.read_at.ensures.reads stable

pub returns-in_err-count-clause-sees : goal.returns-in_err-count-clause-sees
returns-in_err-count-clause-sees g c half s = record { long = s.long; window = none_there half c.args.self.now.end _ c.clear.ensures }

pub returns-clause-sees : goal.returns-clause-sees
returns-clause-sees g c half s = record { long = s.long; window = none_there half (c.args.self.now.end + c.in_ok-count.count) _ c.clear.ensures }

pub returns-clause-reading : goal.returns-clause-reading
returns-clause-reading g c parts head image told r =
    let old = c.args.self.now in
    let into = c.read_at.new.into in
    let n = c.in_ok-count.count in
    let sub = take c.min-room.result c.args.into.now in
    let same : take n (into ++ drop c.min-room.result c.args.into.now) ≡ take n into = take-append-le n into (drop c.min-room.result c.args.into.now) c.in_ok-count.ensures.count in
    let is = same ∙ c.in_ok-count.ensures.bytes parts told in
    let end : old.end + n ≡ old.end + length (take n (into ++ drop c.min-room.result c.args.into.now)) = omega (arith, ap length same, length-take n into, c.in_ok-count.ensures.count) in
    read_piece head image _ parts old _ (length sub) r (record { ruling = refl; generation = refl; beside = refl; image_end = refl; len = refl; written = refl; bytes = refl; held = refl; group = refl }) (returns-clause-sees g c _ r.sees) end is
    (omega (arith, length-take c.min-room.result c.args.into.now, c.min-room.ensures, c.saturating_sub-left.ensures, c.min.ensures))

pub returns-clause-whole : goal.returns-clause-whole
returns-clause-whole g c parts head image told r room none =
    let old = c.args.self.now in
    let into = c.read_at.new.into in
    let n = c.in_ok-count.count in
    let sub = take c.min-room.result c.args.into.now in
    none_left head image (take n into) parts old (length sub) (length c.args.into.now) r old.in_part room (c.in_ok-count.ensures.bytes parts told)
    (omega (arith, length-take c.min-room.result c.args.into.now, c.min-room.ensures, c.saturating_sub-left.ensures, c.min.ensures)) (omega (arith, none, length-take n into))
