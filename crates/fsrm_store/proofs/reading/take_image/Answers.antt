use Rattle.std.proofs.Common.{◌≡◌, [], ◌++◌, take, refl, sym, ◌∙◌, ap, subst, append_assoc, length-append, length-take, arith}
use Rattle.std.specs.Prelude.{Err}
use Rattle.std.proofs.lemmas.Result.{err_from_is_err_and}
use Rattle.fsrm_outside.proofs.Stages.{DiskLaws}
use Rattle.fsrm_outside.specs.declared.traits.Part.{Part}
use Rattle.image_codec.specs.Images.{image_in}
use Rattle.fsrm_store.specs.Faults.{of_bytes}
use Rattle.fsrm_store.specs.Recovery.{IsRefused}
use Rattle.fsrm_store.proofs.ImageTaken.{image_short, refused_image, taken_more, taken_whole}
use Rattle.fsrm_store.proofs.QuietCalls.{journal_disk, not_already, not_disk, on_none, on_then, reads_none, reads_then, refused_disk, told_disk, told_none}
use Rattle.fsrm_store.proofs.reading.take_image.Goals as goal

pub pieces-init : goal.pieces-init
pieces-init g c =
    let M = g.met.D.Disk in
    let laws : DiskLaws g.D.Disk.disk_clock g.D.Disk.images g.D.Disk.by_disk = record { same = M.disk_same; then_by = M.disk_then; later = M.disk_later; past = M.disk_past } in
    record {
      room = c.requires.room;
      taken = record { bytes = []; short = omega arith; so_far = c.new-image.ensures; read = λ parts told r. r };
      same = on_none c.args.journal.now;
      quiet = reads_none g.D.Disk.reads laws c.args.disk.now;
      kept = refl;
    }

pub pieces-preserved : goal.pieces-preserved
pieces-preserved g c =
    let M = g.met.D.Disk in
    let laws : DiskLaws g.D.Disk.disk_clock g.D.Disk.images g.D.Disk.by_disk = record { same = M.disk_same; then_by = M.disk_then; later = M.disk_later; past = M.disk_past } in
    let i = c.pieces.invariant in
    let e = c.in_ok-count.ensures in
    let piece = take c.in_ok-count.count c.read_image.new.into in
    record {
      room = omega (arith, i.room, c.read_image.auto.into);
      taken =
          taken_more c.args.head.now (g.D.Disk.reads c.args.disk.now) c.args.journal.now c.pieces.journal c.read_image.new.self c.pieces.image c.feed.new.self piece i.taken
          (omega (arith, length-take c.in_ok-count.count c.read_image.new.into, e.end))
          (λ parts front told r. e.reading parts c.args.head.now front (i.quiet.same ∙ told) r)
          (λ more. c.in-Ok.ensures.goes_on more);
      same = on_then _ _ _ i.same e.same;
      quiet = reads_then g.D.Disk.reads laws _ _ _ i.quiet (record { same = e.reads; crash = e.crash; ran = e.by });
      kept = e.cause.kept ∙ i.kept;
    }

pub pieces-smaller : goal.pieces-smaller
pieces-smaller g c = omega (arith, c.in_ok-count.ensures.end, c.read_image.new.self.in_part, c.if-count-eq0.false)

-- a piece that isn't part of an image
pub damaged-requires : goal.damaged-requires
damaged-requires g c = λ place is.
    let t = c.pieces.invariant.taken in
    let piece = take c.in_ok-count.count c.read_image.new.into in
    let wrong = t.so_far (piece ++ []) in
    let there : image_in c.args.head.now.image (t.bytes ++ (piece ++ [])) ≡ Err place = sym wrong ∙ c.in-Err.ensures.damaged place (ap Err is) [] in
    omega (arith, image_short c.args.head.now.image (t.bytes ++ (piece ++ [])) place there, length-append t.bytes (piece ++ []), length-append piece [], length-take c.in_ok-count.count c.read_image.new.into, t.short, c.in_ok-count.ensures.end, c.read_image.new.self.in_part)

pub returns-in-Err-clause-refused : goal.returns-in-Err-clause-refused
returns-in-Err-clause-refused g c = λ parts told r.
    let i = c.pieces.invariant in
    let t = i.taken in
    let e = c.in_ok-count.ensures in
    let head = c.args.head.now in
    let piece = take c.in_ok-count.count c.read_image.new.into in
    let fault = c.in-Err.fault in
    let ruling : c.ruling-part.result ≡ c.read_image.new.self.ruling = c.ruling-part.ensures ∙ sym (e.same.ruling ∙ i.same.ruling) in
    let read = e.reading parts head t.bytes (i.quiet.same ∙ told) (t.read parts told r) in
    subst (IsRefused parts) (sym (c.damaged.ensures ∙ ap (λ (p : Part). of_bytes p 48 fault) ruling))
    (refused_image head parts c.read_image.new.self (t.bytes ++ piece) fault read
    (λ wrong is more. ap (image_in head.image) (append_assoc t.bytes piece more) ∙ (sym (t.so_far (piece ++ more)) ∙ c.in-Err.ensures.damaged wrong (ap Err is) more)))

pub returns-in-Err-clause-only : goal.returns-in-Err-clause-only
returns-in-Err-clause-only g c = λ err. not_already c.ruling-part.result 48 c.in-Err.fault c.damaged.result c.damaged.ensures err

pub returns-in-Err-clause-same : goal.returns-in-Err-clause-same
returns-in-Err-clause-same g c = on_then _ _ _ c.pieces.invariant.same c.in_ok-count.ensures.same

pub returns-in-Err-clause-quiet : goal.returns-in-Err-clause-quiet
returns-in-Err-clause-quiet g c =
    let M = g.met.D.Disk in
    let laws : DiskLaws g.D.Disk.disk_clock g.D.Disk.images g.D.Disk.by_disk = record { same = M.disk_same; then_by = M.disk_then; later = M.disk_later; past = M.disk_past } in
    let e = c.read_image.ensures in
    reads_then g.D.Disk.reads laws _ _ _ c.pieces.invariant.quiet (record { same = e.reads; crash = e.crash; ran = e.by })

pub returns-in-Err-clause-cause : goal.returns-in-Err-clause-cause
returns-in-Err-clause-cause g c =
    told_none _ _ _ (λ err. not_disk c.ruling-part.result 48 c.in-Err.fault c.damaged.result c.damaged.ensures err) (c.in_ok-count.ensures.cause.kept ∙ c.pieces.invariant.kept)

-- all of it
pub returns-then-count-eq0-clause-taken : goal.returns-then-count-eq0-clause-taken
returns-then-count-eq0-clause-taken g c =
    let i = c.pieces.invariant in
    let e = c.in_ok-count.ensures in
    let head = c.args.head.now in
    taken_whole head (g.D.Disk.reads c.args.disk.now) c.args.journal.now c.pieces.journal c.read_image.new.self c.pieces.image c.in_ok-count.count c.read_image.new.into i.taken c.if-count-eq0.true (omega (arith, e.end)) i.same.ruling
    (λ parts front told r. e.reading parts head front (i.quiet.same ∙ told) r)
    (λ parts front told r. e.whole parts head front (i.quiet.same ∙ told) r i.room c.if-count-eq0.true)

pub returns-then-count-eq0-clause-same : goal.returns-then-count-eq0-clause-same
returns-then-count-eq0-clause-same g c = on_then _ _ _ c.pieces.invariant.same c.in_ok-count.ensures.same

pub returns-then-count-eq0-clause-quiet : goal.returns-then-count-eq0-clause-quiet
returns-then-count-eq0-clause-quiet g c =
    let M = g.met.D.Disk in
    let laws : DiskLaws g.D.Disk.disk_clock g.D.Disk.images g.D.Disk.by_disk = record { same = M.disk_same; then_by = M.disk_then; later = M.disk_later; past = M.disk_past } in
    let e = c.read_image.ensures in
    reads_then g.D.Disk.reads laws _ _ _ c.pieces.invariant.quiet (record { same = e.reads; crash = e.crash; ran = e.by })

pub returns-then-count-eq0-clause-cause : goal.returns-then-count-eq0-clause-cause
returns-then-count-eq0-clause-cause g c = told_none _ _ _ (λ err. absurd (cc err)) (c.in_ok-count.ensures.cause.kept ∙ c.pieces.invariant.kept)

-- the disk fails
pub returns-in_err-count-clause-refused : goal.returns-in_err-count-clause-refused
returns-in_err-count-clause-refused g c = λ parts told r.
    let p = err_from_is_err_and c.from_residual.result c.from_residual.ensures.1 in
    rw p.1 (refused_disk parts p.0 (journal_disk c.in_err-count.field-0.0 p.0 p.2 c.in_err-count.ensures.only))

pub returns-in_err-count-clause-only : goal.returns-in_err-count-clause-only
returns-in_err-count-clause-only g c =
    let p = err_from_is_err_and c.from_residual.result c.from_residual.ensures.1 in
    let disk = journal_disk c.in_err-count.field-0.0 p.0 p.2 c.in_err-count.ensures.only in
    rw p.1 (λ err. absurd (cc (err, disk)))

pub returns-in_err-count-clause-same : goal.returns-in_err-count-clause-same
returns-in_err-count-clause-same g c = on_then _ _ _ c.pieces.invariant.same c.read_image.ensures.same

pub returns-in_err-count-clause-quiet : goal.returns-in_err-count-clause-quiet
returns-in_err-count-clause-quiet g c =
    let M = g.met.D.Disk in
    let laws : DiskLaws g.D.Disk.disk_clock g.D.Disk.images g.D.Disk.by_disk = record { same = M.disk_same; then_by = M.disk_then; later = M.disk_later; past = M.disk_past } in
    let e = c.read_image.ensures in
    reads_then g.D.Disk.reads laws _ _ _ c.pieces.invariant.quiet (record { same = e.reads; crash = e.crash; ran = e.by })

pub returns-in_err-count-clause-cause : goal.returns-in_err-count-clause-cause
returns-in_err-count-clause-cause g c =
    let p = err_from_is_err_and c.from_residual.result c.from_residual.ensures.1 in
    let cause = c.in_err-count.ensures.cause in
    rw p.1 (told_disk _ _ _ p.0 (journal_disk c.in_err-count.field-0.0 p.0 p.2 c.in_err-count.ensures.only) c.pieces.invariant.kept cause.later cause.failed)
