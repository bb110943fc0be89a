use Rattle.std.proofs.Common.{◌∙◌, ◌∷◌, drop}
use Rattle.fsrm_outside.proofs.Stages.{DiskLaws}
use Rattle.fsrm_outside.specs.declared.traits.Part.TheVariants.{Zero}
use Rattle.fsrm_journal.proofs.Stores.{fresh_store}
use Rattle.fsrm_journal.proofs.NewStore.{made, formats_never, formats_before, formats_then}
use Rattle.fsrm_journal.proofs.journal.Journal.format.Goals as goal

pub returns-in_err-has_store-clause-any_moment : goal.returns-in_err-has_store-clause-any_moment
returns-in_err-has_store-clause-any_moment g c parts told = formats_never c.args.head.now c.args.image.now c.has_store.ensures.crash

pub returns-then-branch-clause-any_moment : goal.returns-then-branch-clause-any_moment
returns-then-branch-clause-any_moment g c parts told = formats_never c.args.head.now c.args.image.now c.has_store.ensures.crash

pub returns-in_err-close_both-clause-any_moment : goal.returns-in_err-close_both-clause-any_moment
returns-in_err-close_both-clause-any_moment g c parts told =
    let M = g.met.D.Disk in
    let laws : DiskLaws g.D.Disk.disk_clock g.D.Disk.images g.D.Disk.by_disk = record { same = M.disk_same; then_by = M.disk_then; later = M.disk_later; past = M.disk_past } in
    formats_before laws c.args.head.now c.args.image.now c.has_store.ensures.by c.close_both.ensures.by c.has_store.ensures.crash c.close_both.ensures.crash c.close_both.ensures.soon

pub returns-in_err-write_half-clause-any_moment : goal.returns-in_err-write_half-clause-any_moment
returns-in_err-write_half-clause-any_moment g c parts told =
    let M = g.met.D.Disk in
    let laws : DiskLaws g.D.Disk.disk_clock g.D.Disk.images g.D.Disk.by_disk = record { same = M.disk_same; then_by = M.disk_then; later = M.disk_later; past = M.disk_past } in
    let b = c.in_ok-close_both.ensures.closed parts (c.has_store.ensures.reads ∙ told) in
    formats_then laws c.args.head.now c.args.image.now (drop 1 parts.one) c.requires.legal c.requires.length c.has_store.ensures.by c.close_both.ensures.by c.write_half.ensures.by
    c.has_store.ensures.crash c.close_both.ensures.crash c.close_both.ensures.soon (c.write_half.ensures.any_moment (0 ∷ drop 1 parts.one) b)

pub returns-clause-any_moment : goal.returns-clause-any_moment
returns-clause-any_moment g c parts told =
    let M = g.met.D.Disk in
    let laws : DiskLaws g.D.Disk.disk_clock g.D.Disk.images g.D.Disk.by_disk = record { same = M.disk_same; then_by = M.disk_then; later = M.disk_later; past = M.disk_past } in
    let b = c.in_ok-close_both.ensures.closed parts (c.has_store.ensures.reads ∙ told) in
    formats_then laws c.args.head.now c.args.image.now (drop 1 parts.one) c.requires.legal c.requires.length c.has_store.ensures.by c.close_both.ensures.by c.write_half.ensures.by
    c.has_store.ensures.crash c.close_both.ensures.crash c.close_both.ensures.soon (c.write_half.ensures.any_moment (0 ∷ drop 1 parts.one) b)

pub returns-clause-formatted : goal.returns-clause-formatted
returns-clause-formatted g c parts told =
    let head = c.args.head.now in
    let image = c.args.image.now in
    let b = c.in_ok-close_both.ensures.closed parts (c.has_store.ensures.reads ∙ told) in
    let n = c.in_ok-write_half.ensures.opened (0 ∷ drop 1 parts.one) b in
    (n.0, n.1, made head image n.2.rest parts n.0 c.requires.legal c.requires.length n.2.split n.2.same)

pub returns-clause-store : goal.returns-clause-store
returns-clause-store g c parts told =
    let made = returns-clause-formatted g c parts told in
    (made.0, made.1, fresh_store Zero c.args.head.now c.args.image.now made.0 made.2.fresh)
