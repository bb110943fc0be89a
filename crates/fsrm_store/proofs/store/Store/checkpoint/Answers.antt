use Rattle.std.proofs.Common.{refl, ◌∙◌, ap}
use Rattle.fsrm_model.specs.store.Lasting.{lasting}
use Rattle.fsrm_outside.specs.Parts.{other}
use Rattle.fsrm_outside.proofs.Stages.{DiskLaws, joined}
use Rattle.fsrm_store.proofs.Standings.{flush_leaves, flushed, later_leaves, stands_on}
use Rattle.fsrm_store.proofs.store.Store.checkpoint.Goals as goal

pub returns-in_err-flush-clause-leaves : goal.returns-in_err-flush-clause-leaves
returns-in_err-flush-clause-leaves g c kept s =
    flush_leaves c.flush.new.disk s (c.flush.ensures.leaves s.head s.bytes s.bodies s.held s.stands s.holding)

pub returns-in_err-change-clause-leaves : goal.returns-in_err-change-clause-leaves
returns-in_err-change-clause-leaves g c kept s =
    let M = g.met.D.Disk in
    let laws : DiskLaws g.D.Disk.disk_clock g.D.Disk.images g.D.Disk.by_disk = record { same = M.disk_same; then_by = M.disk_then; later = M.disk_later; past = M.disk_past } in
    let engine = c.args.self.now.engine in
    joined laws c.flush.ensures.by c.change.ensures.by
    (flush_leaves c.flush.new.disk s (c.flush.ensures.leaves s.head s.bytes s.bodies s.held s.stands s.holding))
    (later_leaves engine.size kept (lasting engine.rows)
    (c.change.ensures.leaves (lasting engine.rows) (flushed _ _ s (c.in_ok-flush.ensures.store s.head s.bytes s.bodies s.held s.stands s.holding) c.in_ok-flush.ensures.holding refl refl refl)))

pub returns-clause-leaves : goal.returns-clause-leaves
returns-clause-leaves g c kept s =
    let M = g.met.D.Disk in
    let laws : DiskLaws g.D.Disk.disk_clock g.D.Disk.images g.D.Disk.by_disk = record { same = M.disk_same; then_by = M.disk_then; later = M.disk_later; past = M.disk_past } in
    let engine = c.args.self.now.engine in
    joined laws c.flush.ensures.by c.change.ensures.by
    (flush_leaves c.flush.new.disk s (c.flush.ensures.leaves s.head s.bytes s.bodies s.held s.stands s.holding))
    (later_leaves engine.size kept (lasting engine.rows)
    (c.change.ensures.leaves (lasting engine.rows) (flushed _ _ s (c.in_ok-flush.ensures.store s.head s.bytes s.bodies s.held s.stands s.holding) c.in_ok-flush.ensures.holding refl refl refl)))

pub returns-clause-store : goal.returns-clause-store
returns-clause-store g c kept s =
    stands_on _ (c.in_ok-change.ensures.store (lasting c.args.self.now.engine.rows) (flushed _ _ s (c.in_ok-flush.ensures.store s.head s.bytes s.bodies s.held s.stands s.holding) c.in_ok-flush.ensures.holding refl refl refl)) refl refl refl refl

pub returns-clause-turned : goal.returns-clause-turned
returns-clause-turned g c = c.in_ok-change.ensures.turned ∙ ap other c.flush.ensures.stands.ruling
