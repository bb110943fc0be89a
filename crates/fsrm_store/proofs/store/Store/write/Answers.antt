use Rattle.std.proofs.Common.{◌≡◌, ◌<◌, ℕ, inl, inr, subst, refl, ◌∙◌, ap, arith}
use Rattle.std.specs.Prelude.{max, Err}
use Rattle.std.proofs.lemmas.Result.{err_from_is_err_and}
use Rattle.fsrm_model.specs.store.Lasting.{lasting}
use Rattle.fsrm_outside.specs.Parts.{other}
use Rattle.fsrm_outside.proofs.Stages.{DiskLaws, joined}
use Rattle.fsrm_store.specs.Amortized.{bytes_since}
use Rattle.fsrm_store.proofs.Amortizing.{left_none, longer, paid_once, passed, since_flushed, since_none, since_tail, unpaid}
use Rattle.fsrm_store.proofs.QuietCalls.{journal_disk}
use Rattle.fsrm_store.proofs.Standings.{flush_leaves, flushed, later_leaves}
use Rattle.fsrm_store.proofs.store.Store.write.Goals as goal

pub returns-in_err-flush-clause-leaves : goal.returns-in_err-flush-clause-leaves
returns-in_err-flush-clause-leaves g c kept s =
    flush_leaves c.flush.new.disk s (c.flush.ensures.leaves s.head s.bytes s.bodies s.held s.stands s.holding)

pub returns-in_err-change-clause-leaves : goal.returns-in_err-change-clause-leaves
returns-in_err-change-clause-leaves g c kept s =
    let M = g.met.D.Disk in
    let laws : DiskLaws g.D.Disk.disk_clock g.D.Disk.images g.D.Disk.by_disk = record { same = M.disk_same; then_by = M.disk_then; later = M.disk_later; past = M.disk_past } in
    let engine = c.args.self.now.engine in
    joined laws c.flush.ensures.by c.change.ensures.by
    (flush_leaves c.flush.new.disk s (c.flush.ensures.leaves s.head s.bytes s.bodies s.held s.stands s.holding))
    (later_leaves engine.size kept (lasting engine.rows)
    (c.change.ensures.leaves (lasting engine.rows) (flushed _ _ s (c.in_ok-flush.ensures.store s.head s.bytes s.bodies s.held s.stands s.holding) c.in_ok-flush.ensures.holding refl refl refl)))

pub returns-in_ok-change-clause-leaves : goal.returns-in_ok-change-clause-leaves
returns-in_ok-change-clause-leaves g c kept s =
    let M = g.met.D.Disk in
    let laws : DiskLaws g.D.Disk.disk_clock g.D.Disk.images g.D.Disk.by_disk = record { same = M.disk_same; then_by = M.disk_then; later = M.disk_later; past = M.disk_past } in
    let engine = c.args.self.now.engine in
    joined laws c.flush.ensures.by c.change.ensures.by
    (flush_leaves c.flush.new.disk s (c.flush.ensures.leaves s.head s.bytes s.bodies s.held s.stands s.holding))
    (later_leaves engine.size kept (lasting engine.rows)
    (c.change.ensures.leaves (lasting engine.rows) (flushed _ _ s (c.in_ok-flush.ensures.store s.head s.bytes s.bodies s.held s.stands s.holding) c.in_ok-flush.ensures.holding refl refl refl)))

pub returns-in_ok-change-clause-store : goal.returns-in_ok-change-clause-store
returns-in_ok-change-clause-store g c kept s =
    c.in_ok-change.ensures.store (lasting c.args.self.now.engine.rows) (flushed _ _ s (c.in_ok-flush.ensures.store s.head s.bytes s.bodies s.held s.stands s.holding) c.in_ok-flush.ensures.holding refl refl refl)

pub returns-else-tail-max-clause-leaves : goal.returns-else-tail-max-clause-leaves
returns-else-tail-max-clause-leaves g c kept s =
    flush_leaves c.flush.new.disk s (c.flush.ensures.leaves s.head s.bytes s.bodies s.held s.stands s.holding)

pub returns-else-tail-max-clause-store : goal.returns-else-tail-max-clause-store
returns-else-tail-max-clause-store g c kept s =
    flushed _ _ s (c.in_ok-flush.ensures.store s.head s.bytes s.bodies s.held s.stands s.holding) c.in_ok-flush.ensures.holding refl refl refl

-- ---- looks
pub returns-in_err-flush-clause-amortized : goal.returns-in_err-flush-clause-amortized
returns-in_err-flush-clause-amortized g c kept s =
    let p = err_from_is_err_and c.from_residual.result c.from_residual.ensures.1 in
    let told = p.1 ∙ ap Err (journal_disk c.in_err-flush.field-0.0 p.0 p.2 c.in_err-flush.ensures.only) in
    unpaid _ _ _ _ _ (omega arith) (left_none _ _ _ told)

pub returns-in_err-change-clause-amortized : goal.returns-in_err-change-clause-amortized
returns-in_err-change-clause-amortized g c kept s =
    let p = err_from_is_err_and c.from_residual-in_err-change.result c.from_residual-in_err-change.ensures.1 in
    let mid : bytes_since c.flush.new.self ≡ bytes_since c.args.self.now.journal = since_flushed _ _ s (c.in_ok-flush.ensures.store s.head s.bytes s.bodies s.held s.stands s.holding) c.in_ok-flush.ensures.none in
    let tail = since_tail c.flush.new.self c.in_ok-flush.ensures.none in
    let long = passed c.tail.result c.args.self.now.image c.max.result c.max.ensures c.if-tail-max.true in
    let none = left_none c.from_residual-in_err-change.result c.change.new.self 0 (p.1 ∙ ap Err p.2 ∙ c.in_err-change.ensures.only) in
    paid_once _ _ _ _ _ (omega (arith, c.change.ensures.looks)) (omega (arith, mid, tail, long, none, c.tail.ensures.between))

pub returns-in_ok-change-clause-amortized : goal.returns-in_ok-change-clause-amortized
returns-in_ok-change-clause-amortized g c kept s =
    let mid : bytes_since c.flush.new.self ≡ bytes_since c.args.self.now.journal = since_flushed _ _ s (c.in_ok-flush.ensures.store s.head s.bytes s.bodies s.held s.stands s.holding) c.in_ok-flush.ensures.none in
    let tail = since_tail c.flush.new.self c.in_ok-flush.ensures.none in
    let long = passed c.tail.result c.args.self.now.image c.max.result c.max.ensures c.if-tail-max.true in
    let left = since_none c.change.new.self.journal c.change.ensures.none c.in_ok-change.ensures.empty in
    paid_once _ _ _ _ _ (omega (arith, c.change.ensures.looks)) (omega (arith, mid, tail, long, left, c.tail.ensures.between))

pub returns-else-tail-max-clause-amortized : goal.returns-else-tail-max-clause-amortized
returns-else-tail-max-clause-amortized g c kept s =
    let same : bytes_since c.flush.new.self ≡ bytes_since c.args.self.now.journal = since_flushed _ _ s (c.in_ok-flush.ensures.store s.head s.bytes s.bodies s.held s.stands s.holding) c.in_ok-flush.ensures.none in
    unpaid _ _ _ _ _ (omega arith) (omega (arith, same))

-- ---- when an image is written
pub returns-in_ok-change-clause-half : goal.returns-in_ok-change-clause-half
returns-in_ok-change-clause-half g c kept s =
    let image = c.args.self.now.image in
    let mid : bytes_since c.flush.new.self ≡ bytes_since c.args.self.now.journal = since_flushed _ _ s (c.in_ok-flush.ensures.store s.head s.bytes s.bodies s.held s.stands s.holding) c.in_ok-flush.ensures.none in
    let tail = since_tail c.flush.new.self c.in_ok-flush.ensures.none in
    let same : c.tail.result ≡ bytes_since c.args.self.now.journal = omega (arith, mid, tail, c.tail.ensures.between) in
    inr (record {
      long = subst (λ (n : ℕ). max 1048576 image < n) same (longer c.tail.result image c.max.result c.max.ensures c.if-tail-max.true);
      ruling = c.in_ok-change.ensures.turned ∙ ap other c.flush.ensures.stands.ruling;
    })

pub returns-else-tail-max-clause-half : goal.returns-else-tail-max-clause-half
returns-else-tail-max-clause-half g c kept s = inl (record { ruling = c.flush.ensures.stands.ruling; image_end = c.flush.ensures.image; image = refl })
