use Rattle.std.proofs.Common.{◌≡◌, length, ◌∙◌, arith}
use Rattle.std.specs.List.{flat_map}
use Rattle.fsrm_outside.proofs.Stages.{DiskLaws, joined, weaker}
use Rattle.image_codec.specs.Pieces.{piece_spelled, pieces}
use Rattle.fsrm_store.proofs.ImageLaws.{either_holds, new_keeps, old_holds}
use Rattle.fsrm_store.proofs.half.change_half.Goals as goal

pub returns-in_err-begin_half-clause-leaves : goal.returns-in_err-begin_half-clause-leaves
returns-in_err-begin_half-clause-leaves g c kept was image bodies s k size =
    let e = c.args.engine.now in
    weaker _ (λ i h. old_holds c.args.journal.now.ruling kept was image bodies e.rows e.size i k size h) (c.begin_half.ensures.leaves was image bodies s)

pub returns-in_err-put_image-clause-leaves : goal.returns-in_err-put_image-clause-leaves
returns-in_err-put_image-clause-leaves g c kept was image bodies s k size =
    let M = g.met.D.Disk in
    let laws : DiskLaws g.D.Disk.disk_clock g.D.Disk.images g.D.Disk.by_disk = record { same = M.disk_same; then_by = M.disk_then; later = M.disk_later; past = M.disk_past } in
    let e = c.args.engine.now in
    let head = c.next_head-head.result in
    let begun = c.in_ok-begin_half.ensures.store was image bodies s in
    joined laws c.begin_half.ensures.by c.put_image.ensures.by
    (weaker _ (λ i h. old_holds c.args.journal.now.ruling kept was image bodies e.rows e.size i k size h) (c.begin_half.ensures.leaves was image bodies s))
    (weaker _ (λ i h. old_holds c.begin_half.new.self.ruling kept was image bodies e.rows e.size i k size h) (c.put_image.ensures.leaves was head image bodies begun))

pub returns-in_err-switch-clause-leaves : goal.returns-in_err-switch-clause-leaves
returns-in_err-switch-clause-leaves g c kept was image bodies s k size =
    let M = g.met.D.Disk in
    let laws : DiskLaws g.D.Disk.disk_clock g.D.Disk.images g.D.Disk.by_disk = record { same = M.disk_same; then_by = M.disk_then; later = M.disk_later; past = M.disk_past } in
    let e = c.args.engine.now in
    let head = c.next_head-head.result in
    let new = flat_map piece_spelled (pieces e.rows) in
    let next_size : head.size ≡ e.size = c.next_head-head.ensures.size ∙ c.size_of-size.ensures.size in
    let whole : head.image ≡ length new = c.next_head-head.ensures.image ∙ c.image_len-image.ensures.exact in
    let begun = c.in_ok-begin_half.ensures.store was image bodies s in
    let put = c.in_ok-put_image.ensures.store was head image bodies begun in
    let keeps = new_keeps head e.rows e.size next_size c.size_of-size.ensures.valid c.in_ok-put_image.ensures.legal in
    joined laws (M.disk_then _ _ _ c.begin_half.ensures.by c.put_image.ensures.by) c.switch.ensures.by
    (joined laws c.begin_half.ensures.by c.put_image.ensures.by
    (weaker _ (λ i h. old_holds c.args.journal.now.ruling kept was image bodies e.rows e.size i k size h) (c.begin_half.ensures.leaves was image bodies s))
    (weaker _ (λ i h. old_holds c.begin_half.new.self.ruling kept was image bodies e.rows e.size i k size h) (c.put_image.ensures.leaves was head image bodies begun)))
    (weaker _ (λ i h. either_holds c.put_image.new.journal.ruling kept was head image new bodies e.rows e.size i k size keeps next_size h) (c.switch.ensures.leaves was head image new bodies whole put))

pub returns-clause-leaves : goal.returns-clause-leaves
returns-clause-leaves g c kept was image bodies s k size =
    let M = g.met.D.Disk in
    let laws : DiskLaws g.D.Disk.disk_clock g.D.Disk.images g.D.Disk.by_disk = record { same = M.disk_same; then_by = M.disk_then; later = M.disk_later; past = M.disk_past } in
    let e = c.args.engine.now in
    let head = c.next_head-head.result in
    let new = flat_map piece_spelled (pieces e.rows) in
    let next_size : head.size ≡ e.size = c.next_head-head.ensures.size ∙ c.size_of-size.ensures.size in
    let whole : head.image ≡ length new = c.next_head-head.ensures.image ∙ c.image_len-image.ensures.exact in
    let begun = c.in_ok-begin_half.ensures.store was image bodies s in
    let put = c.in_ok-put_image.ensures.store was head image bodies begun in
    let keeps = new_keeps head e.rows e.size next_size c.size_of-size.ensures.valid c.in_ok-put_image.ensures.legal in
    joined laws (M.disk_then _ _ _ c.begin_half.ensures.by c.put_image.ensures.by) c.switch.ensures.by
    (joined laws c.begin_half.ensures.by c.put_image.ensures.by
    (weaker _ (λ i h. old_holds c.args.journal.now.ruling kept was image bodies e.rows e.size i k size h) (c.begin_half.ensures.leaves was image bodies s))
    (weaker _ (λ i h. old_holds c.begin_half.new.self.ruling kept was image bodies e.rows e.size i k size h) (c.put_image.ensures.leaves was head image bodies begun)))
    (weaker _ (λ i h. either_holds c.put_image.new.journal.ruling kept was head image new bodies e.rows e.size i k size keeps next_size h) (c.switch.ensures.leaves was head image new bodies whole put))

pub returns-clause-store : goal.returns-clause-store
returns-clause-store g c kept was image bodies s k size =
    let e = c.args.engine.now in
    let head = c.next_head-head.result in
    let new = flat_map piece_spelled (pieces e.rows) in
    let next_size : head.size ≡ e.size = c.next_head-head.ensures.size ∙ c.size_of-size.ensures.size in
    let whole : head.image ≡ length new = c.next_head-head.ensures.image ∙ c.image_len-image.ensures.exact in
    let begun = c.in_ok-begin_half.ensures.store was image bodies s in
    let put = c.in_ok-put_image.ensures.store was head image bodies begun in
    record {
      head = head;
      bytes = new;
      stands = c.in_ok-switch.ensures.store was head image new bodies whole put;
      keeps = new_keeps head e.rows e.size next_size c.size_of-size.ensures.valid c.in_ok-put_image.ensures.legal;
      size = next_size;
      version = c.next_head-head.ensures.version;
      whole = c.image_len-image.ensures.exact;
    }

pub returns-clause-ready : goal.returns-clause-ready
returns-clause-ready g c parts told = (
  c.in_ok-switch.ensures.ready parts told,
  omega (arith, c.in_ok-switch.ensures.beside 1 (c.in_ok-put_image.ensures.here 1 (c.in_ok-begin_half.ensures.here 1 (λ p t. omega (arith, (c.requires.ready p t).0)))) parts told),
)
