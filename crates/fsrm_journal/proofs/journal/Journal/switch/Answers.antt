use Rattle.std.proofs.Common.{◌+◌, inl, length, ◌++◌, ap, refl, arith}
use Rattle.fsrm_outside.specs.Parts.{part_of, other}
use Rattle.fsrm_outside.specs.declared.traits.Part.{Part}
use Rattle.fsrm_outside.proofs.Stages.{DiskLaws, joined, weaker}
use Rattle.fsrm_journal.specs.Halves.{head_tail, StaysOrFresh}
use Rattle.fsrm_journal.proofs.HeadBytes.{place_after}
use Rattle.fsrm_journal.proofs.Switched.{switched_now}
use Rattle.fsrm_journal.specs.Stores.{HoldsOldOrNew}
use Rattle.fsrm_journal.proofs.Stores.{old_or_new, stands_switched}
use Rattle.fsrm_journal.proofs.Turns.{either_rules, back, shut_or_open, shut_stays}
use Rattle.fsrm_journal.proofs.Untils.{until_each}
use Rattle.fsrm_journal.proofs.journal.Journal.switch.Goals as goal

pub returns-in_err-write_beside-clause-any_moment : goal.returns-in_err-write_beside-clause-any_moment
returns-in_err-write_beside-clause-any_moment g c half image head whole f =
    let r = c.args.self.now.ruling in
    weaker (StaysOrFresh r half head image) (λ i s. inl (shut_stays r half i f.follows.opened f.follows.sound s)) (c.write_beside.ensures.any_moment half (head_tail head ++ image) (place_after head image c.args.self.now.written f.at) f.beside)

pub returns-in_err-open_beside-clause-any_moment : goal.returns-in_err-open_beside-clause-any_moment
returns-in_err-open_beside-clause-any_moment g c half image head whole f =
    let M = g.met.D.Disk in
    let laws : DiskLaws g.D.Disk.disk_clock g.D.Disk.images g.D.Disk.by_disk = record { same = M.disk_same; then_by = M.disk_then; later = M.disk_later; past = M.disk_past } in
    let r = c.args.self.now.ruling in
    let place = place_after head image c.args.self.now.written f.at in
    let first = weaker (StaysOrFresh r half head image) (λ i s. inl (shut_stays r half i f.follows.opened f.follows.sound s)) (c.write_beside.ensures.any_moment half (head_tail head ++ image) place f.beside) in
    let b = c.in_ok-write_beside.ensures.written half (head_tail head ++ image) place f.beside in
    let w = c.open_beside.ensures.any_moment half image head b in
    joined laws c.write_beside.ensures.by c.open_beside.ensures.by first (until_each (StaysOrFresh r half head image) (λ i s. inl (shut_stays r half i f.follows.opened f.follows.sound s)) (λ i s. either_rules r half head image i f.follows whole (shut_or_open r half head image w.0 i s)) w.1)

pub returns-in_err-still_open-clause-any_moment : goal.returns-in_err-still_open-clause-any_moment
returns-in_err-still_open-clause-any_moment g c half image head whole f =
    let M = g.met.D.Disk in
    let laws : DiskLaws g.D.Disk.disk_clock g.D.Disk.images g.D.Disk.by_disk = record { same = M.disk_same; then_by = M.disk_then; later = M.disk_later; past = M.disk_past } in
    let r = c.args.self.now.ruling in
    let place = place_after head image c.args.self.now.written f.at in
    let first = weaker (StaysOrFresh r half head image) (λ i s. inl (shut_stays r half i f.follows.opened f.follows.sound s)) (c.write_beside.ensures.any_moment half (head_tail head ++ image) place f.beside) in
    let b = c.in_ok-write_beside.ensures.written half (head_tail head ++ image) place f.beside in
    let w = c.open_beside.ensures.any_moment half image head b in
    let two = joined laws c.write_beside.ensures.by c.open_beside.ensures.by first (until_each (StaysOrFresh r half head image) (λ i s. inl (shut_stays r half i f.follows.opened f.follows.sound s)) (λ i s. either_rules r half head image i f.follows whole (shut_or_open r half head image w.0 i s)) w.1) in
    let o = c.in_ok-open_beside.ensures.opened half image head b in
    joined laws (M.disk_then _ _ _ c.write_beside.ensures.by c.open_beside.ensures.by) c.retire.ensures.by two (c.retire.ensures.any_moment half image head o.0 f.follows whole f.generation o.1 o.2)

pub returns-clause-any_moment : goal.returns-clause-any_moment
returns-clause-any_moment g c half image head whole f =
    let M = g.met.D.Disk in
    let laws : DiskLaws g.D.Disk.disk_clock g.D.Disk.images g.D.Disk.by_disk = record { same = M.disk_same; then_by = M.disk_then; later = M.disk_later; past = M.disk_past } in
    let r = c.args.self.now.ruling in
    let place = place_after head image c.args.self.now.written f.at in
    let first = weaker (StaysOrFresh r half head image) (λ i s. inl (shut_stays r half i f.follows.opened f.follows.sound s)) (c.write_beside.ensures.any_moment half (head_tail head ++ image) place f.beside) in
    let b = c.in_ok-write_beside.ensures.written half (head_tail head ++ image) place f.beside in
    let w = c.open_beside.ensures.any_moment half image head b in
    let two = joined laws c.write_beside.ensures.by c.open_beside.ensures.by first (until_each (StaysOrFresh r half head image) (λ i s. inl (shut_stays r half i f.follows.opened f.follows.sound s)) (λ i s. either_rules r half head image i f.follows whole (shut_or_open r half head image w.0 i s)) w.1) in
    let o = c.in_ok-open_beside.ensures.opened half image head b in
    joined laws (M.disk_then _ _ _ c.write_beside.ensures.by c.open_beside.ensures.by) c.retire.ensures.by two (c.retire.ensures.any_moment half image head o.0 f.follows whole f.generation o.1 o.2)

pub returns-clause-switched : goal.returns-clause-switched
returns-clause-switched g c half image head whole f =
    let D = g.D.Disk in
    let place = place_after head image c.args.self.now.written f.at in
    let b = c.in_ok-write_beside.ensures.written half (head_tail head ++ image) place f.beside in
    let o = c.in_ok-open_beside.ensures.opened half image head b in
    let n = c.in_ok-still_open.ensures.rules half image head o.0 f.follows whole f.generation o.1 o.2 in
    switched_now D.reads D.disk_clock D.images c.retire.new.disk c.args.self.now.generation f.follows whole f.generation n.1 n.2 _ c.other-self.ensures c.next_generation-self.ensures refl f.at

pub returns-clause-ready : goal.returns-clause-ready
returns-clause-ready g c x told =
    let n = c.args.self.now.written + 1 in
    let long = c.in_ok-still_open.ensures.longer n (c.in_ok-open_beside.ensures.longer n c.in_ok-write_beside.ensures.longer) x told in
    omega (arith, long, ap (λ (r : Part). length (part_of r x)) c.other-self.ensures)

pub returns-clause-beside : goal.returns-clause-beside
returns-clause-beside g c n long x told =
    let kept = c.in_ok-still_open.ensures.here n (c.in_ok-open_beside.ensures.here n (c.in_ok-write_beside.ensures.here n long)) x told in
    omega (arith, kept, ap length (back c.args.self.now.ruling x), ap (λ (r : Part). length (part_of (other r) x)) c.other-self.ensures)

pub returns-in_err-write_beside-clause-leaves : goal.returns-in_err-write_beside-clause-leaves
returns-in_err-write_beside-clause-leaves g c was head image new bodies whole s =
    let r = c.args.self.now.ruling in
    weaker (HoldsOldOrNew r was image bodies head new) (λ i left. old_or_new r was head image new bodies s.was s.store i left) (returns-in_err-write_beside-clause-any_moment g c (part_of r s.was) new head whole s.filling)

pub returns-in_err-open_beside-clause-leaves : goal.returns-in_err-open_beside-clause-leaves
returns-in_err-open_beside-clause-leaves g c was head image new bodies whole s =
    let r = c.args.self.now.ruling in
    weaker (HoldsOldOrNew r was image bodies head new) (λ i left. old_or_new r was head image new bodies s.was s.store i left) (returns-in_err-open_beside-clause-any_moment g c (part_of r s.was) new head whole s.filling)

pub returns-in_err-still_open-clause-leaves : goal.returns-in_err-still_open-clause-leaves
returns-in_err-still_open-clause-leaves g c was head image new bodies whole s =
    let r = c.args.self.now.ruling in
    weaker (HoldsOldOrNew r was image bodies head new) (λ i left. old_or_new r was head image new bodies s.was s.store i left) (returns-in_err-still_open-clause-any_moment g c (part_of r s.was) new head whole s.filling)

pub returns-clause-leaves : goal.returns-clause-leaves
returns-clause-leaves g c was head image new bodies whole s =
    let r = c.args.self.now.ruling in
    weaker (HoldsOldOrNew r was image bodies head new) (λ i left. old_or_new r was head image new bodies s.was s.store i left) (returns-clause-any_moment g c (part_of r s.was) new head whole s.filling)

pub returns-clause-store : goal.returns-clause-store
returns-clause-store g c was head image new bodies whole s = stands_switched head new _ _ (returns-clause-switched g c (part_of c.args.self.now.ruling s.was) new head whole s.filling) refl
