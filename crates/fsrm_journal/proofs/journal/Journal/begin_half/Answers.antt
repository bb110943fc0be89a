use Rattle.std.proofs.Common.{◌≡◌, List, ℕ, [], ◌++◌, length, take, drop, ap, subst, refl, arith}
use Rattle.fsrm_outside.specs.Parts.{part_of}
use Rattle.fsrm_outside.proofs.Stages.{DiskLaws, joined, weaker}
use Rattle.fsrm_journal.specs.Halves.{IsNext, head_tail, Beside, Stays}
use Rattle.fsrm_journal.specs.Stores.{HoldsStore}
use Rattle.fsrm_journal.proofs.Stores.{begun, stays_store}
use Rattle.fsrm_journal.proofs.Turns.{rules_wins, shut_stays}
use Rattle.fsrm_journal.proofs.journal.Journal.begin_half.Goals as goal

pub write_beside-requires : goal.write_beside-requires
write_beside-requires g c = c.in_ok-close_beside.ensures.longer 1 c.requires.place

pub returns-in_err-close_beside-clause-any_moment : goal.returns-in_err-close_beside-clause-any_moment
returns-in_err-close_beside-clause-any_moment g c parts certain k = c.close_beside.ensures.any_moment parts certain k.rules k.beside

pub returns-in_err-write_beside-clause-any_moment : goal.returns-in_err-write_beside-clause-any_moment
returns-in_err-write_beside-clause-any_moment g c parts certain k =
    let M = g.met.D.Disk in
    let laws : DiskLaws g.D.Disk.disk_clock g.D.Disk.images g.D.Disk.by_disk = record { same = M.disk_same; then_by = M.disk_then; later = M.disk_later; past = M.disk_past } in
    let r = c.args.self.now.ruling in
    let half = part_of r parts in
    let w = rules_wins r parts k.rules in
    let b = c.in_ok-close_beside.ensures.closed parts certain k.rules k.beside in
    joined laws c.close_beside.ensures.by c.write_beside.ensures.by (c.close_beside.ensures.any_moment parts certain k.rules k.beside)
    (weaker (Stays r half) (λ i s. shut_stays r half i w.opened w.sound s) (c.write_beside.ensures.any_moment half [] refl b))

pub returns-clause-any_moment : goal.returns-clause-any_moment
returns-clause-any_moment g c parts certain k =
    let M = g.met.D.Disk in
    let laws : DiskLaws g.D.Disk.disk_clock g.D.Disk.images g.D.Disk.by_disk = record { same = M.disk_same; then_by = M.disk_then; later = M.disk_later; past = M.disk_past } in
    let r = c.args.self.now.ruling in
    let half = part_of r parts in
    let w = rules_wins r parts k.rules in
    let b = c.in_ok-close_beside.ensures.closed parts certain k.rules k.beside in
    joined laws c.close_beside.ensures.by c.write_beside.ensures.by (c.close_beside.ensures.any_moment parts certain k.rules k.beside)
    (weaker (Stays r half) (λ i s. shut_stays r half i w.opened w.sound s) (c.write_beside.ensures.any_moment half [] refl b))

pub returns-clause-begun : goal.returns-clause-begun
returns-clause-begun g c parts certain k =
    let M = g.D.Disk in
    let r = c.args.self.now.ruling in
    let half = part_of r parts in
    let w = rules_wins r parts k.rules in
    let b = c.in_ok-close_beside.ensures.closed parts certain k.rules k.beside in
    let bytes : take 47 (drop 1 c.spelled_head-bytes.result) ≡ head_tail c.args.head.now ++ [] = ap (λ (l : List ℕ). take 47 (drop 1 l)) c.spelled_head-bytes.ensures in
    record {
      follows = record { opened = w.opened; sound = w.sound; legal = c.requires.legal; next = subst (λ (n : ℕ). IsNext n c.args.head.now.generation) k.generation c.requires.next };
      generation = k.generation;
      shut = refl;
      beside = subst (λ (l : List ℕ). Beside M.reads M.disk_clock M.images r half l c.write_beside.new.disk) bytes (c.in_ok-write_beside.ensures.written half [] refl b);
      at = refl;
    }

pub returns-clause-ready : goal.returns-clause-ready
returns-clause-ready g c x told =
    let bytes : length (take 47 (drop 1 c.spelled_head-bytes.result)) ≡ 47 = ap (λ (l : List ℕ). length (take 47 (drop 1 l))) c.spelled_head-bytes.ensures in
    omega (arith, c.in_ok-write_beside.ensures.longer x told, bytes)

pub returns-clause-here : goal.returns-clause-here
returns-clause-here g c n long = c.in_ok-write_beside.ensures.here n (c.in_ok-close_beside.ensures.here n long)

pub returns-clause-gate : goal.returns-clause-gate
returns-clause-gate g c opened = c.in_ok-write_beside.ensures.gate 0 (omega arith) (c.in_ok-close_beside.ensures.gate opened)

pub returns-in_err-close_beside-clause-leaves : goal.returns-in_err-close_beside-clause-leaves
returns-in_err-close_beside-clause-leaves g c was image bodies s =
    weaker (HoldsStore c.args.self.now.ruling was image bodies) (λ i stays. stays_store c.args.self.now.ruling was image bodies s.parts i s.at.store stays) (returns-in_err-close_beside-clause-any_moment g c s.parts s.certain s.at.knows)

pub returns-in_err-write_beside-clause-leaves : goal.returns-in_err-write_beside-clause-leaves
returns-in_err-write_beside-clause-leaves g c was image bodies s =
    weaker (HoldsStore c.args.self.now.ruling was image bodies) (λ i stays. stays_store c.args.self.now.ruling was image bodies s.parts i s.at.store stays) (returns-in_err-write_beside-clause-any_moment g c s.parts s.certain s.at.knows)

pub returns-clause-leaves : goal.returns-clause-leaves
returns-clause-leaves g c was image bodies s =
    weaker (HoldsStore c.args.self.now.ruling was image bodies) (λ i stays. stays_store c.args.self.now.ruling was image bodies s.parts i s.at.store stays) (returns-clause-any_moment g c s.parts s.certain s.at.knows)

pub returns-clause-store : goal.returns-clause-store
returns-clause-store g c was image bodies s = begun c.args.head.now _ _ s refl refl refl (returns-clause-begun g c s.parts s.certain s.at.knows)
