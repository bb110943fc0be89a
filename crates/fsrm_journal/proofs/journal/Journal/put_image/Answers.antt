use Rattle.std.proofs.Common.{◌++◌, length-append, arith, refl}
use Rattle.fsrm_outside.specs.Parts.{part_of}
use Rattle.fsrm_outside.proofs.Stages.{weaker}
use Rattle.fsrm_journal.specs.Halves.{head_tail, Stays}
use Rattle.fsrm_journal.proofs.HeadBytes.{place_after}
use Rattle.fsrm_journal.specs.Stores.{HoldsStore}
use Rattle.fsrm_journal.proofs.Stores.{goes_on, stays_store}
use Rattle.fsrm_journal.proofs.Turns.{shut_stays}
use Rattle.fsrm_journal.proofs.journal.Journal.put_image.Goals as goal

pub returns-in_err-write_beside-clause-any_moment : goal.returns-in_err-write_beside-clause-any_moment
returns-in_err-write_beside-clause-any_moment g c half front head f =
    let r = c.args.self.now.ruling in
    weaker (Stays r half) (λ i s. shut_stays r half i f.follows.opened f.follows.sound s) (c.write_beside.ensures.any_moment half (head_tail head ++ front) (place_after head front c.args.self.now.written f.at) f.beside)

pub returns-clause-any_moment : goal.returns-clause-any_moment
returns-clause-any_moment g c half front head f =
    let r = c.args.self.now.ruling in
    weaker (Stays r half) (λ i s. shut_stays r half i f.follows.opened f.follows.sound s) (c.write_beside.ensures.any_moment half (head_tail head ++ front) (place_after head front c.args.self.now.written f.at) f.beside)

pub returns-clause-put : goal.returns-clause-put
returns-clause-put g c half front head f = record {
  follows = f.follows;
  generation = f.generation;
  shut = f.shut;
  beside = c.in_ok-write_beside.ensures.written half (head_tail head ++ front) (place_after head front c.args.self.now.written f.at) f.beside;
  at = omega (arith, f.at, length-append front c.args.piece.now);
}

pub returns-clause-here : goal.returns-clause-here
returns-clause-here g c n long = c.in_ok-write_beside.ensures.here n long

pub returns-in_err-write_beside-clause-leaves : goal.returns-in_err-write_beside-clause-leaves
returns-in_err-write_beside-clause-leaves g c was head image front bodies s =
    let r = c.args.self.now.ruling in
    weaker (HoldsStore r was image bodies) (λ i stays. stays_store r was image bodies s.was i s.store stays) (returns-in_err-write_beside-clause-any_moment g c (part_of r s.was) front head s.filling)

pub returns-clause-leaves : goal.returns-clause-leaves
returns-clause-leaves g c was head image front bodies s =
    let r = c.args.self.now.ruling in
    weaker (HoldsStore r was image bodies) (λ i stays. stays_store r was image bodies s.was i s.store stays) (returns-clause-any_moment g c (part_of r s.was) front head s.filling)

pub returns-clause-store : goal.returns-clause-store
returns-clause-store g c was head image front bodies s = goes_on (front ++ c.args.piece.now) _ _ s refl refl refl (returns-clause-put g c (part_of c.args.self.now.ruling s.was) front head s.filling)
