-- A text is said that tells of no command.
use Rattle.std.proofs.Common.{ℕ, List, [], ◌∷◌, refl}
use Rattle.std.specs.Prelude.{Result, Ok, Err, OnOk}
use Rattle.fsrm_outside.specs.Members.{Members}
use Rattle.fsrm_outside.proofs.OutsideLaws.{Laws}
use Rattle.fsrm_store.specs.Standing.{StandsAlike}
use Rattle.fsrm_store.specs.declared.store.Store.{Store}
use Rattle.fsrm_session.specs.Turns.{said_turn}
use Rattle.fsrm_session.specs.Underway.{Goes, Stops, StopsTelling, Tells}
use Rattle.fsrm_session.specs.declared.session.Session.{Session}
use Rattle.fsrm_session.specs.declared.stop.Stop.{Stop}
use Rattle.fsrm_session.proofs.Going.{enters_stops, enters_tells, idle_enters}

-- a store stands for what it stands for
pub alike_own : (store : Store) → StandsAlike store store
alike_own store = record {
  at = λ head image bodies parts h. h;
  holding = λ held h. h;
  end = refl;
  image_end = refl;
  ruling = refl;
  size = refl;
  rows = refl;
  image = refl;
  is_old = refl;
}

pub said_goes : {O : Type 0} {M : Members O} (text : List ℕ) (was next : Session) (old new : O) → Laws M → Tells M text was next old new → Goes M (said_turn text ∷ []) was next old new
said_goes text was next old new laws t = enters_tells (said_turn text) text was was next old old new laws refl (idle_enters (said_turn text) was old laws (λ R. refl)) t

pub said_stops : {O : Type 0} {M : Members O} (stop : Stop) (text : List ℕ) (was next : Session) (old new : O) → Laws M → StopsTelling M stop text was next old new → Stops M stop (said_turn text ∷ []) was next old new
said_stops stop text was next old new laws t = enters_stops stop (said_turn text) text was was next old old new laws refl (idle_enters (said_turn text) was old laws (λ R. refl)) t

pub on_ok : {T E : Type 0} (r : Result T E) (P : Type 0) → P → OnOk r P
on_ok (Ok x) P p = p
on_ok (Err e) P p = tt
