-- What a status tells that ended the reading, and the counts of failed calls.
use Rattle.std.proofs.Common.{◌≡◌, ℕ, ◌≤◌, List, refl, ◌∙◌, subst}
use Rattle.std.specs.Prelude.{Option, Result, Err, ◌≢◌}
use Rattle.fsrm_outside.specs.Causes.{Rose}
use Rattle.fsrm_outside.specs.Members.{Members}
use Rattle.fsrm_outside.specs.Parts.{Parts}
use Rattle.fsrm_model.specs.declared.row.Capacity.{Capacity}
use Rattle.fsrm_session.specs.Counts.{Failing, StopCounts}
use Rattle.fsrm_session.specs.Underway.{CanFlush}
use Rattle.fsrm_session.specs.declared.session.Session.{Session}
use Rattle.fsrm_session.specs.declared.stop.Stop.{Stop}
use Rattle.fsrm_session.specs.declared.stop.Stop.TheVariants as stops
use Rattle.fsrm_modes.specs.Bytes.{Loses}
use Rattle.fsrm_modes.specs.Pieces.{StopsAt, StopsReading}
use Rattle.fsrm_modes.specs.Reading.{Place}
use Rattle.fsrm_modes.specs.Statuses.{EndCounts, IsReadEnd, KeepsReads, of_stop}
use Rattle.fsrm_modes.specs.declared.status.Status.{Status}
use Rattle.fsrm_modes.specs.declared.status.Status.TheVariants.{Done, Usage, ReadFault, WriteFault, DiskFault, TooLong, Damaged, NoMemory, NoStore, AlreadyStore}

-- ---- what a session that stopped tells
pub not_too_long : {T : Type 0} (r : Result T Status) (stop : Stop) → r ≡ Err (of_stop stop) → r ≡ Err TooLong → ⊥
not_too_long r stops.WriteFault is e = cc
not_too_long r stops.DiskFault is e = cc
not_too_long r stops.NoMemory is e = cc

pub is_read_end : (stop : Stop) → IsReadEnd (of_stop stop)
is_read_end stops.WriteFault = tt
is_read_end stops.DiskFault = tt
is_read_end stops.NoMemory = tt

ends_so : {O : Type 0} (M : Members O) (status : Status) (K : Capacity) (a : Place) (n : ℕ) (was now : Session) (old new : O) → StopsReading M K status a n was now old new → IsReadEnd status
ends_so M ReadFault K a n was now old new h = tt
ends_so M WriteFault K a n was now old new h = tt
ends_so M DiskFault K a n was now old new h = tt
ends_so M TooLong K a n was now old new h = tt
ends_so M NoMemory K a n was now old new h = tt
ends_so M Done K a n was now old new h = absurd h
ends_so M Usage K a n was now old new h = absurd h
ends_so M (Damaged part place) K a n was now old new h = absurd h
ends_so M NoStore K a n was now old new h = absurd h
ends_so M AlreadyStore K a n was now old new h = absurd h

pub reading_ends : {O : Type 0} {M : Members O} {K : Capacity} {status : Status} {a : Place} {was now : Session} {old new : O} → StopsAt M K status a was now old new → IsReadEnd status
reading_ends {M = M} {K = K} {status = status} {a = a} {was = was} {now = now} {old = old} {new = new} p = ends_so M status K a p.count was now old new p.stops

-- it stays ready if memory ran out
pub stays_ready : {D : Type 0} {reads : D → Option Parts} {session : Session} {disk : D} (stop : Stop) → (stop ≡ stops.NoMemory → CanFlush reads session disk) → (of_stop stop ≢ WriteFault) → (of_stop stop ≢ DiskFault) → CanFlush reads session disk
stays_ready stops.WriteFault ready write disk = absurd (write refl)
stays_ready stops.DiskFault ready write disk = absurd (disk refl)
stays_ready stops.NoMemory ready write disk = ready refl

-- ---- counts
pub counts_stop : (stop : Stop) (r q w x v d y e : ℕ) → q ≡ r → x ≡ w → y ≡ d → StopCounts stop x v y e → EndCounts (of_stop stop) r q w v d e
counts_stop stops.WriteFault r q w x v d y e reads writes disk c = (reads, subst (λ (n : ℕ). Failing n v) writes c.0, c.1 ∙ disk)
counts_stop stops.DiskFault r q w x v d y e reads writes disk c = (reads, c.0 ∙ writes, subst (λ (n : ℕ). Failing n e) disk c.1)
counts_stop stops.NoMemory r q w x v d y e reads writes disk c = (reads, c.0 ∙ writes, c.1 ∙ disk)

pub counts_read : (status : Status) (l0 l1 : Option (List ℕ)) (r q w v d e : ℕ) → Loses status l0 l1 → r ≤ q → (status ≡ ReadFault → Rose r q) → KeepsReads status r q → v ≡ w → e ≡ d → EndCounts status r q w v d e
counts_read ReadFault l0 l1 r q w v d e lost later cause kept writes disk = (record { later = later; rose = cause refl }, writes, disk)
counts_read TooLong l0 l1 r q w v d e lost later cause kept writes disk = (kept, writes, disk)
counts_read Done l0 l1 r q w v d e lost later cause kept writes disk = absurd lost
counts_read Usage l0 l1 r q w v d e lost later cause kept writes disk = absurd lost
counts_read WriteFault l0 l1 r q w v d e lost later cause kept writes disk = absurd lost
counts_read DiskFault l0 l1 r q w v d e lost later cause kept writes disk = absurd lost
counts_read (Damaged part place) l0 l1 r q w v d e lost later cause kept writes disk = absurd lost
counts_read NoMemory l0 l1 r q w v d e lost later cause kept writes disk = absurd lost
counts_read NoStore l0 l1 r q w v d e lost later cause kept writes disk = absurd lost
counts_read AlreadyStore l0 l1 r q w v d e lost later cause kept writes disk = absurd lost

-- none had failed before
pub counts_after : (status : Status) (r s q w x v d y e : ℕ) → s ≡ r → x ≡ w → y ≡ d → EndCounts status s q x v y e → EndCounts status r q w v d e
counts_after status r s q w x v d y e reads writes disk c =
    subst (λ (n : ℕ). EndCounts status n q w v d e) reads (subst (λ (n : ℕ). EndCounts status s q n v d e) writes (subst (λ (n : ℕ). EndCounts status s q x v n e) disk c))
