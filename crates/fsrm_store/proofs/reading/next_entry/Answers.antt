use Rattle.std.proofs.Common.{◌≡◌, ℕ, take, sym, ◌∙◌, ap, subst, length-take, arith}
use Rattle.std.specs.Prelude.{Ok, Option}
use Rattle.std.proofs.lemmas.Result.{err_from_is_err_and}
use Rattle.fsrm_outside.specs.Parts.{part_of}
use Rattle.fsrm_outside.specs.declared.traits.Part.{Part}
use Rattle.fsrm_journal.specs.Next.{record_at}
use Rattle.fsrm_store.specs.Faults.{of_bytes}
use Rattle.fsrm_store.specs.Recovery.{IsRefused}
use Rattle.fsrm_store.proofs.EntriesRead.{decoded_short, entry_read, entry_valid, refused_body, refused_record}
use Rattle.fsrm_store.proofs.QuietCalls.{not_already, not_disk, record_already, kept_ok, told_journal, told_none}
use Rattle.fsrm_store.proofs.reading.next_entry.Goals as goal

pub damaged-requires : goal.damaged-requires
damaged-requires g c = λ wrong is.
    let size = rw c.in-Some.is at c.in_ok-found.ensures.size in
    let place = rw c.in-Some.is at c.in_ok-found.ensures.place in
    let body = take c.in-Some.size c.next.new.into in
    omega (arith, decoded_short body c.in-Err.fault wrong c.in-Err.ensures.exact is, length-take c.in-Some.size c.next.new.into, size.1, place, c.args.journal.now.in_part)

-- an entry
pub returns-in-Ok-clause-next : goal.returns-in-Ok-clause-next
returns-in-Ok-clause-next g c = λ parts head base entries told h.
    let reading = c.in_ok-found.ensures.reading parts head h.image h.bodies told h.read in
    let read = rw c.in-Some.is at reading in
    entry_read head base entries parts c.args.journal.now c.next.new.self (take c.in-Some.size c.next.new.into) c.in-Ok.entry h read c.in-Ok.ensures.exact

pub returns-in-Ok-clause-valid : goal.returns-in-Ok-clause-valid
returns-in-Ok-clause-valid g c =
    let size = rw c.in-Some.is at c.in_ok-found.ensures.size in
    entry_valid (take c.in-Some.size c.next.new.into) c.in-Ok.entry c.in-Ok.ensures.found (omega (arith, length-take c.in-Some.size c.next.new.into, size.1))

pub returns-in-Ok-clause-all : goal.returns-in-Ok-clause-all
returns-in-Ok-clause-all g c = λ parts head base entries told h stable none. absurd (cc none)

pub returns-in-Ok-clause-further : goal.returns-in-Ok-clause-further
returns-in-Ok-clause-further g c =
    let size = rw c.in-Some.is at c.in_ok-found.ensures.size in
    let place = rw c.in-Some.is at c.in_ok-found.ensures.place in
    let end = rw c.in-Some.is at c.in_ok-found.ensures.end in
    omega (arith, size.0, place, end)

pub returns-in-Ok-clause-quiet : goal.returns-in-Ok-clause-quiet
returns-in-Ok-clause-quiet g c = record { same = c.next.ensures.reads; crash = c.next.ensures.crash; ran = c.next.ensures.by }

pub returns-in-Ok-clause-cause : goal.returns-in-Ok-clause-cause
returns-in-Ok-clause-cause g c = told_none _ _ _ (λ err. absurd (cc err)) (kept_ok c.in_ok-found.found c.in_ok-found.ensures.counted)

-- a body that spells none
pub returns-in-Err-clause-refused : goal.returns-in-Err-clause-refused
returns-in-Err-clause-refused g c = λ parts head base entries told h.
    let j = c.args.journal.now in
    let place = c.in-Some.place in
    let size = c.in-Some.size in
    let fault = c.in-Err.fault in
    let there : record_at (part_of j.ruling parts) j.end ≡ Ok c.in_ok-found.found = c.in_ok-found.ensures.tells parts told h.read.sees in
    let bodies = c.in_ok-found.ensures.body parts told h.read.sees in
    let body = rw c.in-Some.is at bodies in
    subst (IsRefused parts) (sym (c.damaged.ensures ∙ ap (λ (p : Part). of_bytes p place fault) c.ruling-part.ensures))
    (refused_body head base entries parts j place size (take size c.next.new.into) fault h (there ∙ ap (λ (o : Option (ℕ × ℕ)). Ok o) c.in-Some.is) body c.in-Err.ensures.exact)

pub returns-in-Err-clause-only : goal.returns-in-Err-clause-only
returns-in-Err-clause-only g c = λ err. not_already c.ruling-part.result c.in-Some.place c.in-Err.fault c.damaged.result c.damaged.ensures err

pub returns-in-Err-clause-quiet : goal.returns-in-Err-clause-quiet
returns-in-Err-clause-quiet g c = record { same = c.next.ensures.reads; crash = c.next.ensures.crash; ran = c.next.ensures.by }

pub returns-in-Err-clause-cause : goal.returns-in-Err-clause-cause
returns-in-Err-clause-cause g c = told_none _ _ _ (λ err. not_disk c.ruling-part.result c.in-Some.place c.in-Err.fault c.damaged.result c.damaged.ensures err) (kept_ok c.in_ok-found.found c.in_ok-found.ensures.counted)

-- the first closed gate
pub returns-in_default-clause-all : goal.returns-in_default-clause-all
returns-in_default-clause-all g c = λ parts head base entries told h stable none. record {
  image = h.image;
  bodies = h.bodies;
  stands = c.in_ok-found.ensures.store parts head h.image h.bodies told h.read h.whole stable c.in_default.is;
  tells = h.tells;
}

pub returns-in_default-clause-quiet : goal.returns-in_default-clause-quiet
returns-in_default-clause-quiet g c = record { same = c.next.ensures.reads; crash = c.next.ensures.crash; ran = c.next.ensures.by }

pub returns-in_default-clause-cause : goal.returns-in_default-clause-cause
returns-in_default-clause-cause g c = told_none _ _ _ (λ err. absurd (cc err)) (kept_ok c.in_ok-found.found c.in_ok-found.ensures.counted)

-- no record, or the disk fails
pub returns-in_err-found-clause-refused : goal.returns-in_err-found-clause-refused
returns-in_err-found-clause-refused g c = λ parts head base entries told h.
    let p = err_from_is_err_and c.from_residual.result c.from_residual.ensures.1 in
    rw p.1 (subst (IsRefused parts) (sym p.2) (refused_record head base entries parts c.args.journal.now c.in_err-found.field-0.0 h (c.in_err-found.ensures.tells parts told h.read.sees)))

pub returns-in_err-found-clause-only : goal.returns-in_err-found-clause-only
returns-in_err-found-clause-only g c =
    let p = err_from_is_err_and c.from_residual.result c.from_residual.ensures.1 in
    rw p.1 (λ err. record_already c.args.journal.now.ruling c.in_err-found.field-0.0 p.0 p.2 c.in_err-found.ensures.only err)

pub returns-in_err-found-clause-quiet : goal.returns-in_err-found-clause-quiet
returns-in_err-found-clause-quiet g c = record { same = c.next.ensures.reads; crash = c.next.ensures.crash; ran = c.next.ensures.by }

pub returns-in_err-found-clause-cause : goal.returns-in_err-found-clause-cause
returns-in_err-found-clause-cause g c =
    let p = err_from_is_err_and c.from_residual.result c.from_residual.ensures.1 in
    rw p.1 (told_journal _ _ c.in_err-found.field-0.0 p.0 p.2 c.in_err-found.ensures.later c.in_err-found.ensures.failed c.in_err-found.ensures.counted)
