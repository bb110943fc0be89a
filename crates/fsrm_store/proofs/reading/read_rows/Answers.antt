use Rattle.std.proofs.Common.{refl, sym, ◌∙◌, ap, subst, arith}
use Rattle.std.proofs.lemmas.Result.{err_from_is_err_and}
use Rattle.fsrm_outside.specs.declared.traits.Part.{Part}
use Rattle.fsrm_store.specs.Faults.{of_bytes}
use Rattle.fsrm_store.specs.Recovery.{IsRefused}
use Rattle.fsrm_store.proofs.ImageTaken.{refused_whole, rows_read, whole_short}
use Rattle.fsrm_store.proofs.QuietCalls.{not_already, not_disk, told_none, told_ok, told_then}
use Rattle.fsrm_store.proofs.reading.read_rows.Goals as goal

pub damaged-requires : goal.damaged-requires
damaged-requires g c = λ place is.
    omega (arith, whole_short c.args.head.now _ c.args.journal.now c.take_image.new.journal c.in_ok-image.image c.in-Err.fault place c.in_ok-image.ensures.taken c.in-Err.ensures is, c.take_image.new.journal.in_part)

pub returns-in-Ok-clause-rows : goal.returns-in-Ok-clause-rows
returns-in-Ok-clause-rows g c = λ parts told r.
    rows_read c.args.head.now _ c.args.journal.now c.take_image.new.journal c.in_ok-image.image parts c.in-Ok.rows c.in_ok-image.ensures.taken told r c.in-Ok.ensures

pub returns-in-Ok-clause-cause : goal.returns-in-Ok-clause-cause
returns-in-Ok-clause-cause g c = told_none _ _ _ (λ err. absurd (cc err)) (told_ok _ _ _ c.in_ok-image.ensures.cause)

pub returns-in-Err-clause-refused : goal.returns-in-Err-clause-refused
returns-in-Err-clause-refused g c = λ parts told r.
    let fault = c.in-Err.fault in
    subst (IsRefused parts) (sym (c.damaged.ensures ∙ ap (λ (p : Part). of_bytes p 48 fault) c.ruling-part.ensures))
    (refused_whole c.args.head.now _ c.args.journal.now c.take_image.new.journal c.in_ok-image.image parts fault c.in_ok-image.ensures.taken told r c.in-Err.ensures)

pub returns-in-Err-clause-only : goal.returns-in-Err-clause-only
returns-in-Err-clause-only g c = λ err. not_already c.ruling-part.result 48 c.in-Err.fault c.damaged.result c.damaged.ensures err

pub returns-in-Err-clause-cause : goal.returns-in-Err-clause-cause
returns-in-Err-clause-cause g c =
    told_none _ _ _ (λ err. not_disk c.ruling-part.result 48 c.in-Err.fault c.damaged.result c.damaged.ensures err) (told_ok _ _ _ c.in_ok-image.ensures.cause)

pub returns-in_err-image-clause-refused : goal.returns-in_err-image-clause-refused
returns-in_err-image-clause-refused g c = λ parts told r.
    let p = err_from_is_err_and c.from_residual.result c.from_residual.ensures.1 in
    rw p.1 (subst (IsRefused parts) (sym p.2) (c.in_err-image.ensures.refused parts told r))

pub returns-in_err-image-clause-only : goal.returns-in_err-image-clause-only
returns-in_err-image-clause-only g c =
    let p = err_from_is_err_and c.from_residual.result c.from_residual.ensures.1 in
    rw p.1 (λ err. c.in_err-image.ensures.only (cc (err, p.2)))

pub returns-in_err-image-clause-cause : goal.returns-in_err-image-clause-cause
returns-in_err-image-clause-cause g c =
    let p = err_from_is_err_and c.from_residual.result c.from_residual.ensures.1 in
    rw (p.1, p.2) (told_then _ _ _ c.in_err-image.field-0.0 refl c.in_err-image.ensures.cause)
