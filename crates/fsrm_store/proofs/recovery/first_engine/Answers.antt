use Rattle.std.proofs.Common.{◌≡◌, inl, false, ◌+◌, ◌*◌, ◌≤◌, [], length, refl, sym, ap, subst}
use Rattle.std.proofs.lemmas.Result.{err_from_is_err_and}
use Rattle.fsrm_model.specs.store.Valid.{IsValid}
use Rattle.fsrm_engine.specs.Machine.{Machine}
use Rattle.fsrm_engine.specs.Restored.{is_restorable}
use Rattle.fsrm_store.specs.Recovery.{HasRead, IsRefused}
use Rattle.fsrm_store.proofs.Opened.{entries_begin, err_then, few_rows, ok_then, refused_rows, restorable_valid, rows_not_already, rows_not_disk}
use Rattle.fsrm_store.proofs.QuietCalls.{told_none, told_ok, told_then}
use Rattle.fsrm_store.proofs.recovery.first_engine.Goals as goal

pub read_rows-requires : goal.read_rows-requires
read_rows-requires g c = record { room = c.requires.room }

pub engine_of-requires : goal.engine_of-requires
engine_of-requires g c = c.requires.size

pub returns-clause-read : goal.returns-clause-read
returns-clause-read g c = λ parts told r.
    let rows = c.in_ok-rows.ensures.rows parts told r in
    ok_then c.engine_of.result c.engine_of.ensures.ok
    (λ engine h. subst (λ (m : Machine). HasRead c.args.head.now m.rows [] parts c.read_rows.new.journal) (sym (h.0)) (entries_begin c.args.head.now c.in_ok-rows.rows parts c.read_rows.new.journal rows h.1))

pub returns-clause-size : goal.returns-clause-size
returns-clause-size g c = ok_then c.engine_of.result c.engine_of.ensures.ok (λ engine h. ap (λ (m : Machine). m.size) (h.0))

pub returns-clause-idle : goal.returns-clause-idle
returns-clause-idle g c = ok_then c.engine_of.result c.engine_of.ensures.ok (λ engine h. ap (λ (m : Machine). m.waiting) (h.0))

pub returns-clause-valid : goal.returns-clause-valid
returns-clause-valid g c =
    ok_then c.engine_of.result c.engine_of.ensures.ok
    (λ engine h. subst (λ (m : Machine). IsValid m.size m.rows) (sym (h.0)) (restorable_valid c.args.head.now.size c.in_ok-rows.rows h.1))

pub returns-clause-refused : goal.returns-clause-refused
returns-clause-refused g c = λ parts told r.
    let rows = c.in_ok-rows.ensures.rows parts told r in
    err_then c.engine_of.result c.engine_of.ensures.refused (λ fault bad. refused_rows c.args.head.now c.in_ok-rows.rows parts c.read_rows.new.journal c.ruling-part.result fault rows c.ruling-part.ensures bad)

pub returns-clause-only : goal.returns-clause-only
returns-clause-only g c = λ err. rows_not_already (is_restorable c.args.head.now.size c.in_ok-rows.rows ≡ false) c.ruling-part.result c.engine_of.result c.engine_of.ensures.refused err

pub returns-clause-looks : goal.returns-clause-looks
returns-clause-looks g c =
    ok_then c.engine_of.result c.engine_of.ensures.ok
    (λ engine h. subst (λ (m : Machine). c.engine_of.new.steps ≤ c.args.steps.now + 3 * length m.rows.nodes) (sym (h.0)) c.engine_of.ensures.looks)

pub returns-clause-few : goal.returns-clause-few
returns-clause-few g c = λ parts told r.
    let rows = c.in_ok-rows.ensures.rows parts told r in
    err_then c.engine_of.result c.engine_of.ensures.refused (λ fault bad. few_rows c.args.head.now c.in_ok-rows.rows parts c.read_rows.new.journal c.args.steps.now c.engine_of.new.steps rows c.engine_of.ensures.looks)

pub returns-clause-same : goal.returns-clause-same
returns-clause-same g c = c.in_ok-rows.ensures.same

pub returns-clause-quiet : goal.returns-clause-quiet
returns-clause-quiet g c = c.in_ok-rows.ensures.quiet

pub returns-clause-cause : goal.returns-clause-cause
returns-clause-cause g c = told_none _ _ c.engine_of.result (λ err. rows_not_disk (is_restorable c.args.head.now.size c.in_ok-rows.rows ≡ false) c.ruling-part.result c.engine_of.result c.engine_of.ensures.refused err) (told_ok _ _ _ c.in_ok-rows.ensures.cause)

-- the image isn't read
pub returns-in_err-rows-clause-refused : goal.returns-in_err-rows-clause-refused
returns-in_err-rows-clause-refused g c = λ parts told r.
    let p = err_from_is_err_and c.from_residual.result c.from_residual.ensures.1 in
    rw p.1 (subst (IsRefused parts) (sym p.2) (c.in_err-rows.ensures.refused parts told r))

pub returns-in_err-rows-clause-only : goal.returns-in_err-rows-clause-only
returns-in_err-rows-clause-only g c =
    let p = err_from_is_err_and c.from_residual.result c.from_residual.ensures.1 in
    rw p.1 (λ err. c.in_err-rows.ensures.only (cc (err, p.2)))

pub returns-in_err-rows-clause-few : goal.returns-in_err-rows-clause-few
returns-in_err-rows-clause-few g c = λ parts told r.
    let p = err_from_is_err_and c.from_residual.result c.from_residual.ensures.1 in
    rw p.1 (inl refl)

pub returns-in_err-rows-clause-cause : goal.returns-in_err-rows-clause-cause
returns-in_err-rows-clause-cause g c =
    let p = err_from_is_err_and c.from_residual.result c.from_residual.ensures.1 in
    rw (p.1, p.2) (told_then _ _ _ c.in_err-rows.field-0.0 refl c.in_err-rows.ensures.cause)
