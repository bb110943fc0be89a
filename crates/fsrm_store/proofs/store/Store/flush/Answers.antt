use Rattle.std.proofs.Common.{inl, refl, sym, ◌∙◌, ap, arith}
use Rattle.std.specs.Prelude.{Err}
use Rattle.std.proofs.lemmas.Result.{err_from_is_err_and}
use Rattle.fsrm_model.specs.store.Lasting.{lasting}
use Rattle.fsrm_store.proofs.Amortizing.{half_then, left_same, unpaid}
use Rattle.fsrm_store.proofs.Standings.{none_waits, stands_on, stands_still}
use Rattle.fsrm_store.proofs.store.Store.flush.Goals as goal

pub returns-then-held-eq0-clause-leaves : goal.returns-then-held-eq0-clause-leaves
returns-then-held-eq0-clause-leaves g c kept s = stands_still c.args.self.now.engine.size (lasting c.args.self.now.engine.rows) s refl

pub returns-then-held-eq0-clause-store : goal.returns-then-held-eq0-clause-store
returns-then-held-eq0-clause-store g c kept s = none_waits (sym c.held.ensures ∙ c.if-held-eq0.true) s

pub returns-in_err-write-clause-leaves : goal.returns-in_err-write-clause-leaves
returns-in_err-write-clause-leaves g c kept s = c.write.ensures.leaves kept (stands_on _ s refl refl refl refl)

pub returns-clause-leaves : goal.returns-clause-leaves
returns-clause-leaves g c kept s = c.write.ensures.leaves kept (stands_on _ s refl refl refl refl)

pub returns-clause-store : goal.returns-clause-store
returns-clause-store g c kept s = stands_on _ (c.in_ok-write.ensures.store kept (stands_on _ s refl refl refl refl)) refl refl refl refl

pub returns-then-held-eq0-clause-amortized : goal.returns-then-held-eq0-clause-amortized
returns-then-held-eq0-clause-amortized g c kept s = unpaid _ _ _ _ _ (omega arith) (omega arith)

pub returns-in_err-write-clause-amortized : goal.returns-in_err-write-clause-amortized
returns-in_err-write-clause-amortized g c kept s =
    let p = err_from_is_err_and c.from_residual.result c.from_residual.ensures.1 in
    let failed = c.in_err-write.ensures.only in
    left_same _ _ _ _ _ _ _ _ failed (p.1 ∙ ap Err p.2 ∙ failed) (c.in_err-write.ensures.amortized kept (stands_on _ s refl refl refl refl))

pub returns-clause-amortized : goal.returns-clause-amortized
returns-clause-amortized g c kept s = c.in_ok-write.ensures.amortized kept (stands_on _ s refl refl refl refl)

pub returns-then-held-eq0-clause-half : goal.returns-then-held-eq0-clause-half
returns-then-held-eq0-clause-half g c kept s = inl (record { ruling = refl; image_end = refl; image = refl })

pub returns-clause-half : goal.returns-clause-half
returns-clause-half g c kept s = half_then _ _ _ _ _ _ (c.in_ok-write.ensures.half kept (stands_on _ s refl refl refl refl)) (record { ruling = refl; image_end = refl; image = refl }) (record { ruling = refl; image_end = refl; image = refl }) refl
