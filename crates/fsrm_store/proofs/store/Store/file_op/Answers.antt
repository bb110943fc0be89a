use Rattle.std.proofs.Common.{inl, refl, sym, ◌∙◌, ◌≡◌, length, subst, ap, arith}
use Rattle.std.proofs.lemmas.Bool.{not-false, not-true}
use Rattle.std.specs.Prelude.{◌&&◌, Err}
use Rattle.fsrm_base.proofs.TestLaws.{both, le_is}
use Rattle.fsrm_model.specs.declared.command.Deed.{Deed}
use Rattle.fsrm_model.specs.declared.command.Deed.TheVariants.{File}
use Rattle.fsrm_model.specs.store.Valid.{is_moment}
use Rattle.fsrm_model.specs.store.Valued.{is_deed, is_short}
use Rattle.fsrm_model.specs.values.Limits.{latest_moment}
use Rattle.std.proofs.lemmas.Result.{err_from_is_err_and}
use Rattle.fsrm_model.specs.declared.row.Rows.{Rows}
use Rattle.fsrm_model.specs.commands.Step.{step}
use Rattle.fsrm_model.proofs.valid.ValidTests.{test_by_valid, valid_by_test}
use Rattle.fsrm_model.specs.meaning.Named.{IsNamed}
use Rattle.fsrm_engine.specs.Machine.{Machine, Takes}
use Rattle.fsrm_store.proofs.KeepsLaws.{entry_writable}
use Rattle.fsrm_store.specs.declared.fault.StoreFault.TheVariants.{DiskFault}
use Rattle.fsrm_store.proofs.Amortizing.{entry_bytes, half_then, left_all, left_same, renamed, unpaid}
use Rattle.fsrm_store.proofs.Standings.{leads, leaves_as, none_held, settled, stands_on, stands_still}
use Rattle.fsrm_store.proofs.store.Store.file_op.Goals as goal

pub keep-requires-clause-writable : goal.keep-requires-clause-writable
keep-requires-clause-writable g c =
    let t = c.in_ok-answer.ensures.ok in
    let old = c.args.self.now.engine in
    let lasts = sym t.lasting_is ∙ not-false _ c.if-not-answer.false in
    entry_writable old.size old.rows (record { moment = c.args.moment; deed = File c.args.op.now }) (valid_by_test old.size old.rows c.args.self.now.valid) c.requires.valid lasts

pub returns-in_err-answer-clause-leaves : goal.returns-in_err-answer-clause-leaves
returns-in_err-answer-clause-leaves g c kept s = stands_still _ _ s refl

pub returns-in_err-keep-clause-leaves : goal.returns-in_err-keep-clause-leaves
returns-in_err-keep-clause-leaves g c kept s =
    let t = c.in_ok-answer.ensures.ok in
    let old = c.args.self.now.engine in
    leaves_as kept t.size_is t.rows_are
    (c.keep.ensures.leaves kept old.rows (stands_on _ s refl t.size_is refl refl)
    (leads old.size _ old.rows _ (record { moment = c.args.moment; deed = File c.args.op.now }) _ c.requires.valid (sym t.lasting_is ∙ not-false _ c.if-not-answer.false) refl t.size_is t.rows_are))

pub returns-clause-leaves : goal.returns-clause-leaves
returns-clause-leaves g c kept s =
    let t = c.in_ok-answer.ensures.ok in
    let old = c.args.self.now.engine in
    leaves_as kept t.size_is t.rows_are
    (c.keep.ensures.leaves kept old.rows (stands_on _ s refl t.size_is refl refl)
    (leads old.size _ old.rows _ (record { moment = c.args.moment; deed = File c.args.op.now }) _ c.requires.valid (sym t.lasting_is ∙ not-false _ c.if-not-answer.false) refl t.size_is t.rows_are))

pub returns-clause-store : goal.returns-clause-store
returns-clause-store g c kept s =
    let t = c.in_ok-answer.ensures.ok in
    let old = c.args.self.now.engine in
    c.in_ok-keep.ensures.store kept old.rows (stands_on _ s refl t.size_is refl refl)
    (leads old.size _ old.rows _ (record { moment = c.args.moment; deed = File c.args.op.now }) _ c.requires.valid (sym t.lasting_is ∙ not-false _ c.if-not-answer.false) refl t.size_is t.rows_are)

pub returns-then-not-answer-clause-leaves : goal.returns-then-not-answer-clause-leaves
returns-then-not-answer-clause-leaves g c kept s = stands_still _ _ s refl

pub returns-then-not-answer-clause-store : goal.returns-then-not-answer-clause-store
returns-then-not-answer-clause-store g c kept s =
    let t = c.in_ok-answer.ensures.ok in
    settled (none_held _ (record { moment = c.args.moment; deed = File c.args.op.now }) s c.requires.valid (sym t.lasting_is ∙ not-true _ c.if-not-answer.true) refl t.size_is t.rows_are refl refl)

pub returns-clause-ok : goal.returns-clause-ok
returns-clause-ok g c =
    let old = c.args.self.now.engine in
    subst (λ (m : Machine). Takes old m (step old.size old.rows (record { moment = c.args.moment; deed = File c.args.op.now })) c.in_ok-answer.answer) (sym c.keep.ensures.engine) c.in_ok-answer.ensures.ok

pub returns-clause-named : goal.returns-clause-named
returns-clause-named g c = subst (λ (m : Machine). IsNamed m.rows c.in_ok-answer.answer.outcome) (sym c.keep.ensures.engine) c.in_ok-answer.ensures.named

pub returns-clause-looks : goal.returns-clause-looks
returns-clause-looks g c = omega (arith, c.file_op.ensures.looks, c.keep.ensures.looks, ap (λ (m : Machine). length m.rows.nodes) c.keep.ensures.engine)

pub file_op-requires-clause-valid : goal.file_op-requires-clause-valid
file_op-requires-clause-valid g c =
    let deed : Deed = File c.args.op.now in
    (both (is_deed deed) (is_short deed) (both (is_moment c.args.moment) (is_deed deed && is_short deed) c.requires.valid).1).0

pub file_op-requires-clause-moment : goal.file_op-requires-clause-moment
file_op-requires-clause-moment g c =
    let deed : Deed = File c.args.op.now in
    le_is c.args.moment latest_moment (both (is_moment c.args.moment) (is_deed deed && is_short deed) c.requires.valid).0

pub invariant_of-self-clause-valid : goal.invariant_of-self-clause-valid
invariant_of-self-clause-valid g c = test_by_valid c.file_op.new.self.size c.file_op.new.self.rows c.file_op.ensures.kept

-- ---- looks
pub returns-in_err-answer-clause-amortized : goal.returns-in_err-answer-clause-amortized
returns-in_err-answer-clause-amortized g c kept s =
    let p = err_from_is_err_and c.from_residual.result c.from_residual.ensures.1 in
    unpaid _ _ _ _ _ (omega (arith, c.file_op.ensures.looks)) (left_all _ _ _ (p.1 ∙ ap Err p.2) (omega arith))

pub returns-in_err-keep-clause-amortized : goal.returns-in_err-keep-clause-amortized
returns-in_err-keep-clause-amortized g c kept s =
    let t = c.in_ok-answer.ensures.ok in
    let old = c.args.self.now.engine in
    let lasts = sym t.lasting_is ∙ not-false _ c.if-not-answer.false in
    let l = leads old.size _ old.rows _ (record { moment = c.args.moment; deed = File c.args.op.now }) _ c.requires.valid lasts refl t.size_is t.rows_are in
    let bytes = entry_bytes old.size old.rows (record { moment = c.args.moment; deed = File c.args.op.now }) _ lasts refl in
    let p = err_from_is_err_and c.from_residual-in_err-keep.result c.from_residual-in_err-keep.ensures.1 in
    let same = ap (λ (R : Rows). length R.nodes) t.rows_are in
    let failed : c.in_err-keep.field-0.0 ≡ DiskFault = cc c.in_err-keep.ensures.only in
    left_same _ _ _ _ _ _ _ _ c.in_err-keep.ensures.only (p.1 ∙ ap Err (p.2 ∙ failed)) (renamed _ _ _ _ _ _ _ _ same c.file_op.ensures.looks (omega (arith, bytes)) (c.in_err-keep.ensures.amortized kept old.rows (stands_on _ s refl t.size_is refl refl) l))

pub returns-clause-amortized : goal.returns-clause-amortized
returns-clause-amortized g c kept s =
    let t = c.in_ok-answer.ensures.ok in
    let old = c.args.self.now.engine in
    let lasts = sym t.lasting_is ∙ not-false _ c.if-not-answer.false in
    let l = leads old.size _ old.rows _ (record { moment = c.args.moment; deed = File c.args.op.now }) _ c.requires.valid lasts refl t.size_is t.rows_are in
    let bytes = entry_bytes old.size old.rows (record { moment = c.args.moment; deed = File c.args.op.now }) _ lasts refl in
    let same = ap (λ (R : Rows). length R.nodes) t.rows_are in
    renamed _ _ _ _ _ _ _ _ same c.file_op.ensures.looks (omega (arith, bytes)) (c.in_ok-keep.ensures.amortized kept old.rows (stands_on _ s refl t.size_is refl refl) l)

pub returns-then-not-answer-clause-amortized : goal.returns-then-not-answer-clause-amortized
returns-then-not-answer-clause-amortized g c kept s = unpaid _ _ _ _ _ (omega (arith, c.file_op.ensures.looks)) (omega arith)

-- ---- when an image is written
pub returns-clause-half : goal.returns-clause-half
returns-clause-half g c kept s =
    let t = c.in_ok-answer.ensures.ok in
    let old = c.args.self.now.engine in
    let lasts = sym t.lasting_is ∙ not-false _ c.if-not-answer.false in
    let l = leads old.size _ old.rows _ (record { moment = c.args.moment; deed = File c.args.op.now }) _ c.requires.valid lasts refl t.size_is t.rows_are in
    let bytes = entry_bytes old.size old.rows (record { moment = c.args.moment; deed = File c.args.op.now }) _ lasts refl in
    half_then _ _ _ _ _ _ (c.in_ok-keep.ensures.half kept old.rows (stands_on _ s refl t.size_is refl refl) l) (record { ruling = refl; image_end = refl; image = refl }) (record { ruling = refl; image_end = refl; image = refl }) (omega (arith, bytes))

pub returns-then-not-answer-clause-half : goal.returns-then-not-answer-clause-half
returns-then-not-answer-clause-half g c kept s = inl (record { ruling = refl; image_end = refl; image = refl })
