use Rattle.std.proofs.Common.{◌≡◌, ◌∙◌, List, ℕ, length, refl, sym, ap, subst, arith}
use Rattle.std.specs.Prelude.{Err, Result}
use Rattle.std.proofs.lemmas.Result.{err_from_is_err_and}
use Rattle.fsrm_store.specs.Faults.{of_journal}
use Rattle.fsrm_store.specs.Init.{IsInit}
use Rattle.fsrm_store.specs.declared.fault.StoreFault.{StoreFault}
use Rattle.image_codec.specs.NewImage.{new_image}
use Rattle.fsrm_store.proofs.InitLaws.{head_legal, init_err, is_new, makes, makes_none, none_called, some_nodes}
use Rattle.fsrm_store.proofs.store.Store.init.Goals as goal

pub returns-in_err-image-clause-any_moment : goal.returns-in_err-image-clause-any_moment
returns-in_err-image-clause-any_moment g c parts told = makes_none c.args.size c.args.disk.now c.requires.legal

pub returns-in_err-image-clause-quiet : goal.returns-in_err-image-clause-quiet
returns-in_err-image-clause-quiet g c parts told there = none_called g.D.Disk.disk_clock g.D.Disk.images c.args.disk.now

pub returns-in_err-format-clause-any_moment : goal.returns-in_err-format-clause-any_moment
returns-in_err-format-clause-any_moment g c parts told = makes _ _ (some_nodes c.args.size c.requires.legal) (c.deref.ensures.value ∙ c.in_ok-image.ensures) refl refl (c.format.ensures.any_moment parts told)

pub returns-clause-any_moment : goal.returns-clause-any_moment
returns-clause-any_moment g c parts told = makes _ _ (some_nodes c.args.size c.requires.legal) (c.deref.ensures.value ∙ c.in_ok-image.ensures) refl refl (c.format.ensures.any_moment parts told)

pub returns-clause-made : goal.returns-clause-made
returns-clause-made g c parts told =
    let made = c.in_ok-format.ensures.store parts told in
    is_new _ _ made.0 (some_nodes c.args.size c.requires.legal) (c.deref.ensures.value ∙ c.in_ok-image.ensures) refl refl made.1 made.2

pub format-requires-clause-legal : goal.format-requires-clause-legal
format-requires-clause-legal g c =
    let long : length new_image ≡ 99 = refl in
    head_legal c.args.size _ c.requires.legal (omega (arith, c.len.ensures, ap (λ (l : List ℕ). length l) c.in_ok-image.ensures, long))

pub returns-in_err-format-clause-tells : goal.returns-in_err-format-clause-tells
returns-in_err-format-clause-tells g c parts told =
    let p = err_from_is_err_and c.from_residual-in_err-format.result c.from_residual-in_err-format.ensures.1 in
    let is : c.from_residual-in_err-format.result ≡ Err (of_journal c.in_err-format.field-0.0) = p.1 ∙ ap (λ (e : StoreFault). Err e) p.2 in
    subst (λ (r : Result (Unit {0}) StoreFault). IsInit parts r) (sym is) (init_err parts c.in_err-format.field-0.0 (c.in_err-format.ensures.tells parts told))
