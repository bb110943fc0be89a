use Rattle.std.proofs.Common.{◌≡◌, true, ℕ, Option, ap, sym, ◌∙◌, subst}
use Rattle.std.specs.Prelude.{IfSome, OnOk}
use Rattle.fsrm_base.specs.Keyed.{has_row}
use Rattle.fsrm_model.specs.declared.row.QuotaState.TheVariants.{Complete}
use Rattle.fsrm_model.specs.objects.Templates.{template_number}
use Rattle.fsrm_model.specs.nodes.Tree.{fresh}
use Rattle.fsrm_engine.specs.Arrivals.{from_source, with_folder}
use Rattle.fsrm_engine.proofs.coming.MadeQuota.{plain_folder}
use Rattle.fsrm_engine.proofs.operations.IdleLaws.{idle_made}
use Rattle.fsrm_engine.proofs.parts.Parts.make_folder.Goals as goal

pub make_with_quota-requires-clause-there : goal.make_with_quota-requires-clause-there
make_with_quota-requires-clause-there g c =
    subst (λ (o : Option ℕ). IfSome o (λ n. has_row template_number n c.args.self.now.templates.templates ≡ true)) c.in-Some.is c.requires.there

pub returns-in-Some-clause-made : goal.returns-in-Some-clause-made
returns-in-Some-clause-made g c =
    let p = c.args.self.now in
    subst (λ (o : Option ℕ). OnOk c.make_with_quota.result (c.make_with_quota.new.self ≡ with_folder p c.args.place.folder c.args.place.name.now c.args.owner c.args.moment (from_source p.templates.templates (fresh p.tree.nodes) Complete c.args.moment o))) (sym c.in-Some.is) c.make_with_quota.ensures.made

pub returns-in-None-clause-made : goal.returns-in-None-clause-made
returns-in-None-clause-made g c =
    let p = c.args.self.now in
    plain_folder p c.make_folder.new.self c.args.place.folder c.args.place.name.now c.args.owner c.args.moment c.requires.ready.whole.sound.counted c.requires.folder c.make_folder.ensures.made c.make_folder.ensures.kept
    ∙ ap (λ (o : Option ℕ). with_folder p c.args.place.folder c.args.place.name.now c.args.owner c.args.moment (from_source p.templates.templates (fresh p.tree.nodes) Complete c.args.moment o)) (sym c.in-None.is)

pub returns-in-None-clause-counted : goal.returns-in-None-clause-counted
returns-in-None-clause-counted g c =
    let p = c.args.self.now in
    idle_made p.tree c.make_folder.new.self p.objects.quotas p.usage _ _ c.args.owner c.args.moment c.requires.ready.whole.sound.counted c.requires.folder c.make_folder.ensures.made c.make_folder.ensures.kept
