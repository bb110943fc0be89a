use Rattle.std.proofs.Common.{◌≡◌, Some, None, is_none, refl, ap, sym, ◌∙◌, subst}
use Rattle.std.specs.Option.{option_copied}
use Rattle.fsrm_model.specs.commands.QuotaWork.{first_quota}
use Rattle.fsrm_model.specs.objects.Templates.{template_named}
use Rattle.fsrm_engine.specs.Machine.{rows_of}
use Rattle.fsrm_engine.specs.Sources.{IsFirst}
use Rattle.fsrm_engine.proofs.tables.SourceLaws.{named_found, named_there}
use Rattle.fsrm_engine.proofs.parts.Parts.first_quota.Goals as goal

pub returns-in_default : goal.returns-in_default
returns-in_default c =
    subst (λ o. IsFirst (rows_of c.args.self.now) o c.args.folder c.args.state c.args.moment (Some c.new_quota.result)) (sym c.in_default.is) (refl, c.new_quota.ensures)

pub returns-in_default-template_named : goal.returns-in_default-template_named
returns-in_default-template_named c =
    subst (λ o. IsFirst (rows_of c.args.self.now) o c.args.folder c.args.state c.args.moment None) (sym c.in-Some.is)
    (ap is_none (sym c.template_named.ensures ∙ ap option_copied c.in_default-template_named.is))

pub derive-requires : goal.derive-requires
derive-requires c =
    let p = c.args.self.now in
    let is : template_named p.templates.templates c.in-Some.name ≡ Some c.in-Some-template_named.template.now = sym c.template_named.ensures ∙ ap option_copied c.in-Some-template_named.is in
    named_there p c.in-Some.name c.in-Some-template_named.template.now c.requires.ready.whole.valid is

pub returns : goal.returns
returns c =
    let p = c.args.self.now in
    let t = c.in-Some-template_named.template.now in
    let state = c.args.state in
    let is : template_named p.templates.templates c.in-Some.name ≡ Some t = sym c.template_named.ensures ∙ ap option_copied c.in-Some-template_named.is in
    subst (λ o. IsFirst (rows_of p) o c.args.folder state c.args.moment (Some c.in_ok-row.row)) (sym c.in-Some.is)
    (ap is_none is, c.in_ok-row.ensures t (named_found p c.in-Some.name t c.requires.ready.whole.valid is) ∙ sym (ap (λ o. first_quota o c.args.folder state c.args.moment) is))
