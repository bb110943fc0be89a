use Rattle.std.proofs.Common.{ap, sym, ◌∙◌, arith}
use Rattle.std.specs.Option.{option_copied}
use Rattle.fsrm_model.specs.objects.Templates.{template_number}
use Rattle.fsrm_engine.proofs.applied.DerivedLaws.{template_few}
use Rattle.fsrm_parts.proofs.tables.AbsentLaws.{row_test}
use Rattle.fsrm_engine.proofs.parts.Parts.may_derive.Goals as goal

pub unwrap-template-requires : goal.unwrap-template-requires
unwrap-template-requires c =
    sym (row_test template_number c.args.self.now.templates.templates c.args.template c.template.result c.template.ensures) ∙ c.requires.there

pub threshold_texts-requires : goal.threshold_texts-requires
threshold_texts-requires c =
    omega (arith, template_few c.args.self.now c.args.template c.unwrap-template.result.now c.requires.store (sym c.template.ensures ∙ ap option_copied c.unwrap-template.ensures))
