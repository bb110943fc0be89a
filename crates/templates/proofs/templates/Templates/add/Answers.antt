use Rattle.std.proofs.Common.{arith}
use Rattle.fsrm_base.proofs.Order.{least_free_is}
use Rattle.fsrm_model.specs.objects.Templates.{template_number}
use Rattle.templates.proofs.PartLaws.{renumbered}
use Rattle.templates.proofs.templates.Templates.add.Goals as goal

pub insert-requires-clause-valid : goal.insert-requires-clause-valid
insert-requires-clause-valid c =
    let few = rw (← c.self.view_is) at c.in_ok-admit.ensures.few in
    let most = (least_free_is template_number c.self.inside.templates.rows c.free_number-number.ensures.kept.ascending).most in
    renumbered c.args.row c.free_number-number.result c.requires.valid (omega (arith, few, most, c.free_number-number.ensures.number))

pub insert-requires-clause-free : goal.insert-requires-clause-free
insert-requires-clause-free c =
    rw (← c.self.view_is, c.free_number-number.ensures.number) (least_free_is template_number c.self.inside.templates.rows c.free_number-number.ensures.kept.ascending).free
