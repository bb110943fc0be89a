use Rattle.std.proofs.Common.{◌∙◌, ap, sym}
use Rattle.fsrm_base.specs.Keyed.{row_of}
use Rattle.row_table.specs.Indexed.{Indexed, noted, number_of}
use Rattle.row_table.proofs.HeldLaws.{none_found}
use Rattle.row_table.proofs.index.Index.searched.Goals as goal

pub returns-in-None : goal.returns-in-None
returns-in-None c =
    ap noted (sym (none_found number_of c.self.inside.order.entries c.args.number c.in-None.ensures))
    ∙ ap (λ (it : Indexed). noted (row_of number_of c.args.number it.entries)) c.self.view_is
