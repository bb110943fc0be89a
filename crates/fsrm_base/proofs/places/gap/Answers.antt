use Rattle.fsrm_base.proofs.SortedRows.{row_found}
use Rattle.fsrm_base.proofs.TestLaws.{clash}
use Rattle.fsrm_base.proofs.places.gap.Goals as goal

pub returns-in-Ok : goal.returns-in-Ok
returns-in-Ok g c = absurd (clash _ (row_found g.K.Key.key c.args.number c.args.rows.now c.in-Ok.place c.in-Ok.ensures.found).has c.requires.absent)
