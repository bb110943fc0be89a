use Rattle.image_codec.specs.Pieces.{lent}
use Rattle.fsrm_store.proofs.EnginePieceLaws.{one_more}
use Rattle.fsrm_store.proofs.pieces.EnginePieces.next_other.Goals as goal

pub returns-clause-row : goal.returns-clause-row
returns-clause-row c =
    let p = c.args.self.now in
    one_more p.section p.next p.engine.now.rows (lent c.row_at.result) c.requires c.row_at.ensures
