use Rattle.std.proofs.Common.{sym, ap, ◌∙◌}
use Rattle.std.specs.List.{flat_map, list_all}
use Rattle.image_codec.specs.Pieces.{piece_legal, piece_spelled}
use Rattle.image_codec.proofs.LegalLaws.{legal_image}
use Rattle.image_codec.proofs.PieceLaws.{pieces_spelled}
use Rattle.image_codec.proofs.image_out.ImageOut.new.Goals as goal

pub returns-clause-all : goal.returns-clause-all
returns-clause-all c = ap (flat_map piece_spelled) c.new.ensures ∙ pieces_spelled c.args.rows.now

pub returns-clause-legal : goal.returns-clause-legal
returns-clause-legal c = λ legal. legal_image c.args.rows.now (ap (list_all piece_legal) (sym c.new.ensures) ∙ legal)
