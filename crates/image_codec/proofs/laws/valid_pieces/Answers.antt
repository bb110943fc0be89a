use Rattle.image_codec.proofs.ValidLaws.{valid_pieces}
use Rattle.image_codec.proofs.laws.valid_pieces.Goals as goal

pub returns : goal.returns
returns c = valid_pieces
