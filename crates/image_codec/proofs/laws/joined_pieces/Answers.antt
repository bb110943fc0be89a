use Rattle.image_codec.proofs.PieceLaws.{pieces_spelled}
use Rattle.image_codec.proofs.laws.joined_pieces.Goals as goal

pub returns : goal.returns
returns c = pieces_spelled
