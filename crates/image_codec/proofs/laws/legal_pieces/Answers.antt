use Rattle.image_codec.proofs.LegalLaws.{legal_image}
use Rattle.image_codec.proofs.laws.legal_pieces.Goals as goal

pub returns : goal.returns
returns c = legal_image
