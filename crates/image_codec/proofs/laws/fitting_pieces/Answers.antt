use Rattle.image_codec.proofs.LeftLaws.{valid_fits}
use Rattle.image_codec.proofs.laws.fitting_pieces.Goals as goal

pub returns : goal.returns
returns c = valid_fits
