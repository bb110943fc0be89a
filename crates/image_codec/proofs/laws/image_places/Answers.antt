use Rattle.image_codec.proofs.RowLaws.{image_places}
use Rattle.image_codec.proofs.laws.image_places.Goals as goal

pub returns : goal.returns
returns c = image_places
