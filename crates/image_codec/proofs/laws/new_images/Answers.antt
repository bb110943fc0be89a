use Rattle.image_codec.proofs.NewImage.{new_spelled}
use Rattle.image_codec.proofs.laws.new_images.Goals as goal

pub returns-clause-spelled : goal.returns-clause-spelled
returns-clause-spelled c = new_spelled
