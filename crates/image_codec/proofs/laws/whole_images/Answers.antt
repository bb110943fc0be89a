use Rattle.image_codec.proofs.WholeImages.{image_again, image_takes}
use Rattle.image_codec.proofs.laws.whole_images.Goals as goal

pub returns-clause-again : goal.returns-clause-again
returns-clause-again c = image_again

pub returns-clause-takes : goal.returns-clause-takes
returns-clause-takes c = image_takes
