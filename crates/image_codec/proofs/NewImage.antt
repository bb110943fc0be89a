-- The image of a new store.
use Rattle.std.proofs.Common.{◌≡◌, refl}
use Rattle.fsrm_model.specs.nodes.Fresh.{new_rows}
use Rattle.record_fields.specs.Formats.{number_spelled, text_spelled, listed_spelled}
use Rattle.image_codec.specs.Images.{image}
use Rattle.image_codec.specs.NewImage.{new_image}

pub new_spelled : image.spell new_rows ≡ new_image
unfolding number_spelled text_spelled listed_spelled
new_spelled = refl
