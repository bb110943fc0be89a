use Rattle.image_codec.proofs.KeptImages.{read_kept, read_whole, legal_kept, written_again}
use Rattle.image_codec.proofs.laws.kept_images.read_back.Goals as goal

pub returns-clause-kept : goal.returns-clause-kept
returns-clause-kept c = read_kept

pub returns-clause-whole : goal.returns-clause-whole
returns-clause-whole c = read_whole

pub returns-clause-legal : goal.returns-clause-legal
returns-clause-legal c = legal_kept

pub returns-clause-written : goal.returns-clause-written
returns-clause-written c = written_again
