use Rattle.fsrm_store.proofs.ImageLaws.{meets_of}
use Rattle.fsrm_store.proofs.half.size_of.Goals as goal

pub returns-clause-meets : goal.returns-clause-meets
returns-clause-meets c = meets_of c.args.engine.now.size c.args.engine.now.rows c.objects-objects.ensures.store
