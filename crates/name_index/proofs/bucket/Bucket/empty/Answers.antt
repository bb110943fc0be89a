use Rattle.std.proofs.lemmas.Simd.{get_or-replicate}
use Rattle.name_index.proofs.BucketLaws.{free_has_none}
use Rattle.name_index.proofs.bucket.Bucket.empty.Goals as goal

pub returns-clause-bucket : goal.returns-clause-bucket
returns-clause-bucket c = λ j k inside inside' number number' same. absurd (free_has_none _ (get_or-replicate 15 j 4294967295 0 inside) number)
