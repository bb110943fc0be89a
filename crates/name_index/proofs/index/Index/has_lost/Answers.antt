use Rattle.std.proofs.Common.{◌≡◌, ◌∙◌, ap, length, arith}
use Rattle.name_index.specs.declared.bucket.Bucket.{Bucket}
use Rattle.name_index.specs.Index.{has_lost}
use Rattle.name_index.proofs.IndexLaws.{led}
use Rattle.name_index.proofs.index.Index.has_lost.Goals as goal

pub returns : goal.returns
unfolding has_lost
returns c =
    let hash = c.args.hash in
    let items = c.self.inside.buckets.items in
    let bucket = c.index.result.now in
    let len : c.len.result ≡ length items = omega (arith, c.len.ensures, c.self.inside.buckets.ok.0) in
    let at = led c.self.inside.lead items hash c.len.result c.home.result bucket c.self.invariant len c.home.ensures c.index.ensures in
    ap (λ (b : Bucket). b.lost) at.of_hash ∙ ap (λ bs. has_lost bs hash) c.self.view_is
