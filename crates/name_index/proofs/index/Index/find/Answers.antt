use Rattle.std.proofs.Common.{◌≡◌, ◌∙◌, ap, length, arith, subst, sym}
use Rattle.name_index.specs.Buckets.{HasEntry, entry_of}
use Rattle.name_index.specs.Index.{bucket_of}
use Rattle.name_index.proofs.IndexLaws.{led}
use Rattle.name_index.proofs.index.Index.find.Goals as goal

pub find-requires : goal.find-requires
find-requires c =
    let items = c.self.inside.buckets.items in
    let len : c.len.result ≡ length items = omega (arith, c.len.ensures, c.self.inside.buckets.ok.0) in
    let at = led c.self.inside.lead items c.args.hash c.len.result c.home.result c.index.result.now c.self.invariant len c.home.ensures c.index.ensures in
    at.kept

pub returns : goal.returns
returns c = λ n held.
    let hash = c.args.hash in
    let items = c.self.inside.buckets.items in
    let bucket = c.index.result.now in
    let len : c.len.result ≡ length items = omega (arith, c.len.ensures, c.self.inside.buckets.ok.0) in
    let at = led c.self.inside.lead items hash c.len.result c.home.result bucket c.self.invariant len c.home.ensures c.index.ensures in
    let here : bucket_of c.args.self.now hash ≡ bucket = sym (at.of_hash ∙ ap (λ bs. bucket_of bs hash) c.self.view_is) in
    c.find.ensures n held.is_number (subst (λ b. HasEntry b (entry_of hash n)) here held.entry)
