use Rattle.std.proofs.Common.{◌≡◌, ◌∙◌, ap, length, arith, subst, sym, true}
use Rattle.name_index.specs.declared.bucket.Bucket.{Bucket}
use Rattle.name_index.specs.Buckets.{HasEntry, entry_of}
use Rattle.name_index.specs.Index.{Holds, has_lost}
use Rattle.name_index.proofs.IndexLaws.{held_still, led, lost_still}
use Rattle.name_index.proofs.index.Index.forget.Goals as goal

pub forget-requires-clause-bucket : goal.forget-requires-clause-bucket
forget-requires-clause-bucket c =
    let items = c.self.inside.buckets.items in
    let len : c.len.result ≡ length items = omega (arith, c.len.ensures, c.self.inside.buckets.ok.0) in
    let at = led c.self.inside.lead items c.args.hash c.len.result c.home-home.result c.index_mut.result.now c.self.invariant len c.home-home.ensures c.index_mut.ensures.value in
    at.kept

pub returns-then-number-lt-NO_NUMBER-clause-others : goal.returns-then-number-lt-NO_NUMBER-clause-others
returns-then-number-lt-NO_NUMBER-clause-others c = λ h n other held.
    let items = c.self.inside.buckets.items in
    let len : c.len.result ≡ length items = omega (arith, c.len.ensures, c.self.inside.buckets.ok.0) in
    let at = led c.self.inside.lead items c.args.hash c.len.result c.home-home.result c.index_mut.result.now c.self.invariant len c.home-home.ensures c.index_mut.ensures.value in
    held_still c.self.inside.lead items c.home-home.result c.forget.new.self at.inside h n
    (λ number e. c.forget.ensures.others h n other number (subst (λ b. HasEntry b (entry_of h n)) (sym at.here) e))
    (subst (λ bs. Holds bs h n) (sym c.self.view_is) held)

pub returns-then-number-lt-NO_NUMBER-clause-kept : goal.returns-then-number-lt-NO_NUMBER-clause-kept
returns-then-number-lt-NO_NUMBER-clause-kept c = λ h lost.
    let items = c.self.inside.buckets.items in
    let len : c.len.result ≡ length items = omega (arith, c.len.ensures, c.self.inside.buckets.ok.0) in
    let at = led c.self.inside.lead items c.args.hash c.len.result c.home-home.result c.index_mut.result.now c.self.invariant len c.home-home.ensures c.index_mut.ensures.value in
    lost_still c.self.inside.lead items c.home-home.result c.forget.new.self at.inside (λ was. c.forget.ensures.lost ∙ (ap (λ (b : Bucket). b.lost) at.here ∙ was)) h
    (subst (λ bs. has_lost bs h ≡ true) (sym c.self.view_is) lost)
