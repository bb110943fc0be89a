use Rattle.std.proofs.Common.{◌≡◌, ◌∙◌, ap, length, arith, refl, subst, sym, true}
use Rattle.name_index.specs.declared.bucket.Bucket.{Bucket}
use Rattle.name_index.specs.Buckets.{HasEntry, entry_of}
use Rattle.name_index.specs.Index.{Holds, has_lost}
use Rattle.name_index.proofs.IndexLaws.{held_here, held_still, index_still, led, lost_here, lost_still}
use Rattle.name_index.proofs.index.Index.enter.Goals as goal

pub enter-requires : goal.enter-requires
enter-requires c =
    let items = c.self.inside.buckets.items in
    let len : c.len.result ≡ length items = omega (arith, c.len.ensures, c.self.inside.buckets.ok.0) in
    let at = led c.self.inside.lead items c.args.hash c.len.result c.home-home.result c.index_mut.result.now c.self.invariant len c.home-home.ensures c.index_mut.ensures.value in
    at.kept

pub returns-then-not-enter-clause-lost : goal.returns-then-not-enter-clause-lost
returns-then-not-enter-clause-lost c = λ _.
    let items = c.self.inside.buckets.items in
    let len : c.len.result ≡ length items = omega (arith, c.len.ensures, c.self.inside.buckets.ok.0) in
    let at = led c.self.inside.lead items c.args.hash c.len.result c.home-home.result c.index_mut.result.now c.self.invariant len c.home-home.ensures c.index_mut.ensures.value in
    lost_here c.self.inside.lead items c.home-home.result c.enter.new.self at.inside c.args.hash at.at (c.if-not-enter.ensures.lost refl)

pub returns-then-not-enter-clause-kept : goal.returns-then-not-enter-clause-kept
returns-then-not-enter-clause-kept c = λ h lost.
    let items = c.self.inside.buckets.items in
    let len : c.len.result ≡ length items = omega (arith, c.len.ensures, c.self.inside.buckets.ok.0) in
    let at = led c.self.inside.lead items c.args.hash c.len.result c.home-home.result c.index_mut.result.now c.self.invariant len c.home-home.ensures c.index_mut.ensures.value in
    lost_still c.self.inside.lead items c.home-home.result c.enter.new.self at.inside (λ was. c.enter.ensures.kept (ap (λ (b : Bucket). b.lost) at.here ∙ was)) h
    (subst (λ bs. has_lost bs h ≡ true) (sym c.self.view_is) lost)

pub returns-then-not-enter-clause-others : goal.returns-then-not-enter-clause-others
returns-then-not-enter-clause-others c = λ h n held.
    let items = c.self.inside.buckets.items in
    let len : c.len.result ≡ length items = omega (arith, c.len.ensures, c.self.inside.buckets.ok.0) in
    let at = led c.self.inside.lead items c.args.hash c.len.result c.home-home.result c.index_mut.result.now c.self.invariant len c.home-home.ensures c.index_mut.ensures.value in
    held_still c.self.inside.lead items c.home-home.result c.enter.new.self at.inside h n
    (λ number e. c.enter.ensures.others h n number (subst (λ b. HasEntry b (entry_of h n)) (sym at.here) e))
    (subst (λ bs. Holds bs h n) (sym c.self.view_is) held)

pub invariant_of-self-2 : goal.invariant_of-self-2
invariant_of-self-2 c =
    let items = c.self.inside.buckets.items in
    let len : c.len.result ≡ length items = omega (arith, c.len.ensures, c.self.inside.buckets.ok.0) in
    let at = led c.self.inside.lead items c.args.hash c.len.result c.home-home.result c.index_mut.result.now c.self.invariant len c.home-home.ensures c.index_mut.ensures.value in
    index_still c.self.inside.lead items c.home-home.result c.enter.new.self at.inside c.enter.ensures.bucket c.self.invariant

pub returns-clause-held : goal.returns-clause-held
returns-clause-held c = λ _.
    let items = c.self.inside.buckets.items in
    let len : c.len.result ≡ length items = omega (arith, c.len.ensures, c.self.inside.buckets.ok.0) in
    let at = led c.self.inside.lead items c.args.hash c.len.result c.home-home.result c.index_mut.result.now c.self.invariant len c.home-home.ensures c.index_mut.ensures.value in
    c.fit.ensures.held c.args.hash c.args.number
    (held_here c.self.inside.lead items c.home-home.result c.enter.new.self at.inside c.args.hash c.args.number at.at (c.if-not-enter.ensures.number refl) (c.if-not-enter.ensures.held refl))

pub returns-clause-others : goal.returns-clause-others
returns-clause-others c = λ h n held.
    let items = c.self.inside.buckets.items in
    let len : c.len.result ≡ length items = omega (arith, c.len.ensures, c.self.inside.buckets.ok.0) in
    let at = led c.self.inside.lead items c.args.hash c.len.result c.home-home.result c.index_mut.result.now c.self.invariant len c.home-home.ensures c.index_mut.ensures.value in
    c.fit.ensures.held h n
    (held_still c.self.inside.lead items c.home-home.result c.enter.new.self at.inside h n
    (λ number e. c.enter.ensures.others h n number (subst (λ b. HasEntry b (entry_of h n)) (sym at.here) e))
    (subst (λ bs. Holds bs h n) (sym c.self.view_is) held))

pub returns-clause-kept : goal.returns-clause-kept
returns-clause-kept c = λ h lost.
    let items = c.self.inside.buckets.items in
    let len : c.len.result ≡ length items = omega (arith, c.len.ensures, c.self.inside.buckets.ok.0) in
    let at = led c.self.inside.lead items c.args.hash c.len.result c.home-home.result c.index_mut.result.now c.self.invariant len c.home-home.ensures c.index_mut.ensures.value in
    c.fit.ensures.kept h
    (lost_still c.self.inside.lead items c.home-home.result c.enter.new.self at.inside (λ was. c.enter.ensures.kept (ap (λ (b : Bucket). b.lost) at.here ∙ was)) h
    (subst (λ bs. has_lost bs h ≡ true) (sym c.self.view_is) lost))
