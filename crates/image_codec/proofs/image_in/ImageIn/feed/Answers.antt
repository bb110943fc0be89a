use Rattle.std.proofs.Common.{rules, ◌≡◌, ℕ, List, ◌++◌, Err, sym, ap, ◌∙◌, append_assoc}
use Rattle.image_codec.specs.ImageIn.{outcome}
use Rattle.image_codec.proofs.ImageInLaws.{parted}
use Rattle.image_codec.proofs.image_in.ImageIn.feed.Goals as goal

pub returns-in_err-feed_bite-clause-damaged : goal.returns-in_err-feed_bite-clause-damaged
returns-in_err-feed_bite-clause-damaged c = λ place e more.
    let before = c.loop-rest.self in
    let bite = c.split_at.result.0.now in
    let after = c.split_at.result.1.now in
    let parts = parted c.min.result bite after c.loop-rest.rest.now c.split_at.ensures.front c.split_at.ensures.back in
    let fault : c.from_residual.result ≡ Err c.in_err-feed_bite.field-0.0 = search rules in
    sym (c.loop-rest.invariant more) ∙ ap (λ (b : List ℕ). outcome before (b ++ more)) (sym parts) ∙ ap (outcome before) (append_assoc bite after more)
    ∙ c.in_err-feed_bite.ensures.damaged place (sym fault ∙ e) (after ++ more)
