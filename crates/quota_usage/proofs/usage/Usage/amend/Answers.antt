use Rattle.std.proofs.Common.{refl, sym, ap, ◌∙◌}
use Rattle.quota_usage.specs.Climb.{amended, amended_counter}
use Rattle.quota_usage.specs.Counters.{used_in}
use Rattle.quota_usage.proofs.ClimbLaws.{used_own}
use Rattle.quota_usage.proofs.usage.Usage.amend.Goals as goal

pub returns-clause-used : goal.returns-clause-used
returns-clause-used c =
    let minus = c.args.minus in
    let plus = c.args.plus in
    c.change.ensures.told
    ∙ sym (ap (λ t. used_in t.rows c.args.folder) c.change.ensures.changed
    ∙ used_own (amended_counter minus plus) (λ counter. amended minus plus counter.bytes) (λ r. refl) (λ r. refl) c.args.folder c.self.inside.counters.rows)
