use Rattle.std.proofs.Common.{◌≡◌, sym, ap, ◌∙◌, ℕ}
use Rattle.std.specs.Prelude.{codes, decimal}
use Rattle.made_script.specs.Tally.{summary_line}
use Rattle.made_script.proofs.Spelled.{all_joined}
use Rattle.made_script.proofs.tally.Tally.summary.Goals as goal

pub returns : goal.returns
returns c =
    let t = c.args.self.now in
    let same : c.from.result ≡ c.args.count = c.from.ensures in
    rw (c.in_ok-put.ensures, c.new-text.ensures.items)
    (sym (all_joined (codes "work ") (decimal c.from.result) (codes " ok ") (decimal t.accepted) (codes " refused ") (decimal t.refused) (codes " acts ") (decimal t.acts) (codes " bytes ") (decimal t.bytes) (codes "\n"))
    ∙ ap (λ (n : ℕ). summary_line n t) same)
