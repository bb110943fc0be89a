use Rattle.std.proofs.Common.{ℕ, List, map, ◌∙◌, sym, ap}
use Rattle.std.specs.Char.{to_ascii_lowercase}
use Rattle.storage_reports.specs.Doubles.{mixed}
use Rattle.storage_reports.proofs.Mixes.{folded_ascii}
use Rattle.storage_reports.proofs.twins.mix_name.Goals as goal

pub returns-then-is_ascii : goal.returns-then-is_ascii
returns-then-is_ascii c =
    c.mix_lower.ensures
    ∙ (ap (λ (bytes : List ℕ). mixed c.args.hash (map to_ascii_lowercase bytes)) c.as_bytes.ensures.value
    ∙ ap (mixed c.args.hash) (sym (folded_ascii c.args.name.now c.if-is_ascii.ensures.cases)))

pub returns : goal.returns
returns c = c.mix_bytes.ensures ∙ ap (mixed c.args.hash) (c.as_bytes-2.ensures.value ∙ c.in_ok-text.ensures)
