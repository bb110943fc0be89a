use Rattle.std.proofs.Common.{ℕ, ◌∙◌, ap}
use Rattle.std.specs.Prelude.{◌%◌, ◌^◌, chars}
use Rattle.fsrm_model.specs.reports.Reports.{folded_text}
use Rattle.storage_reports.specs.Doubles.{mixed, mixed_with}
use Rattle.storage_reports.proofs.twins.slot_of.Goals as goal

pub returns-clause-slot : goal.returns-clause-slot
returns-clause-slot c =
    let node = c.args.node.now in
    ap (λ (hash : ℕ). hash % 2 ^ 32 % c.args.slots)
    (c.in_ok-hash.ensures
    ∙ ap (λ (hash : ℕ). mixed hash (folded_text (chars node.name.now)))
    (c.mix-start.ensures ∙ ap (λ (hash : ℕ). mixed_with hash node.modified) c.mix.ensures))
