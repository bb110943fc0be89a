use Rattle.std.proofs.Common.{◌==◌, sym, ◌∙◌}
use Rattle.fsrm_base.specs.Keyed.{row_of}
use Rattle.fsrm_base.proofs.Look.{is_some-find, none_row}
use Rattle.fsrm_model.specs.objects.Thresholds.{percent_of}
use Rattle.fsrm_parts.proofs.acts.threshold_of.Goals as goal

pub returns-in-Err : goal.returns-in-Err
returns-in-Err c =
    let thresholds = c.args.thresholds.now in
    sym (none_row (row_of percent_of c.args.percent thresholds) (is_some-find (λ t. percent_of t == c.args.percent) thresholds ∙ c.in-Err.ensures.free.absent))
