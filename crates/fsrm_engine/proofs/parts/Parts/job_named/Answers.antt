use Rattle.std.proofs.Common.{sym, ◌∙◌}
use Rattle.fsrm_engine.proofs.tables.JobLaws.{found_named}
use Rattle.fsrm_engine.proofs.parts.Parts.job_named.Goals as goal

pub returns : goal.returns
returns c =
    c.job.ensures
    ∙ found_named c.args.self.now c.args.name.now c.as_str.result.now c.in_ok-number.number c.requires c.as_str.ensures (sym c.in_ok-number.was ∙ c.find_job.ensures)
