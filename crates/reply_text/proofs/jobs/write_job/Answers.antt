use Rattle.std.proofs.Common.{◌∙◌, refl}
use Rattle.fsrm_model.specs.texts.Printed.{path_text}
use Rattle.line_parts.proofs.Sent.{cut_first, cut_second, passed_on, three_texts}
use Rattle.reply_text.proofs.ReportLines.{job_shown, jobs_kept}
use Rattle.reply_text.proofs.jobs.write_job.Goals as goal

pub path_text-requires : goal.path_text-requires
path_text-requires g c = (jobs_kept c.args.engine.now.size c.args.engine.now.rows c.requires.store).own c.args.job.now c.requires.own

pub returns-in_err-write_name-clause-writes : goal.returns-in_err-write_name-clause-writes
returns-in_err-write_name-clause-writes g c =
    let nodes = c.args.engine.now.rows.nodes in
    let job = c.args.job.now in
    passed_on c.from_residual-in_err-write_name.result c.from_residual-in_err-write_name.ensures.1
    (cut_first _ (job_shown nodes job c.as_str.result.now (path_text nodes job.scope) c.as_str.ensures refl) c.in_err-write_name.ensures.writes)

pub returns-in_err-write_scope-clause-writes : goal.returns-in_err-write_scope-clause-writes
returns-in_err-write_scope-clause-writes g c =
    let nodes = c.args.engine.now.rows.nodes in
    let job = c.args.job.now in
    passed_on c.from_residual-in_err-write_scope.result c.from_residual-in_err-write_scope.ensures.1
    (cut_second _ g.met.S.Sink.write_then
    (job_shown nodes job c.as_str.result.now c.as_str-2.result.now c.as_str.ensures (c.as_str-2.ensures ∙ c.in_ok-path.ensures.text))
    c.in_ok-write_name.ensures.writes c.in_err-write_scope.ensures.writes)

pub returns-clause-writes : goal.returns-clause-writes
returns-clause-writes g c =
    let nodes = c.args.engine.now.rows.nodes in
    let job = c.args.job.now in
    three_texts g.met.S.Sink.write_then
    (job_shown nodes job c.as_str.result.now c.as_str-2.result.now c.as_str.ensures (c.as_str-2.ensures ∙ c.in_ok-path.ensures.text))
    c.in_ok-write_name.ensures.writes c.in_ok-write_scope.ensures.writes c.write_labelled.ensures.writes
