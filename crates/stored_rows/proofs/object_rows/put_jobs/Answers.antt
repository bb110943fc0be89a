use Rattle.std.proofs.Common.{List, ap, sym, subst, ◌≡◌, true, ◌∙◌, IfErr, arith, rules}
use Rattle.std.proofs.lemmas.Result.{IfErr-weaker}
use Rattle.fsrm_base.specs.Keyed.{has_row}
use Rattle.fsrm_model.specs.declared.row.JobRow.{JobRow}
use Rattle.fsrm_model.specs.objects.Jobs.{is_job, job_name, job_number}
use Rattle.fsrm_model.specs.values.Limits.{most_jobs, most_text_bytes}
use Rattle.fsrm_model.specs.values.Name.{names_differ}
use Rattle.fsrm_model.specs.values.Texts.{job_bytes}
use Rattle.fsrm_model.proofs.valid.NamesApart.{apart-with_row}
use Rattle.fsrm_objects.specs.Tables.{IsFault, Tables, job_fault, with_job}
use Rattle.stored_rows.proofs.Filled.{copied, fills}
use Rattle.stored_rows.proofs.Unrefused.{job_apart, job_short, job_unrefused, object_memory}
use Rattle.stored_rows.proofs.object_rows.put_jobs.Goals as goal

pub put_job-requires-clause-texts : goal.put_job-requires-clause-texts
put_job-requires-clause-texts c =
    let row = c.in_ok-copy.field-0 in
    job_short row (fills job_number is_job job_bytes most_jobs c.args.rows.now c.loop-row.row-index row c.requires.rows (omega arith) (copied c.args.rows.now c.loop-row.row-index c.row-item.result row c.in_ok-copy.ensures c.row-item.is)).passes

pub put_job-requires-clause-free : goal.put_job-requires-clause-free
put_job-requires-clause-free c =
    let row = c.in_ok-copy.field-0 in
    ap (λ (t : Tables). has_row job_number row.number t.jobs) c.loop-row.invariant.came
    ∙ (fills job_number is_job job_bytes most_jobs c.args.rows.now c.loop-row.row-index row c.requires.rows (omega arith) (copied c.args.rows.now c.loop-row.row-index c.row-item.result row c.in_ok-copy.ensures c.row-item.is)).free

pub returns-in_err-put_job-clause-only : goal.returns-in_err-put_job-clause-only
returns-in_err-put_job-clause-only c =
    let row = c.in_ok-copy.field-0 in
    let rows = c.args.rows.now in
    let i = c.loop-row.row-index in
    let f = fills job_number is_job job_bytes most_jobs c.args.rows.now c.loop-row.row-index row c.requires.rows (omega arith) (copied c.args.rows.now c.loop-row.row-index c.row-item.result row c.in_ok-copy.ensures c.row-item.is) in
    let due = job_fault c.loop-row.tables row most_text_bytes in
    let h : IfErr c.from_residual-in_err-put_job.result (λ fault. IsFault fault due) = search rules in
    IfErr-weaker c.from_residual-in_err-put_job.result (λ fault. IsFault fault due) _
    (λ fault is apart fits. object_memory fault due (job_unrefused rows c.loop-row.tables i row f (ap (λ (t : Tables). t.jobs) c.loop-row.invariant.came) apart fits) is) h

pub loop-row-preserved : goal.loop-row-preserved
loop-row-preserved c =
    let row = c.in_ok-copy.field-0 in
    let f = fills job_number is_job job_bytes most_jobs c.args.rows.now c.loop-row.row-index row c.requires.rows (omega arith) (copied c.args.rows.now c.loop-row.row-index c.row-item.result row c.in_ok-copy.ensures c.row-item.is) in
    record {
      came = c.in_ok-put_job.ensures.ok ∙ (ap (λ (t : Tables). with_job t row) c.loop-row.invariant.came ∙ ap (λ (js : List JobRow). record c.args.tables.now { jobs = js }) f.put);
      apart = ap (λ (t : Tables). names_differ job_name t.jobs) c.in_ok-put_job.ensures.ok
          ∙ apart-with_row job_number job_name row c.loop-row.tables.jobs (job_apart c.loop-row.tables row most_text_bytes c.in_ok-put_job.ensures.may) c.loop-row.invariant.apart;
    }
