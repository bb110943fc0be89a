use Rattle.std.proofs.Common.{List, refl, ap, sym, ◌∙◌, subst, ◌+◌, arith}
use Rattle.fsrm_model.specs.declared.row.QuotaRow.{QuotaRow}
use Rattle.fsrm_base.specs.Keyed.{is_ascending}
use Rattle.fsrm_model.specs.store.Lasting.{flagged_quota}
use Rattle.fsrm_model.specs.objects.Quota.{folder_of}
use Rattle.fsrm_base.proofs.Order.{ascending-change}
use Rattle.fsrm_objects.specs.Tables.{Tables}
use Rattle.fsrm_parts.proofs.tables.RaiseLaws.{RaisedTo, changed_next, raised_none, raised_whole, tables_kept}
use Rattle.fsrm_parts.proofs.flagging.flag_all.Goals as goal

pub loop-place-init : goal.loop-place-init
loop-place-init c = record { rest = refl; flagged_to = raised_none flagged_quota c.args.objects.now.quotas; ascending = c.requires }

pub loop-place-preserved : goal.loop-place-preserved
loop-place-preserved c =
    let i = c.loop-place.invariant in
    let is = ap (λ (t : Tables). t.quotas) c.flag.ensures in
    record {
      rest = tables_kept c.args.objects.now c.loop-place.objects c.flag.new.objects _ i.rest c.flag.ensures;
      flagged_to = subst (λ (rows : List QuotaRow). RaisedTo flagged_quota c.args.objects.now.quotas rows (c.loop-place.place + 1)) (sym is)
          (changed_next flagged_quota c.args.objects.now.quotas c.loop-place.objects.quotas c.loop-place.place c.quota_at.result.now i.ascending c.quota_at.ensures i.flagged_to);
      ascending = ap (is_ascending folder_of) is ∙ ascending-change folder_of c.quota_at.result.now.folder flagged_quota (λ q. refl) c.loop-place.objects.quotas i.ascending;
    }

pub returns : goal.returns
returns c =
    c.loop-place.invariant.rest
    ∙ ap (λ (rows : List QuotaRow). record c.args.objects.now { quotas = rows })
    (raised_whole flagged_quota c.args.objects.now.quotas c.loop-place.objects.quotas c.loop-place.place (omega (arith, c.quota_count-place-end.ensures.count, c.loop-place-test.false)) c.loop-place.invariant.flagged_to)
