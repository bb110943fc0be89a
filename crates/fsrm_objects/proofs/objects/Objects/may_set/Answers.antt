use Rattle.std.proofs.Common.{◌∙◌, sym, arith}
use Rattle.fsrm_base.proofs.SortedRows.{has_lent}
use Rattle.fsrm_model.specs.objects.Quota.{folder_of}
use Rattle.fsrm_objects.proofs.QuotaRows.{quota_fits}
use Rattle.fsrm_objects.proofs.objects.Objects.may_set.Goals as goal

pub unwrap-old-requires : goal.unwrap-old-requires
unwrap-old-requires c =
    has_lent folder_of c.args.row.now.folder c.self.inside.quotas.rows c.get.result c.get.ensures.row ∙ (rw (← c.self.view_is) at c.requires.there)

pub threshold_texts-bytes-requires : goal.threshold_texts-bytes-requires
threshold_texts-bytes-requires c = omega (arith, quota_fits c.args.row.now (sym c.are_too_many.ensures ∙ c.if-are_too_many.false) c.requires.texts)
