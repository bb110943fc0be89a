use Rattle.std.proofs.Common.{rules}
use Rattle.templates.proofs.UpdateLaws.{update_due}
use Rattle.templates.proofs.templates.Templates.modify.Goals as goal

pub returns-in_err-reached-clause-refused : goal.returns-in_err-reached-clause-refused
returns-in_err-reached-clause-refused c =
    rw (update_due c.args.self.now c.args.objects.now.quotas c.args.row c.there-old.result.now c.args.mode c.args.room c.there-old.ensures.ascending c.there-old.ensures.found) (search rules)
