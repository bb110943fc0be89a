use Rattle.std.proofs.Common.{rules, sym, subst}
use Rattle.fsrm_model.specs.objects.Scan.{folders_under}
use Rattle.rescan.specs.Frontiers.{Front, Follows}
use Rattle.rescan.proofs.followed.FrontierLaws.{begins}
use Rattle.rescan.proofs.frontier.Frontier.start.Goals as goal

pub returns-clause-begun : goal.returns-clause-begun
returns-clause-begun c = search rules

pub returns-clause-follows : goal.returns-clause-follows
returns-clause-follows c = λ v volume fits h.
    subst (λ (f : Front). Follows f f v (folders_under v.nodes c.args.folder)) (sym (returns-clause-begun c)) (begins v c.args.self.now.room c.args.folder volume fits h)
