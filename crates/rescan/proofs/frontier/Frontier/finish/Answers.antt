use Rattle.std.proofs.Common.{◌∙◌, ap}
use Rattle.rescan.specs.Frontiers.{Front}
use Rattle.rescan.proofs.followed.FrontierLaws.{ends}
use Rattle.rescan.proofs.frontier.Frontier.finish.Goals as goal

pub returns-clause-fresh : goal.returns-clause-fresh
returns-clause-fresh c = λ v s. ap (λ (f : Front). f.sum) c.self.view_is ∙ ends v c.args.self.now s c.requires
