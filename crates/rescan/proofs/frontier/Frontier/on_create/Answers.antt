use Rattle.rescan.proofs.followed.ChangeLaws.{created}
use Rattle.rescan.proofs.frontier.Frontier.on_create.Goals as goal

pub returns : goal.returns
returns c = record { follows = λ row found. created c.args.tree.now c.args.node row c.args.self.now c.requires.volume found c.requires.stands }
