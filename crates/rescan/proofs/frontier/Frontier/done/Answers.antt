use Rattle.std.proofs.Common.{◌∙◌, ap, length, ◌==◌}
use Rattle.rescan.specs.Frontiers.{Front}
use Rattle.rescan.proofs.followed.FrontierLaws.{none_left}
use Rattle.rescan.proofs.frontier.Frontier.done.Goals as goal

pub returns-clause-done : goal.returns-clause-done
returns-clause-done c = λ v s. c.is_empty.ensures ∙ (ap (λ (f : Front). length f.tops == 0) c.self.view_is ∙ none_left v c.args.self.now s)
