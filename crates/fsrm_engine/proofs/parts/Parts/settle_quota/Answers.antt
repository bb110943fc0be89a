use Rattle.std.proofs.Common.{ℕ, Option, subst}
use Rattle.std.specs.Option.{option_copied}
use Rattle.thresholds.specs.Settled.{due_in}
use Rattle.fsrm_engine.specs.Machine.{Ran}
use Rattle.fsrm_engine.proofs.parts.Parts.settle_quota.Goals as goal

pub returns-clause-settled : goal.returns-clause-settled
returns-clause-settled c =
    let p = c.args.self.now in
    subst (λ (now : Option ℕ). Ran p c.settle_used.new.self c.args.moment (due_in p.objects (option_copied c.args.before) c.args.used now p.run_limit c.args.moment c.args.folder)) c.used-now.ensures c.settle_used.ensures.settled
