use Rattle.std.proofs.Common.{◌≡◌, ◌+◌, ◌-◌, arith}
use Rattle.made_script.proofs.Making.{no_more, one_more}
use Rattle.made_script.proofs.work.Work.advance.Goals as goal

pub returns-then-self-eq0-clause-ended : goal.returns-then-self-eq0-clause-ended
returns-then-self-eq0-clause-ended c is = let w = c.args.self.now in no_more w.state (w.number + 1) w.left c.if-self-eq0.true

pub returns-clause-made : goal.returns-clause-made
returns-clause-made c is =
    let w = c.args.self.now in
    let some : w.left ≡ (w.left - 1) + 1 = omega arith in
    one_more w.state (w.number + 1) w.left (w.left - 1) c.make.new.state c.make.new.line.items some c.in_ok-make.ensures.made c.in_ok-make.ensures.state
