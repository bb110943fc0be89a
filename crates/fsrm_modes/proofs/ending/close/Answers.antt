use Rattle.fsrm_session.specs.Spending.{bytes_after}
use Rattle.fsrm_modes.proofs.Ends.{closed, closed_later, closed_whole}
use Rattle.fsrm_modes.proofs.Spent.{eased}
use Rattle.fsrm_modes.proofs.ending.close.Goals as goal

pub returns-in-ReadFault-clause-settled : goal.returns-in-ReadFault-clause-settled
returns-in-ReadFault-clause-settled g c is K R turns words before u =
    closed c.settle-settled.result c.args.session.now c.settle-settled.new.self c.args.outside.now c.settle-settled.new.outside c.settle-settled.ensures.runs c.settle-settled.ensures.memory K R turns words before u

pub returns-in-ReadFault-clause-whole : goal.returns-in-ReadFault-clause-whole
returns-in-ReadFault-clause-whole g c is K R turns words before u =
    closed_whole c.settle-settled.result c.args.session.now c.settle-settled.new.self c.args.outside.now c.settle-settled.new.outside c.settle-settled.ensures.runs c.settle-settled.ensures.memory c.settle-settled.ensures.empty c.settle-settled.ensures.counts K R turns words before u

pub returns-in-ReadFault-clause-write_later : goal.returns-in-ReadFault-clause-write_later
returns-in-ReadFault-clause-write_later g c = (closed_later c.settle-settled.result _ _ _ _ c.settle-settled.ensures.counts).0

pub returns-in-ReadFault-clause-disk_later : goal.returns-in-ReadFault-clause-disk_later
returns-in-ReadFault-clause-disk_later g c = (closed_later c.settle-settled.result _ _ _ _ c.settle-settled.ensures.counts).1

pub returns-in-ReadFault-clause-looks : goal.returns-in-ReadFault-clause-looks
returns-in-ReadFault-clause-looks g c is K R turns words before u =
    eased K R turns words before c.args.session.now c.args.outside.now c.args.steps.now c.settle-settled.new.steps (bytes_after c.settle-settled.result c.settle-settled.new.self) u c.settle-settled.ensures.looks
