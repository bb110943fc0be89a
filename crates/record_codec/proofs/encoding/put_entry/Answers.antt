use Rattle.record_codec.proofs.encoding.put_entry.Goals as goal

pub returns-in-Order-clause-written : goal.returns-in-Order-clause-written
returns-in-Order-clause-written c = rw c.in-Order.is c.put_order.ensures.written

pub returns-in-Op-clause-written : goal.returns-in-Op-clause-written
returns-in-Op-clause-written c = rw c.in-Op.is c.put_file_order.ensures.written

pub returns-in-Finish-clause-written : goal.returns-in-Finish-clause-written
returns-in-Finish-clause-written c = rw c.in-Finish.is c.put_finish.ensures.written
