use Rattle.std.proofs.Common.{sym, arith, length-append}
use Rattle.record_fields.specs.Formats.{number_spelled}
use Rattle.image_codec.proofs.LengthLaws.{number_long, node_long, auto_long, except_long, act_long, audit_long}
use Rattle.image_codec.proofs.lengths.row_len.Goals as goal

pub returns-in-Start : goal.returns-in-Start
returns-in-Start c =
    let s = c.in-Start in
    rw c.in-Start.is (omega (arith, length-append (number_spelled 8 s.last_moment) (number_spelled 4 s.run_limit), number_long 8 s.last_moment, number_long 4 s.run_limit))

pub returns-in-Count : goal.returns-in-Count
returns-in-Count c = rw c.in-Count.is (sym (number_long 4 c.in-Count.field-0))

pub returns-in-Node : goal.returns-in-Node
returns-in-Node c =
    let n = c.in-Node in
    rw c.in-Node.is
    (sym (node_long (record {
      number = n.number;
      parent = n.parent;
      name = n.name.now;
      folder = n.folder;
      length = n.length;
      owner = n.owner;
      created = n.created;
      modified = n.modified;
      accessed = n.accessed;
    })))

pub returns-in-Auto : goal.returns-in-Auto
returns-in-Auto c = rw c.in-Auto.is (omega (arith, auto_long c.in-Auto.row.now, c.rows_len.ensures.exact))

pub returns-in-Except : goal.returns-in-Except
returns-in-Except c = rw c.in-Except.is (omega (arith, except_long c.in-Except.row.now, c.rows_len-in-Except.ensures.exact))

pub returns-in-Act : goal.returns-in-Act
returns-in-Act c = rw c.in-Act.is (sym (act_long c.in-Act.field-0))

pub returns-in-Audit : goal.returns-in-Audit
returns-in-Audit c =
    let e = c.in-Audit in
    rw c.in-Audit.is
    (sym (audit_long (record { moment = e.moment; active = e.active; owner = e.owner; folder = e.folder; screen = e.screen; name = e.name.now })))
