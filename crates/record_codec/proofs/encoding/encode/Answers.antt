use Rattle.record_codec.specs.Writing.{lent}
use Rattle.record_codec.proofs.EntryWriting.{writable_legal, written_whole}
use Rattle.record_codec.proofs.encoding.encode.Goals as goal

pub returns-clause-legal : goal.returns-clause-legal
returns-clause-legal c = writable_legal (lent c.args.entry.now) c.requires.writable c.put_entry.ensures.typed

pub returns-clause-written : goal.returns-clause-written
returns-clause-written c = (written_whole (lent c.args.entry.now) c.args.into.now c.put_entry.new.into c.put_entry.result c.requires.writable c.requires.room c.put_entry.ensures.written).1.0

pub returns-clause-length : goal.returns-clause-length
returns-clause-length c = (written_whole (lent c.args.entry.now) c.args.into.now c.put_entry.new.into c.put_entry.result c.requires.writable c.requires.room c.put_entry.ensures.written).0

pub returns-clause-short : goal.returns-clause-short
returns-clause-short c = (written_whole (lent c.args.entry.now) c.args.into.now c.put_entry.new.into c.put_entry.result c.requires.writable c.requires.room c.put_entry.ensures.written).1.1
