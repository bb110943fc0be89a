use Rattle.std.proofs.Common.{◌∙◌, arith}
use Rattle.fsrm_outside.specs.Members.{Members}
use Rattle.fsrm_outside.proofs.OutsideLaws.{Laws}
use Rattle.fsrm_session.specs.Members.{members}
use Rattle.fsrm_session.proofs.Object.{laws_of}
use Rattle.fsrm_modes.specs.declared.status.Status.TheVariants.{NoMemory, WriteFault}
use Rattle.fsrm_modes.specs.Views.{view_cost, view_text}
use Rattle.fsrm_modes.proofs.ReplayEnds.{fault_quiet}
use Rattle.fsrm_modes.proofs.Showing.{done_not, fault_shows, front_shown, full_kept, full_not, text_shown, quiet_beside, write_not, write_rose}
use Rattle.fsrm_modes.proofs.Spent.{fault_shown, text_few}
use Rattle.fsrm_modes.proofs.WholeRuns.{fault_run, fault_show, opened_kept, refused_tells}
use Rattle.fsrm_modes.proofs.show.show.Given as given
use Rattle.fsrm_modes.proofs.show.show.Goals as goal

abbrev object : (g : given.Over) → Members g.row.O.Denot
object g = members g.O.Source g.O.Sink g.O.Disk

laws : (g : given.Over) → Laws (object g)
laws g = laws_of g.met.O.Sink g.met.O.Disk g.met.O.Outside

pub returns-in-Err-clause-shows : goal.returns-in-Err-clause-shows
returns-in-Err-clause-shows g c K R before b =
    fault_shows c.in-Err.fault c.from.result K R (view_text c.args.view K R) before c.args.outside.now c.recover.new.disk (laws g) c.from.ensures c.recover.ensures.by b

pub returns-in-Err-clause-store : goal.returns-in-Err-clause-store
returns-in-Err-clause-store g c parts reads =
    refused_tells parts c.in-Err.fault c.from.result c.from.ensures (c.in-Err.ensures.refused parts reads)

pub returns-in-Err-clause-quiet : goal.returns-in-Err-clause-quiet
returns-in-Err-clause-quiet g c parts reads none =
    fault_quiet c.args.outside.now c.recover.new.disk (laws g) c.recover.ensures.by c.recover.ensures.reads c.recover.ensures.crash

pub returns-in-Err-clause-left : goal.returns-in-Err-clause-left
returns-in-Err-clause-left g c =
    (g.met.O.Outside.disk_keeps_source c.args.outside.now c.recover.new.disk c.recover.ensures.by).same_left

pub returns-in-Err-clause-only : goal.returns-in-Err-clause-only
returns-in-Err-clause-only g c =
    fault_show c.recover.result c.in-Err.fault c.from.result c.in-Err.is c.recover.ensures.only c.from.ensures

pub returns-in-Err-clause-write_fault : goal.returns-in-Err-clause-write_fault
returns-in-Err-clause-write_fault g c =
    (fault_run (object g) c.recover.result c.in-Err.fault c.from.result c.args.outside.now c.recover.new.disk (laws g) c.in-Err.is c.from.ensures c.recover.ensures.by c.recover.ensures.later c.recover.ensures.failed c.recover.ensures.counted).write_fault

pub returns-in-Err-clause-disk_fault : goal.returns-in-Err-clause-disk_fault
returns-in-Err-clause-disk_fault g c =
    (fault_run (object g) c.recover.result c.in-Err.fault c.from.result c.args.outside.now c.recover.new.disk (laws g) c.in-Err.is c.from.ensures c.recover.ensures.by c.recover.ensures.later c.recover.ensures.failed c.recover.ensures.counted).disk_fault

pub returns-in-Err-clause-reads_kept : goal.returns-in-Err-clause-reads_kept
returns-in-Err-clause-reads_kept g c =
    (fault_run (object g) c.recover.result c.in-Err.fault c.from.result c.args.outside.now c.recover.new.disk (laws g) c.in-Err.is c.from.ensures c.recover.ensures.by c.recover.ensures.later c.recover.ensures.failed c.recover.ensures.counted).reads_kept

pub returns-in-Err-clause-writes_kept : goal.returns-in-Err-clause-writes_kept
returns-in-Err-clause-writes_kept g c =
    (fault_run (object g) c.recover.result c.in-Err.fault c.from.result c.args.outside.now c.recover.new.disk (laws g) c.in-Err.is c.from.ensures c.recover.ensures.by c.recover.ensures.later c.recover.ensures.failed c.recover.ensures.counted).writes_kept

pub returns-in-Err-clause-disk_kept : goal.returns-in-Err-clause-disk_kept
returns-in-Err-clause-disk_kept g c =
    (fault_run (object g) c.recover.result c.in-Err.fault c.from.result c.args.outside.now c.recover.new.disk (laws g) c.in-Err.is c.from.ensures c.recover.ensures.by c.recover.ensures.later c.recover.ensures.failed c.recover.ensures.counted).disk_kept

pub returns-in-Ok-write_store-clause-shows : goal.returns-in-Ok-write_store-clause-shows
returns-in-Ok-write_store-clause-shows g c K R before b =
    let first = c.args.outside.now in
    let mid = c.recover.new.disk in
    let last = c.write_store.new.sink in
    let by = c.recover.ensures.by in
    let opened = c.in-Ok.opened in
    text_shown (view_text c.args.view) K opened.engine.size R opened.engine.rows before first mid last (laws g) by b (c.in-Ok.ensures.state b.parts b.reads) c.in-Ok-write_store.ensures.whole

pub returns-in-Ok-write_store-clause-store : goal.returns-in-Ok-write_store-clause-store
returns-in-Ok-write_store-clause-store g c parts reads =
    (c.in-Ok.opened.engine.size, c.in-Ok.opened.engine.rows, c.in-Ok.ensures.state parts reads)

pub returns-in-Ok-write_store-clause-quiet : goal.returns-in-Ok-write_store-clause-quiet
returns-in-Ok-write_store-clause-quiet g c parts reads none =
    absurd (none c.in-Ok.opened.engine.size c.in-Ok.opened.engine.rows (c.in-Ok.ensures.state parts reads))

pub returns-in-Ok-write_store-clause-reads : goal.returns-in-Ok-write_store-clause-reads
returns-in-Ok-write_store-clause-reads g c =
    let mid = c.recover.new.disk in
    let last = c.write_store.new.sink in
    let by = c.recover.ensures.by in
    let wrote = c.write_store.ensures.device.by in
    let then_disk = g.met.O.Outside.write_keeps_disk mid last wrote in
    then_disk.same_reads ∙ c.recover.ensures.reads

pub returns-in-Ok-write_store-clause-left : goal.returns-in-Ok-write_store-clause-left
returns-in-Ok-write_store-clause-left g c =
    let first = c.args.outside.now in
    let mid = c.recover.new.disk in
    let last = c.write_store.new.sink in
    let by = c.recover.ensures.by in
    let wrote = c.write_store.ensures.device.by in
    let source = g.met.O.Outside.disk_keeps_source first mid by in
    let then_source = g.met.O.Outside.write_keeps_source mid last wrote in
    then_source.same_left ∙ source.same_left

pub returns-in-Ok-write_store-clause-crash : goal.returns-in-Ok-write_store-clause-crash
returns-in-Ok-write_store-clause-crash g c =
    let first = c.args.outside.now in
    let mid = c.recover.new.disk in
    let last = c.write_store.new.sink in
    let by = c.recover.ensures.by in
    let wrote = c.write_store.ensures.device.by in
    quiet_beside first mid last (laws g) by c.recover.ensures.crash wrote

pub returns-in-Ok-write_store-clause-reads_kept : goal.returns-in-Ok-write_store-clause-reads_kept
returns-in-Ok-write_store-clause-reads_kept g c =
    let first = c.args.outside.now in
    let mid = c.recover.new.disk in
    let last = c.write_store.new.sink in
    let by = c.recover.ensures.by in
    let wrote = c.write_store.ensures.device.by in
    let source = g.met.O.Outside.disk_keeps_source first mid by in
    let then_source = g.met.O.Outside.write_keeps_source mid last wrote in
    then_source.same_faults ∙ source.same_faults

pub returns-in-Ok-write_store-clause-writes_kept : goal.returns-in-Ok-write_store-clause-writes_kept
returns-in-Ok-write_store-clause-writes_kept g c =
    let first = c.args.outside.now in
    let mid = c.recover.new.disk in
    let by = c.recover.ensures.by in
    let sink = g.met.O.Outside.disk_keeps_sink first mid by in
    c.in-Ok-write_store.ensures.device.same ∙ sink.same_faults

pub returns-in-Ok-write_store-clause-disk_kept : goal.returns-in-Ok-write_store-clause-disk_kept
returns-in-Ok-write_store-clause-disk_kept g c =
    let mid = c.recover.new.disk in
    let last = c.write_store.new.sink in
    let by = c.recover.ensures.by in
    let wrote = c.write_store.ensures.device.by in
    let then_disk = g.met.O.Outside.write_keeps_disk mid last wrote in
    let opened = c.in-Ok.opened in
    (then_disk.same_faults ∙ opened_kept c.recover.result opened _ _ c.in-Ok.is c.recover.ensures.counted)

pub returns-in-Err-WriteFault-clause-shows : goal.returns-in-Err-WriteFault-clause-shows
returns-in-Err-WriteFault-clause-shows g c K R before b =
    let first = c.args.outside.now in
    let mid = c.recover.new.disk in
    let last = c.write_store.new.sink in
    let by = c.recover.ensures.by in
    let opened = c.in-Ok.opened in
    front_shown WriteFault (view_text c.args.view) K opened.engine.size R opened.engine.rows before first mid last (laws g) write_not.5 by b (c.in-Ok.ensures.state b.parts b.reads) c.in-Err-WriteFault.ensures.front

pub returns-in-Err-WriteFault-clause-store : goal.returns-in-Err-WriteFault-clause-store
returns-in-Err-WriteFault-clause-store g c parts reads =
    (c.in-Ok.opened.engine.size, c.in-Ok.opened.engine.rows, c.in-Ok.ensures.state parts reads)

pub returns-in-Err-WriteFault-clause-quiet : goal.returns-in-Err-WriteFault-clause-quiet
returns-in-Err-WriteFault-clause-quiet g c parts reads none =
    absurd (none c.in-Ok.opened.engine.size c.in-Ok.opened.engine.rows (c.in-Ok.ensures.state parts reads))

pub returns-in-Err-WriteFault-clause-reads : goal.returns-in-Err-WriteFault-clause-reads
returns-in-Err-WriteFault-clause-reads g c =
    let mid = c.recover.new.disk in
    let last = c.write_store.new.sink in
    let by = c.recover.ensures.by in
    let wrote = c.write_store.ensures.device.by in
    let then_disk = g.met.O.Outside.write_keeps_disk mid last wrote in
    then_disk.same_reads ∙ c.recover.ensures.reads

pub returns-in-Err-WriteFault-clause-left : goal.returns-in-Err-WriteFault-clause-left
returns-in-Err-WriteFault-clause-left g c =
    let first = c.args.outside.now in
    let mid = c.recover.new.disk in
    let last = c.write_store.new.sink in
    let by = c.recover.ensures.by in
    let wrote = c.write_store.ensures.device.by in
    let source = g.met.O.Outside.disk_keeps_source first mid by in
    let then_source = g.met.O.Outside.write_keeps_source mid last wrote in
    then_source.same_left ∙ source.same_left

pub returns-in-Err-WriteFault-clause-crash : goal.returns-in-Err-WriteFault-clause-crash
returns-in-Err-WriteFault-clause-crash g c =
    let first = c.args.outside.now in
    let mid = c.recover.new.disk in
    let last = c.write_store.new.sink in
    let by = c.recover.ensures.by in
    let wrote = c.write_store.ensures.device.by in
    quiet_beside first mid last (laws g) by c.recover.ensures.crash wrote

pub returns-in-Err-WriteFault-clause-reads_kept : goal.returns-in-Err-WriteFault-clause-reads_kept
returns-in-Err-WriteFault-clause-reads_kept g c =
    let first = c.args.outside.now in
    let mid = c.recover.new.disk in
    let last = c.write_store.new.sink in
    let by = c.recover.ensures.by in
    let wrote = c.write_store.ensures.device.by in
    let source = g.met.O.Outside.disk_keeps_source first mid by in
    let then_source = g.met.O.Outside.write_keeps_source mid last wrote in
    then_source.same_faults ∙ source.same_faults

pub returns-in-Err-WriteFault-clause-writes_kept : goal.returns-in-Err-WriteFault-clause-writes_kept
returns-in-Err-WriteFault-clause-writes_kept g c =
    let first = c.args.outside.now in
    let mid = c.recover.new.disk in
    let by = c.recover.ensures.by in
    let sink = g.met.O.Outside.disk_keeps_sink first mid by in
    omega (arith, c.write_store.ensures.device.later, sink.same_faults)

pub returns-in-Err-WriteFault-clause-write_fault : goal.returns-in-Err-WriteFault-clause-write_fault
returns-in-Err-WriteFault-clause-write_fault g c is =
    let first = c.args.outside.now in
    let mid = c.recover.new.disk in
    let by = c.recover.ensures.by in
    let sink = g.met.O.Outside.disk_keeps_sink first mid by in
    let rose = write_rose c.write_store.result c.in-Err-WriteFault.field-0 c.in-Err-WriteFault.is c.in-Err-WriteFault.field-0-is c.write_store.ensures.device.fault in
    omega (arith, rose, sink.same_faults)

pub returns-in-Err-WriteFault-clause-disk_kept : goal.returns-in-Err-WriteFault-clause-disk_kept
returns-in-Err-WriteFault-clause-disk_kept g c =
    let mid = c.recover.new.disk in
    let last = c.write_store.new.sink in
    let by = c.recover.ensures.by in
    let wrote = c.write_store.ensures.device.by in
    let then_disk = g.met.O.Outside.write_keeps_disk mid last wrote in
    let opened = c.in-Ok.opened in
    (then_disk.same_faults ∙ opened_kept c.recover.result opened _ _ c.in-Ok.is c.recover.ensures.counted)

pub returns-in-Err-NoMemory-clause-shows : goal.returns-in-Err-NoMemory-clause-shows
returns-in-Err-NoMemory-clause-shows g c K R before b =
    let first = c.args.outside.now in
    let mid = c.recover.new.disk in
    let last = c.write_store.new.sink in
    let by = c.recover.ensures.by in
    let opened = c.in-Ok.opened in
    front_shown NoMemory (view_text c.args.view) K opened.engine.size R opened.engine.rows before first mid last (laws g) full_not.6 by b (c.in-Ok.ensures.state b.parts b.reads) c.in-Err-NoMemory.ensures.front

pub returns-in-Err-NoMemory-clause-store : goal.returns-in-Err-NoMemory-clause-store
returns-in-Err-NoMemory-clause-store g c parts reads =
    tt

pub returns-in-Err-NoMemory-clause-quiet : goal.returns-in-Err-NoMemory-clause-quiet
returns-in-Err-NoMemory-clause-quiet g c parts reads none =
    absurd (none c.in-Ok.opened.engine.size c.in-Ok.opened.engine.rows (c.in-Ok.ensures.state parts reads))

pub returns-in-Err-NoMemory-clause-reads : goal.returns-in-Err-NoMemory-clause-reads
returns-in-Err-NoMemory-clause-reads g c =
    let mid = c.recover.new.disk in
    let last = c.write_store.new.sink in
    let by = c.recover.ensures.by in
    let wrote = c.write_store.ensures.device.by in
    let then_disk = g.met.O.Outside.write_keeps_disk mid last wrote in
    then_disk.same_reads ∙ c.recover.ensures.reads

pub returns-in-Err-NoMemory-clause-left : goal.returns-in-Err-NoMemory-clause-left
returns-in-Err-NoMemory-clause-left g c =
    let first = c.args.outside.now in
    let mid = c.recover.new.disk in
    let last = c.write_store.new.sink in
    let by = c.recover.ensures.by in
    let wrote = c.write_store.ensures.device.by in
    let source = g.met.O.Outside.disk_keeps_source first mid by in
    let then_source = g.met.O.Outside.write_keeps_source mid last wrote in
    then_source.same_left ∙ source.same_left

pub returns-in-Err-NoMemory-clause-crash : goal.returns-in-Err-NoMemory-clause-crash
returns-in-Err-NoMemory-clause-crash g c =
    let first = c.args.outside.now in
    let mid = c.recover.new.disk in
    let last = c.write_store.new.sink in
    let by = c.recover.ensures.by in
    let wrote = c.write_store.ensures.device.by in
    quiet_beside first mid last (laws g) by c.recover.ensures.crash wrote

pub returns-in-Err-NoMemory-clause-reads_kept : goal.returns-in-Err-NoMemory-clause-reads_kept
returns-in-Err-NoMemory-clause-reads_kept g c =
    let first = c.args.outside.now in
    let mid = c.recover.new.disk in
    let last = c.write_store.new.sink in
    let by = c.recover.ensures.by in
    let wrote = c.write_store.ensures.device.by in
    let source = g.met.O.Outside.disk_keeps_source first mid by in
    let then_source = g.met.O.Outside.write_keeps_source mid last wrote in
    then_source.same_faults ∙ source.same_faults

pub returns-in-Err-NoMemory-clause-writes_kept : goal.returns-in-Err-NoMemory-clause-writes_kept
returns-in-Err-NoMemory-clause-writes_kept g c =
    let first = c.args.outside.now in
    let mid = c.recover.new.disk in
    let by = c.recover.ensures.by in
    let sink = g.met.O.Outside.disk_keeps_sink first mid by in
    let same = full_kept c.write_store.result c.in-Err-NoMemory.field-0 _ _ c.in-Err-NoMemory.is c.in-Err-NoMemory.field-0-is c.write_store.ensures.device.same in
    omega (arith, same, sink.same_faults)

pub returns-in-Err-NoMemory-clause-disk_kept : goal.returns-in-Err-NoMemory-clause-disk_kept
returns-in-Err-NoMemory-clause-disk_kept g c =
    let mid = c.recover.new.disk in
    let last = c.write_store.new.sink in
    let by = c.recover.ensures.by in
    let wrote = c.write_store.ensures.device.by in
    let then_disk = g.met.O.Outside.write_keeps_disk mid last wrote in
    let opened = c.in-Ok.opened in
    let same = (then_disk.same_faults ∙ opened_kept c.recover.result opened _ _ c.in-Ok.is c.recover.ensures.counted) in omega (arith, same)

pub returns-in-Err-clause-reads : goal.returns-in-Err-clause-reads
returns-in-Err-clause-reads g c = c.recover.ensures.reads

pub returns-in-Err-clause-crash : goal.returns-in-Err-clause-crash
returns-in-Err-clause-crash g c = c.recover.ensures.crash

pub returns-in-Ok-write_store-clause-only : goal.returns-in-Ok-write_store-clause-only
returns-in-Ok-write_store-clause-only g c = (done_not.0, done_not.1, done_not.2, done_not.3)

pub returns-in-Ok-write_store-clause-write_fault : goal.returns-in-Ok-write_store-clause-write_fault
returns-in-Ok-write_store-clause-write_fault g c is = absurd (done_not.4 is)

pub returns-in-Ok-write_store-clause-disk_fault : goal.returns-in-Ok-write_store-clause-disk_fault
returns-in-Ok-write_store-clause-disk_fault g c is = absurd (done_not.5 is)

pub returns-in-Err-WriteFault-clause-only : goal.returns-in-Err-WriteFault-clause-only
returns-in-Err-WriteFault-clause-only g c = (write_not.0, write_not.1, write_not.2, write_not.3)

pub returns-in-Err-WriteFault-clause-disk_fault : goal.returns-in-Err-WriteFault-clause-disk_fault
returns-in-Err-WriteFault-clause-disk_fault g c is = absurd (write_not.4 is)

pub returns-in-Err-NoMemory-clause-only : goal.returns-in-Err-NoMemory-clause-only
returns-in-Err-NoMemory-clause-only g c = (full_not.0, full_not.1, full_not.2, full_not.3)

pub returns-in-Err-NoMemory-clause-write_fault : goal.returns-in-Err-NoMemory-clause-write_fault
returns-in-Err-NoMemory-clause-write_fault g c is = absurd (full_not.4 is)

pub returns-in-Err-NoMemory-clause-disk_fault : goal.returns-in-Err-NoMemory-clause-disk_fault
returns-in-Err-NoMemory-clause-disk_fault g c is = absurd (full_not.5 is)

-- ---- what it takes
pub returns-in-Err-clause-looks : goal.returns-in-Err-clause-looks
returns-in-Err-clause-looks g c K R before b = fault_shown b.parts (view_cost c.args.view R) c.args.steps.now c.recover.new.steps (c.recover.ensures.looks b.parts b.reads)

pub returns-in-Ok-write_store-clause-looks : goal.returns-in-Ok-write_store-clause-looks
returns-in-Ok-write_store-clause-looks g c K R before b =
    text_few b.parts K R c.in-Ok.opened (view_cost c.args.view) c.args.steps.now c.recover.new.steps c.write_store.new.steps (c.recover.ensures.looks b.parts b.reads) b.holds (c.in-Ok.ensures.state b.parts b.reads) c.write_store.ensures.looks

pub returns-in-Err-WriteFault-clause-looks : goal.returns-in-Err-WriteFault-clause-looks
returns-in-Err-WriteFault-clause-looks g c K R before b =
    text_few b.parts K R c.in-Ok.opened (view_cost c.args.view) c.args.steps.now c.recover.new.steps c.write_store.new.steps (c.recover.ensures.looks b.parts b.reads) b.holds (c.in-Ok.ensures.state b.parts b.reads) c.write_store.ensures.looks

pub returns-in-Err-NoMemory-clause-looks : goal.returns-in-Err-NoMemory-clause-looks
returns-in-Err-NoMemory-clause-looks g c K R before b =
    text_few b.parts K R c.in-Ok.opened (view_cost c.args.view) c.args.steps.now c.recover.new.steps c.write_store.new.steps (c.recover.ensures.looks b.parts b.reads) b.holds (c.in-Ok.ensures.state b.parts b.reads) c.write_store.ensures.looks
