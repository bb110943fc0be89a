use Rattle.std.proofs.Common.{rules}
use Rattle.std.specs.Prelude.{flat_map}
use Rattle.line_parts.specs.Parts.{part_text}
use Rattle.fsrm_session.specs.Members.{members}
use Rattle.fsrm_session.specs.Underway.{StopsTelling, Tells}
use Rattle.fsrm_session.specs.declared.session.Session.{Session}
use Rattle.fsrm_session.specs.declared.stop.Stop.TheVariants as stops
use Rattle.fsrm_session.proofs.Object.{laws_of}
use Rattle.fsrm_session.proofs.Said.{alike_own}
use Rattle.fsrm_session.proofs.Told.{ended_as, tells_stops, written_tells}
use Rattle.fsrm_session.proofs.session.Session.write_parts.Goals as goal

pub returns-in-Ok-clause-runs : goal.returns-in-Ok-clause-runs
returns-in-Ok-clause-runs g c =
    let was = c.args.self.now in
    let text = flat_map part_text c.args.parts.now in
    let batch = c.send.new.sink in
    let next : Session = record { store = was.store; kept = batch.waiting.now; alloc = was.alloc; scratch = was.scratch } in
    let writes = c.in-Ok.ensures.writes in
    let by = writes.device.by in
    ended_as (λ d. Tells (members g.O.Source g.O.Sink g.O.Disk) text was next c.args.outside.now d) _ batch.device.now _ batch.device.ghost_name by.same_device (search rules)
    (written_tells text was next c.args.outside.now batch.device.now (laws_of g.met.O.Sink g.met.O.Disk g.met.O.Outside) c.requires.none (alike_own was.store) by.device_by writes.text by.grows)

pub returns-in-Err-WriteFault-clause-runs : goal.returns-in-Err-WriteFault-clause-runs
returns-in-Err-WriteFault-clause-runs g c =
    let was = c.args.self.now in
    let text = flat_map part_text c.args.parts.now in
    let batch = c.send.new.sink in
    let next : Session = record { store = was.store; kept = batch.waiting.now; alloc = was.alloc; scratch = was.scratch } in
    let writes = c.in-Err-WriteFault.ensures.writes in
    let by = writes.device.by in
    let part = writes.text.front in
    ended_as (λ d. StopsTelling (members g.O.Source g.O.Sink g.O.Disk) stops.WriteFault text was next c.args.outside.now d) _ batch.device.now _ batch.device.ghost_name by.same_device (search rules)
    (tells_stops stops.WriteFault part text was next c.args.outside.now batch.device.now writes.text.is_front
    (written_tells part was next c.args.outside.now batch.device.now (laws_of g.met.O.Sink g.met.O.Disk g.met.O.Outside) c.requires.none (alike_own was.store) by.device_by writes.text.shown by.grows))

pub returns-in-Err-NoMemory-clause-runs : goal.returns-in-Err-NoMemory-clause-runs
returns-in-Err-NoMemory-clause-runs g c =
    let was = c.args.self.now in
    let text = flat_map part_text c.args.parts.now in
    let batch = c.send.new.sink in
    let next : Session = record { store = was.store; kept = batch.waiting.now; alloc = was.alloc; scratch = was.scratch } in
    let writes = c.in-Err-NoMemory.ensures.writes in
    let by = writes.device.by in
    let part = writes.text.front in
    ended_as (λ d. StopsTelling (members g.O.Source g.O.Sink g.O.Disk) stops.NoMemory text was next c.args.outside.now d) _ batch.device.now _ batch.device.ghost_name by.same_device (search rules)
    (tells_stops stops.NoMemory part text was next c.args.outside.now batch.device.now writes.text.is_front
    (written_tells part was next c.args.outside.now batch.device.now (laws_of g.met.O.Sink g.met.O.Disk g.met.O.Outside) c.requires.none (alike_own was.store) by.device_by writes.text.shown by.grows))

pub returns-in-Ok-clause-few : goal.returns-in-Ok-clause-few
returns-in-Ok-clause-few g c = c.in-Ok.ensures.writes.device.by.few

pub returns-in-Err-WriteFault-clause-few : goal.returns-in-Err-WriteFault-clause-few
returns-in-Err-WriteFault-clause-few g c = c.in-Err-WriteFault.ensures.writes.device.by.few

pub returns-in-Err-NoMemory-clause-few : goal.returns-in-Err-NoMemory-clause-few
returns-in-Err-NoMemory-clause-few g c = c.in-Err-NoMemory.ensures.writes.device.by.few
