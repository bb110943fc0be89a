use Rattle.fsrm_base.specs.Keyed.{with_change}
use Rattle.fsrm_model.specs.objects.Quota.{folder_of}
use Rattle.fsrm_model.specs.objects.QuotaStates.{queued}
use Rattle.fsrm_engine.proofs.tables.TurnLaws.{turned, turned_sound}
use Rattle.fsrm_engine.proofs.parts.Parts.replace.Goals as goal

pub returns-clause-replaced : goal.returns-clause-replaced
returns-clause-replaced c =
    let p = c.args.self.now in
    let row = c.args.row in
    turned p c.put.new.self c.requeue.new.scans (with_change folder_of row.folder (λ old. row) p.objects.quotas) (queued p.scans.queue row.folder row.state) c.put.ensures.put
    (c.requeue.ensures.turns p.tree c.requires.sound.scanning c.requires.folder) c.requeue.ensures.queue

pub returns-clause-sound : goal.returns-clause-sound
returns-clause-sound c =
    let p = c.args.self.now in
    let row = c.args.row in
    turned_sound p c.put.new.self c.requeue.new.scans (with_change folder_of row.folder (λ old. row) p.objects.quotas) c.put.ensures.put c.put.ensures.counted
    (c.requeue.ensures.turns p.tree c.requires.sound.scanning c.requires.folder)
