use Rattle.fsrm_model.specs.declared.row.QuotaState.TheVariants.{Rebuilding}
use Rattle.fsrm_base.specs.Keyed.{with_change}
use Rattle.fsrm_model.specs.objects.Quota.{folder_of}
use Rattle.fsrm_model.specs.objects.QuotaStates.{in_state, queued}
use Rattle.fsrm_engine.proofs.tables.TurnLaws.{turned, turned_sound}
use Rattle.fsrm_engine.proofs.parts.Parts.rebuild.Goals as goal

pub returns-clause-rebuilt : goal.returns-clause-rebuilt
returns-clause-rebuilt c =
    let p = c.args.self.now in
    let n = c.args.folder in
    turned p c.uncount.new.self c.requeue.new.scans (with_change folder_of n (in_state Rebuilding) p.objects.quotas) (queued p.scans.queue n Rebuilding) c.uncount.ensures.rebuilt
    (c.requeue.ensures.turns p.tree c.requires.sound.scanning c.requires.folder) c.requeue.ensures.queue

pub returns-clause-sound : goal.returns-clause-sound
returns-clause-sound c =
    let p = c.args.self.now in
    turned_sound p c.uncount.new.self c.requeue.new.scans (with_change folder_of c.args.folder (in_state Rebuilding) p.objects.quotas) c.uncount.ensures.rebuilt c.uncount.ensures.counted
    (c.requeue.ensures.turns p.tree c.requires.sound.scanning c.requires.folder)
