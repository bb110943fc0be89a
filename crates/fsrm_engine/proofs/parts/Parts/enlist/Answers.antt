use Rattle.std.proofs.Common.{◌<◌, length, ap, sym, ◌∙◌, subst, arith}
use Rattle.fsrm_base.specs.Keyed.{with_row}
use Rattle.fsrm_model.specs.values.Limits.{most_quotas}
use Rattle.fsrm_model.specs.objects.Quota.{folder_of}
use Rattle.fsrm_model.specs.objects.QuotaStates.{queued}
use Rattle.fsrm_objects.proofs.FaultLaws.{admitted}
use Rattle.rescan.proofs.unvisited.FindLaws.{folder_low}
use Rattle.rescan.specs.Courses.{Course}
use Rattle.fsrm_engine.specs.declared.parts.Parts.{Parts}
use Rattle.fsrm_engine.specs.Faults.{text_room}
use Rattle.fsrm_engine.proofs.tables.TurnLaws.{turned, turned_sound, turned_from}
use Rattle.fsrm_engine.proofs.parts.Parts.enlist.Goals as goal

pub requeue-requires : goal.requeue-requires
requeue-requires c =
    let p = c.args.self.now in
    let s = c.requires.sound.scanning in
    let same = ap (λ (q : Parts). q.scans) c.in_ok-add.ensures.added in
    let may = admitted p.objects c.args.row (text_room p) c.in_ok-add.ensures.may in
    let few : length p.scans.queue < most_quotas = omega (arith, may.few, c.requires.waits) in
    record {
      room = subst (λ (t : Course). c.args.row.folder < t.front.room.nodes) (sym same) (folder_low p.tree p.scans.front c.args.row.folder s.volume s.fits c.requires.folder);
      few = λ out. subst (λ (t : Course). length t.queue < most_quotas) (sym same) few;
    }

pub returns-clause-listed : goal.returns-clause-listed
returns-clause-listed c =
    let p = c.args.self.now in
    let row = c.args.row in
    let t = c.requeue.new.scans in
    let same = ap (λ (q : Parts). q.scans) c.in_ok-add.ensures.added in
    turned p (record c.add.new.self { scans = t }) t (with_row folder_of row p.objects.quotas) (queued p.scans.queue row.folder row.state)
    (ap (λ (q : Parts). record q { scans = t }) c.in_ok-add.ensures.added)
    (turned_from c.add.new.self.scans p.scans t p.tree same (λ s. c.requeue.ensures.turns p.tree s c.requires.folder) c.requires.sound.scanning)
    (c.requeue.ensures.queue ∙ ap (λ (s : Course). queued s.queue row.folder row.state) same)

pub returns-clause-sound : goal.returns-clause-sound
returns-clause-sound c =
    let p = c.args.self.now in
    let row = c.args.row in
    let t = c.requeue.new.scans in
    let same = ap (λ (q : Parts). q.scans) c.in_ok-add.ensures.added in
    turned_sound p (record c.add.new.self { scans = t }) t (with_row folder_of row p.objects.quotas)
    (ap (λ (q : Parts). record q { scans = t }) c.in_ok-add.ensures.added) c.add.ensures.counted
    (turned_from c.add.new.self.scans p.scans t p.tree same (λ s. c.requeue.ensures.turns p.tree s c.requires.folder) c.requires.sound.scanning)
