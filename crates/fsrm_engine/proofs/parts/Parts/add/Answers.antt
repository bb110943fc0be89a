use Rattle.std.proofs.Common.{ℕ, ap, sym, ◌∙◌, subst}
use Rattle.std.proofs.lemmas.Result.{err_from_is_err_and}
use Rattle.fsrm_engine.specs.Faults.{text_room}
use Rattle.fsrm_objects.specs.Tables.{IsFault, Tables, quota_fault}
use Rattle.fsrm_objects.proofs.FaultLaws.{admitted}
use Rattle.fsrm_engine.proofs.tables.CountingLaws.{added, room_more, recounted_as}
use Rattle.fsrm_engine.proofs.tables.RoomLaws.{legal_thresholds, short_texts}
use Rattle.fsrm_engine.proofs.parts.Parts.add.Goals as goal

pub add_quota-requires : goal.add_quota-requires
add_quota-requires c = short_texts c.args.row.thresholds c.requires.thresholds

pub recount-requires : goal.recount-requires
recount-requires c =
    let p = c.args.self.now in
    let may = admitted p.objects c.args.row c.room-room.result c.in_ok-add_quota.ensures.may in
    record { room = λ t free. room_more p.tree.size p.tree.nodes p.objects.quotas p.usage c.requires.counted may.few }

pub returns-clause-counted : goal.returns-clause-counted
returns-clause-counted c =
    let p = c.args.self.now in
    let may = admitted p.objects c.args.row c.room-room.result c.in_ok-add_quota.ensures.may in
    added p.tree.size p.tree.nodes p.objects.quotas c.add_quota.new.self.quotas p.usage c.recount.new.usage c.args.row c.counts-counting.result c.requires.counted
    may.free may.few c.requires.folder c.requires.limit (legal_thresholds c.args.row.thresholds c.requires.ascending may.short c.requires.thresholds) c.requires.moment c.requires.nothing
    c.counts-counting.ensures
    (record { ended = c.recount.ensures.ended; begun = c.recount.ensures.begun; held = c.recount.ensures.held })
    (ap (λ (t : Tables). t.quotas) c.in_ok-add_quota.ensures.ok)

pub returns-clause-added : goal.returns-clause-added
returns-clause-added c = recounted_as c.args.self.now c.add_quota.new.self c.recount.new.usage _ c.in_ok-add_quota.ensures.ok (returns-clause-counted c)

pub returns-clause-may : goal.returns-clause-may
returns-clause-may c = ap (quota_fault c.args.self.now.objects c.args.row) (sym c.room-room.ensures) ∙ c.in_ok-add_quota.ensures.may

pub returns-in_err-add_quota-clause-refused : goal.returns-in_err-add_quota-clause-refused
returns-in_err-add_quota-clause-refused c =
    let p = err_from_is_err_and c.from_residual.result c.from_residual.ensures.1 in
    let fault : IsFault c.in_err-add_quota.field-0.0 (quota_fault c.args.self.now.objects c.args.row (text_room c.args.self.now)) =
    subst (λ (room : ℕ). IsFault c.in_err-add_quota.field-0.0 (quota_fault c.args.self.now.objects c.args.row room)) c.room-room.ensures c.in_err-add_quota.ensures.refused in
    rw (p.1, p.2) fault
