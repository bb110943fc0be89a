use Rattle.std.proofs.Common.{◌≤◌, length, sym, ap, subst, ◌∙◌, arith}
use Rattle.fsrm_outside.specs.Contents.{parts_in}
use Rattle.fsrm_outside.specs.Parts.{Parts, part_of}
use Rattle.fsrm_outside.proofs.Crashes.{replays, room_part, err_gives}
use Rattle.fsrm_outside.proofs.crash.replay.Goals as goal

pub write_at-requires : goal.write_at-requires
write_at-requires c =
    let r = replays (parts_in c.args.contents.now) c.args.calls.now c.loop-call.call-index c.call-item.result c.in-WriteAt.part c.in-WriteAt.place c.in-WriteAt.bytes c.loop-call-test.true c.call-item.is c.in-WriteAt.is c.requires.valid in
    subst (λ (p : Parts). c.in-WriteAt.place ≤ length (part_of c.in-WriteAt.part p)) (sym c.loop-call.invariant.parts) r.within

pub unreachable-requires : goal.unreachable-requires
unreachable-requires c =
    let r = replays (parts_in c.args.contents.now) c.args.calls.now c.loop-call.call-index c.call-item.result c.in-WriteAt.part c.in-WriteAt.place c.in-WriteAt.bytes c.loop-call-test.true c.call-item.is c.in-WriteAt.is c.requires.valid in
    let room = room_part c.loop-call.contents _ c.loop-call.invariant.room c.in-WriteAt.part in
    let full = err_gives c.write_at.result _ (sym c.is_err.ensures.value ∙ c.if-is_err.true) c.write_at.ensures.full in
    omega (arith, r.reached_end, room, full, ap length c.deref.ensures.value)
