use Rattle.std.proofs.Common.{sym, arith}
use Rattle.fsrm_model.specs.declared.command.Deed.TheVariants.{File}
use Rattle.fsrm_model.specs.declared.command.FileOp.TheVariants.{Move}
use Rattle.fsrm_model.proofs.valid.ValidLaws.{folder_has}
use Rattle.fsrm_engine.proofs.coming.CarriedLaws.{judged_is, moved_old, quota_due, screen_due, source_due, to_it}
use Rattle.fsrm_engine.proofs.coming.MemoryLaws.{err_with, moved_wants}
use Rattle.fsrm_parts.proofs.tables.AnswerLaws.{on_err}
use Rattle.fsrm_engine.proofs.coming.SourceLaws.{source_bare}
use Rattle.fsrm_engine.proofs.judging.JudgedLaws.{told_one}
use Rattle.fsrm_engine.proofs.judging.NameLaws.{block_sound, blocked_op}
use Rattle.fsrm_engine.proofs.operations.ChargedLaws.{refused_op}
use Rattle.fsrm_engine.proofs.operations.FollowLaws.{move_nodes}
use Rattle.fsrm_engine.proofs.operations.MoveKept.{from_height, move_change, move_changes, move_fits, move_room, parent_there}
use Rattle.fsrm_engine.proofs.settling.RefuseLaws.{refused_sound, refuser_there}
use Rattle.fsrm_parts.proofs.walks.PlaceLaws.{has_resolved, place_depth}
use Rattle.fsrm_engine.proofs.steps.StepLaws.{refused_as}
use Rattle.fsrm_engine.proofs.parts.Parts.move_ready.Goals as goal

pub may_come-requires-clause-there : goal.may_come-requires-clause-there
may_come-requires-clause-there g c = c.moved_source-source.ensures.there

pub returns-in-Err-clause-ok : goal.returns-in-Err-clause-ok
returns-in-Err-clause-ok g c =
    let p = c.args.self.now in
    let source = c.moved_source-source.result in
    refused_as p c.args.moment (File (Move c.args.from.now c.args.to.now)) _ c.in-Err.refusal c.requires.ready.idle c.requires.ready.after
    (source_due p c.requires.ready.whole c.args.moment c.args.from.now c.args.to.now c.args.moving.now c.requires.moves source c.moved_source-source.ensures c.in-Err.refusal c.in-Err.ensures.refused)
    (source_bare p source c.in-Err.refusal c.in-Err.ensures.refused) c.refused.ensures

pub block-requires-clause-there : goal.block-requires-clause-there
block-requires-clause-there g c =
    let p = c.args.self.now in
    let judged = c.judge_moved-judged.result in
    let j = judged_is p c.requires.ready.whole c.args.moment c.args.from.now c.args.to.now c.args.moving.now c.requires.moves c.moved_source-source.result c.moved_source-source.ensures judged c.judge_moved-judged.ensures.judged in
    told_one p judged c.in-Some.active j.there c.in-Some.ensures.0

pub returns-in-Some-clause-ok : goal.returns-in-Some-clause-ok
returns-in-Some-clause-ok g c =
    let p = c.args.self.now in
    let v = c.args.moving.now in
    let judged = c.judge_moved-judged.result in
    let source = c.moved_source-source.result in
    let is = c.moved_source-source.ensures in
    let j = judged_is p c.requires.ready.whole c.args.moment c.args.from.now c.args.to.now v c.requires.moves source is judged c.judge_moved-judged.ensures.judged in
    blocked_op p c.block.new.self c.args.moment (Move c.args.from.now c.args.to.now) c.block.result judged c.in-Some.active v.owner v.place.folder v.place.name.now c.requires.ready.idle c.requires.ready.after
    (λ refusal h. screen_due p c.requires.ready.whole c.args.moment c.args.from.now c.args.to.now v c.requires.moves source is refusal c.in_default.ensures.may h)
    j c.in-Some.ensures.0 c.in-Some.ensures.1 c.block.ensures.blocked

pub returns-in-Some-clause-sound : goal.returns-in-Some-clause-sound
returns-in-Some-clause-sound g c =
    let p = c.args.self.now in
    let v = c.args.moving.now in
    let judged = c.judge_moved-judged.result in
    let j = judged_is p c.requires.ready.whole c.args.moment c.args.from.now c.args.to.now v c.requires.moves c.moved_source-source.result c.moved_source-source.ensures judged c.judge_moved-judged.ensures.judged in
    block_sound p c.block.new.self c.args.moment (Move c.args.from.now c.args.to.now) c.block.result judged c.in-Some.active v.owner v.place.folder v.place.name.now j c.in-Some.ensures.0 c.block.ensures.blocked c.block.ensures.counted c.requires.ready.whole.sound.scanning

pub moved_bytes-requires-clause-there : goal.moved_bytes-requires-clause-there
moved_bytes-requires-clause-there g c = has_resolved _ _ _ _ c.requires.ready.whole.sound.counted.volume c.requires.moves.resolved

pub moved_bytes-requires-clause-kind : goal.moved_bytes-requires-clause-kind
moved_bytes-requires-clause-kind g c = c.requires.moves.kind

pub returns-in_err-bytes-clause-memory : goal.returns-in_err-bytes-clause-memory
returns-in_err-bytes-clause-memory g c =
    let p = c.args.self.now in
    on_err _ (moved_wants p c.args.from.now c.args.to.now c.args.moving.now c.requires.moves c.in_err-bytes.ensures.memory)

pub admit-requires-clause-change : goal.admit-requires-clause-change
admit-requires-clause-change g c =
    let v = c.args.self.now.tree in
    let is = c.requires.moves in
    let k = c.requires.ready.whole.sound.counted.volume in
    record { from = parent_there v.size v.nodes c.args.moving.now.node c.args.moving.now.parent k (has_resolved _ _ _ _ k is.resolved) is.parent; to = folder_has v.nodes c.args.moving.now.place.folder is.at.folder_is }

pub admit-requires-clause-fits : goal.admit-requires-clause-fits
admit-requires-clause-fits g c =
    let p = c.args.self.now in
    let v = c.args.moving.now in
    let source = c.moved_source-source.result in
    let moved = moved_old p v.node source c.in_ok-bytes.bytes c.in_ok-bytes.ensures.moved in
    move_fits p.tree p.objects.quotas p.usage v.node v.place.folder v.place.name.now v.parent c.in_ok-bytes.bytes c.requires.ready.whole.sound.counted c.requires.moves.parent
    (to_it p c.requires.ready.whole c.args.moment c.args.from.now c.args.to.now v c.requires.moves source c.moved_source-source.ensures) moved

pub refuse-requires-clause-there : goal.refuse-requires-clause-there
refuse-requires-clause-there g c =
    let v = c.args.moving.now in
    refuser_there c.args.self.now (move_change v.parent v.place.folder c.in_ok-bytes.bytes) c.in-Err-admit.exceeded c.requires.ready.whole.sound.counted c.in-Err-admit.ensures.err

pub returns-in-Err-admit-clause-ok : goal.returns-in-Err-admit-clause-ok
returns-in-Err-admit-clause-ok g c =
    let p = c.args.self.now in
    let v = c.args.moving.now in
    let is = c.requires.moves in
    let judged = c.judge_moved-judged.result in
    let source = c.moved_source-source.result in
    let from = c.args.from.now in
    let to = c.args.to.now in
    let e = c.requires.ready.whole.sound.counted in
    let moved = moved_old p v.node source c.in_ok-bytes.bytes c.in_ok-bytes.ensures.moved in
    let j = judged_is p c.requires.ready.whole c.args.moment from to v is source c.moved_source-source.ensures judged c.judge_moved-judged.ensures.judged in
    refused_op p c.refuse.new.self c.args.moment (File (Move from to)) c.refuse.result (move_change v.parent v.place.folder c.in_ok-bytes.bytes) _ c.in-Err-admit.exceeded e c.requires.ready.idle c.requires.ready.after
    (quota_due p c.requires.ready.whole c.args.moment from to v is source c.moved_source-source.ensures judged c.in_default.ensures.may j c.in_default-blocking.ensures)
    (sym (move_nodes p.tree from to v.node v.place.folder v.place.name.now c.args.moment is.resolved is.at))
    (move_changes p.tree.size p.tree.nodes p.objects.quotas v.node v.place.folder v.place.name.now v.parent c.in_ok-bytes.bytes e.volume e.are_quotas is.parent
    (to_it p c.requires.ready.whole c.args.moment from to v is source c.moved_source-source.ensures) moved)
    c.in-Err-admit.ensures.err c.refuse.ensures.refused

pub returns-in-Err-admit-clause-sound : goal.returns-in-Err-admit-clause-sound
returns-in-Err-admit-clause-sound g c =
    refused_sound c.args.self.now c.refuse.new.self c.args.moment c.in-Err-admit.exceeded c.refuse.result c.refuse.ensures.refused c.refuse.ensures.counted c.requires.ready.whole.sound.scanning

pub make_move-requires-clause-may : goal.make_move-requires-clause-may
make_move-requires-clause-may g c = record {
  is = c.requires.moves;
  source_is = c.moved_source-source.ensures;
  may_come = c.in_default.ensures.may;
  judged_is = c.judge_moved-judged.ensures.judged;
  passive = c.in_default-blocking.ensures;
  moved = c.in_ok-bytes.ensures.moved;
  admitted = c.in_default-admit.ensures.ok;
}

pub returns-in-Some-clause-looks : goal.returns-in-Some-clause-looks
returns-in-Some-clause-looks g c =
    omega (arith, c.judge_moved-judged.ensures.looks, place_depth _ _ _ _ _ c.requires.ready.whole.sound.counted.volume c.requires.moves.at)

pub returns-in_err-bytes-clause-looks : goal.returns-in_err-bytes-clause-looks
returns-in_err-bytes-clause-looks g c =
    let v = c.args.self.now.tree in
    omega (
      arith,
      c.judge_moved-judged.ensures.looks,
      c.moved_bytes.ensures.looks,
      place_depth _ _ _ _ _ c.requires.ready.whole.sound.counted.volume c.requires.moves.at,
      move_room v.size v.nodes c.args.from.now c.args.to.now c.args.moving.now.node c.requires.ready.whole.sound.counted.volume c.requires.moves.resolved,
    )

pub returns-in-Err-admit-clause-looks : goal.returns-in-Err-admit-clause-looks
returns-in-Err-admit-clause-looks g c =
    let v = c.args.self.now.tree in
    let k = c.requires.ready.whole.sound.counted.volume in
    let is = c.requires.moves in
    omega (
      arith,
      c.judge_moved-judged.ensures.looks,
      c.in_ok-bytes.ensures.looks,
      c.in-Err-admit.ensures.looks,
      place_depth _ _ _ _ _ k is.at,
      from_height v.size v.nodes c.args.from.now c.args.moving.now.node c.args.moving.now.parent k is.resolved is.inner is.parent,
      move_room v.size v.nodes c.args.from.now c.args.to.now c.args.moving.now.node k is.resolved,
    )

pub returns-clause-looks : goal.returns-clause-looks
returns-clause-looks g c =
    let v = c.args.self.now.tree in
    let k = c.requires.ready.whole.sound.counted.volume in
    let is = c.requires.moves in
    omega (
      arith,
      c.judge_moved-judged.ensures.looks,
      c.in_ok-bytes.ensures.looks,
      c.in_default-admit.ensures.looks,
      c.make_move.ensures.looks,
      place_depth _ _ _ _ _ k is.at,
      from_height v.size v.nodes c.args.from.now c.args.moving.now.node c.args.moving.now.parent k is.resolved is.inner is.parent,
      move_room v.size v.nodes c.args.from.now c.args.to.now c.args.moving.now.node k is.resolved,
    )

pub returns-clause-memory : goal.returns-clause-memory
returns-clause-memory g c =
    err_with c.make_move.result (moved_wants c.args.self.now c.args.from.now c.args.to.now c.args.moving.now c.requires.moves) c.make_move.ensures.memory
