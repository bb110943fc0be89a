use Rattle.std.proofs.Common.{◌≡◌, ◌==◌, true, false, None, sym, ◌∙◌, subst, arith}
use Rattle.fsrm_model.specs.declared.command.Deed.TheVariants.{File}
use Rattle.fsrm_model.specs.declared.command.FileOp.TheVariants.{Move}
use Rattle.fsrm_base.specs.Keyed.{has_row}
use Rattle.fsrm_model.specs.values.Name.{is_name}
use Rattle.fsrm_model.specs.nodes.Tree.{number, is_folder}
use Rattle.volume_tree.specs.Volume.{Move as Moving, move_fault}
use Rattle.fsrm_engine.specs.declared.parts.Parts.{Parts}
use Rattle.fsrm_engine.proofs.coming.CarriedLaws.{carried, going, judged_is}
use Rattle.fsrm_parts.proofs.tables.AnswerLaws.{on_err}
use Rattle.fsrm_engine.proofs.coming.SourceLaws.{moved_known}
use Rattle.fsrm_engine.proofs.judging.DoneLaws.{done_named, sound_named}
use Rattle.fsrm_engine.proofs.judging.NameLaws.{answers_it}
use Rattle.fsrm_engine.proofs.parts.Parts.make_move.Goals as goal

pub receive_moved-requires-clause-there : goal.receive_moved-requires-clause-there
receive_moved-requires-clause-there g c =
    c.requires.may.source_is.there

pub receive_moved-requires-clause-kind : goal.receive_moved-requires-clause-kind
receive_moved-requires-clause-kind g c = λ h.
    let v = c.args.moving.now in
    c.requires.may.is.kind ∙ (moved_known c.args.self.now v.node v.folder v.place.folder v.place.name.now c.args.source c.requires.may.source_is.is h).moves

pub receive_moved-requires-clause-absent : goal.receive_moved-requires-clause-absent
receive_moved-requires-clause-absent g c = λ h.
    let v = c.args.moving.now in
    (moved_known c.args.self.now v.node v.folder v.place.folder v.place.name.now c.args.source c.requires.may.source_is.is h).absent

pub follow_move-requires-clause-there : goal.follow_move-requires-clause-there
follow_move-requires-clause-there g c =
    (going c.args.self.now c.receive_moved.new.self c.args.from.now c.args.to.now c.args.moving.now _ c.requires.ready.whole c.requires.may.is c.in_ok-receive_moved.ensures.received).there

pub follow_move-requires-clause-folder : goal.follow_move-requires-clause-folder
follow_move-requires-clause-folder g c =
    (going c.args.self.now c.receive_moved.new.self c.args.from.now c.args.to.now c.args.moving.now _ c.requires.ready.whole c.requires.may.is c.in_ok-receive_moved.ensures.received).folder

pub follow_move-requires-clause-apart : goal.follow_move-requires-clause-apart
follow_move-requires-clause-apart g c =
    (going c.args.self.now c.receive_moved.new.self c.args.from.now c.args.to.now c.args.moving.now _ c.requires.ready.whole c.requires.may.is c.in_ok-receive_moved.ensures.received).apart

pub make_move-requires-clause-there : goal.make_move-requires-clause-there
make_move-requires-clause-there g c =
    let q = c.receive_moved.new.self in
    subst (λ (m : Moving). has_row number m.node q.tree.nodes ≡ true) (sym c.requires.ready_move)
    (going c.args.self.now q c.args.from.now c.args.to.now c.args.moving.now _ c.requires.ready.whole c.requires.may.is c.in_ok-receive_moved.ensures.received).there

pub make_move-requires-clause-inner : goal.make_move-requires-clause-inner
make_move-requires-clause-inner g c =
    let q = c.receive_moved.new.self in
    subst (λ (m : Moving). (m.node == 0) ≡ false) (sym c.requires.ready_move)
    c.requires.may.is.inner

pub make_move-requires-clause-folder : goal.make_move-requires-clause-folder
make_move-requires-clause-folder g c =
    let q = c.receive_moved.new.self in
    subst (λ (m : Moving). is_folder q.tree.nodes m.folder ≡ true) (sym c.requires.ready_move)
    (going c.args.self.now q c.args.from.now c.args.to.now c.args.moving.now _ c.requires.ready.whole c.requires.may.is c.in_ok-receive_moved.ensures.received).folder

pub make_move-requires-clause-name : goal.make_move-requires-clause-name
make_move-requires-clause-name g c =
    let q = c.receive_moved.new.self in
    subst (λ (m : Moving). is_name m.name ≡ true) (sym c.requires.ready_move)
    c.requires.may.is.at.valid

pub make_move-requires-clause-may : goal.make_move-requires-clause-may
make_move-requires-clause-may g c =
    let q = c.receive_moved.new.self in
    subst (λ (m : Moving). move_fault q.tree m.node m.folder m.name ≡ None) (sym c.requires.ready_move)
    (going c.args.self.now q c.args.from.now c.args.to.now c.args.moving.now _ c.requires.ready.whole c.requires.may.is c.in_ok-receive_moved.ensures.received).may

pub end_named-requires-clause-there : goal.end_named-requires-clause-there
end_named-requires-clause-there g c =
    (carried c.args.self.now c.receive_moved.new.self c.requires.ready.whole c.requires.ready.idle c.args.moment c.requires.ready.after c.requires.ready.in_range c.args.from.now c.args.to.now c.args.moving.now c.args.source c.args.judged c.args.change.now c.requires.may c.requires.change
    c.follow_move.new.self c.make_move.new.self c.args.ready c.in_ok-receive_moved.ensures.received c.receive_moved.ensures.sound c.requires.ready_move c.follow_move.ensures.follows c.make_move.ensures.made c.make_move.ensures.kept).there

pub end_named-requires-clause-few : goal.end_named-requires-clause-few
end_named-requires-clause-few g c =
    (carried c.args.self.now c.receive_moved.new.self c.requires.ready.whole c.requires.ready.idle c.args.moment c.requires.ready.after c.requires.ready.in_range c.args.from.now c.args.to.now c.args.moving.now c.args.source c.args.judged c.args.change.now c.requires.may c.requires.change
    c.follow_move.new.self c.make_move.new.self c.args.ready c.in_ok-receive_moved.ensures.received c.receive_moved.ensures.sound c.requires.ready_move c.follow_move.ensures.follows c.make_move.ensures.made c.make_move.ensures.kept).few

pub end_named-requires-clause-quotas : goal.end_named-requires-clause-quotas
end_named-requires-clause-quotas g c =
    (carried c.args.self.now c.receive_moved.new.self c.requires.ready.whole c.requires.ready.idle c.args.moment c.requires.ready.after c.requires.ready.in_range c.args.from.now c.args.to.now c.args.moving.now c.args.source c.args.judged c.args.change.now c.requires.may c.requires.change
    c.follow_move.new.self c.make_move.new.self c.args.ready c.in_ok-receive_moved.ensures.received c.receive_moved.ensures.sound c.requires.ready_move c.follow_move.ensures.follows c.make_move.ensures.made c.make_move.ensures.kept).quotas

pub end_named-requires-clause-change : goal.end_named-requires-clause-change
end_named-requires-clause-change g c =
    (carried c.args.self.now c.receive_moved.new.self c.requires.ready.whole c.requires.ready.idle c.args.moment c.requires.ready.after c.requires.ready.in_range c.args.from.now c.args.to.now c.args.moving.now c.args.source c.args.judged c.args.change.now c.requires.may c.requires.change
    c.follow_move.new.self c.make_move.new.self c.args.ready c.in_ok-receive_moved.ensures.received c.receive_moved.ensures.sound c.requires.ready_move c.follow_move.ensures.follows c.make_move.ensures.made c.make_move.ensures.kept).there_both

pub end_named-requires-clause-fits : goal.end_named-requires-clause-fits
end_named-requires-clause-fits g c =
    (carried c.args.self.now c.receive_moved.new.self c.requires.ready.whole c.requires.ready.idle c.args.moment c.requires.ready.after c.requires.ready.in_range c.args.from.now c.args.to.now c.args.moving.now c.args.source c.args.judged c.args.change.now c.requires.may c.requires.change
    c.follow_move.new.self c.make_move.new.self c.args.ready c.in_ok-receive_moved.ensures.received c.receive_moved.ensures.sound c.requires.ready_move c.follow_move.ensures.follows c.make_move.ensures.made c.make_move.ensures.kept).fits

pub end_named-requires-clause-covered : goal.end_named-requires-clause-covered
end_named-requires-clause-covered g c =
    (carried c.args.self.now c.receive_moved.new.self c.requires.ready.whole c.requires.ready.idle c.args.moment c.requires.ready.after c.requires.ready.in_range c.args.from.now c.args.to.now c.args.moving.now c.args.source c.args.judged c.args.change.now c.requires.may c.requires.change
    c.follow_move.new.self c.make_move.new.self c.args.ready c.in_ok-receive_moved.ensures.received c.receive_moved.ensures.sound c.requires.ready_move c.follow_move.ensures.follows c.make_move.ensures.made c.make_move.ensures.kept).covered

pub end_named-requires-clause-counted : goal.end_named-requires-clause-counted
end_named-requires-clause-counted g c =
    (carried c.args.self.now c.receive_moved.new.self c.requires.ready.whole c.requires.ready.idle c.args.moment c.requires.ready.after c.requires.ready.in_range c.args.from.now c.args.to.now c.args.moving.now c.args.source c.args.judged c.args.change.now c.requires.may c.requires.change
    c.follow_move.new.self c.make_move.new.self c.args.ready c.in_ok-receive_moved.ensures.received c.receive_moved.ensures.sound c.requires.ready_move c.follow_move.ensures.follows c.make_move.ensures.made c.make_move.ensures.kept).counted

pub end_named-requires-clause-idle : goal.end_named-requires-clause-idle
end_named-requires-clause-idle g c =
    (carried c.args.self.now c.receive_moved.new.self c.requires.ready.whole c.requires.ready.idle c.args.moment c.requires.ready.after c.requires.ready.in_range c.args.from.now c.args.to.now c.args.moving.now c.args.source c.args.judged c.args.change.now c.requires.may c.requires.change
    c.follow_move.new.self c.make_move.new.self c.args.ready c.in_ok-receive_moved.ensures.received c.receive_moved.ensures.sound c.requires.ready_move c.follow_move.ensures.follows c.make_move.ensures.made c.make_move.ensures.kept).idle

pub end_named-requires-clause-log : goal.end_named-requires-clause-log
end_named-requires-clause-log g c =
    (carried c.args.self.now c.receive_moved.new.self c.requires.ready.whole c.requires.ready.idle c.args.moment c.requires.ready.after c.requires.ready.in_range c.args.from.now c.args.to.now c.args.moving.now c.args.source c.args.judged c.args.change.now c.requires.may c.requires.change
    c.follow_move.new.self c.make_move.new.self c.args.ready c.in_ok-receive_moved.ensures.received c.receive_moved.ensures.sound c.requires.ready_move c.follow_move.ensures.follows c.make_move.ensures.made c.make_move.ensures.kept).log

pub returns-clause-ok : goal.returns-clause-ok
returns-clause-ok g c =
    let p = c.args.self.now in
    let v = c.args.moving.now in
    let op = Move c.args.from.now c.args.to.now in
    let k = carried p c.receive_moved.new.self c.requires.ready.whole c.requires.ready.idle c.args.moment c.requires.ready.after c.requires.ready.in_range c.args.from.now c.args.to.now v c.args.source c.args.judged c.args.change.now c.requires.may c.requires.change
    c.follow_move.new.self c.make_move.new.self c.args.ready c.in_ok-receive_moved.ensures.received c.receive_moved.ensures.sound c.requires.ready_move c.follow_move.ensures.follows c.make_move.ensures.made c.make_move.ensures.kept in
    let mid : Parts = record c.receive_moved.new.self { tree = c.make_move.new.self; scans = c.follow_move.new.self } in
    done_named p mid c.end_named.new.self c.args.moment (File op) c.end_named.result c.args.change.now _ k.makes k.log c.end_named.ensures.ended k.raised k.due
    (answers_it p c.args.moment op c.end_named.result c.args.judged v.owner v.place.folder v.place.name.now
    (judged_is p c.requires.ready.whole c.args.moment c.args.from.now c.args.to.now v c.requires.may.is c.args.source c.requires.may.source_is c.args.judged c.requires.may.judged_is) c.end_named.ensures.answer)

pub returns-clause-sound : goal.returns-clause-sound
returns-clause-sound g c =
    let k = carried c.args.self.now c.receive_moved.new.self c.requires.ready.whole c.requires.ready.idle c.args.moment c.requires.ready.after c.requires.ready.in_range c.args.from.now c.args.to.now c.args.moving.now c.args.source c.args.judged c.args.change.now c.requires.may c.requires.change
    c.follow_move.new.self c.make_move.new.self c.args.ready c.in_ok-receive_moved.ensures.received c.receive_moved.ensures.sound c.requires.ready_move c.follow_move.ensures.follows c.make_move.ensures.made c.make_move.ensures.kept in
    let mid : Parts = record c.receive_moved.new.self { tree = c.make_move.new.self; scans = c.follow_move.new.self } in
    sound_named mid c.end_named.new.self _ _ c.args.moment k.idle.places k.log c.end_named.ensures.ended c.end_named.ensures.counted k.scanning

pub returns-clause-looks : goal.returns-clause-looks
returns-clause-looks g c =
    let k = carried c.args.self.now c.receive_moved.new.self c.requires.ready.whole c.requires.ready.idle c.args.moment c.requires.ready.after c.requires.ready.in_range c.args.from.now c.args.to.now c.args.moving.now c.args.source c.args.judged c.args.change.now c.requires.may c.requires.change
    c.follow_move.new.self c.make_move.new.self c.args.ready c.in_ok-receive_moved.ensures.received c.receive_moved.ensures.sound c.requires.ready_move c.follow_move.ensures.follows c.make_move.ensures.made c.make_move.ensures.kept in
    let on = going c.args.self.now c.receive_moved.new.self c.args.from.now c.args.to.now c.args.moving.now _ c.requires.ready.whole c.requires.may.is c.in_ok-receive_moved.ensures.received in
    omega (arith, c.receive_moved.ensures.looks, c.follow_move.ensures.looks, c.make_move.ensures.looks, c.end_named.ensures.looks, k.high, on.below, on.deep, on.high)

pub returns-in_err-receive_moved-clause-memory : goal.returns-in_err-receive_moved-clause-memory
returns-in_err-receive_moved-clause-memory g c =
    let v = c.args.moving.now in
    on_err _ (moved_known c.args.self.now v.node v.folder v.place.folder v.place.name.now c.args.source c.requires.may.source_is.is c.in_err-receive_moved.ensures.memory).moves
