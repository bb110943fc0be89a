use Rattle.std.proofs.Common.{◌≡◌, ◌-◌, List, length, length-drop, take, drop, sym, ap, subst, ◌∙◌, arith}
use Rattle.std.proofs.lemmas.List.{take_all}
use Rattle.std.specs.Prelude.{reverse}
use Rattle.fsrm_outside.specs.Contents.{parts_in}
use Rattle.fsrm_outside.specs.Crash.{synced, unsynced, AreFilled}
use Rattle.fsrm_outside.specs.DiskModel.{IsImage}
use Rattle.fsrm_outside.specs.ImageLaws.{now_image}
use Rattle.fsrm_outside.specs.Parts.{Parts}
use Rattle.fsrm_outside.specs.Record.{now_of, valid}
use Rattle.fsrm_outside.specs.declared.calls.Call.{Call}
use Rattle.fsrm_outside.specs.declared.traits.Part.TheVariants.{Zero, One}
use Rattle.fsrm_outside.proofs.Crashes.{has_room, grown, grown_since, valid_before, lost_image, filled_image}
use Rattle.fsrm_outside.proofs.crash.pick_image.Goals as goal

pub become_copy-requires : goal.become_copy-requires
become_copy-requires c =
    let start = parts_in c.args.start.now in
    let calls = reverse c.args.calls.now in
    let room = has_room c.args.parts.now in
    record {
      zero = omega (arith, room.zero, grown start calls Zero c.requires.valid, ap (λ (p : Parts). length p.zero) c.requires.parts);
      one = omega (arith, room.one, grown start calls One c.requires.valid, ap (λ (p : Parts). length p.one) c.requires.parts);
    }

pub replay-requires-clause-valid : goal.replay-requires-clause-valid
replay-requires-clause-valid c =
    let count = c.count_synced-count.result in
    ap (λ (p : Parts). valid p (reverse (take count c.args.calls.now))) c.become_copy.ensures.parts ∙ valid_before (parts_in c.args.start.now) c.args.calls.now count c.requires.valid

pub replay-requires-clause-room : goal.replay-requires-clause-room
replay-requires-clause-room c =
    let start = parts_in c.args.start.now in
    let calls = c.args.calls.now in
    let count = c.count_synced-count.result in
    let room = has_room c.args.parts.now in
    let same = c.become_copy.ensures.parts in
    record {
      zero = omega (arith, room.zero, c.become_copy.ensures.zero, grown_since start calls count Zero c.requires.valid, ap (λ (p : Parts). length p.zero) c.requires.parts, ap (λ (p : Parts). length (now_of p (reverse (take count calls))).zero) same);
      one = omega (arith, room.one, c.become_copy.ensures.one, grown_since start calls count One c.requires.valid, ap (λ (p : Parts). length p.one) c.requires.parts, ap (λ (p : Parts). length (now_of p (reverse (take count calls))).one) same);
    }

pub returns-in-Lost-clause-image : goal.returns-in-Lost-clause-image
returns-in-Lost-clause-image c =
    let start = parts_in c.args.start.now in
    let calls = c.args.calls.now in
    let count = c.count_synced-count.result in
    let is : parts_in c.replay.new.contents ≡ now_of start (synced (reverse calls)) =
    c.replay.ensures ∙ ap (λ (p : Parts). now_of p (reverse (take count calls))) c.become_copy.ensures.parts ∙ ap (now_of start) c.count_synced-count.ensures.synced in
    subst (IsImage start (reverse calls)) (sym is) (lost_image start (reverse calls))

pub returns-in-Lost-clause-zero : goal.returns-in-Lost-clause-zero
returns-in-Lost-clause-zero c =
    let start = parts_in c.args.start.now in
    let calls = c.args.calls.now in
    let count = c.count_synced-count.result in
    let is : parts_in c.replay.new.contents ≡ now_of start (reverse (take count calls)) =
    c.replay.ensures ∙ ap (λ (p : Parts). now_of p (reverse (take count calls))) c.become_copy.ensures.parts in
    omega (arith, ap (λ (p : Parts). length p.zero) is, grown_since start calls count Zero c.requires.valid, ap (λ (p : Parts). length p.zero) c.requires.parts)

pub returns-in-Lost-clause-one : goal.returns-in-Lost-clause-one
returns-in-Lost-clause-one c =
    let start = parts_in c.args.start.now in
    let calls = c.args.calls.now in
    let count = c.count_synced-count.result in
    let is : parts_in c.replay.new.contents ≡ now_of start (reverse (take count calls)) =
    c.replay.ensures ∙ ap (λ (p : Parts). now_of p (reverse (take count calls))) c.become_copy.ensures.parts in
    omega (arith, ap (λ (p : Parts). length p.one) is, grown_since start calls count One c.requires.valid, ap (λ (p : Parts). length p.one) c.requires.parts)

pub returns-in-Taken-clause-image : goal.returns-in-Taken-clause-image
returns-in-Taken-clause-image c =
    let start = parts_in c.args.start.now in
    let calls = reverse c.args.calls.now in
    subst (IsImage start calls) (sym c.requires.parts) (now_image start calls c.requires.valid)

pub returns-in-Fill-clause-image : goal.returns-in-Fill-clause-image
returns-in-Fill-clause-image c =
    let start = parts_in c.args.start.now in
    let calls = reverse c.args.calls.now in
    let count = c.count_synced-count.result in
    let rest = take_all (length c.args.calls.now - count) (drop count c.args.calls.now) (omega (arith, length-drop count c.args.calls.now)) in
    let filled = subst (λ (l : List Call). AreFilled c.in-Fill.byte l (parts_in c.args.parts.now) (parts_in c.fill.new.contents)) (ap reverse rest ∙ c.count_synced-count.ensures.unsynced) c.fill.ensures in
    filled_image start calls c.in-Fill.byte (parts_in c.fill.new.contents) c.requires.valid
    (subst (λ (p : Parts). AreFilled c.in-Fill.byte (unsynced calls) p (parts_in c.fill.new.contents)) c.requires.parts filled)
