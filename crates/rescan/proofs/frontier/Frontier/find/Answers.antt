use Rattle.std.proofs.Common.{◌<◌, ◌∙◌, ap, sym, arith}
use Rattle.fsrm_base.specs.Numbers.{is_in, is_set}
use Rattle.number_set.specs.Numbers.{Numbers, no_numbers}
use Rattle.number_set.proofs.TakenLaws.{taken_is}
use Rattle.rescan.specs.Frontiers.{Front}
use Rattle.rescan.specs.Visits.{looks_left}
use Rattle.rescan.proofs.unvisited.FindLaws.{topped, finding_begins, finding_more, finding_ends, looks_after, looks_most, waits_low, folder_low}
use Rattle.rescan.proofs.unvisited.Tops.{tops_of}
use Rattle.rescan.proofs.frontier.Frontier.find.Goals as goal

pub copied-requires-clause-set : goal.copied-requires-clause-set
copied-requires-clause-set g c = ap (λ (f : Front). is_set f.tops) c.self.view_is ∙ (tops_of c.args.tree.now c.args.self.now c.requires.stands).ascending

pub copied-requires-clause-below : goal.copied-requires-clause-below
copied-requires-clause-below g c = λ n h.
    let v = c.args.tree.now in
    let s = c.requires.stands in
    let low = folder_low v c.args.self.now n s.volume s.fits ((tops_of v c.args.self.now s).folders n (ap (λ (f : Front). is_in f.tops n) (sym c.self.view_is) ∙ h)) in
    let room = ap (λ (f : Front). f.room.nodes) c.self.view_is in
    omega (arith, low, room)

pub loop-next-init : goal.loop-next-init
loop-next-init g c =
    let whole = c.in_ok-waiting.ensures ∙ ap (λ (f : Front). record { bound = f.room.nodes; members = f.tops }) c.self.view_is in
    let empty = c.in_ok-found.ensures ∙ ap no_numbers (c.bound.ensures ∙ ap (λ (f : Front). f.room.nodes) c.self.view_is) in
    let same = ap (λ (m : Numbers). looks_left c.args.tree.now.nodes (topped c.args.self.now m.members)) whole in
    record {
      finding = finding_begins c.args.tree.now c.args.self.now c.in_ok-waiting.waiting c.in_ok-found.found c.requires.stands whole empty;
      looks = omega (arith, same);
    }

pub insert-requires : goal.insert-requires
insert-requires g c =
    let low = waits_low c.args.tree.now c.args.self.now c.loop-next.waiting c.loop-next.found c.in-Some.next c.requires.stands c.loop-next.invariant.finding (sym c.in-Some.ensures.least) in
    omega (arith, low, c.loop-next.invariant.finding.found_room)

pub enter_children-requires-clause-room : goal.enter_children-requires-clause-room
enter_children-requires-clause-room g c =
    let same = ap (λ (m : Numbers). m.bound) c.take_least.ensures.rest in
    omega (arith, same, c.loop-next.invariant.finding.waiting_room, c.requires.stands.fits.nodes)

pub loop-next-smaller : goal.loop-next-smaller
loop-next-smaller g c =
    let after = looks_after c.args.tree.now c.args.self.now c.loop-next.waiting c.take_least.new.self c.enter_children.new.set c.loop-next.found c.in-Some.next c.requires.stands c.loop-next.invariant.finding (sym c.in-Some.ensures.least) (taken_is c.loop-next.waiting c.take_least.new.self c.in-Some.next c.loop-next.invariant.finding.tops.ascending (sym c.in-Some.ensures.least) c.take_least.ensures.rest) c.enter_children.ensures.set in
    let less : looks_left c.args.tree.now.nodes (topped c.args.self.now c.enter_children.new.set.members) < looks_left c.args.tree.now.nodes (topped c.args.self.now c.loop-next.waiting.members) = omega (arith, after) in
    less

pub loop-next-preserved : goal.loop-next-preserved
loop-next-preserved g c =
    let after = looks_after c.args.tree.now c.args.self.now c.loop-next.waiting c.take_least.new.self c.enter_children.new.set c.loop-next.found c.in-Some.next c.requires.stands c.loop-next.invariant.finding (sym c.in-Some.ensures.least) (taken_is c.loop-next.waiting c.take_least.new.self c.in-Some.next c.loop-next.invariant.finding.tops.ascending (sym c.in-Some.ensures.least) c.take_least.ensures.rest) c.enter_children.ensures.set in
    record {
      finding = finding_more c.args.tree.now c.args.self.now c.loop-next.waiting c.take_least.new.self c.enter_children.new.set c.loop-next.found c.insert.new.self c.in-Some.next c.requires.stands c.loop-next.invariant.finding (sym c.in-Some.ensures.least) (taken_is c.loop-next.waiting c.take_least.new.self c.in-Some.next c.loop-next.invariant.finding.tops.ascending (sym c.in-Some.ensures.least) c.take_least.ensures.rest) c.enter_children.ensures.set c.insert.ensures;
      looks = omega (arith, after, c.enter_children.ensures.looks, c.loop-next.invariant.looks);
    }

pub returns-clause-found : goal.returns-clause-found
returns-clause-found g c =
    finding_ends c.args.tree.now c.args.self.now c.loop-next.waiting c.loop-next.found c.requires.stands c.loop-next.invariant.finding (sym c.in_default.ensures.least)

pub returns-clause-looks : goal.returns-clause-looks
returns-clause-looks g c =
    omega (arith, c.loop-next.invariant.looks, looks_most c.args.tree.now c.args.self.now c.requires.stands.volume)
