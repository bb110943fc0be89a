use Rattle.std.proofs.Common.{◌≡◌, ◌<◌, inr, [], ◌∙◌, ap, sym, subst, arith}
use Rattle.fsrm_base.proofs.TestLaws.{lt_is}
use Rattle.fsrm_model.specs.declared.row.Capacity.{Capacity}
use Rattle.node_table.specs.Views.{seen}
use Rattle.number_set.specs.Numbers.{Numbers}
use Rattle.tree_walk.specs.Walk.{AreOutside, AreThere, TakesOutside}
use Rattle.file_jobs.proofs.FindLaws.{Finds, all_found, begun, begun_looks, found_file, passed}
use Rattle.file_jobs.proofs.finding.find.Goals as goal

pub loop-walk-init : goal.loop-walk-init
loop-walk-init g c =
    let nodes = c.args.tree.now.nodes in
    let begins = c.in_ok-walk.ensures in
    record {
      there = subst (AreThere nodes) (sym begins) (c.requires.from, tt);
      outside = subst (AreOutside nodes c.args.to) (sym begins) (inr c.requires.apart, tt);
      bound = ap (λ (s : Numbers). s.bound) c.in_ok-found.ensures ∙ ap (λ (K : Capacity). K.nodes) c.capacity.ensures.size;
      finds = begun nodes c.args.from c.args.to c.args.expiry.now c.in_ok-walk.walk c.in_ok-found.found.members begins (ap (λ (s : Numbers). s.members) c.in_ok-found.ensures);
      looks = begun_looks nodes c.args.from c.in_ok-walk.walk c.args.steps.now begins;
    }

pub loop-walk-preserved : goal.loop-walk-preserved
loop-walk-preserved g c =
    let nodes = c.args.tree.now.nodes in
    let t : TakesOutside nodes c.args.to c.loop-walk.walk c.next_outside.new.self (seen c.in-Some.node) = rw c.in-Some.is at c.in_ok-node.ensures.taken in
    record {
      there = t.there;
      outside = t.outside;
      bound = c.loop-walk.invariant.bound;
      finds = passed nodes c.args.from c.args.to c.args.expiry.now c.loop-walk.walk c.next_outside.new.self c.loop-walk.found.members (seen c.in-Some.node) (sym c.if-is_old.ensures) t c.loop-walk.invariant.finds;
      looks = omega (arith, c.loop-walk.invariant.looks, c.in_ok-node.ensures.looks);
    }

pub loop-walk-preserved-then-is_old : goal.loop-walk-preserved-then-is_old
loop-walk-preserved-then-is_old g c =
    let nodes = c.args.tree.now.nodes in
    let node = c.in-Some.node in
    let t : TakesOutside nodes c.args.to c.loop-walk.walk c.next_outside.new.self (seen node) = rw c.in-Some.is at c.in_ok-node.ensures.taken in
    let found = found_file c.args.tree.now.size nodes c.args.from c.args.to c.args.expiry.now c.loop-walk.walk c.next_outside.new.self c.loop-walk.found.members (seen node) c.requires.volume c.requires.to (sym c.if-is_old.ensures) t c.loop-walk.invariant.finds in
    record {
      there = t.there;
      outside = t.outside;
      bound = ap (λ (s : Numbers). s.bound) c.insert.ensures ∙ c.loop-walk.invariant.bound;
      finds = subst (λ (s : Numbers). Finds nodes c.args.from c.args.to c.args.expiry.now c.next_outside.new.self s.members) (sym c.insert.ensures) found;
      looks = omega (arith, c.loop-walk.invariant.looks, c.in_ok-node.ensures.looks);
    }

pub loop-walk-smaller : goal.loop-walk-smaller
loop-walk-smaller g c =
    let t : TakesOutside c.args.tree.now.nodes c.args.to c.loop-walk.walk c.next_outside.new.self (seen c.in-Some.node) = rw c.in-Some.is at c.in_ok-node.ensures.taken in
    t.fewer

pub loop-walk-smaller-then-is_old : goal.loop-walk-smaller-then-is_old
loop-walk-smaller-then-is_old g c =
    let t : TakesOutside c.args.tree.now.nodes c.args.to c.loop-walk.walk c.next_outside.new.self (seen c.in-Some.node) = rw c.in-Some.is at c.in_ok-node.ensures.taken in
    t.fewer

pub insert-requires : goal.insert-requires
insert-requires g c =
    let node = c.in-Some.node in
    let t : TakesOutside c.args.tree.now.nodes c.args.to c.loop-walk.walk c.next_outside.new.self (seen node) = rw c.in-Some.is at c.in_ok-node.ensures.taken in
    let low : node.number < c.args.tree.now.size.nodes = lt_is _ _ (c.requires.volume.below node.number (seen node) t.found) in
    omega (arith, low, c.loop-walk.invariant.bound)

pub returns-clause-found : goal.returns-clause-found
returns-clause-found g c =
    let none : c.loop-walk.walk ≡ [] = rw c.in_default.is at c.in_ok-node.ensures.none in
    all_found c.args.tree.now.size c.args.tree.now.nodes c.args.from c.args.to c.args.expiry.now c.loop-walk.walk c.loop-walk.found.members c.requires.volume none c.loop-walk.invariant.finds
