use Rattle.std.proofs.Common.{ℕ, List, [], ◌∷◌, ◌++◌, length, sym, ◌∙◌, ap, subst, append-nil, arith}
use Rattle.fsrm_model.proofs.nodes.Keeps.{tree_of}
use Rattle.fsrm_model.proofs.nodes.Resolves.{path_length}
use Rattle.fsrm_parts.specs.Walk.{AreThere}
use Rattle.fsrm_parts.proofs.walks.PathTexts.{named, named_first, there_push, unnamed_first, way_named, way_there}
use Rattle.fsrm_parts.proofs.path_text.named_nodes.Goals as goal

pub loop-at-init : goal.loop-at-init
loop-at-init g c =
    let nodes = c.args.tree.now.nodes in
    let is = c.way_up-way.ensures in
    record {
      there = subst (AreThere nodes) (sym c.new-nodes.ensures.items) tt;
      left = subst (AreThere nodes) (sym is) (way_there nodes (tree_of _ nodes c.requires.volume) c.args.node c.requires.there);
      way = ap (λ (ns : List ℕ). ns ++ named c.way_up-way.result) c.new-nodes.ensures.items ∙ ap named is;
      looks = omega (arith, ap length is);
    }

pub loop-at-preserved-then-at-eq0 : goal.loop-at-preserved-then-at-eq0
loop-at-preserved-then-at-eq0 g c =
    let l = c.loop-at in
    let is = c.in-Some.ensures.some in
    record {
      there = l.invariant.there;
      left = (subst (AreThere c.args.tree.now.nodes) is l.invariant.left).1;
      way = unnamed_first c.in-Some.at c.next.new.self l.way l.nodes.items _ is c.if-at-eq0.true l.invariant.way;
      looks = omega (arith, c.in-Some.ensures.count, l.invariant.looks);
    }

pub loop-at-preserved : goal.loop-at-preserved
loop-at-preserved g c =
    let l = c.loop-at in
    let is = c.in-Some.ensures.some in
    let left = subst (AreThere c.args.tree.now.nodes) is l.invariant.left in
    record {
      there = there_push c.args.tree.now.nodes c.in-Some.at l.nodes.items c.push.new.self.items l.invariant.there left.0 c.in_ok-push.ensures.items;
      left = left.1;
      way = named_first c.in-Some.at c.next.new.self l.way l.nodes.items c.push.new.self.items _ is c.if-at-eq0.false c.in_ok-push.ensures.items l.invariant.way;
      looks = omega (arith, c.in-Some.ensures.count, l.invariant.looks);
    }

pub returns-in_err-push-clause-looks : goal.returns-in_err-push-clause-looks
returns-in_err-push-clause-looks g c = omega (arith, c.in-Some.ensures.count, c.loop-at.invariant.looks, path_length c.args.tree.now.nodes c.args.node)

pub returns-clause-looks : goal.returns-clause-looks
returns-clause-looks g c = omega (arith, c.in_default.ensures.count, c.loop-at.invariant.looks, path_length c.args.tree.now.nodes c.args.node)

pub returns-clause-way : goal.returns-clause-way
returns-clause-way g c =
    let nodes = c.args.tree.now.nodes in
    let l = c.loop-at in
    let all = sym (append-nil l.nodes.items) ∙ (ap (λ (ns : List ℕ). l.nodes.items ++ named ns) (sym c.in_default.ensures.none) ∙ l.invariant.way) in
    way_named nodes (tree_of _ nodes c.requires.volume) c.args.node c.requires.there ∙ ap (λ (ns : List ℕ). ns ++ 0 ∷ []) (sym all)
