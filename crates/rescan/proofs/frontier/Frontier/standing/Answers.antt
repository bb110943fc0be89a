use Rattle.std.proofs.Common.{◌≡◌, ℕ, List, length, false, sym, ◌∙◌, ap, subst, arith}
use Rattle.std.specs.List.{list_any}
use Rattle.fsrm_base.specs.Numbers.{is_in}
use Rattle.fsrm_model.proofs.nodes.Climbs.{IsUp, up_chain, up_rest}
use Rattle.quota_usage.proofs.OptionTests.{is_number, no_number}
use Rattle.rescan.specs.Frontiers.{scanned}
use Rattle.rescan.proofs.unvisited.StandingLaws.{above_left, at_end, at_scanned, at_top, below_left}
use Rattle.rescan.proofs.frontier.Frontier.standing.Goals as goal

pub loop-at-init : goal.loop-at-init
loop-at-init g c =
    let is = c.way_up-way.ensures in
    record {
      up = subst (IsUp c.args.tree.now.nodes) (sym is) (up_chain c.args.tree.now.nodes c.args.node c.requires.there);
      above = ap (list_any (is_in c.args.self.now.tops)) (sym is);
      below = ap (λ (ns : List ℕ). is_in ns (scanned c.args.self.now)) (sym is);
      looks = omega (arith, ap length is);
    }

pub returns-then-contains-clause-value : goal.returns-then-contains-clause-value
returns-then-contains-clause-value g c =
    let here = c.loop-at.invariant.up.from c.in-Some.at c.next.new.self c.in-Some.ensures.some in
    at_top c.args.tree.now.nodes c.args.self.now c.args.node c.in-Some.at (c.loop-at.invariant.above ∙ ap (list_any (is_in c.args.self.now.tops)) here.all)
    (sym (ap (λ f. is_in f.tops c.in-Some.at) c.self.view_is) ∙ (sym c.contains.ensures ∙ c.if-contains.true))

pub returns-then-eq-clause-value : goal.returns-then-eq-clause-value
returns-then-eq-clause-value g c =
    let here = c.loop-at.invariant.up.from c.in-Some.at c.next.new.self c.in-Some.ensures.some in
    at_scanned c.args.tree.now.nodes c.args.self.now c.requires.tree c.requires.tops c.args.node c.in-Some.at
    (c.loop-at.invariant.above ∙ ap (list_any (is_in c.args.self.now.tops)) here.all) (c.loop-at.invariant.below ∙ ap (λ (ns : List ℕ). is_in ns (scanned c.args.self.now)) here.all)
    (sym (ap (λ f. is_in f.tops c.in-Some.at) c.self.view_is) ∙ (sym c.contains.ensures ∙ c.if-contains.false))
    (sym (ap (λ f. f.folder) c.self.view_is) ∙ is_number c.self.inside.folder c.in-Some.at (sym c.eq.ensures ∙ c.if-eq.true))

pub loop-at-preserved : goal.loop-at-preserved
loop-at-preserved g c =
    let nodes = c.args.tree.now.nodes in
    let at = c.in-Some.at in
    let rest = c.next.new.self in
    let is = c.in-Some.ensures.some in
    let lacks : is_in c.args.self.now.tops at ≡ false = sym (ap (λ f. is_in f.tops at) c.self.view_is) ∙ (sym c.contains.ensures ∙ c.if-contains.false) in
    record {
      up = up_rest nodes c.requires.tree c.loop-at.way at rest is c.loop-at.invariant.up;
      above = c.loop-at.invariant.above ∙ above_left c.args.self.now.tops at rest c.loop-at.way is lacks;
      below =
          c.loop-at.invariant.below
          ∙ below_left nodes c.args.self.now c.requires.tops at rest c.loop-at.way is
          (λ e. no_number c.self.inside.folder at (sym c.eq.ensures ∙ c.if-eq.false) (ap (λ f. f.folder) c.self.view_is ∙ e));
      looks = omega (arith, c.in-Some.ensures.count, c.loop-at.invariant.looks);
    }

pub returns-clause-value : goal.returns-clause-value
returns-clause-value g c =
    at_end c.args.tree.now.nodes c.args.self.now c.args.node
    (c.loop-at.invariant.above ∙ ap (list_any (is_in c.args.self.now.tops)) c.in_default.ensures.none)
    (c.loop-at.invariant.below ∙ ap (λ (ns : List ℕ). is_in ns (scanned c.args.self.now)) c.in_default.ensures.none)
