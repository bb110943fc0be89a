use Rattle.std.proofs.Common.{ℕ, inl, inr, List, ◌∷◌, [], ◌++◌, map, sym, ap, ◌∙◌, arith}
use Rattle.std.proofs.lemmas.Iterator.Consumers.{YieldsList-turn, YieldsList-end}
use Rattle.std.proofs.lemmas.Iterator.Adapters.{YieldsList-from_rev_slice}
use Rattle.std.proofs.lemmas.List.{map-append, length_push}
use Rattle.std.specs.Prelude.{reverse}
use Rattle.std.specs.String.{string_bytes}
use Rattle.fsrm_parts.proofs.walks.PathTexts.{turned_there, there_at, name_pushed, joined_text}
use Rattle.fsrm_parts.proofs.path_text.joined.Goals as goal
use Rattle.fsrm_parts.proofs.path_text.joined.Goals.{then-is_empty, else-is_empty}

pub node-requires : goal.node-requires
node-requires g c =
    let way = c.args.way.now in
    there_at c.args.tree.now.nodes (reverse way) _ _ (turned_there c.args.tree.now.nodes way c.requires.there)
    (YieldsList-turn (YieldsList-from_rev_slice way cc) c.loop-node.yielded _ c.loop-node.yielded_by _ _ c.in-Some.node c.in-Some.is c.next.ensures.steps)

pub loop-node-preserved : goal.loop-node-preserved
loop-node-preserved g c = record {
  text = name_pushed c.args.tree.now.nodes (map (λ y. y.now) c.loop-node.yielded) _ c.in-Some.node.now c.node.result (string_bytes c.in_ok-text.text) (string_bytes c.loop-node.text) (string_bytes c.push.new.self) (string_bytes c.push_str.new.self) c.node.ensures.view (map-append _ c.loop-node.yielded (c.in-Some.node ∷ [])) (c.in_ok-push.ensures.bytes ∙ ap (λ (bytes : List ℕ). string_bytes c.loop-node.text ++ bytes) (c.in_ok-push.ensures.ascii (omega arith))) c.in_ok-push_str.ensures.bytes c.loop-node.invariant.text;
  looks = omega (arith, c.loop-node.invariant.looks, c.node.ensures.count, length_push c.loop-node.yielded c.in-Some.node);
}

pub returns-clause-text : goal.returns-clause-text
returns-clause-text g c =
    let way = c.args.way.now in
    let all = YieldsList-end (YieldsList-from_rev_slice way cc) c.loop-node.yielded _ c.loop-node.yielded_by _ _ c.in-None.is c.next.ensures.steps in
    joined_text c.args.tree.now.nodes way (map (λ y. y.now) c.loop-node.yielded) (string_bytes c.in_ok-text.text) (string_bytes c.loop-node.text) all.0
    (elim c.if-is_empty.branch [
      | then-is_empty w ↦ inl (sym w.if-is_empty.ensures, c.in_ok-text.ensures ∙ ap (λ text. text.now) w.begun-is)
      | else-is_empty w ↦ inr (sym w.if-is_empty.ensures, c.in_ok-text.ensures ∙ ap (λ text. text.now) w.begun-is)
    ])
    c.loop-node.invariant.text
