use Rattle.std.proofs.Common.{◌≡◌, ℕ, ◌<◌, true, List, Option, None, Some, length, take, drop, ap, sym, subst, ◌∙◌, arith, rules}
use Rattle.std.specs.Prelude.{slice_get, IsSome}
use Rattle.std.specs.Borrow.{Bor}
use Rattle.std.specs.Iterator.{YieldsFirstRef}
use Rattle.fsrm_model.specs.declared.path.Names.{Names}
use Rattle.std.specs.List.{list_all}
use Rattle.fsrm_model.specs.values.Name.{is_name}
use Rattle.fsrm_model.specs.meaning.PathNames.{left}
use Rattle.fsrm_model.specs.nodes.Tree.{resolve}
use Rattle.fsrm_model.proofs.lines.Parts.{all_at}
use Rattle.volume_tree.proofs.kept.WalkLaws.{name_at, some_at}
use Rattle.fsrm_parts.proofs.walks.PlaceLaws.{place_found, has_resolved}
use Rattle.fsrm_parts.proofs.places.place_at.Goals as goal

pub resolve_next-requires : goal.resolve_next-requires
resolve_next-requires g c =
    omega (arith, c.depth.ensures, c.in-Some.ensures, ap length c.names-names.ensures.names)

pub node-requires : goal.node-requires
node-requires g c = has_resolved _ _ _ _ c.requires (sym c.in-Some-resolve_next.ensures.value)

-- where a name is left, one comes
some_next : (s t : Names) (r : Option (Bor (List ℕ))) → 0 < length (left s) → YieldsFirstRef left s r t → IsSome r
some_next s t None some gives = absurd (omega (arith, some, ap length gives.0))
some_next s t (Some name) some gives = search rules

pub unwrap-requires : goal.unwrap-requires
unwrap-requires g c =
    let path = c.args.path.now in
    let names = c.names-names.ensures.names in
    let rest = c.in-Some-resolve_next.ensures.rest ∙ ap (drop c.in-Some.last) names in
    let some = some_at path c.in-Some.last (length path) (omega (arith, c.depth.ensures, c.in-Some.ensures)) (omega arith) in
    some_next _ _ _ (subst (λ (more : List (List ℕ)). 0 < length more) (sym rest) some) c.next.ensures.steps

pub returns-clause-ok : goal.returns-clause-ok
returns-clause-ok g c =
    let path = c.args.path.now in
    let last = c.in-Some.last in
    let names = c.names-names.ensures.names in
    let gives = subst (λ r. YieldsFirstRef left c.resolve_next.new.names r c.next.new.self) c.unwrap.ensures c.next.ensures.steps in
    let next = sym (c.in-Some-resolve_next.ensures.rest ∙ ap (drop last) names) ∙ gives in
    let name : slice_get path last ≡ Some c.unwrap.result.now = name_at path last c.unwrap.result.now (left c.next.new.self) next in
    place_found c.args.tree.now.nodes _ _ _ _ _ _ c.depth.ensures c.in-Some.ensures (c.in-Some-resolve_next.ensures.value ∙ ap (λ way. resolve c.args.tree.now.nodes (take last way)) names) c.node.ensures.view c.if-not-node.false name
    (all_at is_name path last c.unwrap.result.now (subst (λ way. list_all is_name way ≡ true) names c.names-names.ensures.valid) name)
