use Rattle.std.proofs.Common.{◌≡◌, ◌≤◌, List, Some, None, length, take, drop, sym, ◌∙◌, ap, arith}
use Rattle.std.specs.Prelude.{slice_get}
use Rattle.fsrm_model.specs.declared.row.NodeRow.{NodeRow}
use Rattle.fsrm_model.specs.meaning.PathNames.{left}
use Rattle.fsrm_model.specs.nodes.Tree.{child_number}
use Rattle.volume_tree.specs.Kept.{rows_of}
use Rattle.volume_tree.specs.Volume.{Volume}
use Rattle.volume_tree.proofs.kept.WalkLaws.{get_take, name_at, more_at, some_at, walk_next, walk_end, resolves}
use Rattle.volume_tree.proofs.late.Registers.{volume_apart}
use Rattle.volume_tree.proofs.tree.Tree.resolve_next.Goals as goal

-- one more name is left
pub returns-in_err-name-clause-value : goal.returns-in_err-name-clause-value
returns-in_err-name-clause-value g c =
    let some = some_at (left c.args.names.now) c.loop-place.place c.args.count c.loop-place-test.true c.requires.count in
    absurd (omega (arith, some, ap length (sym c.loop-place.invariant.rest ∙ c.in_err-name.ensures.steps.0)))

pub child-requires-clause-apart : goal.child-requires-clause-apart
child-requires-clause-apart g c = volume_apart c.self.inside.size _ c.self.invariant.kept.volume

pub returns-in-Err-clause-value : goal.returns-in-Err-clause-value
returns-in-Err-clause-value g c =
    let nodes = c.args.self.now.nodes in
    let names = left c.args.names.now in
    let path = take c.args.count names in
    let next = sym c.loop-place.invariant.rest ∙ c.in_ok-name.ensures.steps in
    let rows : rows_of c.self.inside.slots.slots ≡ nodes = ap (λ (v : Volume). v.nodes) c.self.view_is in
    let child : child_number nodes c.loop-place.at c.in_ok-name.name.now ≡ None = ap (λ (ns : List NodeRow). child_number ns c.loop-place.at c.in_ok-name.name.now) (sym rows) ∙ c.in-Err.ensures.err in
    let name : slice_get path c.loop-place.place ≡ Some c.in_ok-name.name.now = get_take names c.args.count c.loop-place.place c.in_ok-name.name.now c.loop-place-test.true (name_at names c.loop-place.place c.in_ok-name.name.now (left c.next.new.self) next) in
    resolves c.self.inside.size (rows_of c.self.inside.slots.slots) c.args.self.now path None c.self.invariant.kept.volume c.self.view_is
    (sym c.loop-place.invariant.way ∙ walk_next nodes c.loop-place.at c.loop-place.place path c.in_ok-name.name.now None name child)

pub loop-place-preserved : goal.loop-place-preserved
loop-place-preserved g c =
    let nodes = c.args.self.now.nodes in
    let names = left c.args.names.now in
    let path = take c.args.count names in
    let next = sym c.loop-place.invariant.rest ∙ c.in_ok-name.ensures.steps in
    let rows : rows_of c.self.inside.slots.slots ≡ nodes = ap (λ (v : Volume). v.nodes) c.self.view_is in
    let child : child_number nodes c.loop-place.at c.in_ok-name.name.now ≡ Some c.in-Ok.child = ap (λ (ns : List NodeRow). child_number ns c.loop-place.at c.in_ok-name.name.now) (sym rows) ∙ c.in-Ok.ensures.ok in
    let name : slice_get path c.loop-place.place ≡ Some c.in_ok-name.name.now = get_take names c.args.count c.loop-place.place c.in_ok-name.name.now c.loop-place-test.true (name_at names c.loop-place.place c.in_ok-name.name.now (left c.next.new.self) next) in
    let looks = c.in-Ok.ensures.looks in
    let some = c.in-Ok.ensures.some in
    record {
      way = sym (walk_next nodes c.loop-place.at c.loop-place.place path c.in_ok-name.name.now (Some c.in-Ok.child) name child) ∙ c.loop-place.invariant.way;
      rest = more_at names c.loop-place.place c.in_ok-name.name.now (left c.next.new.self) next;
      looks = omega (arith, looks);
      each = omega (arith, some, c.loop-place.invariant.each);
    }

pub returns-clause-value : goal.returns-clause-value
returns-clause-value g c =
    let most : c.args.count ≤ c.loop-place.place = omega arith in
    resolves c.self.inside.size (rows_of c.self.inside.slots.slots) c.args.self.now (take c.args.count (left c.args.names.now)) (Some c.loop-place.at) c.self.invariant.kept.volume c.self.view_is
    (sym c.loop-place.invariant.way ∙ walk_end c.args.self.now.nodes c.loop-place.at c.loop-place.place c.args.count (left c.args.names.now) most)

pub returns-clause-rest : goal.returns-clause-rest
returns-clause-rest g c =
    let all : c.loop-place.place ≡ c.args.count = omega arith in
    c.loop-place.invariant.rest ∙ ap (λ k. drop k (left c.args.names.now)) all
