use Rattle.std.proofs.Common.{◌≡◌, ◌==◌, ◌∷◌, Some, refl, subst, sym, ◌∙◌, ap}
use Rattle.fsrm_base.proofs.Look.{found_key}
use Rattle.fsrm_model.specs.nodes.Tree.{number, node_of}
use Rattle.node_order.proofs.SlotLaws.{row_is, there_is}
use Rattle.node_order.proofs.SlotRows.{slots_ascend}
use Rattle.node_table.specs.Views.{seen}
use Rattle.volume_tree.specs.Kept.{rows_of}
use Rattle.volume_tree.specs.Late.{IsRegister}
use Rattle.volume_tree.specs.Twins.{IsFree}
use Rattle.volume_tree.proofs.late.RowsTwins.{apart_more, listed_present}
use Rattle.volume_tree.proofs.rows.enter_alone.Goals as goal

pub node-row-requires : goal.node-row-requires
node-row-requires c = there_is c.args.number c.args.slots.now.slots c.requires.slots ∙ c.requires.there

pub has_twin-requires-clause-there : goal.has_twin-requires-clause-there
has_twin-requires-clause-there c =
    let nodes = rows_of c.args.slots.now.slots in
    let row = c.node-row.result in
    let found : node_of nodes c.args.number ≡ Some (seen row) = row_is c.args.number c.args.slots.now.slots c.requires.slots ∙ c.node-row.ensures in
    ap (node_of nodes) (found_key number c.args.number nodes (seen row) found) ∙ found

pub has_twin-requires-clause-inner : goal.has_twin-requires-clause-inner
has_twin-requires-clause-inner c =
    let nodes = rows_of c.args.slots.now.slots in
    let row = c.node-row.result in
    let found : node_of nodes c.args.number ≡ Some (seen row) = row_is c.args.number c.args.slots.now.slots c.requires.slots ∙ c.node-row.ensures in
    ap (λ n. n == 0) (found_key number c.args.number nodes (seen row) found) ∙ c.requires.inner

pub has_twin-requires-clause-absent : goal.has_twin-requires-clause-absent
has_twin-requires-clause-absent c =
    let nodes = rows_of c.args.slots.now.slots in
    let row = c.node-row.result in
    let found : node_of nodes c.args.number ≡ Some (seen row) = row_is c.args.number c.args.slots.now.slots c.requires.slots ∙ c.node-row.ensures in
    (c.requires.absent.0, subst (λ n. IsRegister nodes (n ∷ c.requires.absent.0) c.args.register.now) (sym (found_key number c.args.number nodes (seen row) found)) c.requires.absent.1)

pub enter-requires-clause-there : goal.enter-requires-clause-there
enter-requires-clause-there c =
    let nodes = rows_of c.args.slots.now.slots in
    let row = c.node-row.result in
    let found : node_of nodes c.args.number ≡ Some (seen row) = row_is c.args.number c.args.slots.now.slots c.requires.slots ∙ c.node-row.ensures in
    ap (node_of nodes) (found_key number c.args.number nodes (seen row) found) ∙ found

pub enter-requires-clause-inner : goal.enter-requires-clause-inner
enter-requires-clause-inner c =
    let nodes = rows_of c.args.slots.now.slots in
    let row = c.node-row.result in
    let found : node_of nodes c.args.number ≡ Some (seen row) = row_is c.args.number c.args.slots.now.slots c.requires.slots ∙ c.node-row.ensures in
    ap (λ n. n == 0) (found_key number c.args.number nodes (seen row) found) ∙ c.requires.inner

pub enter-requires-clause-alone : goal.enter-requires-clause-alone
enter-requires-clause-alone c =
    let slots = c.args.slots.now.slots in
    let nodes = rows_of slots in
    let row = c.node-row.result in
    let found : node_of nodes c.args.number ≡ Some (seen row) = row_is c.args.number slots c.requires.slots ∙ c.node-row.ensures in
    let rest = c.requires.absent.0 in
    let k = subst (λ n. IsRegister nodes (n ∷ rest) c.args.register.now) (sym (found_key number c.args.number nodes (seen row) found)) c.requires.absent.1 in
    λ n listed. c.if-has_twin.ensures.free refl rest k n (listed_present nodes (row.number ∷ rest) c.args.register.now n (slots_ascend slots c.requires.slots) k listed)

pub enter-requires-clause-absent : goal.enter-requires-clause-absent
enter-requires-clause-absent c =
    let nodes = rows_of c.args.slots.now.slots in
    let row = c.node-row.result in
    let found : node_of nodes c.args.number ≡ Some (seen row) = row_is c.args.number c.args.slots.now.slots c.requires.slots ∙ c.node-row.ensures in
    (c.requires.absent.0, subst (λ n. IsRegister nodes (n ∷ c.requires.absent.0) c.args.register.now) (sym (found_key number c.args.number nodes (seen row) found)) c.requires.absent.1)

pub returns-then-has_twin-clause-twins : goal.returns-then-has_twin-clause-twins
returns-then-has_twin-clause-twins c = λ e. c.if-has_twin.ensures.twins refl

pub returns-clause-entered : goal.returns-clause-entered
returns-clause-entered c =
    λ e rest k.
    let nodes = rows_of c.args.slots.now.slots in
    let row = c.node-row.result in
    let found : node_of nodes c.args.number ≡ Some (seen row) = row_is c.args.number c.args.slots.now.slots c.requires.slots ∙ c.node-row.ensures in
    c.enter.ensures.entered rest (subst (λ n. IsRegister nodes (n ∷ rest) c.args.register.now) (sym (found_key number c.args.number nodes (seen row) found)) k)

pub returns-clause-apart : goal.returns-clause-apart
returns-clause-apart c =
    λ e rest k old.
    let nodes = rows_of c.args.slots.now.slots in
    let row = c.node-row.result in
    let found : node_of nodes c.args.number ≡ Some (seen row) = row_is c.args.number c.args.slots.now.slots c.requires.slots ∙ c.node-row.ensures in
    let is : row.number ≡ c.args.number = found_key number c.args.number nodes (seen row) found in
    let free = c.if-has_twin.ensures.free refl rest (subst (λ n. IsRegister nodes (n ∷ rest) c.args.register.now) (sym is) k) in
    apart_more nodes c.args.number rest (seen row) found (subst (λ n. IsFree nodes (n ∷ rest) row.parent row.name.now) is free) old
