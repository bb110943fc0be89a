use Rattle.std.proofs.Common.{◌<◌, ◌^◌, List, [], length, sym, ◌∙◌, ap, subst, arith, rules}
use Rattle.std.proofs.lemmas.Result.{err_from_is_err_and}
use Rattle.fsrm_model.specs.declared.row.NodeRow.{NodeRow}
use Rattle.fsrm_model.specs.nodes.Tree.{name_bytes}
use Rattle.fsrm_model.specs.store.Valid.{IsVolume}
use Rattle.fsrm_model.proofs.valid.CapacityLaws.{nodes_most}
use Rattle.fsrm_model.proofs.valid.ValidVolume.{tree_of_volume}
use Rattle.volume_tree.specs.Late.{IsRegister}
use Rattle.volume_tree.specs.declared.answer.RowsFault.TheVariants.{BadRows}
use Rattle.volume_tree.proofs.slotted.FreshLaws.{few_nodes}
use Rattle.volume_tree.proofs.slotted.FromRows.{passed_on}
use Rattle.node_order.proofs.SlotRows.{rows_fit}
use Rattle.volume_tree.proofs.kept.Sound.{bad_sound, bad_twins, sound_parts, volume_of_parts}
use Rattle.volume_tree.proofs.rows.read.Goals as goal

pub returns-in_err-slots-clause-bad : goal.returns-in_err-slots-clause-bad
returns-in_err-slots-clause-bad c =
    λ e.
    let p = err_from_is_err_and c.from_residual.result c.from_residual.ensures.1 in
    bad_sound c.args.size c.args.rows.now (c.in_err-slots.ensures.bad (passed_on c.from_residual.result p.0 c.in_err-slots.field-0.0 BadRows e p.1 p.2))

pub register_of-requires-clause-room : goal.register_of-requires-clause-room
register_of-requires-clause-room c = omega (arith, rows_fit c.in_ok-slots.slots.slots, ap length c.in_ok-slots.ensures.filled.rows_are, c.in_ok-slots.ensures.filled.fit)

pub register_of-requires-clause-root : goal.register_of-requires-clause-root
register_of-requires-clause-root c = (sound_parts c.args.size.nodes c.args.rows.now c.in_ok-slots.ensures.may).root

pub register_of-requires-clause-most : goal.register_of-requires-clause-most
register_of-requires-clause-most c = nodes_most c.args.size c.requires

pub returns-in_err-register-clause-bad : goal.returns-in_err-register-clause-bad
returns-in_err-register-clause-bad c =
    λ e.
    let p = err_from_is_err_and c.from_residual-in_err-register.result c.from_residual-in_err-register.ensures.1 in
    bad_twins c.args.size c.args.rows.now (c.in_err-register.ensures.bad (passed_on c.from_residual-in_err-register.result p.0 c.in_err-register.field-0.0 BadRows e p.1 p.2))

pub overflow_cast-result : goal.overflow_cast-result
overflow_cast-result c =
    let volume = volume_of_parts c.args.size c.args.rows.now c.in-Some.used c.in_ok-slots.ensures.may c.in-Some.ensures.sum c.in-Some.ensures.within c.in_ok-register.ensures.apart in
    let few = few_nodes c.args.size c.args.rows.now volume in
    let most = nodes_most c.args.size c.requires in
    let small : length c.args.rows.now < 2 ^ 32 = omega (arith, few, most) in
    search rules

pub returns-clause-kept : goal.returns-clause-kept
returns-clause-kept c =
    let volume = volume_of_parts c.args.size c.args.rows.now c.in-Some.used c.in_ok-slots.ensures.may c.in-Some.ensures.sum c.in-Some.ensures.within c.in_ok-register.ensures.apart in
    let filled = c.in_ok-slots.ensures.filled in
    let same = sym filled.rows_are in
    record {
      nodes_are = filled.nodes_are;
      names_are = filled.names_are;
      kept = record {
        volume = subst (IsVolume c.args.size) same volume;
        size = c.requires;
        slots_are = filled.slots_are;
        count_is = ap length same;
        used_is = c.in-Some.ensures.sum ∙ ap name_bytes same;
        bound_is = c.in-Ok.ensures.bound;
        holes_are = c.in-Ok.ensures.holes;
        register_is = subst (λ (rows : List NodeRow). IsRegister rows [] c.in_ok-register.register) same c.in_ok-register.ensures.register;
        room_is = c.in_ok-register.ensures.room;
      };
    }

pub returns-clause-may : goal.returns-clause-may
returns-clause-may c =
    let volume = volume_of_parts c.args.size c.args.rows.now c.in-Some.used c.in_ok-slots.ensures.may c.in-Some.ensures.sum c.in-Some.ensures.within c.in_ok-register.ensures.apart in
    tree_of_volume c.args.size c.args.rows.now volume
