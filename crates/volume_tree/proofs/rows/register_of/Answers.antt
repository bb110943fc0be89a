use Rattle.std.proofs.Common.{◌≡◌, ℕ, ◌+◌, ◌-◌, ◌<◌, true, List, ◌∷◌, drop, length, map, take, refl, subst, sym, ◌∙◌, ap, arith, rules}
use Rattle.std.proofs.lemmas.List.{take_rest}
use Rattle.fsrm_base.specs.Keyed.{has_row, is_ascending}
use Rattle.fsrm_base.proofs.Look.{found_has}
use Rattle.fsrm_model.specs.declared.row.NodeRow.{NodeRow}
use Rattle.fsrm_model.specs.nodes.Tree.{number}
use Rattle.node_order.specs.Order.{inner}
use Rattle.node_order.proofs.SlotRows.{slots_ascend}
use Rattle.volume_tree.specs.Late.{IsRegister}
use Rattle.volume_tree.specs.Sound.{HasTwins}
use Rattle.volume_tree.specs.Twins.{AreApartBut}
use Rattle.volume_tree.proofs.late.RowsRead.{inner_few, none_left, numbers_left, other_of, others_fit, others_inner}
use Rattle.volume_tree.proofs.late.RowsTwins.{apart_first, apart_last}
use Rattle.volume_tree.proofs.rows.register_of.Goals as goal

pub slice_bounds-others-start : goal.slice_bounds-others-start
slice_bounds-others-start c = let some : 0 < length c.args.rows.now = others_fit c.args.rows.now c.requires.root in search rules

pub loop-row-init : goal.loop-row-init
loop-row-init c =
    let rows = c.args.rows.now in
    let slots = c.args.slots.now.slots in
    let a : is_ascending number rows ≡ true = subst (λ (rs : List NodeRow). is_ascending number rs ≡ true) c.requires.rows (slots_ascend slots c.requires.slots) in
    let few : length (inner rows) < c.args.most = omega (arith, inner_few rows a c.requires.root, c.requires.room) in
    let is : inner rows ≡ take (length rows - 1) (drop 1 rows) = others_inner rows a c.requires.root ∙ sym (take_rest rows 1) in
    record {
      register = subst (λ (rs : List NodeRow). IsRegister rows (map number rs) c.in-Ok.register) is (c.in-Ok.ensures.empty rows few);
      room = c.in-Ok.ensures.room;
      apart = subst (λ (rs : List NodeRow). AreApartBut rows (map number rs)) is (apart_first rows);
    }

pub enter_alone-requires-clause-there : goal.enter_alone-requires-clause-there
enter_alone-requires-clause-there c =
    let rows = c.args.rows.now in
    let slots = c.args.slots.now.slots in
    let row = c.row-item.result in
    let a : is_ascending number rows ≡ true = subst (λ (rs : List NodeRow). is_ascending number rs ≡ true) c.requires.rows (slots_ascend slots c.requires.slots) in
    let other = other_of rows (take (length rows - 1) (drop 1 rows)) c.loop-row.row-index row a (take_rest rows 1) c.loop-row-test.true c.row-item.is in
    ap (has_row number row.number) c.requires.rows ∙ found_has number row.number rows row other.found

pub enter_alone-requires-clause-inner : goal.enter_alone-requires-clause-inner
enter_alone-requires-clause-inner c =
    let rows = c.args.rows.now in
    let slots = c.args.slots.now.slots in
    let row = c.row-item.result in
    let a : is_ascending number rows ≡ true = subst (λ (rs : List NodeRow). is_ascending number rs ≡ true) c.requires.rows (slots_ascend slots c.requires.slots) in
    (other_of rows (take (length rows - 1) (drop 1 rows)) c.loop-row.row-index row a (take_rest rows 1) c.loop-row-test.true c.row-item.is).inside

pub enter_alone-requires-clause-absent : goal.enter_alone-requires-clause-absent
enter_alone-requires-clause-absent c =
    let rows = c.args.rows.now in
    let others = take (length rows - 1) (drop 1 rows) in
    let i = c.loop-row.row-index in
    let left = numbers_left others i c.row-item.result c.loop-row-test.true c.row-item.is in (
      map number (drop (i + 1) others),
      subst (λ (rs : List NodeRow). IsRegister rs (c.row-item.result.number ∷ map number (drop (i + 1) others)) c.loop-row.register) (sym c.requires.rows)
          (subst (λ (ns : List ℕ). IsRegister rows ns c.loop-row.register) left c.loop-row.invariant.register),
    )

pub loop-row-preserved : goal.loop-row-preserved
loop-row-preserved c =
    let rows = c.args.rows.now in
    let others = take (length rows - 1) (drop 1 rows) in
    let i = c.loop-row.row-index in
    let n = c.row-item.result.number in
    let rest = map number (drop (i + 1) others) in
    let left = numbers_left others i c.row-item.result c.loop-row-test.true c.row-item.is in
    let absent =
    subst (λ (rs : List NodeRow). IsRegister rs (n ∷ rest) c.loop-row.register) (sym c.requires.rows)
    (subst (λ (ns : List ℕ). IsRegister rows ns c.loop-row.register) left c.loop-row.invariant.register) in
    let apart =
    subst (λ (rs : List NodeRow). AreApartBut rs (n ∷ rest)) (sym c.requires.rows)
    (subst (λ (ns : List ℕ). AreApartBut rows ns) left c.loop-row.invariant.apart) in
    record {
      register = subst (λ (rs : List NodeRow). IsRegister rs rest c.enter_alone.new.register) c.requires.rows (c.if-not-enter_alone.ensures.entered refl rest absent);
      room = c.if-not-enter_alone.ensures.room ∙ c.loop-row.invariant.room;
      apart = subst (λ (rs : List NodeRow). AreApartBut rs rest) c.requires.rows (c.if-not-enter_alone.ensures.apart refl rest absent apart);
    }

pub returns-then-not-enter_alone-clause-bad : goal.returns-then-not-enter_alone-clause-bad
returns-then-not-enter_alone-clause-bad c = λ e. subst HasTwins c.requires.rows (c.if-not-enter_alone.ensures.twins refl)

pub returns-clause-register : goal.returns-clause-register
returns-clause-register c =
    let rows = c.args.rows.now in
    subst (λ (ns : List ℕ). IsRegister rows ns c.loop-row.register) (none_left (take (length rows - 1) (drop 1 rows)) c.loop-row.row-index c.loop-row-test.false) c.loop-row.invariant.register

pub returns-clause-room : goal.returns-clause-room
returns-clause-room c = c.loop-row.invariant.room

pub returns-clause-apart : goal.returns-clause-apart
returns-clause-apart c =
    let rows = c.args.rows.now in
    apart_last rows (subst (λ (ns : List ℕ). AreApartBut rows ns) (none_left (take (length rows - 1) (drop 1 rows)) c.loop-row.row-index c.loop-row-test.false) c.loop-row.invariant.apart)
