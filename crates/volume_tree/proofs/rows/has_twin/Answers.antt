use Rattle.std.proofs.Common.{◌∷◌, refl, sym}
use Rattle.fsrm_base.proofs.TestLaws.{clash}
use Rattle.node_order.proofs.SlotRows.{slots_ascend}
use Rattle.volume_tree.specs.Kept.{rows_of}
use Rattle.volume_tree.proofs.late.RowsTwins.{absent_unlisted, name_free, none_absent, twins_of}
use Rattle.volume_tree.proofs.rows.has_twin.Goals as goal

pub returns-then-holds_twin-clause-twins : goal.returns-then-holds_twin-clause-twins
returns-then-holds_twin-clause-twins c =
    λ e. twins_of (rows_of c.args.slots.now.slots) c.args.row.now c.requires.there c.requires.inner (c.if-holds_twin.ensures.twin refl)

pub returns-then-not-has_lost-clause-free : goal.returns-then-not-has_lost-clause-free
returns-then-not-has_lost-clause-free c =
    λ e rest k.
    let row = c.args.row.now in
    name_free (rows_of c.args.slots.now.slots) (row.number ∷ rest) c.args.register.now row.parent row.name.now c.args.hash k c.requires.hash
    (λ n h present. c.if-holds_twin.ensures.none refl n h (none_absent row.number n rest present))
    (λ l. absurd (clash _ l (sym c.if-not-has_lost.ensures)))

pub lists_twin-requires-clause-order : goal.lists_twin-requires-clause-order
lists_twin-requires-clause-order c = c.requires.absent.1.entered.listed

pub lists_twin-requires-clause-entries : goal.lists_twin-requires-clause-entries
lists_twin-requires-clause-entries c = c.requires.absent.1.entered.entries

pub lists_twin-requires-clause-other : goal.lists_twin-requires-clause-other
lists_twin-requires-clause-other c =
    let slots = c.args.slots.now.slots in
    absent_unlisted (rows_of slots) c.args.row.now.number c.requires.absent.0 c.args.register.now (slots_ascend slots c.requires.slots) c.requires.absent.1

pub returns-clause-twins : goal.returns-clause-twins
returns-clause-twins c =
    λ e. twins_of (rows_of c.args.slots.now.slots) c.args.row.now c.requires.there c.requires.inner (c.lists_twin.ensures.twin e)

pub returns-clause-free : goal.returns-clause-free
returns-clause-free c =
    λ e rest k.
    let row = c.args.row.now in
    name_free (rows_of c.args.slots.now.slots) (row.number ∷ rest) c.args.register.now row.parent row.name.now c.args.hash k c.requires.hash
    (λ n h present. c.if-holds_twin.ensures.none refl n h (none_absent row.number n rest present))
    (λ l. c.lists_twin.ensures.none e)
