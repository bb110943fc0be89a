use Rattle.std.proofs.Common.{rules, ◌≡◌, ℕ, ◌^◌, ◌<◌, ◌==◌, ◌&&◌, ◌||◌, nat_lt, List, Some, sym, ◌∙◌, ap, subst}
use Rattle.std.proofs.lemmas.Option.{same_Some}
use Rattle.fsrm_model.specs.declared.row.NodeRow.{NodeRow}
use Rattle.fsrm_model.specs.values.Name.{name_cmp}
use Rattle.fsrm_model.specs.nodes.Tree.{number}
use Rattle.fsrm_base.proofs.Look.{found_has}
use Rattle.node_order.specs.Entries.{place_key}
use Rattle.node_table.specs.Slots.{rows_of}
use Rattle.node_order.specs.Order.{Stands}
use Rattle.node_order.proofs.Compared.{stands_apart, stands_by_name, stands_named}
use Rattle.node_order.proofs.Keys.{key_less, keys_apart, keys_same}
use Rattle.node_order.proofs.compare.is_before.Goals as goal

pub name_at-requires-clause-there : goal.name_at-requires-clause-there
name_at-requires-clause-there g c =
    let own = c.requires.entry in
    found_has number c.args.entry.node (rows_of c.args.slots.now.slots) own.row own.found

pub returns-in-Equal-clause-stands : goal.returns-in-Equal-clause-stands
returns-in-Equal-clause-stands g c =
    let e = c.args.entry in
    let own = c.requires.entry in
    let name = c.args.name.now in
    let read = c.name_at.ensures in
    let text : c.name_at.result.now ≡ own.row.name = read.name_is ∙ ap (λ (r : NodeRow). r.name) (same_Some _ _ (sym read.found ∙ own.found)) in
    let ours : c.place_key-ours.result ≡ place_key e.parent e.prefix = c.place_key-ours.ensures ∙ ap (λ (p : ℕ). place_key p e.prefix) c.from.ensures in
    let same = keys_same e.parent e.prefix c.args.folder c.args.prefix (search rules) (search rules) (sym ours ∙ (c.if-ours-sought.true ∙ c.place_key-sought.ensures)) in
    stands_named (rows_of c.args.slots.now.slots) e c.args.folder c.args.prefix name own c.requires.prefix same (c.in-Equal.ensures ∙ ap (λ (t : List ℕ). name_cmp t name) text)

pub returns-in_default : goal.returns-in_default
returns-in_default g c =
    let e = c.args.entry in
    let own = c.requires.entry in
    let nodes = rows_of c.args.slots.now.slots in
    let name = c.args.name.now in
    let read = c.name_at.ensures in
    let text : c.name_at.result.now ≡ own.row.name = read.name_is ∙ ap (λ (r : NodeRow). r.name) (same_Some _ _ (sym read.found ∙ own.found)) in
    let names : c.fold_cmp.result ≡ name_cmp own.row.name name = c.fold_cmp.ensures ∙ ap (λ (t : List ℕ). name_cmp t name) text in
    let ours : c.place_key-ours.result ≡ place_key e.parent e.prefix = c.place_key-ours.ensures ∙ ap (λ (p : ℕ). place_key p e.prefix) c.from.ensures in
    let same = keys_same e.parent e.prefix c.args.folder c.args.prefix (search rules) (search rules) (sym ours ∙ (c.if-ours-sought.true ∙ c.place_key-sought.ensures)) in
    record {
      stands = subst (λ b. Stands nodes e.node c.args.folder name (Some b)) (sym c.is_lt.ensures) (stands_by_name nodes e c.args.folder c.args.prefix name own c.requires.prefix c.fold_cmp.result same names c.in_default.not-Equal);
      count = c.tick.ensures;
    }

pub returns-clause-stands : goal.returns-clause-stands
returns-clause-stands g c =
    let e = c.args.entry in
    let nodes = rows_of c.args.slots.now.slots in
    let name = c.args.name.now in
    let small : e.prefix < 2 ^ 64 = search rules in
    let less : c.args.prefix < 2 ^ 64 = search rules in
    let ours : c.place_key-ours.result ≡ place_key e.parent e.prefix = c.place_key-ours.ensures ∙ ap (λ (p : ℕ). place_key p e.prefix) c.from.ensures in
    let apart = keys_apart e.parent e.prefix c.args.folder c.args.prefix small less (λ t. c.if-ours-sought.false (ours ∙ (t ∙ sym c.place_key-sought.ensures))) in
    let before : (nat_lt e.parent c.args.folder || ((e.parent == c.args.folder) && nat_lt e.prefix c.args.prefix)) ≡ nat_lt c.place_key-ours.result c.place_key-sought.result =
    sym (key_less e.parent e.prefix c.args.folder c.args.prefix small less)
    ∙ (ap (λ (k : ℕ). nat_lt k (place_key c.args.folder c.args.prefix)) (sym ours) ∙ ap (nat_lt c.place_key-ours.result) (sym c.place_key-sought.ensures)) in
    subst (λ b. Stands nodes e.node c.args.folder name (Some b)) before (stands_apart nodes e c.args.folder c.args.prefix name c.requires.entry c.requires.prefix apart)
