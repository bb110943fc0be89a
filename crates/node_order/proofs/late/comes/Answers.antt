use Rattle.std.proofs.Common.{◌≡◌, ℕ, List, is_lt, nat_lt, sym, ◌∙◌, ap}
use Rattle.std.proofs.lemmas.Option.{same_Some}
use Rattle.fsrm_model.specs.declared.row.NodeRow.{NodeRow}
use Rattle.fsrm_model.specs.nodes.Tree.{number}
use Rattle.fsrm_model.specs.values.Name.{name_cmp}
use Rattle.fsrm_base.proofs.Look.{found_has}
use Rattle.node_table.specs.Slots.{rows_of}
use Rattle.node_order.proofs.Compared.{lt_cmp}
use Rattle.node_order.proofs.Pairs.{key_before, key_of, named_before, own_before, own_key}
use Rattle.node_order.proofs.late.comes.Goals as goal

pub name_at-requires-clause-there : goal.name_at-requires-clause-there
name_at-requires-clause-there c =
    found_has number c.args.entry.node (rows_of c.args.slots.now.slots) c.requires.entry.row c.requires.entry.found

pub name_at-requires-then-ours-theirs-clause-there : goal.name_at-requires-then-ours-theirs-clause-there
name_at-requires-then-ours-theirs-clause-there c =
    found_has number c.args.other.node (rows_of c.args.slots.now.slots) c.requires.other.row c.requires.other.found

pub returns-then-ours-theirs : goal.returns-then-ours-theirs
returns-then-ours-theirs c row found =
    let nodes = rows_of c.args.slots.now.slots in
    let own = c.requires.entry in
    let other = c.requires.other in
    let read = c.name_at.ensures in
    let text = c.name_at-then-ours-theirs.ensures in
    let ours : c.name_at.result.now ≡ own.row.name = read.name_is ∙ ap (λ (r : NodeRow). r.name) (same_Some _ _ (sym read.found ∙ own.found)) in
    let theirs : c.name_at-then-ours-theirs.result.now ≡ other.row.name = text.name_is ∙ ap (λ (r : NodeRow). r.name) (same_Some _ _ (sym text.found ∙ other.found)) in
    let keys : key_of own.row ≡ key_of other.row = sym (c.key_of-ours.ensures ∙ own_key nodes c.args.entry own) ∙ (c.if-ours-theirs.true ∙ (c.key_of-theirs.ensures ∙ own_key nodes c.args.other other)) in
    let names = c.fold_cmp.ensures ∙ (ap (λ (t : List ℕ). name_cmp t c.name_at-then-ours-theirs.result.now) ours ∙ ap (name_cmp own.row.name) theirs) in
    own_before nodes c.args.entry c.args.other c.is_lt.result row own other (c.is_lt.ensures ∙ (ap is_lt names ∙ named_before own.row other.row keys)) found

pub returns : goal.returns
returns c row found =
    let nodes = rows_of c.args.slots.now.slots in
    let own = c.requires.entry in
    let other = c.requires.other in
    let ours : c.key_of-ours.result ≡ key_of own.row = c.key_of-ours.ensures ∙ own_key nodes c.args.entry own in
    let theirs : c.key_of-theirs.result ≡ key_of other.row = c.key_of-theirs.ensures ∙ own_key nodes c.args.other other in
    let keys : nat_lt c.key_of-ours.result c.key_of-theirs.result ≡ nat_lt (key_of own.row) (key_of other.row) =
    ap (λ (k : ℕ). nat_lt k c.key_of-theirs.result) ours ∙ ap (nat_lt (key_of own.row)) theirs in
    own_before nodes c.args.entry c.args.other (nat_lt c.key_of-ours.result c.key_of-theirs.result) row own other
    (keys ∙ (sym (lt_cmp (key_of own.row) (key_of other.row)) ∙ key_before own.row other.row (λ same. c.if-ours-theirs.false (ours ∙ (same ∙ sym theirs))))) found
