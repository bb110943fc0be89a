use Rattle.std.proofs.Common.{◌≡◌, ℕ, ◌+◌, ◌≤◌, Bool, true, false, cond, length, List, [], ◌∷◌, Some, refl, sym, ◌∙◌, ap, subst, arith}
use Rattle.fsrm_base.specs.Keyed.{with_row}
use Rattle.fsrm_base.specs.Numbers.{without_number}
use Rattle.fsrm_model.specs.declared.row.NodeRow.{NodeRow}
use Rattle.fsrm_model.specs.nodes.FileOps.{made_node}
use Rattle.fsrm_model.specs.values.Limits.{longest_file}
use Rattle.fsrm_model.specs.nodes.Tree.{fresh, number}
use Rattle.fsrm_model.proofs.nodes.OwnLaws.{own_new}
use Rattle.name_index.specs.Hash.{name_hash}
use Rattle.node_table.specs.Views.{IsInRange, seen}
use Rattle.node_order.proofs.SlotLaws.{there_is}
use Rattle.volume_tree.specs.Kept.{rows_of}
use Rattle.volume_tree.specs.Volume.{Volume, new_fault, with_node}
use Rattle.volume_tree.proofs.kept.EnterLaws.{IsMade, made_held, made_is}
use Rattle.volume_tree.proofs.kept.HeldLaws.{fresh_empty, volume}
use Rattle.volume_tree.proofs.kept.MakeLaws.{may_make}
use Rattle.volume_tree.proofs.slotted.FreshLaws.{fresh_most}
use Rattle.volume_tree.proofs.tree.Tree.make.Goals as goal

pub put-requires-clause-within : goal.put-requires-clause-within
put-requires-clause-within g c =
    let i = c.self.inside in
    let h = c.self.invariant in
    let nodes = rows_of i.slots.slots in
    let may = may_make (volume i.size nodes) c.args.folder c.args.name.now (ap (λ (v : Volume). new_fault v c.args.folder c.args.name.now) c.self.view_is ∙ c.requires.may) in
    let own = ap (λ (r : NodeRow). r.number) c.view-row.ensures in
    omega (arith, own, c.next_number-number.ensures, fresh_most nodes h.kept.volume.ascending, may.room, h.nodes_are)

pub put-requires-clause-empty : goal.put-requires-clause-empty
put-requires-clause-empty g c =
    let i = c.self.inside in
    let h = c.self.invariant in
    let own = ap (λ (r : NodeRow). r.number) c.view-row.ensures in
    there_is (seen c.view-row.result).number i.slots.slots h.kept.slots_are ∙ fresh_empty i.size i.count i.used i.holes i.slots i.register (seen c.view-row.result).number h (own ∙ c.next_number-number.ensures)

pub put-requires-clause-room : goal.put-requires-clause-room
put-requires-clause-room g c =
    let i = c.self.inside in
    let h = c.self.invariant in
    let may = may_make (volume i.size (rows_of i.slots.slots)) c.args.folder c.args.name.now (ap (λ (v : Volume). new_fault v c.args.folder c.args.name.now) c.self.view_is ∙ c.requires.may) in
    let bytes = ap (λ (r : NodeRow). length r.name) c.view-row.ensures in
    omega (arith, bytes, may.names, h.names_are)

pub put-requires-clause-range : goal.put-requires-clause-range
put-requires-clause-range g c =
    let new = c.args.new in
    let short : new.length ≤ longest_file = short_of new.folder new.length c.requires.length in
    subst IsInRange (sym c.view-row.ensures) (record { bytes = short; created_at = c.requires.moment; modified_at = c.requires.moment; accessed_at = c.requires.moment })
  where
    short_of : (folder : Bool) (n : ℕ) → n ≤ cond folder 0 longest_file → n ≤ longest_file
    short_of true n h = omega arith
    short_of false n h = h

pub enter-requires : goal.enter-requires
enter-requires g c =
    let i = c.self.inside in
    let new = c.args.new in
    let name = c.args.name.now in
    let row : NodeRow = record { number = c.next_number-number.result; parent = c.args.folder; name = name; folder = new.folder; length = new.length; owner = new.owner; created = new.moment; modified = new.moment; accessed = new.moment } in
    let m : IsMade i.size i.slots c.put.new.self i.register (seen c.view-row.result) =
    made_is i.size i.count i.used i.holes i.slots c.put.new.self i.register _ row (seen c.view-row.result) c.self.invariant c.self.view_is c.next_number-number.ensures
    (own_new row.number c.args.folder name new.folder new.length new.owner new.moment c.requires.name c.requires.length c.requires.owner c.requires.moment)
    c.requires.folder c.requires.may c.view-row.ensures c.put.ensures in
    record {
      slots = m.slots;
      there = m.ready.there;
      inner = m.ready.inner;
      hash = c.hash_of-hash.ensures ∙ sym (ap (λ (r : NodeRow). name_hash r.parent r.name) c.view-row.ensures);
      alone = m.ready.lacks;
      absent = ([], m.ready.absent);
    }

pub invariant_of-self : goal.invariant_of-self
invariant_of-self g c =
    let i = c.self.inside in
    let new = c.args.new in
    let name = c.args.name.now in
    let row : NodeRow = record { number = c.next_number-number.result; parent = c.args.folder; name = name; folder = new.folder; length = new.length; owner = new.owner; created = new.moment; modified = new.moment; accessed = new.moment } in
    let m : IsMade i.size i.slots c.put.new.self i.register (seen c.view-row.result) =
    made_is i.size i.count i.used i.holes i.slots c.put.new.self i.register _ row (seen c.view-row.result) c.self.invariant c.self.view_is c.next_number-number.ensures
    (own_new row.number c.args.folder name new.folder new.length new.owner new.moment c.requires.name c.requires.length c.requires.owner c.requires.moment)
    c.requires.folder c.requires.may c.view-row.ensures c.put.ensures in
    made_held i.size i.count i.used (length name) i.holes c.remove.new.self i.slots c.put.new.self i.register c.enter.new.self (seen c.view-row.result) c.self.invariant m
    (c.remove.ensures ∙ ap (λ (n : ℕ). record i.holes { members = without_number n i.holes.members }) (sym (ap (λ (r : NodeRow). r.number) c.view-row.ensures)))
    (sym (ap (λ (r : NodeRow). length r.name) c.view-row.ensures)) (c.enter.ensures.entered [] m.ready.absent) c.enter.ensures.room

pub returns-clause-made : goal.returns-clause-made
returns-clause-made g c =
    let i = c.self.inside in
    let nodes = rows_of i.slots.slots in
    let new = c.args.new in
    let name = c.args.name.now in
    let row : NodeRow = record { number = c.next_number-number.result; parent = c.args.folder; name = name; folder = new.folder; length = new.length; owner = new.owner; created = new.moment; modified = new.moment; accessed = new.moment } in
    let m : IsMade i.size i.slots c.put.new.self i.register (seen c.view-row.result) =
    made_is i.size i.count i.used i.holes i.slots c.put.new.self i.register _ row (seen c.view-row.result) c.self.invariant c.self.view_is c.next_number-number.ensures
    (own_new row.number c.args.folder name new.folder new.length new.owner new.moment c.requires.name c.requires.length c.requires.owner c.requires.moment)
    c.requires.folder c.requires.may c.view-row.ensures c.put.ensures in
    let is : seen c.view-row.result ≡ made_node nodes c.args.folder name new.folder new.length new.owner new.moment =
    c.view-row.ensures
    ∙ ap (λ (n : ℕ). record { number = n; parent = c.args.folder; name = name; folder = new.folder; length = new.length; owner = new.owner; created = new.moment; modified = new.moment; accessed = new.moment }) c.next_number-number.ensures in
    ap (volume i.size) (m.rows ∙ ap (λ (r : NodeRow). with_row number r nodes) is)
    ∙ ap (λ (v : Volume). with_node v (made_node v.nodes c.args.folder name new.folder new.length new.owner new.moment)) c.self.view_is

pub returns-clause-kept : goal.returns-clause-kept
returns-clause-kept g c = (invariant_of-self g c).kept.volume
