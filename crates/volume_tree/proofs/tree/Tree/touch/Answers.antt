use Rattle.std.proofs.Common.{◌≡◌, true, refl, sym, ◌∙◌, ap, subst}
use Rattle.fsrm_base.specs.Keyed.{has_row}
use Rattle.fsrm_model.specs.nodes.FileOps.{touched}
use Rattle.fsrm_model.specs.nodes.Tree.{number, is_folder}
use Rattle.node_table.specs.Slots.{with_change_at}
use Rattle.node_table.specs.Table.{Table}
use Rattle.volume_tree.specs.Kept.{IsHeld, rows_of}
use Rattle.volume_tree.specs.Volume.{Volume, with_touch}
use Rattle.volume_tree.proofs.kept.HeldLaws.{volume}
use Rattle.volume_tree.proofs.kept.KeptLaws.{touched_kept}
use Rattle.node_order.proofs.SlotLaws.{changed, there_is}
use Rattle.volume_tree.proofs.tree.Tree.touch.Goals as goal

pub set_accessed-requires-clause-taken : goal.set_accessed-requires-clause-taken
set_accessed-requires-clause-taken g c =
    let i = c.self.inside in
    there_is c.args.node i.slots.slots c.self.invariant.kept.slots_are ∙ (ap (λ (v : Volume). has_row number c.args.node v.nodes) c.self.view_is ∙ c.requires.there)

pub invariant_of-self : goal.invariant_of-self
invariant_of-self g c =
    let i = c.self.inside in
    let h = c.self.invariant in
    let n = c.args.node in
    let has : has_row number n (rows_of i.slots.slots) ≡ true = ap (λ (v : Volume). has_row number n v.nodes) c.self.view_is ∙ c.requires.there in
    let new = changed i.slots.slots n (touched c.args.moment) h.kept.slots_are has (λ r. refl) in
    subst (λ (table : Table). IsHeld i.size i.count i.used i.holes table i.register) (sym c.set_accessed.ensures) (record {
      nodes_are = h.nodes_are;
      names_are = h.names_are;
      kept = touched_kept i.size i.count i.used i.holes i.slots.slots (with_change_at i.slots.slots n (touched c.args.moment)) i.register n c.args.moment h.kept
          (ap (λ (v : Volume). is_folder v.nodes n) c.self.view_is ∙ c.requires.file) c.requires.moment new.slots_are new.rows_are new.size;
    })

pub returns-clause-made : goal.returns-clause-made
returns-clause-made g c =
    let i = c.self.inside in
    let n = c.args.node in
    let has : has_row number n (rows_of i.slots.slots) ≡ true = ap (λ (v : Volume). has_row number n v.nodes) c.self.view_is ∙ c.requires.there in
    let new = changed i.slots.slots n (touched c.args.moment) c.self.invariant.kept.slots_are has (λ r. refl) in
    ap (λ (table : Table). volume i.size (rows_of table.slots)) c.set_accessed.ensures ∙ (ap (volume i.size) new.rows_are ∙ ap (λ (v : Volume). with_touch v n c.args.moment) c.self.view_is)

pub returns-clause-kept : goal.returns-clause-kept
returns-clause-kept g c = (invariant_of-self g c).kept.volume
