use Rattle.std.proofs.Common.{◌≡◌, ◌+◌, ◌≤◌, true, false, length, refl, sym, ◌∙◌, ap, subst, arith}
use Rattle.fsrm_model.specs.nodes.FileOps.{placed}
use Rattle.fsrm_base.specs.Keyed.{has_row, with_change}
use Rattle.fsrm_model.specs.nodes.Tree.{number, name_of, is_folder, is_under, name_bytes}
use Rattle.fsrm_model.specs.store.Valid.{IsVolume}
use Rattle.fsrm_model.proofs.valid.CapacityLaws.{names_most}
use Rattle.fsrm_model.proofs.nodes.Keeps.{tree_of}
use Rattle.fsrm_model.proofs.valid.ValidLaws.{folder_has}
use Rattle.volume_tree.specs.Kept.{rows_of}
use Rattle.volume_tree.specs.Volume.{Volume}
use Rattle.volume_tree.proofs.kept.KeptLaws.{name_fits, volume_placed}
use Rattle.volume_tree.proofs.kept.MoveLaws.{found_alone}
use Rattle.volume_tree.proofs.late.Registers.{volume_apart}
use Rattle.volume_tree.proofs.tree.Tree.ready_move.Goals as goal

pub is_at_or_below-requires-clause-tree : goal.is_at_or_below-requires-clause-tree
is_at_or_below-requires-clause-tree g c = tree_of c.self.inside.size _ c.self.invariant.kept.volume

pub is_at_or_below-requires-clause-there : goal.is_at_or_below-requires-clause-there
is_at_or_below-requires-clause-there g c =
    folder_has (rows_of c.self.inside.slots.slots) c.args.folder (ap (λ (v : Volume). is_folder v.nodes c.args.folder) c.self.view_is ∙ c.requires.folder)

pub child-requires-clause-apart : goal.child-requires-clause-apart
child-requires-clause-apart g c = volume_apart c.self.inside.size _ c.self.invariant.kept.volume

pub name_length-old_bytes-requires-clause-short : goal.name_length-old_bytes-requires-clause-short
name_length-old_bytes-requires-clause-short g c =
    let has : has_row number c.args.node (rows_of c.self.inside.slots.slots) ≡ true = ap (λ (v : Volume). has_row number c.args.node v.nodes) c.self.view_is ∙ c.requires.there in
    let fit = name_fits c.self.inside.size _ c.args.node c.self.invariant.kept.volume has in
    let names = c.self.invariant.kept.volume.names in
    let most = names_most c.self.inside.size c.self.invariant.kept.size in
    omega (arith, fit, names, most)

pub returns-clause-volume : goal.returns-clause-volume
returns-clause-volume g c =
    let i = c.self.inside in
    let slots = i.slots.slots in
    let node = c.args.node in
    let folder = c.args.folder in
    let name = c.args.name.now in
    let has : has_row number node (rows_of slots) ≡ true = ap (λ (v : Volume). has_row number node v.nodes) c.self.view_is ∙ c.requires.there in
    let apart : is_under (rows_of slots) node folder ≡ false = sym c.is_at_or_below.ensures.value ∙ c.if-is_at_or_below.false in
    let alone = found_alone (rows_of slots) node folder name c.child.result c.ok-found.result c.child.ensures.ok c.child.ensures.err c.ok-found.ensures.value (sym c.is_other.ensures ∙ c.if-is_other.false) in
    let bytes : c.name_length-old_bytes.result ≡ length (name_of (rows_of slots) node) = c.name_length-old_bytes.ensures.bytes in
    let used = c.self.invariant.kept.used_is in
    let room : name_bytes (rows_of slots) + length name ≤ i.size.names + length (name_of (rows_of slots) node) = omega (arith, bytes, used) in
    subst (λ (v : Volume). IsVolume v.size (with_change number node (placed folder name) v.nodes)) c.self.view_is
    (volume_placed i.size (rows_of slots) node folder name c.self.invariant.kept.volume has c.requires.inner
    (ap (λ (v : Volume). is_folder v.nodes folder) c.self.view_is ∙ c.requires.folder) c.requires.name apart alone room)
