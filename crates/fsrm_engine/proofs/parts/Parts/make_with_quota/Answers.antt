use Rattle.std.proofs.Common.{◌≡◌, ◌==◌, true, ap, sym, ◌∙◌, subst, length, ℕ}
use Rattle.fsrm_base.specs.Keyed.{has_row}
use Rattle.fsrm_model.specs.nodes.Tree.{number, children}
use Rattle.volume_tree.specs.Volume.{Volume, without_node}
use Rattle.fsrm_engine.specs.declared.parts.Parts.{Parts}
use Rattle.fsrm_engine.specs.Machine.{AreCounted}
use Rattle.fsrm_engine.proofs.coming.MadeQuota.{made_back, made_counts, made_empty, made_inner, made_with}
use Rattle.fsrm_engine.proofs.operations.FollowLaws.{when_ok}
use Rattle.fsrm_engine.proofs.operations.GoingLaws.{goes_well, no_fault}
use Rattle.fsrm_engine.proofs.operations.IdleLaws.{idle_made}
use Rattle.fsrm_engine.proofs.parts.Parts.make_with_quota.Goals as goal

pub add-requires-clause-counted : goal.add-requires-clause-counted
add-requires-clause-counted g c =
    let p = c.args.self.now in
    idle_made p.tree c.make_folder-node.new.self p.objects.quotas p.usage _ _ c.args.owner c.args.moment c.requires.ready.whole.sound.counted c.requires.folder c.make_folder-node.ensures.made c.make_folder-node.ensures.kept

pub add-requires-clause-folder : goal.add-requires-clause-folder
add-requires-clause-folder g c =
    (made_counts c.args.self.now c.requires.ready.whole c.args.template c.requires.there c.make_folder-node.new.self c.args.place.folder c.args.place.name.now c.args.owner c.args.moment c.make_folder-node.result c.in_ok-row.row c.requires.folder c.make_folder-node.ensures.made c.make_folder-node.ensures.number c.in_ok-row.ensures
    c.make_folder-node.ensures.kept c.requires.ready.in_range).folder

pub add-requires-clause-limit : goal.add-requires-clause-limit
add-requires-clause-limit g c =
    (made_counts c.args.self.now c.requires.ready.whole c.args.template c.requires.there c.make_folder-node.new.self c.args.place.folder c.args.place.name.now c.args.owner c.args.moment c.make_folder-node.result c.in_ok-row.row c.requires.folder c.make_folder-node.ensures.made c.make_folder-node.ensures.number c.in_ok-row.ensures
    c.make_folder-node.ensures.kept c.requires.ready.in_range).limit

pub add-requires-clause-ascending : goal.add-requires-clause-ascending
add-requires-clause-ascending g c =
    (made_counts c.args.self.now c.requires.ready.whole c.args.template c.requires.there c.make_folder-node.new.self c.args.place.folder c.args.place.name.now c.args.owner c.args.moment c.make_folder-node.result c.in_ok-row.row c.requires.folder c.make_folder-node.ensures.made c.make_folder-node.ensures.number c.in_ok-row.ensures
    c.make_folder-node.ensures.kept c.requires.ready.in_range).ascending

pub add-requires-clause-thresholds : goal.add-requires-clause-thresholds
add-requires-clause-thresholds g c =
    (made_counts c.args.self.now c.requires.ready.whole c.args.template c.requires.there c.make_folder-node.new.self c.args.place.folder c.args.place.name.now c.args.owner c.args.moment c.make_folder-node.result c.in_ok-row.row c.requires.folder c.make_folder-node.ensures.made c.make_folder-node.ensures.number c.in_ok-row.ensures
    c.make_folder-node.ensures.kept c.requires.ready.in_range).thresholds

pub add-requires-clause-moment : goal.add-requires-clause-moment
add-requires-clause-moment g c =
    (made_counts c.args.self.now c.requires.ready.whole c.args.template c.requires.there c.make_folder-node.new.self c.args.place.folder c.args.place.name.now c.args.owner c.args.moment c.make_folder-node.result c.in_ok-row.row c.requires.folder c.make_folder-node.ensures.made c.make_folder-node.ensures.number c.in_ok-row.ensures
    c.make_folder-node.ensures.kept c.requires.ready.in_range).moment

pub add-requires-clause-nothing : goal.add-requires-clause-nothing
add-requires-clause-nothing g c =
    (made_counts c.args.self.now c.requires.ready.whole c.args.template c.requires.there c.make_folder-node.new.self c.args.place.folder c.args.place.name.now c.args.owner c.args.moment c.make_folder-node.result c.in_ok-row.row c.requires.folder c.make_folder-node.ensures.made c.make_folder-node.ensures.number c.in_ok-row.ensures
    c.make_folder-node.ensures.kept c.requires.ready.in_range).nothing

pub remove-requires-clause-there : goal.remove-requires-clause-there
remove-requires-clause-there g c =
    subst (λ (y : Parts). has_row number c.make_folder-node.result y.tree.nodes ≡ true) (sym c.in_default.ensures.err)
    (made_back c.args.self.now c.make_folder-node.new.self c.args.place.folder c.args.place.name.now c.args.owner c.args.moment c.make_folder-node.result c.requires.ready.whole.sound.counted.volume c.requires.folder c.make_folder-node.ensures.made c.make_folder-node.ensures.number).0

pub remove-requires-clause-inner : goal.remove-requires-clause-inner
remove-requires-clause-inner g c =
    ap (λ (k : ℕ). k == 0) c.make_folder-node.ensures.number ∙ made_inner c.args.self.now.tree.size c.args.self.now.tree.nodes c.requires.ready.whole.sound.counted.volume

pub unwrap-requires : goal.unwrap-requires
unwrap-requires g c =
    let n = c.make_folder-node.result in
    let v = c.add.new.self.tree in
    let empty = subst (λ (y : Parts). length (children y.tree.nodes n) ≡ 0) (sym c.in_default.ensures.err)
    (made_empty c.args.self.now c.make_folder-node.new.self c.args.place.folder c.args.place.name.now c.args.owner c.args.moment n c.requires.ready.whole.sound.counted.volume c.requires.folder c.make_folder-node.ensures.made c.make_folder-node.ensures.number) in
    goes_well v n c.remove.result (no_fault v n empty) c.remove.ensures.refused

pub returns-in_default-clause-err : goal.returns-in_default-clause-err
returns-in_default-clause-err g c =
    let n = c.make_folder-node.result in
    ap (λ (u : Volume). record c.add.new.self { tree = u }) (when_ok _ _ c.unwrap.ensures c.remove.ensures.made)
    ∙ (ap (λ (y : Parts). record y { tree = without_node y.tree n }) c.in_default.ensures.err
    ∙ ap (λ (u : Volume). record c.args.self.now { tree = u })
    (made_back c.args.self.now c.make_folder-node.new.self c.args.place.folder c.args.place.name.now c.args.owner c.args.moment c.make_folder-node.result c.requires.ready.whole.sound.counted.volume c.requires.folder c.make_folder-node.ensures.made c.make_folder-node.ensures.number).1)

pub returns-in_default-clause-counted : goal.returns-in_default-clause-counted
returns-in_default-clause-counted g c = subst AreCounted (sym (returns-in_default-clause-err g c)) c.requires.ready.whole.sound.counted

pub returns-clause-made : goal.returns-clause-made
returns-clause-made g c =
    made_with c.args.self.now c.requires.ready.whole c.args.template c.requires.there c.make_folder-node.new.self c.args.place.folder c.args.place.name.now c.args.owner c.args.moment c.make_folder-node.result c.in_ok-row.row c.requires.folder c.make_folder-node.ensures.made c.make_folder-node.ensures.number c.in_ok-row.ensures
    c.add.new.self c.in-Ok.ensures.added
