use Rattle.std.proofs.Common.{◌≡◌, ◌==◌, ℕ, true, false, length, refl, sym, ◌∙◌, ap, subst, arith}
use Rattle.fsrm_model.specs.store.Capacities.{is_capacity}
use Rattle.fsrm_base.specs.Keyed.{has_row}
use Rattle.fsrm_model.specs.nodes.Tree.{number, parent_of, chain}
use Rattle.fsrm_model.proofs.nodes.Climbs.{shorter}
use Rattle.fsrm_model.proofs.nodes.Keeps.{tree_of}
use Rattle.fsrm_base.proofs.Look.{has_found}
use Rattle.fsrm_base.proofs.TestLaws.{clash, eq_same}
use Rattle.fsrm_model.proofs.valid.ValidLaws.{folder_has, found_parent}
use Rattle.quota_usage.proofs.OptionTests.{is_number, no_number}
use Rattle.rescan.proofs.moved.FolderArms.{scanned_follows, folder_follows}
use Rattle.rescan.proofs.moved.MoveArms.{Goes, below_counted, file_follows, share_same, share_counted, share_fits}
use Rattle.rescan.proofs.unvisited.Tops.{tops_of}
use Rattle.rescan.proofs.frontier.Frontier.on_move.Goals as goal

pub returns-then-eq-clause-follows : goal.returns-then-eq-clause-follows
returns-then-eq-clause-follows g c =
    let v = c.args.tree.now in
    let f = c.args.self.now in
    let row = has_found number c.args.node v.nodes c.requires.there in
    let goes : Goes v f c.args.node c.args.folder = record { stands = c.requires.stands; row = row.row; found = row.is; inner = c.requires.inner; folder = c.requires.folder; apart = c.requires.apart } in
    λ name w. scanned_follows v f c.args.node c.args.folder name goes (sym (ap (λ f. f.folder) c.self.view_is) ∙ is_number c.self.inside.folder c.args.node (sym c.eq.ensures ∙ c.if-eq.true)) w

pub standing-after-requires-clause-tree : goal.standing-after-requires-clause-tree
standing-after-requires-clause-tree g c = tree_of c.args.tree.now.size c.args.tree.now.nodes c.requires.stands.volume

pub standing-after-requires-clause-tops : goal.standing-after-requires-clause-tops
standing-after-requires-clause-tops g c = tops_of c.args.tree.now c.args.self.now c.requires.stands

pub standing-after-requires-clause-there : goal.standing-after-requires-clause-there
standing-after-requires-clause-there g c = folder_has c.args.tree.now.nodes c.args.folder c.requires.folder

pub standing-before-requires-clause-tree : goal.standing-before-requires-clause-tree
standing-before-requires-clause-tree g c = tree_of c.args.tree.now.size c.args.tree.now.nodes c.requires.stands.volume

pub standing-before-requires-clause-tops : goal.standing-before-requires-clause-tops
standing-before-requires-clause-tops g c = tops_of c.args.tree.now c.args.self.now c.requires.stands

pub move_folder-requires-clause-tops : goal.move_folder-requires-clause-tops
move_folder-requires-clause-tops g c = tops_of c.args.tree.now c.args.self.now c.requires.stands

pub move_folder-requires-clause-counted : goal.move_folder-requires-clause-counted
move_folder-requires-clause-counted g c = below_counted c.args.tree.now c.args.self.now c.args.node c.requires.stands

pub standing-before-requires-else-view-clause-tree : goal.standing-before-requires-else-view-clause-tree
standing-before-requires-else-view-clause-tree g c = tree_of c.args.tree.now.size c.args.tree.now.nodes c.requires.stands.volume

pub standing-before-requires-else-view-clause-tops : goal.standing-before-requires-else-view-clause-tops
standing-before-requires-else-view-clause-tops g c = tops_of c.args.tree.now c.args.self.now c.requires.stands

pub standing-before-requires-else-view-clause-there : goal.standing-before-requires-else-view-clause-there
standing-before-requires-else-view-clause-there g c =
    let nodes = c.args.tree.now.nodes in
    let shows = c.node-view.ensures.view in
    subst (λ (n : ℕ). has_row number n nodes ≡ true) (sym shows.is.parent) (folder_has nodes shows.row.parent (c.requires.stands.volume.up c.args.node shows.row shows.found))

pub move_file-requires-clause-counted : goal.move_file-requires-clause-counted
move_file-requires-clause-counted g c =
    let v = c.args.tree.now in
    let f = c.args.self.now in
    let shows = c.node-view.ensures.view in
    let goes : Goes v f c.args.node c.args.folder = record { stands = c.requires.stands; row = shows.row; found = shows.found; inner = c.requires.inner; folder = c.requires.folder; apart = c.requires.apart } in
    let file : shows.row.folder ≡ false = sym shows.is.folder ∙ c.if-view.false in
    let before = share_same f.room.cluster v.size.cluster v.nodes f c.node-view.result.length shows.row.length c.node-view.result.parent shows.row.parent c.standing-before-else-view.result c.requires.stands.fits.cluster c.standing-before-else-view.ensures.value shows.is.bytes shows.is.parent in
    omega (arith, before, share_counted v f c.args.node c.args.folder goes file)

pub move_file-requires-clause-fits : goal.move_file-requires-clause-fits
move_file-requires-clause-fits g c =
    let v = c.args.tree.now in
    let f = c.args.self.now in
    let shows = c.node-view.ensures.view in
    let goes : Goes v f c.args.node c.args.folder = record { stands = c.requires.stands; row = shows.row; found = shows.found; inner = c.requires.inner; folder = c.requires.folder; apart = c.requires.apart } in
    let file : shows.row.folder ≡ false = sym shows.is.folder ∙ c.if-view.false in
    let before = share_same f.room.cluster v.size.cluster v.nodes f c.node-view.result.length shows.row.length c.node-view.result.parent shows.row.parent c.standing-before-else-view.result c.requires.stands.fits.cluster c.standing-before-else-view.ensures.value shows.is.bytes shows.is.parent in
    let after = share_same f.room.cluster v.size.cluster v.nodes f c.node-view.result.length shows.row.length c.args.folder c.args.folder c.standing-after.result c.requires.stands.fits.cluster c.standing-after.ensures.value shows.is.bytes refl in
    let legal : is_capacity v.size ≡ true = ap is_capacity (sym c.capacity-size.ensures.size) ∙ c.capacity-size.ensures.legal in
    omega (arith, before, after, share_fits v f c.args.node c.args.folder goes legal file)

pub returns-then-view-clause-follows : goal.returns-then-view-clause-follows
returns-then-view-clause-follows g c =
    let v = c.args.tree.now in
    let f = c.args.self.now in
    let shows = c.node-view.ensures.view in
    let goes : Goes v f c.args.node c.args.folder = record { stands = c.requires.stands; row = shows.row; found = shows.found; inner = c.requires.inner; folder = c.requires.folder; apart = c.requires.apart } in
    λ name w. folder_follows v f c.move_folder.new.self c.args.node c.args.folder name c.standing-before.result c.standing-after.result goes
    (sym shows.is.folder ∙ c.if-view.true)
    (λ e. no_number c.self.inside.folder c.args.node (sym c.eq.ensures ∙ c.if-eq.false) (ap (λ f. f.folder) c.self.view_is ∙ e))
    w c.standing-before.ensures.value c.standing-after.ensures.value c.move_folder.ensures.goes

pub returns-else-view-clause-follows : goal.returns-else-view-clause-follows
returns-else-view-clause-follows g c =
    let v = c.args.tree.now in
    let f = c.args.self.now in
    let shows = c.node-view.ensures.view in
    let goes : Goes v f c.args.node c.args.folder = record { stands = c.requires.stands; row = shows.row; found = shows.found; inner = c.requires.inner; folder = c.requires.folder; apart = c.requires.apart } in
    let file : shows.row.folder ≡ false = sym shows.is.folder ∙ c.if-view.false in
    let before = share_same f.room.cluster v.size.cluster v.nodes f c.node-view.result.length shows.row.length c.node-view.result.parent shows.row.parent c.standing-before-else-view.result c.requires.stands.fits.cluster c.standing-before-else-view.ensures.value shows.is.bytes shows.is.parent in
    let after = share_same f.room.cluster v.size.cluster v.nodes f c.node-view.result.length shows.row.length c.args.folder c.args.folder c.standing-after.result c.requires.stands.fits.cluster c.standing-after.ensures.value shows.is.bytes refl in
    λ name w. file_follows v f c.move_file.new.self c.args.node c.args.folder name goes file w c.move_file.ensures.rest
    (omega (arith, before, after, c.move_file.ensures.sum))

pub returns-else-view-clause-looks : goal.returns-else-view-clause-looks
returns-else-view-clause-looks g c =
    let nodes = c.args.tree.now.nodes in
    let shows = c.node-view.ensures.view in
    let up : c.node-view.result.parent ≡ parent_of nodes c.args.node = shows.is.parent ∙ sym (found_parent nodes c.args.node shows.row shows.found) in
    let inner : c.args.node ≡ 0 → ⊥ = λ h. clash (c.args.node == 0) (ap (λ j. j == 0) h ∙ eq_same 0) c.requires.inner in
    let less = shorter nodes (tree_of c.args.tree.now.size nodes c.requires.stands.volume) c.args.node c.requires.there inner in
    omega (arith, ap (λ n. length (chain nodes n)) up, less, c.standing-after.ensures.looks, c.node-view.ensures.count, c.standing-before-else-view.ensures.looks)
