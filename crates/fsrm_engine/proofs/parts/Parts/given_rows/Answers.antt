use Rattle.std.proofs.Common.{ap, length, ◌∙◌, arith}
use Rattle.std.specs.List.{list_all}
use Rattle.fsrm_model.specs.nodes.Tree.{is_folder}
use Rattle.fsrm_parts.specs.Applying.{gets_one}
use Rattle.fsrm_parts.proofs.applied.EligibleFolders.{passing_few, passing_folders}
use Rattle.fsrm_engine.proofs.parts.Parts.given_rows.Goals as goal

pub derived_rows-requires-clause-folders : goal.derived_rows-requires-clause-folders
derived_rows-requires-clause-folders g c =
    let p = c.args.self.now in
    let row = c.args.row.now in
    ap (list_all (is_folder p.tree.nodes)) (c.deref.ensures.value ∙ c.in_ok-folders.ensures.folders)
    ∙ passing_folders p.tree.nodes row.folder c.requires.ready.whole.sound.counted.volume.ascending (gets_one p.tree.nodes p.objects.quotas row)

pub returns-in_err-rows-clause-looks : goal.returns-in_err-rows-clause-looks
returns-in_err-rows-clause-looks g c =
    let p = c.args.self.now in
    let row = c.args.row.now in
    omega (
      arith,
      c.given_folders.ensures.looks,
      c.derived_rows.ensures.looks,
      ap length (c.deref.ensures.value ∙ c.in_ok-folders.ensures.folders),
      passing_few p.tree.nodes row.folder c.requires.ready.whole.sound.counted.volume.ascending (gets_one p.tree.nodes p.objects.quotas row),
    )

pub returns-clause-looks : goal.returns-clause-looks
returns-clause-looks g c =
    let p = c.args.self.now in
    let row = c.args.row.now in
    omega (
      arith,
      c.given_folders.ensures.looks,
      c.derived_rows.ensures.looks,
      ap length (c.deref.ensures.value ∙ c.in_ok-folders.ensures.folders),
      passing_few p.tree.nodes row.folder c.requires.ready.whole.sound.counted.volume.ascending (gets_one p.tree.nodes p.objects.quotas row),
    )
