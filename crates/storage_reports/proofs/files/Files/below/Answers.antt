use Rattle.std.proofs.Common.{◌≡◌, List, true, ◌∙◌, sym, ap, subst, arith}
use Rattle.fsrm_model.specs.declared.row.NodeRow.{NodeRow}
use Rattle.fsrm_model.specs.store.Capacities.{is_capacity}
use Rattle.fsrm_model.proofs.valid.ValidLaws.{folder_has}
use Rattle.storage_reports.specs.Files.{Fits}
use Rattle.storage_reports.proofs.CourseLaws.{all_ahead, all_files}
use Rattle.storage_reports.proofs.FitLaws.{fits, under_few}
use Rattle.storage_reports.proofs.files.Files.below.Goals as goal

pub marked_below-requires-clause-there : goal.marked_below-requires-clause-there
marked_below-requires-clause-there g c = folder_has c.args.tree.now.nodes c.args.scope c.requires.folder

pub returns-in_err-marks-clause-looks : goal.returns-in_err-marks-clause-looks
returns-in_err-marks-clause-looks g c =
    let K = c.args.tree.now.size in
    let legal : is_capacity K ≡ true = sym (ap is_capacity c.capacity-size.ensures.size) ∙ c.capacity-size.ensures.legal in
    omega (arith, c.marked_below.ensures.looks, under_few K c.args.tree.now.nodes c.requires.volume legal c.args.scope)

pub returns-clause-files : goal.returns-clause-files
returns-clause-files g c =
    c.all.ensures.files
    ∙ all_files c.args.tree.now.size c.args.tree.now.nodes c.requires.volume c.in_ok-marks.marks.items c.args.asked.now c.args.scope c.in_ok-marks.ensures.marks

pub returns-clause-all : goal.returns-clause-all
returns-clause-all g c =
    c.all.ensures.all
    ∙ all_files c.args.tree.now.size c.args.tree.now.nodes c.requires.volume c.in_ok-marks.marks.items c.args.asked.now c.args.scope c.in_ok-marks.ensures.marks

pub returns-clause-whole : goal.returns-clause-whole
returns-clause-whole g c = c.all.ensures.whole ∙ all_ahead c.args.tree.now.size c.args.tree.now.nodes c.requires.volume

pub returns-clause-left : goal.returns-clause-left
returns-clause-left g c = c.all.ensures.looks ∙ all_ahead c.args.tree.now.size c.args.tree.now.nodes c.requires.volume

pub returns-clause-fits : goal.returns-clause-fits
returns-clause-fits g c =
    let K = c.args.tree.now.size in
    let nodes = c.args.tree.now.nodes in
    let v = c.requires.volume in
    let legal : is_capacity K ≡ true = sym (ap is_capacity c.capacity-size.ensures.size) ∙ c.capacity-size.ensures.legal in
    let are = c.all.ensures.files ∙ all_files K nodes v c.in_ok-marks.marks.items c.args.asked.now c.args.scope c.in_ok-marks.ensures.marks in
    subst (λ (files : List NodeRow). Fits K files) (sym are) (fits K nodes v legal c.args.scope c.args.asked.now)

pub returns-clause-looks : goal.returns-clause-looks
returns-clause-looks g c =
    let K = c.args.tree.now.size in
    let legal : is_capacity K ≡ true = sym (ap is_capacity c.capacity-size.ensures.size) ∙ c.capacity-size.ensures.legal in
    omega (arith, c.marked_below.ensures.looks, under_few K c.args.tree.now.nodes c.requires.volume legal c.args.scope)
