use Rattle.std.proofs.Common.{◌∙◌, ap}
use Rattle.std.specs.Prelude.{filter}
use Rattle.std.proofs.lemmas.Result.{on_ok_weaker}
use Rattle.storage_reports.specs.Doubles.{may_double}
use Rattle.storage_reports.specs.Files.{Course}
use Rattle.storage_reports.proofs.LeftLaws.{files_left}
use Rattle.storage_reports.proofs.files.Files.leave_single.Goals as goal

pub returns-clause-all : goal.returns-clause-all
returns-clause-all g c =
    let f = c.self.inside in
    let test = may_double c.args.shared.now in
    let old = f.marks.items in
    let new = c.leave_marked.new.marks.items in
    on_ok_weaker c.leave_marked.result (λ left. files_left f.tree.now.size f.tree.now.nodes c.self.invariant.kept test old new left f.asked.now ∙ ap (λ (course : Course). filter test course.all) c.self.view_is) c.leave_marked.ensures.each
