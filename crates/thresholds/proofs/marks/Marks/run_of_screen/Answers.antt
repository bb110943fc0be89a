use Rattle.std.proofs.Common.{◌∙◌, ap, is_some}
use Rattle.thresholds.specs.Marked.{Marked, screen_act_at}
use Rattle.thresholds.proofs.ScreenLaws.{found_action, has_action}
use Rattle.thresholds.proofs.marks.Marks.run_of_screen.Goals as goal

pub set_screen_run-requires : goal.set_screen_run-requires
set_screen_run-requires c =
    let tables = c.args.objects.now in
    let there = ap (λ (m : Marked). is_some (screen_act_at tables.screens m.folder c.args.place)) c.self.view_is ∙ c.requires.there in
    has_action tables c.self.inside.folder c.args.place (found_action tables.screens c.self.inside.folder c.args.place there)
