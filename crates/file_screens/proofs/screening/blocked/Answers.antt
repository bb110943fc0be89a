use Rattle.std.proofs.Common.{ℕ, List, ◌∷◌, length, sym, ◌∙◌, ap, arith}
use Rattle.std.proofs.lemmas.Option.{MatchOption-at_none}
use Rattle.fsrm_model.proofs.valid.ValidLaws.{folder_has}
use Rattle.file_screens.specs.Blocked.{screened_rows}
use Rattle.file_screens.specs.Way.{ApplyAlike, NoneApply, applying_on}
use Rattle.file_screens.proofs.JudgeLaws.{none_judges, none_apply, unnamed_apply, alike_judge}
use Rattle.file_screens.proofs.screening.blocked.Goals as goal

pub returns-then-screen_count-eq0-clause-judged : goal.returns-then-screen_count-eq0-clause-judged
returns-then-screen_count-eq0-clause-judged g c =
    let rows = screened_rows c.args.tree.now.nodes c.args.groups.now c.args.objects.now in
    none_judges rows c.args.folder c.args.name.now
    (none_apply rows (sym c.screen_count.ensures ∙ c.if-screen_count-eq0.true) c.args.folder c.args.name.now)

pub returns-then-not-may_have-clause-judged : goal.returns-then-not-may_have-clause-judged
returns-then-not-may_have-clause-judged g c =
    let rows = screened_rows c.args.tree.now.nodes c.args.groups.now c.args.objects.now in
    none_judges rows c.args.folder c.args.name.now
    (unnamed_apply rows c.args.folder c.args.name.now (c.may_have.ensures c.if-not-may_have.true))

pub way_up-way-requires : goal.way_up-way-requires
way_up-way-requires g c = folder_has c.args.tree.now.nodes c.args.folder c.requires.folder

pub returns-in_default-clause-judged : goal.returns-in_default-clause-judged
returns-in_default-clause-judged g c =
    let nodes = c.args.tree.now.nodes in
    let way = c.way_up-way.result in
    none_judges (screened_rows nodes c.args.groups.now c.args.objects.now) c.args.folder c.args.name.now
    (sym (ap (λ (ns : List ℕ). applying_on c.args.groups.now c.args.objects.now ns c.args.name.now) c.way_up-way.ensures)
    ∙ MatchOption-at_none (NoneApply c.args.objects.now way) (λ (folder : ℕ). ApplyAlike c.args.objects.now way (folder ∷ c.first_asked.new.way)) c.in_default.is c.first_asked.ensures.alike c.args.groups.now c.args.name.now)

pub returns-clause-judged : goal.returns-clause-judged
returns-clause-judged g c =
    let nodes = c.args.tree.now.nodes in
    alike_judge (screened_rows nodes c.args.groups.now c.args.objects.now) c.args.folder c.args.name.now _ c.climb_with.result
    (c.in-Some.ensures.alike c.args.groups.now c.args.name.now ∙ ap (λ (ns : List ℕ). applying_on c.args.groups.now c.args.objects.now ns c.args.name.now) c.way_up-way.ensures)
    c.climb_with.ensures.judged

pub returns-clause-looks : goal.returns-clause-looks
returns-clause-looks g c = omega (arith, c.climb_with.ensures.looks, c.in-Some.ensures.looks, ap length c.way_up-way.ensures)
