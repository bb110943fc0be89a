use Rattle.std.proofs.Common.{◌≡◌, ℕ, ◌+◌, ◌<◌, ◌≤◌, List, Some, length, is_some, sym, ◌∙◌, ap, subst, arith}
use Rattle.std.proofs.lemmas.Option.{same_Some}
use Rattle.fsrm_base.specs.Keyed.{row_of}
use Rattle.fsrm_base.proofs.SortedRows.{there}
use Rattle.fsrm_model.specs.declared.command.Act.{Act}
use Rattle.fsrm_model.specs.declared.command.Subject.TheVariants.{Screen}
use Rattle.fsrm_model.specs.declared.row.ScreenRow.{ScreenRow}
use Rattle.fsrm_model.specs.objects.DueActions.{act_of, ready}
use Rattle.fsrm_model.specs.values.Limits.{most_entries}
use Rattle.fsrm_model.specs.objects.Screens.{screen_folder}
use Rattle.fsrm_objects.specs.Tables.{Tables, with_screen_run}
use Rattle.thresholds.specs.Marked.{Marked, screen_act_at, screen_action_at}
use Rattle.thresholds.specs.Settled.{SettlesScreen}
use Rattle.thresholds.proofs.ScreenLaws.{IsAction, RanFirst, act_is, act_run, ran_less, ran_more, ran_none, screen_upto, settled, still_there, upto_all, upto_none, upto_ready, upto_unready}
use Rattle.thresholds.proofs.marks.Marks.settle_screen.Goals.{then-ready, else-ready}
use Rattle.thresholds.proofs.marks.Marks.settle_screen.Goals as goal

pub overflow_cast-count : goal.overflow_cast-count
overflow_cast-count c = omega (arith, c.len-count.ensures, c.requires.few c.screen_of.result.now c.screen_of.ensures)

pub loop-place-init : goal.loop-place-init
loop-place-init c =
    let marks = c.args.self.now in
    let tables = c.args.objects.now in
    let moment = c.args.moment in
    let folder = c.args.folder in
    let none = upto_none tables.screens c.args.run_limit moment folder c.screen_of.result.now c.screen_of.ensures in
    let few = subst (λ (m : Marked). length m.log ≤ most_entries) c.self.view_is c.self.invariant.few in
    subst (λ now. RanFirst marks now tables tables moment folder 0 (screen_upto tables.screens c.args.run_limit moment folder 0)) (sym (ap (λ (m : Marked). record m { folder = folder }) c.self.view_is))
    (subst (RanFirst marks (record marks { folder = folder }) tables tables moment folder 0) (sym none) (ran_none marks tables moment folder c.requires.none few))

-- the act of an action of a folder's screen, in the midst of settling it
act_there : (old mid : Marked) (before now : Tables) (moment folder j k : ℕ) (acts : List Act) (is : IsAction before.screens folder k) → RanFirst old mid before now moment folder j acts → screen_act_at now.screens folder k ≡ Some (act_of (Screen folder) (k, is.action))
act_there old mid before now moment folder j k acts is ran =
    ap (λ (t : Tables). screen_act_at t.screens folder k) ran.tables ∙ (act_run moment acts before.screens folder k ∙ act_is before.screens folder k is)

marked_there : (old mid : Marked) (before now : Tables) (moment folder j k : ℕ) (acts : List Act) (is : IsAction before.screens folder k) → RanFirst old mid before now moment folder j acts → screen_act_at now.screens mid.folder k ≡ Some (act_of (Screen folder) (k, is.action))
marked_there old mid before now moment folder j k acts is ran =
    ap (λ (m : Marked). screen_act_at now.screens m.folder k) ran.marks ∙ act_there old mid before now moment folder j k acts is ran

-- the action at a place of a folder's screen
abbrev own : (screens : List ScreenRow) (folder k : ℕ) (screen : ScreenRow) → row_of screen_folder folder screens ≡ Some screen → k < length screen.actions → IsAction screens folder k
own screens folder k screen found less =
    let at = there screen.actions k less in
    record { screen = screen; action = at.row; screen_is = found; action_is = at.is }

pub screen_action-requires : goal.screen_action-requires
screen_action-requires c =
    let tables = c.args.objects.now in
    let k = c.loop-place.place in
    let screen = c.screen_of.result.now in
    let is = own tables.screens c.args.folder k screen c.screen_of.ensures (omega (arith, c.len-count.ensures, c.loop-place-test.true)) in
    ap is_some (act_there c.args.self.now c.loop-place.self tables c.loop-place.objects c.args.moment c.args.folder k k (screen_upto tables.screens c.args.run_limit c.args.moment c.args.folder k) is c.loop-place.invariant)

pub run_of_screen-requires-clause-there : goal.run_of_screen-requires-clause-there
run_of_screen-requires-clause-there c =
    let tables = c.args.objects.now in
    let k = c.loop-place.place in
    let screen = c.screen_of.result.now in
    let is = own tables.screens c.args.folder k screen c.screen_of.ensures (omega (arith, c.len-count.ensures, c.loop-place-test.true)) in
    ap is_some (marked_there c.args.self.now c.loop-place.self tables c.loop-place.objects c.args.moment c.args.folder k k (screen_upto tables.screens c.args.run_limit c.args.moment c.args.folder k) is c.loop-place.invariant)

pub run_of_screen-requires-clause-room : goal.run_of_screen-requires-clause-room
run_of_screen-requires-clause-room c =
    let size = ap (λ (m : Marked). length m.places) c.loop-place.invariant.marks in
    omega (arith, size, c.loop-place.invariant.few, c.len-count.ensures, c.loop-place-test.true, c.requires.few c.screen_of.result.now c.screen_of.ensures)

pub loop-place-preserved : goal.loop-place-preserved
loop-place-preserved c =
    let marks = c.args.self.now in
    let tables = c.args.objects.now in
    let moment = c.args.moment in
    let folder = c.args.folder in
    let k = c.loop-place.place in
    let screen = c.screen_of.result.now in
    let found = c.screen_of.ensures in
    let is = own tables.screens folder k screen found (omega (arith, c.len-count.ensures, c.loop-place-test.true)) in
    let acts = screen_upto tables.screens c.args.run_limit moment folder k in
    let ran = c.loop-place.invariant in
    let act = act_of (Screen folder) (k, is.action) in
    let read : c.screen_action.result.now ≡ is.action = same_Some c.screen_action.result.now is.action (sym c.screen_action.ensures ∙ (ap (λ (t : Tables). screen_action_at t.screens folder k) ran.tables ∙ still_there tables.screens c.args.run_limit moment folder screen found k is.action is.action_is)) in
    let may : ready c.args.run_limit moment is.action ≡ c.ready.result = ap (ready c.args.run_limit moment) (sym read) ∙ sym c.ready.ensures in
    elim c.if-ready.branch [
      | then-ready w ↦
          rw (w.self-is, w.objects-is)
          (subst (RanFirst marks w.run_of_screen.new.self tables w.run_of_screen.new.objects moment folder (k + 1)) (upto_ready tables.screens c.args.run_limit moment folder screen found k is.action is.action_is (may ∙ w.if-ready.true))
          (ran_more marks c.loop-place.self w.run_of_screen.new.self tables c.loop-place.objects w.run_of_screen.new.objects moment folder k acts is ran
          (w.run_of_screen.ensures.marked act (marked_there marks c.loop-place.self tables c.loop-place.objects moment folder k k acts is ran))
          (w.run_of_screen.ensures.tables ∙ ap (λ (m : Marked). with_screen_run c.loop-place.objects m.folder k moment) ran.marks)))
      | else-ready w ↦
          rw (w.self-is, w.objects-is)
          (subst (RanFirst marks c.loop-place.self tables c.loop-place.objects moment folder (k + 1)) (upto_unready tables.screens c.args.run_limit moment folder screen found k is.action is.action_is (may ∙ w.if-ready.false))
          (ran_less marks c.loop-place.self tables c.loop-place.objects moment folder k acts ran))
    ]

pub returns : goal.returns
returns c =
    let marks = c.args.self.now in
    let tables = c.args.objects.now in
    let screen = c.screen_of.result.now in
    let acts = screen_upto tables.screens c.args.run_limit c.args.moment c.args.folder in
    let all : c.loop-place.place ≡ length screen.actions = omega (arith, c.len-count.ensures, c.loop-place-test.false) in
    record {
      settled = subst (SettlesScreen marks c.loop-place.self tables c.loop-place.objects c.args.moment)
          (ap acts all ∙ upto_all tables c.args.run_limit c.args.moment c.args.folder screen c.screen_of.ensures)
          (settled marks c.loop-place.self tables c.loop-place.objects c.args.moment c.args.folder c.loop-place.place (acts c.loop-place.place) c.loop-place.invariant);
    }
