-- The acts that wait when a name was noted: those of its screen come first.
use Rattle.std.proofs.Common.{◌≡◌, ℕ, true, ◌||◌, ◌++◌, List, [], ◌∷◌, refl, ap, sym, ◌∙◌, is_some}
use Rattle.std.proofs.lemmas.List.{append-nil}
use Rattle.std.specs.Prelude.{filter_map}
use Rattle.std.specs.List.{AllByRecursion, list_all}
use Rattle.fsrm_base.specs.Numbers.{is_set}
use Rattle.fsrm_model.specs.declared.command.Act.{Act}
use Rattle.fsrm_model.specs.objects.Acts.{has_act, of_quotas, of_screens}
use Rattle.fsrm_model.specs.objects.Quota.{peaked}
use Rattle.fsrm_model.proofs.thresholds.ActLaws.{IsOfQuota, IsOfScreen}
use Rattle.fsrm_objects.specs.Tables.{Tables}
use Rattle.thresholds.specs.Marked.{are_screen_acts, are_there, screen_act_at, screen_waiting, waiting}
use Rattle.fsrm_engine.specs.declared.parts.Parts.{Parts}
use Rattle.fsrm_engine.specs.Machine.{AreMarked, IsCalm, Ran, ended}
use Rattle.fsrm_engine.proofs.settling.MarkLaws.{peaked_act, there_mapped, waiting_mapped}

-- ---- acts of a screen, and of quotas behind them
quotas_alone : (acts : List Act) → AllByRecursion IsOfQuota acts → (of_screens acts ≡ []) × (of_quotas acts ≡ acts)
quotas_alone [] h = (refl, refl)
quotas_alone (act ∷ acts) h =
    let more = quotas_alone acts h.1 in
    (rw h.0 more.0, rw h.0 (ap (λ rest. act ∷ rest) more.1))

pub parted : (screens quotas : List Act) → AllByRecursion IsOfScreen screens → AllByRecursion IsOfQuota quotas → (of_screens (screens ++ quotas) ≡ screens) × (of_quotas (screens ++ quotas) ≡ quotas)
parted [] quotas h g = quotas_alone quotas g
parted (act ∷ screens) quotas h g =
    let more = parted screens quotas h.1 g in
    (rw h.0 (ap (λ rest. act ∷ rest) more.0), rw h.0 more.1)

-- ---- those that ran behind the screen's
pub ran_waits : (mid run : Parts) (m : ℕ) (screens acts : List Act) → IsCalm mid → are_screen_acts mid.objects.screens mid.marks ≡ true → screen_waiting mid.objects.screens mid.marks ≡ screens → AllByRecursion IsOfScreen screens → AllByRecursion IsOfQuota acts → Ran mid run m acts → AreMarked (ended run m) (screens ++ acts)
ran_waits mid run m screens acts i there waits own quotas r =
    let K = run.tree.size in
    let nodes = run.tree.nodes in
    let p = parted screens acts own quotas in
    record {
      there = there_mapped (peaked K nodes m) (peaked_act K nodes m) run.objects.quotas run.marks.numbers ∙ r.settles.there;
      places = ap (λ (t : Tables). are_screen_acts t.screens run.marks) r.settles.tables
          ∙ (ap (λ folder. list_all (λ place. is_some (screen_act_at mid.objects.screens folder place)) run.marks.places) r.settles.folder
          ∙ (ap (λ places. list_all (λ place. is_some (screen_act_at mid.objects.screens mid.marks.folder place)) places) r.settles.places
          ∙ there));
      set = r.set;
      are = λ subject place.
          ap (λ acts. has_act acts subject place) (waiting_mapped (peaked K nodes m) (peaked_act K nodes m) run.objects.quotas run.marks.numbers)
          ∙ (r.settles.marked subject place
          ∙ (ap (λ ns. has_act (waiting mid.objects.quotas ns) subject place || has_act acts subject place) i.numbers
          ∙ ap (λ acts. has_act acts subject place) (sym p.1)));
      screens = ap (λ (t : Tables). screen_waiting t.screens run.marks) r.settles.tables
          ∙ (ap (λ folder. filter_map (screen_act_at mid.objects.screens folder) run.marks.places) r.settles.folder
          ∙ (ap (λ places. filter_map (screen_act_at mid.objects.screens mid.marks.folder) places) r.settles.places
          ∙ (waits ∙ sym p.0)));
      crossing = ap (λ (q : Parts). q.crossing) r.parts_are ∙ i.crossing;
    }

-- and if none of a quota did
pub noted_waits : (p : Parts) (m : ℕ) (screens : List Act) → IsCalm p → are_screen_acts p.objects.screens p.marks ≡ true → screen_waiting p.objects.screens p.marks ≡ screens → AllByRecursion IsOfScreen screens → AreMarked (ended p m) screens
noted_waits p m screens i there waits own =
    let K = p.tree.size in
    let nodes = p.tree.nodes in
    let parts = parted screens [] own tt in
    record {
      there = there_mapped (peaked K nodes m) (peaked_act K nodes m) p.objects.quotas p.marks.numbers ∙ ap (are_there p.objects.quotas) i.numbers;
      places = there;
      set = ap is_set i.numbers;
      are = λ subject place.
          ap (λ acts. has_act acts subject place) (waiting_mapped (peaked K nodes m) (peaked_act K nodes m) p.objects.quotas p.marks.numbers)
          ∙ (ap (λ ns. has_act (waiting p.objects.quotas ns) subject place) i.numbers
          ∙ ap (λ acts. has_act acts subject place) (sym (ap of_quotas (sym (append-nil screens)) ∙ parts.1)));
      screens = waits ∙ sym (ap of_screens (sym (append-nil screens)) ∙ parts.0);
      crossing = i.crossing;
    }
