-- The acts that wait: peaks play no part in them, and at the beginning of a command there is none.
use Rattle.std.proofs.Common.{◌≡◌, ℕ, true, Bool, cond, ◌&&◌, ◌||◌, false, List, [], ◌∷◌, ◌++◌, Option, Some, None, is_some, nat_lt, refl, ap, sym, ◌∙◌, slice_get, option_map}
use Rattle.std.proofs.lemmas.Option.{slice_get-map}
use Rattle.std.specs.Prelude.{filter_map, map}
use Rattle.std.specs.List.{AllByRecursion, cons_option, list_all}
use Rattle.std.specs.Option.{option_and_then}
use Rattle.fsrm_base.specs.Numbers.{is_set}
use Rattle.fsrm_base.proofs.TestLaws.{both}
use Rattle.fsrm_model.specs.declared.command.Act.{Act}
use Rattle.fsrm_model.specs.declared.command.Subject.{Subject}
use Rattle.fsrm_model.specs.declared.row.Capacity.{Capacity}
use Rattle.fsrm_model.specs.declared.row.NodeRow.{NodeRow}
use Rattle.fsrm_model.specs.declared.row.QuotaRow.{QuotaRow}
use Rattle.fsrm_model.specs.declared.row.ScreenRow.{ScreenRow}
use Rattle.fsrm_model.specs.objects.Acts.{has_act, of_quotas, of_screens}
use Rattle.fsrm_model.specs.objects.Quota.{counts, peaked}
use Rattle.fsrm_model.specs.nodes.Tree.{usage}
use Rattle.fsrm_model.proofs.thresholds.ActLaws.{IsOfQuota}
use Rattle.thresholds.specs.Marked.{Marked, act_at, act_in, all_waiting, are_screen_acts, are_there, quota_place, screen_act_at, screen_waiting, waiting}
use Rattle.fsrm_engine.specs.declared.parts.Parts.{Parts}
use Rattle.fsrm_engine.specs.Machine.{AreMarked, IsCalm, IsIdle, IsWhole, Ran, ended}

-- ---- quotas that are changed and keep their acts
module _ (g : QuotaRow → QuotaRow) (same : (q : QuotaRow) (n : ℕ) → act_in (g q) n ≡ act_in q n) where
  act_mapped : (quotas : List QuotaRow) (n : ℕ) → act_at (map g quotas) n ≡ act_at quotas n
  act_mapped quotas n = ap (option_and_then (λ quota. act_in quota n)) (slice_get-map g quotas (quota_place n)) ∙ at (slice_get quotas (quota_place n))
    where
      at : (o : Option QuotaRow) → option_and_then (λ quota. act_in quota n) (option_map g o) ≡ option_and_then (λ quota. act_in quota n) o
      at None = refl
      at (Some q) = same q n

  pub waiting_mapped : (quotas : List QuotaRow) (numbers : List ℕ) → waiting (map g quotas) numbers ≡ waiting quotas numbers
  waiting_mapped quotas [] = refl
  waiting_mapped quotas (n ∷ numbers) =
      ap (λ o. cons_option o (waiting (map g quotas) numbers)) (act_mapped quotas n) ∙ ap (cons_option (act_at quotas n)) (waiting_mapped quotas numbers)

  pub there_mapped : (quotas : List QuotaRow) (numbers : List ℕ) → are_there (map g quotas) numbers ≡ are_there quotas numbers
  there_mapped quotas [] = refl
  there_mapped quotas (n ∷ numbers) =
      ap (λ o. is_some o && are_there (map g quotas) numbers) (act_mapped quotas n) ∙ ap (λ b. is_some (act_at quotas n) && b) (there_mapped quotas numbers)

-- acts by peaks that are raised
pub peaked_act : (K : Capacity) (nodes : List NodeRow) (m : ℕ) (q : QuotaRow) (n : ℕ) → act_in (peaked K nodes m q) n ≡ act_in q n
peaked_act K nodes m q n = at (counts q && nat_lt q.peak (usage K nodes q.folder))
  where
    at : (b : Bool) → act_in (cond b (record q { peak = usage K nodes q.folder; peak_at = m }) q) n ≡ act_in q n
    at true = refl
    at false = refl

-- ---- no act waits
pub calm_of : (p : Parts) → IsIdle p → IsCalm p
calm_of p i = record { numbers = i.numbers; crossing = i.crossing }

pub calm_there : (p : Parts) → IsCalm p → are_there p.objects.quotas p.marks.numbers ≡ true
calm_there p i = ap (are_there p.objects.quotas) i.numbers

pub calm_set : (p : Parts) → IsCalm p → is_set p.marks.numbers ≡ true
calm_set p i = ap is_set i.numbers

none_waits : (screens : List ScreenRow) (marks : Marked) → marks.places ≡ [] → screen_waiting screens marks ≡ []
none_waits screens marks none = ap (filter_map (screen_act_at screens marks.folder)) none

none_marked : (screens : List ScreenRow) (marks : Marked) → marks.places ≡ [] → are_screen_acts screens marks ≡ true
none_marked screens marks none = ap (list_all (λ place. is_some (screen_act_at screens marks.folder place))) none

pub idle_marked : (p : Parts) → IsIdle p → AreMarked p []
idle_marked p i = record {
  there = calm_there p (calm_of p i);
  places = none_marked p.objects.screens p.marks i.places;
  set = calm_set p (calm_of p i);
  are = λ subject place. ap (λ ns. has_act (waiting p.objects.quotas ns) subject place) i.numbers;
  screens = none_waits p.objects.screens p.marks i.places;
  crossing = i.crossing;
}

-- then no action is marked
pub none_left : (quotas : List QuotaRow) (numbers : List ℕ) → are_there quotas numbers ≡ true → waiting quotas numbers ≡ [] → numbers ≡ []
none_left quotas [] there none = refl
none_left quotas (n ∷ numbers) there none = at (act_at quotas n) (both (is_some (act_at quotas n)) (are_there quotas numbers) there).0 none
  where
    at : (o : Option Act) → is_some o ≡ true → cons_option o (waiting quotas numbers) ≡ [] → n ∷ numbers ≡ []
    at None t w = cc
    at (Some act) t w = cc

no_places : (screens : List ScreenRow) (folder : ℕ) (places : List ℕ) → list_all (λ place. is_some (screen_act_at screens folder place)) places ≡ true → filter_map (screen_act_at screens folder) places ≡ [] → places ≡ []
no_places screens folder [] there none = refl
no_places screens folder (n ∷ places) there none =
    at (screen_act_at screens folder n) (both (is_some (screen_act_at screens folder n)) (list_all (λ place. is_some (screen_act_at screens folder place)) places) there).0 none
  where
    at : (o : Option Act) → is_some o ≡ true → cons_option o (filter_map (screen_act_at screens folder) places) ≡ [] → n ∷ places ≡ []
    at None t w = cc
    at (Some act) t w = cc

-- two lists that are none together
no_first : (xs ys : List Act) → xs ++ ys ≡ [] → xs ≡ []
no_first [] ys h = refl
no_first (x ∷ xs) ys h = cc h

pub idle_whole : (p : Parts) → IsWhole p → all_waiting p.objects p.marks ≡ [] → IsIdle p
idle_whole p w none =
    let first = no_first (screen_waiting p.objects.screens p.marks) (waiting p.objects.quotas p.marks.numbers) none in
    record {
      numbers = none_left p.objects.quotas p.marks.numbers w.there (sym (ap (λ acts. acts ++ waiting p.objects.quotas p.marks.numbers) first) ∙ none);
      places = no_places p.objects.screens p.marks.folder p.marks.places w.screens first;
      crossing = w.crossing;
    }

-- ---- acts of quotas that ran
-- they are all that wait of quotas
pub ran_marked : (mid run : Parts) (m : ℕ) (acts : List Act) → IsCalm mid → Ran mid run m acts → (subject : Subject) (place : ℕ) → has_act (waiting run.objects.quotas run.marks.numbers) subject place ≡ has_act acts subject place
ran_marked mid run m acts i r subject place =
    r.settles.marked subject place ∙ ap (λ ns. has_act (waiting mid.objects.quotas ns) subject place || has_act acts subject place) i.numbers

-- acts of quotas alone
record AreOfQuotas (acts : List Act) : Type 0 where
  screens : of_screens acts ≡ []
  quotas : of_quotas acts ≡ acts

of_quotas_alone : (acts : List Act) → AllByRecursion IsOfQuota acts → AreOfQuotas acts
of_quotas_alone [] h = record { screens = refl; quotas = refl }
of_quotas_alone (act ∷ acts) h =
    let more = of_quotas_alone acts h.1 in
    record { screens = rw h.0 more.screens; quotas = rw h.0 (ap (λ rest. act ∷ rest) more.quotas) }

-- and they wait once the command has ended
pub marked_ended : (mid run : Parts) (m : ℕ) (acts : List Act) → AllByRecursion IsOfQuota acts → IsIdle mid → Ran mid run m acts → AreMarked (ended run m) acts
marked_ended mid run m acts own i r =
    let K = run.tree.size in
    let nodes = run.tree.nodes in
    let alone = of_quotas_alone acts own in
    let places : run.marks.places ≡ [] = r.settles.places ∙ i.places in
    record {
      there = there_mapped (peaked K nodes m) (peaked_act K nodes m) run.objects.quotas run.marks.numbers ∙ r.settles.there;
      places = none_marked run.objects.screens run.marks places;
      set = r.set;
      are = λ subject place.
          ap (λ acts. has_act acts subject place) (waiting_mapped (peaked K nodes m) (peaked_act K nodes m) run.objects.quotas run.marks.numbers)
          ∙ (ran_marked mid run m acts (calm_of mid i) r subject place ∙ ap (λ acts. has_act acts subject place) (sym alone.quotas));
      screens = none_waits run.objects.screens run.marks places ∙ sym alone.screens;
      crossing = ap (λ (q : Parts). q.crossing) r.parts_are ∙ i.crossing;
    }
