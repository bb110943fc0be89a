-- A command whose work is alike over rows and over what is kept of them leaves rows of which the same is kept, and
-- answers, lasts and has actions run in the same way.
use Rattle.std.proofs.Common.{◌≡◌, ℕ, Bool, true, false, List, [], ◌∷◌, refl, sym, ◌∙◌, ap, subst, Some, None, Option, nat_lt}
use Rattle.std.specs.Prelude.{option_map, if◌then◌else◌}
use Rattle.fsrm_model.specs.declared.command.Act.{Act}
use Rattle.fsrm_model.specs.declared.command.Command.{Command}
use Rattle.fsrm_model.specs.declared.command.Outcome.{Outcome}
use Rattle.fsrm_model.specs.declared.command.Outcome.TheVariants.{Refused}
use Rattle.fsrm_model.specs.declared.command.Refusal.{Refusal}
use Rattle.fsrm_model.specs.declared.command.Refusal.TheVariants.{ClockBack, ScreenBlocked, QuotaExceeded}
use Rattle.fsrm_model.specs.declared.row.Capacity.{Capacity}
use Rattle.fsrm_model.specs.declared.row.Rows.{Rows}
use Rattle.fsrm_model.specs.commands.Check.{Check, ◌when◌, first}
use Rattle.fsrm_model.specs.objects.DueActions.{due_refused}
use Rattle.fsrm_model.specs.store.Lasting.{lasting}
use Rattle.fsrm_model.specs.objects.QuotaStates.{followed}
use Rattle.fsrm_model.specs.objects.Runs.{ran}
use Rattle.fsrm_model.specs.commands.Step.{Stepped, Acted, acted, screened_by, screened, ran_if_any, refused_leaving, refused, decided, concluded, lasted, unlasting, step, work}
use Rattle.fsrm_model.specs.commands.Work.{Work, Judged}
use Rattle.fsrm_model.proofs.journal.Alike.{RowsAlike, lasting_alike, same_checks, WorksAlike}
use Rattle.fsrm_model.proofs.journal.KeptEnds.{lasting_twice, due_refused_lasting, ran_lasting, lasting_acted, concluded_lasting, screened_lasting}

-- the steps of a command over rows, and over what is kept of them
pub record StepsAlike (s t : Stepped) : Type 0 where
  pub rows : RowsAlike s.rows t.rows
  pub outcome : t.outcome ≡ s.outcome
  pub lasting : t.lasting ≡ s.lasting
  pub acts : t.acts ≡ s.acts

-- the end of a command that lasts
pub lasted_alike : (K : Capacity) (R : Rows) (A B : Acted) (moment : ℕ) (outcome : Outcome) → lasting_acted B ≡ lasting_acted A → StepsAlike (lasted K R A moment outcome) (lasted K (lasting R) B moment outcome)
lasted_alike K R A B moment outcome h =
    record { rows = record { same = ap (λ (end : Acted). end.rows) same }; outcome = refl; lasting = refl; acts = ap (λ (end : Acted). end.acts) same }
  where
    same : lasting_acted (concluded K (lasting R) B moment) ≡ lasting_acted (concluded K R A moment)
    same =
        concluded_lasting K (lasting R) B moment
        ∙ (ap (λ (L : Rows). concluded K L (lasting_acted B) moment) (lasting_twice R)
        ∙ (ap (λ (after : Acted). concluded K (lasting R) after moment) h
        ∙ sym (concluded_lasting K R A moment)))

-- what a name leaves that a screen judges
screened_same : (E F : Rows) (moment : ℕ) (o : Option Judged) → RowsAlike E F → lasting_acted (screened F moment o) ≡ lasting_acted (screened E moment o)
screened_same E F moment o are =
    screened_lasting F moment o ∙ (ap (λ (L : Rows). screened L moment o) are.same ∙ sym (screened_lasting E moment o))

-- a refusal that leaves nothing
nothing_alike : (R : Rows) (refusal : Refusal) → StepsAlike (unlasting R (Refused refusal)) (unlasting (lasting R) (Refused refusal))
nothing_alike R refusal = record { rows = lasting_alike R; outcome = refl; lasting = refl; acts = refl }

blocked_alike : (K : Capacity) (R : Rows) (moment : ℕ) (refusal : Refusal) (o : Option Judged) → StepsAlike (refused_leaving K R moment refusal (option_map (screened_by R moment) o)) (refused_leaving K (lasting R) moment refusal (option_map (screened_by (lasting R) moment) o))
blocked_alike K R moment refusal None = nothing_alike R refusal
blocked_alike K R moment refusal (Some j) =
    lasted_alike K R (screened_by R moment j) (screened_by (lasting R) moment j) moment (Refused refusal) (screened_same R (lasting R) moment (Some j) (lasting_alike R))

exceeded_alike : (K : Capacity) (R : Rows) (moment : ℕ) (refusal : Refusal) (acts : List Act) → StepsAlike (refused_leaving K R moment refusal (ran_if_any moment acts R)) (refused_leaving K (lasting R) moment refusal (ran_if_any moment acts (lasting R)))
exceeded_alike K R moment refusal [] = nothing_alike R refusal
exceeded_alike K R moment refusal (act ∷ acts) =
    lasted_alike K R (acted moment (act ∷ acts) R) (acted moment (act ∷ acts) (lasting R)) moment (Refused refusal)
    (ap (λ (rows : Rows). record { rows = rows; acts = act ∷ acts }) same)
  where
    same : lasting (ran moment (act ∷ acts) (lasting R)) ≡ lasting (ran moment (act ∷ acts) R)
    same = ran_lasting moment (act ∷ acts) (lasting R) ∙ (ap (ran moment (act ∷ acts)) (lasting_twice R) ∙ sym (ran_lasting moment (act ∷ acts) R))

pub refused_alike : (K : Capacity) (R : Rows) (moment : ℕ) (w v : Work) → WorksAlike w v → (refusal : Refusal) → StepsAlike (refused K R moment w refusal) (refused K (lasting R) moment v refusal)
refused_alike K R moment w v a (ScreenBlocked screen) =
    subst (λ (o : Option Judged). StepsAlike (refused K R moment w (ScreenBlocked screen)) (refused_leaving K (lasting R) moment (ScreenBlocked screen) (option_map (screened_by (lasting R) moment) o)))
    (sym a.judged) (blocked_alike K R moment (ScreenBlocked screen) w.judged)
refused_alike K R moment w v a (QuotaExceeded folder would limit) =
    subst (λ (acts : List Act). StepsAlike (refused K R moment w (QuotaExceeded folder would limit)) (refused_leaving K (lasting R) moment (QuotaExceeded folder would limit) (ran_if_any moment acts (lasting R))))
    (sym acts) (exceeded_alike K R moment (QuotaExceeded folder would limit) (due_refused K R w.effect.nodes moment))
  where
    acts : due_refused K (lasting R) v.effect.nodes moment ≡ due_refused K R w.effect.nodes moment
    acts = due_refused_lasting K R v.effect.nodes moment ∙ ap (λ (rows : Rows). due_refused K R rows.nodes moment) a.effect.same
refused_alike K R moment w v a other = nothing_alike R other

-- rows that a command leaves which no check refuses
abbrev ended : Capacity → Rows → Rows → ℕ → Bool → Option Judged → Outcome → Stepped
ended K R E moment lasts judged outcome =
    if lasts then lasted K R (screened E moment judged) moment outcome else unlasting E outcome

ended_alike : (K : Capacity) (R E F : Rows) (moment : ℕ) (judged : Option Judged) (outcome : Outcome) → RowsAlike E F → (lasts : Bool) → StepsAlike (ended K R E moment lasts judged outcome) (ended K (lasting R) F moment lasts judged outcome)
ended_alike K R E F moment judged outcome are true =
    lasted_alike K R (screened E moment judged) (screened F moment judged) moment outcome (screened_same E F moment judged are)
ended_alike K R E F moment judged outcome are false = record { rows = are; outcome = refl; lasting = refl; acts = refl }

pub decided_alike : (K : Capacity) (R : Rows) (moment : ℕ) (w v : Work) → WorksAlike w v → (o : Option Refusal) → StepsAlike (decided K R moment w o) (decided K (lasting R) moment v o)
decided_alike K R moment w v a (Some refusal) = refused_alike K R moment w v a refusal
decided_alike K R moment w v a None =
    subst (StepsAlike (decided K R moment w None)) (sym same)
    (ended_alike K R (followed R w.effect) F moment w.judged w.outcome (record { same = a.effect.same }) w.lasts)
  where
    F : Rows
    F = followed (lasting R) v.effect

    same : ended K (lasting R) F moment v.lasts v.judged v.outcome ≡ ended K (lasting R) F moment w.lasts w.judged w.outcome
    same =
        ap (λ lasts. ended K (lasting R) F moment lasts v.judged v.outcome) a.lasts
        ∙ (ap (λ judged. ended K (lasting R) F moment w.lasts judged v.outcome) a.judged
        ∙ ap (ended K (lasting R) F moment w.lasts w.judged) a.outcome)

pub step_alike : (K : Capacity) (R : Rows) (c : Command) → WorksAlike (work K R c.moment c.deed) (work K (lasting R) c.moment c.deed) → StepsAlike (step K R c) (step K (lasting R) c)
step_alike K R c a =
    subst (λ (o : Option Refusal). StepsAlike (step K R c) (decided K (lasting R) c.moment v o)) (sym same)
    (decided_alike K R c.moment w v a (first ((ClockBack when late) ∷ w.checks)))
  where
    w : Work
    w = work K R c.moment c.deed

    v : Work
    v = work K (lasting R) c.moment c.deed

    late : Bool
    late = nat_lt c.moment R.last_moment

    same : first ((ClockBack when late) ∷ v.checks) ≡ first ((ClockBack when late) ∷ w.checks)
    same = ap (λ (checks : List Check). first ((ClockBack when late) ∷ checks)) (same_checks v.checks w.checks a.checks)
