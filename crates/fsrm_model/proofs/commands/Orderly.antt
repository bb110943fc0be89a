-- What is known of the work of every command, whichever it is: the laws over all commands rest on this alone, and each
-- command proves it once.
use Rattle.std.proofs.Common.{◌≡◌, ℕ, ◌<◌, ◌≤◌, Bool, true, false, not, List, [], ◌∷◌, refl, sym, ◌∙◌, ap, subst, arith, Some, None, Option}
use Rattle.std.specs.Prelude.{option_map}
use Rattle.std.specs.List.{AllByRecursion}
use Rattle.fsrm_model.specs.declared.command.Outcome.{Outcome}
use Rattle.fsrm_model.specs.declared.command.Outcome.TheVariants.{Done, Sum, Listing, Report, Scanned, Refused}
use Rattle.fsrm_model.specs.declared.command.Refusal.{Refusal}
use Rattle.fsrm_model.specs.declared.command.Refusal.TheVariants.{ScreenBlocked, QuotaExceeded}
use Rattle.fsrm_model.specs.declared.row.Capacity.{Capacity}
use Rattle.fsrm_model.specs.declared.row.NodeRow.{NodeRow}
use Rattle.fsrm_model.specs.declared.row.QuotaRow.{QuotaRow}
use Rattle.fsrm_model.specs.declared.row.Rows.{Rows}
use Rattle.fsrm_model.specs.commands.Check.{Check, ◌when◌, first}
use Rattle.fsrm_model.specs.commands.FileWork.{blocked}
use Rattle.fsrm_model.specs.store.Lasting.{lasting}
use Rattle.fsrm_model.specs.values.Name.{is_name}
use Rattle.fsrm_model.specs.meaning.Named.{IsNamed}
use Rattle.fsrm_model.specs.objects.Quota.{quota_of, counts, over, deepest, exceeded}
use Rattle.fsrm_model.specs.objects.QuotaStates.{followed}
use Rattle.fsrm_model.specs.objects.Screens.{screen_of}
use Rattle.fsrm_model.specs.texts.Text.{is_bare}
use Rattle.fsrm_model.specs.nodes.Tree.{is_folder, usage}
use Rattle.fsrm_model.specs.reports.Filters.{is_filter}
use Rattle.fsrm_model.specs.store.Valid.{IsValid}
use Rattle.fsrm_model.specs.commands.Work.{Work, Judged, asks}

-- what a command may answer that no check refuses: no refusal, and a sum that is made afresh
abbrev pub IsAnswer : Capacity → Rows → Outcome → Type 0
IsAnswer K R (Done passive) = Unit {0}
IsAnswer K R (Sum node bytes) = bytes ≡ usage K R.nodes node
IsAnswer K R (Listing ask) = Unit {0}
IsAnswer K R (Report ask) = Unit {0}
IsAnswer K R (Scanned folder visited used) = Unit {0}
IsAnswer K R (Refused refusal) = ⊥

-- an active screen judges a name, whose folder is this one
pub record IsBlocked (judged : Option Judged) (screen : ℕ) : Type 0 where
  pub by : Judged
  pub is : judged ≡ Some by
  pub active : by.screen.active ≡ true
  pub folder : by.screen.folder ≡ screen

-- a check that names a screen's folder is that of the screen which judges the name, and one that names a quota that of the quotas
-- which these nodes exceed
abbrev pub NamesOver : Capacity → Rows → List NodeRow → Option Judged → Check → Type 0
NamesOver K R nodes judged None = Unit {0}
NamesOver K R nodes judged (Some (ScreenBlocked screen)) = IsBlocked judged screen
NamesOver K R nodes judged (Some (QuotaExceeded folder would limit)) = exceeded K R nodes ≡ Some (QuotaExceeded folder would limit)
NamesOver K R nodes judged (Some other) = Unit {0}

pub record IsCheck (K : Capacity) (R : Rows) (nodes : List NodeRow) (judged : Option Judged) (check : Check) : Type 0 where
  pub over : NamesOver K R nodes judged check

abbrev pub AreChecks : Capacity → Rows → List NodeRow → Option Judged → List Check → Type 0
AreChecks K R nodes judged checks = AllByRecursion (IsCheck K R nodes judged) checks

-- a quota of a store that counts and is enforced, and whose usage rises if the nodes become these
pub record Rising (K : Capacity) (R : Rows) (new : List NodeRow) (folder : ℕ) (quota : QuotaRow) : Type 0 where
  pub there : quota_of R folder ≡ Some quota
  pub counting : counts quota ≡ true
  pub enforced : quota.enforce ≡ true
  pub rises : usage K R.nodes folder < usage K new folder

-- no usage that a quota limits rises above the limit
abbrev pub IsWithin : Capacity → Rows → List NodeRow → Type 0
IsWithin K R nodes = (folder : ℕ) (quota : QuotaRow) → Rising K R nodes folder quota → usage K nodes folder ≤ quota.limit

-- the screen that judges a name is there, and stays as it is
pub record IsJudged (R E : Rows) (judged : Judged) : Type 0 where
  pub there : screen_of R judged.screen.folder ≡ Some judged.screen
  pub same : E.screens ≡ R.screens

-- what an outcome names is there. That a report's filter has values in their ranges is known apart from this
abbrev pub IsPlaced : Rows → Outcome → Type 0
IsPlaced R (Report ask) = is_folder R.nodes ask.scope ≡ true
IsPlaced R other = IsNamed R other

abbrev pub IsFiltered : Outcome → Type 0
IsFiltered (Report ask) = is_filter ask.filter ≡ true
IsFiltered other = Unit {0}

-- What is known of every work. What it says of an accepted command may rest on the rows being those of a store
pub record IsOrderly (K : Capacity) (R : Rows) (w : Work) : Type 0 where
  pub answer : IsAnswer K R w.outcome
  pub checks : AreChecks K R w.effect.nodes w.judged w.checks
  pub named : IsValid K R → first w.checks ≡ None → IsPlaced w.effect w.outcome
  pub quiet : IsValid K R → first w.checks ≡ None → w.lasts ≡ false → lasting w.effect ≡ lasting R
  pub judged : (j : Judged) → w.judged ≡ Some j → IsJudged R w.effect j

-- a work that leaves the nodes as they were, and gives no file a name
pub record IsStill (K : Capacity) (R : Rows) (w : Work) : Type 0 where
  pub orderly : IsOrderly K R w
  pub same : w.effect.nodes ≡ R.nodes
  pub unjudged : w.judged ≡ None

-- a work that lets no usage rise above its limit
abbrev pub KeepsLimits : Capacity → Rows → Work → Type 0
KeepsLimits K R w = IsValid K R → first w.checks ≡ None → IsWithin K R w.effect.nodes

-- a work that leaves the rows of a store
abbrev pub KeepsValid : Capacity → Rows → Work → Type 0
KeepsValid K R w = IsValid K R → first w.checks ≡ None → IsValid K (followed R w.effect)

-- nothing refuses, or a screen does, whose refusal nothing else comes before
abbrev pub IsAsked : Option Refusal → Type 0
IsAsked None = Unit {0}
IsAsked (Some (ScreenBlocked screen)) = Unit {0}
IsAsked (Some other) = ⊥

-- what a screen judges is a name
abbrev pub NamesJudged : Capacity → Rows → Work → Type 0
NamesJudged K R w = IsValid K R → IsAsked (first w.checks) → (j : Judged) → w.judged ≡ Some j → is_name j.name ≡ true

pub unjudged_named : (K : Capacity) (R : Rows) (w : Work) → w.judged ≡ None → NamesJudged K R w
unjudged_named K R w none store asked j h = absurd (no (sym h ∙ none))
  where
    no : Some j ≡ None → ⊥
    no e = cc e

-- nodes that stay let no usage rise
pub none_rises : (K : Capacity) (R : Rows) (new : List NodeRow) → new ≡ R.nodes → (folder : ℕ) → usage K R.nodes folder < usage K new folder → ⊥
none_rises K R new same folder l =
    never (subst (λ (nodes : List NodeRow). usage K R.nodes folder < usage K nodes folder) same l)
  where
    never : usage K R.nodes folder < usage K R.nodes folder → ⊥
    never l = omega arith

pub still_limits : (K : Capacity) (R : Rows) (w : Work) → w.effect.nodes ≡ R.nodes → KeepsLimits K R w
still_limits K R w same store none folder quota r = absurd (none_rises K R w.effect.nodes same folder r.rises)

-- a command that lasts and is done, as most that change rows
pub change_orderly : (K : Capacity) (R : Rows) (checks : List Check) (effect : Rows) → AreChecks K R effect.nodes None checks → IsOrderly K R (asks checks effect (Done None) true)
change_orderly K R checks effect are =
    record { answer = tt; checks = are; named = λ store h. tt; quiet = λ store h never. absurd (cc never); judged = λ j h. absurd (cc h) }

pub change_still : (K : Capacity) (R : Rows) (checks : List Check) (effect : Rows) → AreChecks K R effect.nodes None checks → effect.nodes ≡ R.nodes → IsStill K R (asks checks effect (Done None) true)
change_still K R checks effect are same = record { orderly = change_orderly K R checks effect are; same = same; unjudged = refl }

-- a command that only shows something
pub show_still : (K : Capacity) (R : Rows) (checks : List Check) (outcome : Outcome) → IsAnswer K R outcome → AreChecks K R R.nodes None checks → (IsValid K R → first checks ≡ None → IsPlaced R outcome) → IsStill K R (asks checks R outcome false)
show_still K R checks outcome answer are named =
    record {
      orderly = record { answer = answer; checks = are; named = named; quiet = λ store h still. refl; judged = λ j h. absurd (cc h) };
      same = refl;
      unjudged = refl;
    }

-- checks, one after another: one for something else than a screen or a quota, that of screens and that of quotas
pub bare : {K : Capacity} {R : Rows} {nodes : List NodeRow} {judged : Option Judged} (refusal : Refusal) (test : Bool) → is_bare refusal ≡ true → IsCheck K R nodes judged (refusal when test)
bare {K} {R} {nodes} {judged} refusal test h = by refusal test h
  where
    by : (refusal : Refusal) (test : Bool) → is_bare refusal ≡ true → IsCheck K R nodes judged (refusal when test)
    by (ScreenBlocked screen) test h = absurd (cc h)
    by (QuotaExceeded folder would limit) test h = absurd (cc h)
    by other true h = record { over = tt }
    by other false h = record { over = tt }

pub screens_bear : {K : Capacity} {R : Rows} {nodes : List NodeRow} (judged : Option Judged) → IsCheck K R nodes judged (blocked judged)
screens_bear None = record { over = tt }
screens_bear {K} {R} {nodes} (Some j) = by j.screen.active refl
  where
    by : (b : Bool) → j.screen.active ≡ b → IsCheck K R nodes (Some j) (ScreenBlocked j.screen.folder when b)
    by true e = record { over = record { by = j; is = refl; active = e; folder = refl } }
    by false e = record { over = tt }

pub quotas_bear : {K : Capacity} {R : Rows} {nodes : List NodeRow} {judged : Option Judged} → IsCheck K R nodes judged (exceeded K R nodes)
quotas_bear {K} {R} {nodes} {judged} = by (deepest nodes (over K R nodes)) refl
  where
    refusal : QuotaRow → Refusal
    refusal quota = QuotaExceeded quota.folder (usage K nodes quota.folder) quota.limit

    by : (o : Option QuotaRow) → deepest nodes (over K R nodes) ≡ o → IsCheck K R nodes judged (option_map refusal o)
    by None e = record { over = tt }
    by (Some quota) e = record { over = ap (option_map refusal) e }

pub first_check : (K : Capacity) (R : Rows) (nodes : List NodeRow) (judged : Option Judged) (checks : List Check) → AreChecks K R nodes judged checks → IsCheck K R nodes judged (first checks)
first_check K R nodes judged [] h = record { over = tt }
first_check K R nodes judged (None ∷ checks) h = first_check K R nodes judged checks h.1
first_check K R nodes judged (Some refusal ∷ checks) h = h.0

-- checks that none refuses
pub first_none : (c : Check) (cs : List Check) → first (c ∷ cs) ≡ None → (c ≡ None) × (first cs ≡ None)
first_none None cs h = (refl, h)
first_none (Some r) cs h = absurd (cc h)

pub when_none : (refusal : Refusal) (b : Bool) → (refusal when b) ≡ None → b ≡ false
when_none refusal true h = absurd (cc h)
when_none refusal false h = refl

pub not_false : (b : Bool) → not b ≡ false → b ≡ true
not_false true h = refl
not_false false h = absurd (cc h)
