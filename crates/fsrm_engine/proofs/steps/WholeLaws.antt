-- After a command an engine's parts are whole.
use Rattle.std.proofs.Common.{◌≡◌, ℕ, ◌≤◌, Bool, true, List, [], ◌++◌, ap, sym, ◌∙◌, subst}
use Rattle.std.specs.Prelude.{filter, Result, Ok, Err, IfOk, OnErr}
use Rattle.std.specs.List.{AllByRecursion}
use Rattle.fsrm_base.specs.declared.memory.NoMemory.{NoMemory as Wanting}
use Rattle.fsrm_base.proofs.RowLaws.{all_filter}
use Rattle.fsrm_model.specs.declared.command.Act.{Act}
use Rattle.fsrm_model.specs.declared.command.Answer.{Answer}
use Rattle.fsrm_model.specs.declared.command.Command.{Command}
use Rattle.fsrm_model.specs.declared.command.Deed.{Deed}
use Rattle.fsrm_model.specs.declared.row.Capacity.{Capacity}
use Rattle.fsrm_model.specs.declared.row.Rows.{Rows}
use Rattle.fsrm_model.specs.objects.Acts.{IsAct, is_of_quota, of_quotas, of_screens}
use Rattle.fsrm_model.specs.commands.Cost.{cost, deed_cost}
use Rattle.fsrm_model.specs.meaning.Named.{IsNamed}
use Rattle.fsrm_model.specs.commands.Step.{Stepped, step}
use Rattle.fsrm_model.specs.store.Valid.{AreQuotas, IsValid}
use Rattle.fsrm_model.proofs.commands.EachCommand.{IsLegalReport, named}
use Rattle.fsrm_model.proofs.commands.StepActs.{AreActs}
use Rattle.fsrm_model.proofs.thresholds.DueLaws.{also}
use Rattle.rescan.specs.Courses.{Scanning}
use Rattle.volume_tree.specs.Volume.{Volume}
use Rattle.thresholds.specs.Marked.{waiting}
use Rattle.fsrm_engine.specs.declared.parts.Parts.{Parts}
use Rattle.fsrm_engine.specs.Machine.{AreMarked, Machine, Takes, Does, IsIdle, IsSound, IsWhole, AreCounted, machine_of, rows_of, step_of, ended}
use Rattle.fsrm_engine.proofs.settling.MarkLaws.{idle_whole}
use Rattle.fsrm_engine.proofs.settling.OrderedActs.{waits_as}
use Rattle.fsrm_parts.proofs.settling.OrderlyQuotas.{quotas_orderly}
use Rattle.fsrm_engine.proofs.steps.StepLaws.{cost_in_time}

-- parts whose tree was put into its order are what they were
pub record Arranged (p : Parts) (seen : Machine) : Type 0 where
  pub whole : IsWhole p
  pub view_is : machine_of p ≡ seen

pub arranged : (p : Parts) (tree : Volume) (seen : Machine) → tree ≡ p.tree → IsWhole p → machine_of p ≡ seen → Arranged (record p { tree = tree }) seen
arranged p tree seen same whole is = record {
  whole = subst (λ (t : Volume). IsWhole (record p { tree = t })) (sym same) whole;
  view_is = ap (λ (t : Volume). machine_of (record p { tree = t })) same ∙ is;
}

-- parts after their end are sound
pub sound_ended : (mid new : Parts) (m : ℕ) → new ≡ ended mid m → AreCounted new → Scanning mid.tree mid.scans → IsSound new
sound_ended mid new m is counted scanning =
    record { counted = counted; scanning = subst (λ (p : Parts). Scanning p.tree p.scans) (sym is) scanning }

-- the rows of a step are valid, and so are those of the parts that did it
pub whole_after : (old new : Parts) (m : ℕ) (deed : Deed) (answer : Answer) → Does old new m deed answer → IsSound new → IsValid old.tree.size (step_of old m deed).rows → IsWhole new
whole_after old new m deed answer does sound valid =
    record {
      sound = sound;
      valid = subst (IsValid new.tree.size) (sym does.rows_are) (subst (λ (K : Capacity). IsValid K (step_of old m deed).rows) (sym does.size_is) valid);
      there = does.acts_are.there;
      screens = does.acts_are.places;
      crossing = does.acts_are.crossing;
    }

-- also if memory ran out
pub result_whole : (old new : Parts) (m : ℕ) (deed : Deed) (result : Result Answer Wanting) → IsWhole old → IfOk result (λ answer. Does old new m deed answer) → OnErr result (new ≡ old) → IsSound new → IsValid old.tree.size (step_of old m deed).rows → IsWhole new
result_whole old new m deed (Ok answer) whole does same sound valid = whole_after old new m deed answer does sound valid
result_whole old new m deed (Err e) whole does same sound valid = subst IsWhole (sym same) whole

-- some of the acts are there too
some_there : (R : Rows) (test : Act → Bool) (acts : List Act) → AllByRecursion (IsAct R) acts → AllByRecursion (IsAct R) (filter test acts)
some_there R test acts there = all_filter test (IsAct R) acts (also (IsAct R) (λ act. test act ≡ true → IsAct R act) (λ act is passes. is) acts there)

-- the acts that wait are the step's
pub waits_acts : (new : Parts) (s : Stepped) → rows_of new ≡ s.rows → AreMarked new s.acts → AreQuotas new.tree.nodes new.objects.quotas → AreActs s → (machine_of new).waiting ≡ s.acts
waits_acts new s rows marked quotas acts =
    ap (λ first. first ++ waiting new.objects.quotas new.marks.numbers) marked.screens
    ∙ (ap (λ more. of_screens s.acts ++ more)
    (waits_as (rows_of new) new.marks.numbers (of_quotas s.acts) (quotas_orderly new.tree.nodes new.objects.quotas quotas) marked.set acts.in_order
    (some_there (rows_of new) (λ act. is_of_quota act.subject) s.acts (subst (λ (R : Rows). AllByRecursion (IsAct R) s.acts) (sym rows) acts.there)) marked.are)
    ∙ sym acts.first)

pub takes : (old new : Parts) (m : ℕ) (deed : Deed) (answer : Answer) → Does old new m deed answer → AreQuotas new.tree.nodes new.objects.quotas → AreActs (step_of old m deed) → Takes (machine_of old) (machine_of new) (step_of old m deed) answer
takes old new m deed answer does quotas acts =
    record {
      size_is = does.size_is;
      rows_are = does.rows_are;
      acts_are = waits_acts new (step_of old m deed) does.rows_are does.acts_are quotas acts;
      outcome_is = does.outcome_is;
      lasting_is = does.lasting_is;
    }

-- What an answer names is there
pub takes_named : (old new : Machine) (c : Command) (answer : Answer) → Takes old new (step old.size old.rows c) answer → IsValid old.size old.rows → IsLegalReport c.deed → IsNamed new.rows answer.outcome
takes_named old new c answer t store legal =
    subst (λ (S : Rows). IsNamed S answer.outcome) (sym t.rows_are)
    (subst (IsNamed (step old.size old.rows c).rows) (sym t.outcome_is) (named old.size old.rows c store legal))

pub result_named : (old new : Machine) (c : Command) (result : Result Answer Wanting) → IfOk result (λ answer. Takes old new (step old.size old.rows c) answer) → IsValid old.size old.rows → IsLegalReport c.deed → IfOk result (λ answer. IsNamed new.rows answer.outcome)
result_named old new c (Ok answer) t store legal = takes_named old new c answer t store legal
result_named old new c (Err e) t store legal = tt

-- What is known of the parts is known of the machine that is seen
pub seen_takes : (old new : Parts) (seen : Machine) (c : Command) (answer : Answer) → machine_of old ≡ seen → Does old new c.moment c.deed answer → AreQuotas new.tree.nodes new.objects.quotas → AreActs (step_of old c.moment c.deed) → Takes seen (machine_of new) (step seen.size seen.rows c) answer
seen_takes old new seen c answer view does quotas acts =
    subst (λ (o : Machine). Takes o (machine_of new) (step o.size o.rows c) answer) view (takes old new c.moment c.deed answer does quotas acts)

pub seen_ok : (old new : Parts) (seen : Machine) (c : Command) (result : Result Answer Wanting) → machine_of old ≡ seen → IfOk result (λ answer. Does old new c.moment c.deed answer) → AreQuotas new.tree.nodes new.objects.quotas → AreActs (step_of old c.moment c.deed) → IfOk result (λ answer. Takes seen (machine_of new) (step seen.size seen.rows c) answer)
seen_ok old new seen c (Ok answer) view does quotas acts = seen_takes old new seen c answer view does quotas acts
seen_ok old new seen c (Err e) view does quotas acts = tt

-- no act waits of parts that are seen so
pub seen_idle : (p : Parts) (seen : Machine) → IsWhole p → machine_of p ≡ seen → seen.waiting ≡ [] → IsIdle p
seen_idle p seen whole view none = idle_whole p whole (ap (λ (o : Machine). o.waiting) view ∙ none)

pub seen_err : (old new : Parts) (seen : Machine) (result : Result Answer Wanting) → machine_of old ≡ seen → OnErr result (new ≡ old) → OnErr result (machine_of new ≡ seen)
seen_err old new seen (Ok answer) view same = tt
seen_err old new seen (Err e) view same = ap machine_of same ∙ view

pub seen_cost : (old : Parts) (seen : Machine) (c : Command) → machine_of old ≡ seen → old.last_moment ≤ c.moment → deed_cost (rows_of old) c.deed ≡ cost seen.rows c
seen_cost old seen c view after = cost_in_time (rows_of old) c after ∙ ap (λ (o : Machine). cost o.rows c) view
