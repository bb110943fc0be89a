-- What an engine's parts do is the plain machine's step.
use Rattle.std.proofs.Common.{◌≡◌, ℕ, ◌≤◌, Bool, true, false, List, [], ◌∷◌, length, Option, Some, None, nat_lt, refl, ap, sym, ◌∙◌, subst, arith}
use Rattle.std.proofs.lemmas.Bool.Decides.{nat_tests}
use Rattle.std.proofs.lemmas.Option.{same_Some}
use Rattle.std.specs.Prelude.{option_map, map, if◌then◌else◌}
use Rattle.std.specs.List.{AllByRecursion}
use Rattle.fsrm_model.specs.declared.command.Act.{Act}
use Rattle.fsrm_model.specs.declared.command.Answer.{Answer}
use Rattle.fsrm_model.specs.declared.command.Command.{Command}
use Rattle.fsrm_model.specs.declared.command.Deed.{Deed}
use Rattle.fsrm_model.specs.declared.command.Outcome.TheVariants.{Refused}
use Rattle.fsrm_model.specs.declared.command.Refusal.{Refusal}
use Rattle.fsrm_model.specs.declared.command.Refusal.TheVariants.{ClockBack, QuotaExceeded, ScreenBlocked}
use Rattle.fsrm_model.specs.declared.row.ActRow.{ActRow}
use Rattle.fsrm_model.specs.declared.row.AuditRow.{AuditRow}
use Rattle.fsrm_model.specs.declared.row.Capacity.{Capacity}
use Rattle.fsrm_model.specs.declared.row.GroupRow.{GroupRow}
use Rattle.fsrm_model.specs.declared.row.NodeRow.{NodeRow}
use Rattle.fsrm_model.specs.declared.row.QuotaRow.{QuotaRow}
use Rattle.fsrm_model.specs.declared.row.Rows.{Rows}
use Rattle.fsrm_model.specs.commands.Check.{◌when◌, first}
use Rattle.fsrm_model.specs.commands.Cost.{cost, deed_cost}
use Rattle.fsrm_model.specs.objects.DueActions.{due as due_acts, due_refused}
use Rattle.fsrm_model.specs.nodes.Fresh.{rows_of_nodes}
use Rattle.fsrm_model.specs.values.Limits.{most_entries}
use Rattle.fsrm_model.specs.objects.Quota.{peaked, peaks}
use Rattle.fsrm_model.specs.objects.QuotaStates.{followed, same_head, scan_begun}
use Rattle.fsrm_model.specs.objects.Runs.{ran}
use Rattle.fsrm_model.specs.commands.Step.{Acted, Stepped, work, concluded, decided, accepted, acted, lasted, left_by, ran_if_any, refused_leaving, screened, unacted, unlasting}
use Rattle.fsrm_model.specs.texts.Text.{is_bare}
use Rattle.fsrm_model.specs.commands.Work.{Work}
use Rattle.fsrm_model.proofs.commands.OrderlyLaws.{left_is, acts_left, itself_same}
use Rattle.fsrm_model.proofs.thresholds.ActLaws.{IsOfQuota, of_quota_due, of_quota_refused}
use Rattle.fsrm_base.proofs.TestLaws.{eq_same}
use Rattle.quota_usage.specs.declared.change.Exceeded.{Exceeded}
use Rattle.rescan.specs.Courses.{Course, left}
use Rattle.fsrm_objects.specs.Tables.{Tables}
use Rattle.quota_usage.specs.declared.change.Counter.{Counter}
use Rattle.templates.specs.Held.{Held}
use Rattle.thresholds.specs.Marked.{Marked}
use Rattle.volume_tree.specs.declared.answer.TreeFault.{TreeFault}
use Rattle.volume_tree.specs.declared.answer.TreeFault.TheVariants.{AlreadyExists, InvalidMove, NotEmpty, VolumeFull, NamesFull}
use Rattle.volume_tree.specs.Volume.{Volume}
use Rattle.fsrm_engine.specs.declared.parts.Parts.{Parts}
use Rattle.fsrm_engine.specs.Due.{LeavesActs, Refuses, refused_acts}
use Rattle.fsrm_parts.specs.Faults.{refusal_of, refused_answer, exceeded_refusal}
use Rattle.fsrm_engine.specs.Machine.{AreMarked, Does, IsIdle, Ran, rows_of, step_of, ended}
use Rattle.fsrm_engine.proofs.settling.EndLaws.{due_made, due_of, ended_rows, left_rows, unran}
use Rattle.fsrm_engine.proofs.settling.MarkLaws.{idle_marked, marked_ended}

-- what a command asks of these parts, and the refusal that is due to it if its moment isn't too early
abbrev pub asked : Parts → ℕ → Deed → Work
asked p m deed = work p.tree.size (rows_of p) m deed

abbrev pub due : Parts → ℕ → Deed → Option Refusal
due p m deed = first (asked p m deed).checks

after_test : (last m : ℕ) → last ≤ m → nat_lt m last ≡ false
after_test last m h = grind (arith, nat_tests)

-- a command whose moment isn't too early may take the looks of its deed
pub cost_in_time : (R : Rows) (c : Command) → R.last_moment ≤ c.moment → deed_cost R c.deed ≡ cost R c
cost_in_time R c after = rw (after_test R.last_moment c.moment after) refl

-- a command whose moment isn't too early is decided by its own checks
pub step_by : (p : Parts) (m : ℕ) (deed : Deed) (o : Option Refusal) → p.last_moment ≤ m → due p m deed ≡ o → step_of p m deed ≡ decided p.tree.size (rows_of p) m (asked p m deed) o
step_by p m deed o after h =
    ap (decided p.tree.size (rows_of p) m (asked p m deed)) (ap (λ b. first ((ClockBack when b) ∷ (asked p m deed).checks)) (after_test p.last_moment m after) ∙ h)

-- what is known of the step is known of the parts
pub does_by : (p new : Parts) (m : ℕ) (deed : Deed) (answer : Answer) (s : Stepped) → step_of p m deed ≡ s → new.tree.size ≡ p.tree.size → rows_of new ≡ s.rows → AreMarked new s.acts → answer ≡ record { outcome = s.outcome; lasting = s.lasting } → Does p new m deed answer
does_by p new m deed answer s h size rows acts e =
    record {
      size_is = size;
      rows_are = rows ∙ sym (ap (λ (s : Stepped). s.rows) h);
      acts_are = subst (λ (s : Stepped). AreMarked new s.acts) (sym h) acts;
      outcome_is = ap (λ (a : Answer). a.outcome) e ∙ sym (ap (λ (s : Stepped). s.outcome) h);
      lasting_is = ap (λ (a : Answer). a.lasting) e ∙ sym (ap (λ (s : Stepped). s.lasting) h);
    }

-- ---- refusals
-- the answer to a command that is refused, and neither by a screen nor by a quota
bare_leaves : (K : Capacity) (R : Rows) (m : ℕ) (w : Work) (refusal : Refusal) → is_bare refusal ≡ true → left_by K R m w refusal ≡ None
bare_leaves K R m w (ScreenBlocked screen) h = cc h
bare_leaves K R m w (QuotaExceeded folder would limit) h = cc h
bare_leaves K R m w other h = refl

pub refused_as : (p : Parts) (m : ℕ) (deed : Deed) (answer : Answer) (refusal : Refusal) → IsIdle p → p.last_moment ≤ m → due p m deed ≡ Some refusal → is_bare refusal ≡ true → answer ≡ refused_answer refusal → Does p p m deed answer
refused_as p m deed answer refusal idle after h bare e =
    let K = p.tree.size in
    let R = rows_of p in
    does_by p p m deed answer (unlasting R (Refused refusal))
    (step_by p m deed (Some refusal) after h ∙ ap (refused_leaving K R m refusal) (bare_leaves K R m (asked p m deed) refusal bare))
    refl refl (idle_marked p idle) e

-- the answer to one that a quota refuses
pub refused_with : (p new : Parts) (m : ℕ) (deed : Deed) (answer : Answer) (exceeded : Exceeded) → IsIdle p → p.last_moment ≤ m → due p m deed ≡ Some (exceeded_refusal exceeded) → refused_acts p exceeded m ≡ due_refused p.tree.size (rows_of p) (asked p m deed).effect.nodes m → Refuses p new m exceeded answer → Does p new m deed answer
refused_with p new m deed answer exceeded idle after h due_is r = at (refused_acts p exceeded m) due_is r.ran r.leaves
  where
    K : Capacity
    K = p.tree.size

    R : Rows
    R = rows_of p

    refusal : Refusal
    refusal = exceeded_refusal exceeded

    leaving : (acts : List Act) → acts ≡ due_refused K R (asked p m deed).effect.nodes m → step_of p m deed ≡ refused_leaving K R m refusal (ran_if_any m acts R)
    leaving acts is = step_by p m deed (Some refusal) after h ∙ ap (λ (acts : List Act). refused_leaving K R m refusal (ran_if_any m acts R)) (sym is)

    own : (acts : List Act) → acts ≡ due_refused K R (asked p m deed).effect.nodes m → AllByRecursion IsOfQuota acts
    own acts is = subst (AllByRecursion IsOfQuota) (sym is) (of_quota_refused K R (asked p m deed).effect.nodes m)

    at : (acts : List Act) → acts ≡ due_refused K R (asked p m deed).effect.nodes m → Ran p r.run m acts → LeavesActs acts p r.run new m exceeded answer → Does p new m deed answer
    at [] is run leaves =
        subst (λ (q : Parts). Does p q m deed answer) (sym leaves.0)
        (does_by p p m deed answer (unlasting R (Refused refusal)) (leaving [] is) refl refl (idle_marked p idle) leaves.1)
    at (act ∷ acts) is run leaves =
        subst (λ (q : Parts). Does p q m deed answer) (sym leaves.0)
        (does_by p (ended r.run m) m deed answer (lasted K R (acted m (act ∷ acts) R) m (Refused refusal)) (leaving (act ∷ acts) is)
        (ap (λ (q : Parts). q.tree.size) run.parts_are)
        (left_rows p r.run m (act ∷ acts) (own (act ∷ acts) is) run ∙ sym (left_is K R R m (act ∷ acts) (Refused refusal) (itself_same K R)))
        (subst (AreMarked (ended r.run m)) (sym (acts_left K R R m (act ∷ acts) (Refused refusal) (itself_same K R))) (marked_ended p r.run m (act ∷ acts) (own (act ∷ acts) is) idle run))
        leaves.1)

-- ---- commands that last
-- what stays of parts until the end of a command
pub record Keeps (p mid : Parts) : Type 0 where
  pub size : mid.tree.size ≡ p.tree.size
  pub marks : mid.marks ≡ p.marks
  pub crossing : mid.crossing ≡ p.crossing
  pub groups : mid.groups ≡ p.groups
  pub templates : mid.templates ≡ p.templates
  pub audit : mid.audit ≡ p.audit
  pub run_limit : mid.run_limit ≡ p.run_limit
  pub last_moment : mid.last_moment ≡ p.last_moment

pub keeps : (p : Parts) (tree : Volume) (objects : Tables) (usage : List Counter) (scans : Course) (level : Bool) → tree.size ≡ p.tree.size → Keeps p (record p { tree = tree; objects = objects; usage = usage; scans = scans; level = level })
keeps p tree objects usage scans level size =
    record { size = size; marks = refl; crossing = refl; groups = refl; templates = refl; audit = refl; run_limit = refl; last_moment = refl }

pub still_idle : (p mid : Parts) → Keeps p mid → IsIdle p → IsIdle mid
still_idle p mid k i =
    record { numbers = ap (λ (m : Marked). m.numbers) k.marks ∙ i.numbers; places = ap (λ (m : Marked). m.places) k.marks ∙ i.places; crossing = k.crossing ∙ i.crossing }

pub still_few : (p mid : Parts) → Keeps p mid → length p.marks.log ≤ most_entries → length mid.marks.log ≤ most_entries
still_few p mid k few = subst (λ (m : Marked). length m.log ≤ most_entries) (sym k.marks) few

-- the parts before the end of a command that lasts: no check refuses it, and these are the rows that it makes. Some peaks
-- may have been raised already
pub record Accepts (p mid : Parts) (m : ℕ) (deed : Deed) : Type 0 where
  pub quotas : List QuotaRow
  pub after : p.last_moment ≤ m
  pub none : due p m deed ≡ None
  pub lasts : (asked p m deed).lasts ≡ true
  pub size : mid.tree.size ≡ p.tree.size
  pub idle : IsIdle mid
  pub made : followed (rows_of p) (asked p m deed).effect ≡ record (rows_of mid) { quotas = quotas }
  pub raised : map (peaked p.tree.size mid.tree.nodes m) mid.objects.quotas ≡ map (peaked p.tree.size mid.tree.nodes m) quotas

pub accepted_by : (K : Capacity) (R : Rows) (m : ℕ) (w : Work) (b : Bool) → w.lasts ≡ b → accepted K R m w ≡ (if b then lasted K R (screened (followed R w.effect) m w.judged) m w.outcome else unlasting (followed R w.effect) w.outcome)
accepted_by K R m w b h = ap (λ b. if b then lasted K R (screened (followed R w.effect) m w.judged) m w.outcome else unlasting (followed R w.effect) w.outcome) h

-- what an effect and the end of a command that lasts leave of parts
pub record Ends (old new : Parts) (acted : Acted) : Type 0 where
  pub size_is : new.tree.size ≡ old.tree.size
  pub rows_are : rows_of new ≡ acted.rows
  pub acts_are : AreMarked new acted.acts

-- after these rows before the end, and the acts that ran
pub ends_with : (p mid run new : Parts) (m : ℕ) (E : Rows) (quotas : List QuotaRow) (acts : List Act) → mid.tree.size ≡ p.tree.size → IsIdle mid → E ≡ record (rows_of mid) { quotas = quotas } → map (peaked p.tree.size mid.tree.nodes m) mid.objects.quotas ≡ map (peaked p.tree.size mid.tree.nodes m) quotas
    → Ran mid run m acts → acts ≡ due_of p mid m → new ≡ ended run m → Ends p new (concluded p.tree.size (rows_of p) (unacted E) m)
ends_with p mid run new m E quotas acts size idle made raised_is r due_is ends =
    let K = p.tree.size in
    let R = rows_of p in
    let D = due_acts K R (peaks K E m) m in
    let raised : map (peaked mid.tree.size mid.tree.nodes m) mid.objects.quotas ≡ map (peaked mid.tree.size mid.tree.nodes m) quotas =
    subst (λ (K : Capacity). map (peaked K mid.tree.nodes m) mid.objects.quotas ≡ map (peaked K mid.tree.nodes m) quotas) (sym size) raised_is in
    let own : AllByRecursion IsOfQuota acts = subst (AllByRecursion IsOfQuota) (sym due_is) (of_quota_due K R (rows_of mid) m) in
    let are : acts ≡ D = due_is ∙ sym (due_made p mid E quotas m made raised_is) in
    let after : Capacity → Rows → List Act → Rows = λ K E acts. record (ran m acts (peaks K E m)) { last_moment = m } in
    record {
      size_is = ap (λ (q : Parts). q.tree.size) ends ∙ (ap (λ (q : Parts). q.tree.size) r.parts_are ∙ size);
      rows_are = ap rows_of ends
          ∙ (ended_rows mid run m acts quotas own r raised
          ∙ (ap (λ (K : Capacity). after K (record (rows_of mid) { quotas = quotas }) acts) size
          ∙ (ap (λ (E : Rows). after K E acts) (sym made) ∙ ap (after K E) are)));
      acts_are = subst (λ (q : Parts). AreMarked q D) (sym ends) (subst (AreMarked (ended run m)) are (marked_ended mid run m acts own idle r));
    }

-- the answer to a command that was done, and whose acts ran
pub done_with : (p mid run new : Parts) (m : ℕ) (deed : Deed) (answer : Answer) (acts : List Act) → Accepts p mid m deed → (asked p m deed).judged ≡ None → Ran mid run m acts → acts ≡ due_of p mid m → new ≡ ended run m → answer ≡ record { outcome = (asked p m deed).outcome; lasting = true } → Does p new m deed answer
done_with p mid run new m deed answer acts a unjudged r due_is ends e =
    let K = p.tree.size in
    let R = rows_of p in
    let w = asked p m deed in
    let E = followed R w.effect in
    let end = ends_with p mid run new m E a.quotas acts a.size a.idle a.made a.raised r due_is ends in
    does_by p new m deed answer (lasted K R (unacted E) m w.outcome)
    (step_by p m deed None a.after a.none
    ∙ (accepted_by K R m w true a.lasts ∙ ap (λ o. lasted K R (screened E m o) m w.outcome) unjudged))
    end.size_is end.rows_are end.acts_are e

-- the same if no act is due
pub done_as : (p mid new : Parts) (m : ℕ) (deed : Deed) (answer : Answer) → Accepts p mid m deed → (asked p m deed).judged ≡ None → length mid.marks.log ≤ most_entries → due_of p mid m ≡ [] → new ≡ ended mid m → answer ≡ record { outcome = (asked p m deed).outcome; lasting = true } → Does p new m deed answer
done_as p mid new m deed answer a unjudged few calm ends e = done_with p mid mid new m deed answer [] a unjudged (unran mid m a.idle few) (sym calm) ends e

-- The rows that a command makes of these parts before its end, by what may change in them
abbrev pub made_rows : Parts → List NodeRow → List QuotaRow → List ℕ → List ℕ → Rows
made_rows p nodes quotas queue unvisited =
    record (rows_of p) { nodes = nodes; quotas = quotas; queue = queue; unvisited = unvisited }

pub followed_rows : (p mid : Parts) (effect : Rows) (quotas : List QuotaRow) (queue unvisited : List ℕ) → Keeps p mid → effect ≡ record (made_rows p mid.tree.nodes quotas queue unvisited) { screens = mid.objects.screens; excepts = mid.objects.excepts; jobs = mid.objects.jobs } → mid.scans.queue ≡ queue → left mid.tree.nodes mid.scans ≡ (if same_head p.scans.queue queue then unvisited else scan_begun mid.tree.nodes queue) → followed (rows_of p) effect ≡ record (rows_of mid) { quotas = quotas }
followed_rows p mid effect quotas queue unvisited k made queue_is left_is =
    let nodes = mid.tree.nodes in
    let u = if same_head p.scans.queue queue then unvisited else scan_begun nodes queue in
    let of : List GroupRow → Held → List AuditRow → List ActRow → List ℕ → List ℕ → ℕ → ℕ → Rows =
    λ groups held audit log q u limit last.
    record (rows_of_nodes nodes) {
      templates = held.templates;
      autos = held.autos;
      groups = groups;
      quotas = quotas;
      screens = mid.objects.screens;
      excepts = mid.objects.excepts;
      jobs = mid.objects.jobs;
      audits = audit;
      acts = log;
      queue = q;
      unvisited = u;
      run_limit = limit;
      last_moment = last;
    } in
    ap (followed (rows_of p)) made
    ∙ (ap (λ groups. of groups p.templates p.audit p.marks.log queue u p.run_limit p.last_moment) (sym k.groups)
    ∙ (ap (λ held. of mid.groups held p.audit p.marks.log queue u p.run_limit p.last_moment) (sym k.templates)
    ∙ (ap (λ audit. of mid.groups mid.templates audit p.marks.log queue u p.run_limit p.last_moment) (sym k.audit)
    ∙ (ap (λ (x : Marked). of mid.groups mid.templates mid.audit x.log queue u p.run_limit p.last_moment) (sym k.marks)
    ∙ (ap (λ q. of mid.groups mid.templates mid.audit mid.marks.log q u p.run_limit p.last_moment) (sym queue_is)
    ∙ (ap (λ u. of mid.groups mid.templates mid.audit mid.marks.log mid.scans.queue u p.run_limit p.last_moment) (sym left_is)
    ∙ (ap (λ n. of mid.groups mid.templates mid.audit mid.marks.log mid.scans.queue (left nodes mid.scans) n p.last_moment) (sym k.run_limit)
    ∙ ap (of mid.groups mid.templates mid.audit mid.marks.log mid.scans.queue (left nodes mid.scans) mid.run_limit) (sym k.last_moment))))))))

-- ---- commands that don't
-- the answer to a command that was done, and doesn't last
pub passing_as : (p new : Parts) (m : ℕ) (deed : Deed) (answer : Answer) (effect : Rows) → IsIdle new → p.last_moment ≤ m → due p m deed ≡ None → (asked p m deed).effect ≡ effect → (asked p m deed).lasts ≡ false → new.tree.size ≡ p.tree.size → rows_of new ≡ followed (rows_of p) effect → answer ≡ record { outcome = (asked p m deed).outcome; lasting = false } → Does p new m deed answer
passing_as p new m deed answer effect idle after none made lasts size rows e =
    let R = rows_of p in
    let w = asked p m deed in
    does_by p new m deed answer (unlasting (followed R w.effect) w.outcome)
    (step_by p m deed None after none ∙ accepted_by p.tree.size R m w false lasts)
    size (rows ∙ sym (ap (followed R) made)) (idle_marked new idle) e

-- the same head is its own
pub same_own : (queue : List ℕ) → same_head queue queue ≡ true
same_own [] = refl
same_own (n ∷ queue) = eq_same n

-- where the queue stays no scan begins
pub followed_own : (R : Rows) → followed R R ≡ R
followed_own R = ap (λ b. record R { unvisited = if b then R.unvisited else scan_begun R.nodes R.queue }) (same_own R.queue)

-- the answer to a command that changes nothing and isn't refused
pub told_as : (p : Parts) (m : ℕ) (deed : Deed) (answer : Answer) → IsIdle p → p.last_moment ≤ m → due p m deed ≡ None → (asked p m deed).effect ≡ rows_of p → (asked p m deed).lasts ≡ false → answer ≡ record { outcome = (asked p m deed).outcome; lasting = false } → Does p p m deed answer
told_as p m deed answer idle after none made lasts e =
    let R = rows_of p in
    passing_as p p m deed answer R idle after none made lasts refl
    (sym (followed_own R)) e

-- ---- the tree's refusals
-- the refusal that an answer tells
pub record Told (o : Option Refusal) (answer : Answer) : Type 0 where
  pub refusal : Refusal
  pub is : o ≡ Some refusal
  pub answer_is : answer ≡ refused_answer refusal

pub told : (o : Option Refusal) (answer : Answer) → option_map refused_answer o ≡ Some answer → Told o answer
told None answer h = cc
told (Some refusal) answer h = record { refusal = refusal; is = refl; answer_is = sym (same_Some (refused_answer refusal) answer h) }

-- the first refusal: the tree's, or else this one
abbrev pub or_else : Option Refusal → Option Refusal → Option Refusal
or_else None more = more
or_else (Some refusal) more = Some refusal

abbrev pub tree_first : Option TreeFault → Option Refusal → Option Refusal
tree_first fault more = or_else (option_map refusal_of fault) more

-- none of these is by a quota
pub tree_bare : (fault : TreeFault) → is_bare (refusal_of fault) ≡ true
tree_bare AlreadyExists = refl
tree_bare InvalidMove = refl
tree_bare NotEmpty = refl
tree_bare VolumeFull = refl
tree_bare NamesFull = refl
