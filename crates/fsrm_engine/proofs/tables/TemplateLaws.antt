-- Commands on templates: parts whose templates, auto-apply quotas and quotas are others, and what the tables refuse.
use Rattle.std.proofs.Common.{◌≡◌, ℕ, ◌+◌, ◌≤◌, Bool, true, false, cond, List, [], ◌∷◌, length, Option, Some, None, nat_lt, nat_le, refl, ap, sym, ◌∙◌, subst, arith}
use Rattle.std.specs.Prelude.{is_none, map, sum_by, Result, Ok, Err, IfOk}
use Rattle.std.specs.List.{list_any}
use Rattle.std.specs.Option.{option_and_then}
use Rattle.fsrm_base.specs.declared.memory.NoMemory.{NoMemory as Wanting}
use Rattle.fsrm_base.specs.Causes.{◌when◌, first}
use Rattle.fsrm_base.specs.Keyed.{with_row, without_row}
use Rattle.fsrm_base.proofs.EditedRows.{sum_by-with_row}
use Rattle.fsrm_base.proofs.Look.{is_some-find}
use Rattle.fsrm_base.proofs.Order.{length-with_row}
use Rattle.file_groups.specs.Kept.{group_texts}
use Rattle.fsrm_model.specs.declared.command.Answer.{Answer}
use Rattle.fsrm_model.specs.declared.command.Deed.{Deed}
use Rattle.fsrm_model.specs.declared.command.Deed.TheVariants.{Template}
use Rattle.fsrm_model.specs.declared.command.NewTemplate.{NewTemplate}
use Rattle.fsrm_model.specs.declared.command.Outcome.TheVariants.{Done}
use Rattle.fsrm_model.specs.declared.command.Refusal.{Refusal}
use Rattle.fsrm_model.specs.declared.command.Refusal.TheVariants as refusal
use Rattle.fsrm_model.specs.declared.command.TemplateDeed.TheVariants.{Add as TemplateAdd, Delete as TemplateDelete}
use Rattle.fsrm_model.specs.declared.row.Capacity.{Capacity}
use Rattle.fsrm_model.specs.declared.row.NodeRow.{NodeRow}
use Rattle.fsrm_model.specs.declared.row.QuotaRow.{QuotaRow}
use Rattle.fsrm_model.specs.declared.row.TemplateRow.{TemplateRow}
use Rattle.fsrm_model.specs.declared.row.Threshold.{Threshold}
use Rattle.fsrm_model.specs.values.Limits.{most_templates, most_text_bytes}
use Rattle.fsrm_model.specs.values.Name.{is_named}
use Rattle.fsrm_model.specs.objects.Quota.{counts, is_complete}
use Rattle.fsrm_model.specs.objects.QuotaStates.{followed}
use Rattle.fsrm_model.specs.objects.Templates.{is_derived, is_template, template_name, template_named, template_number, without_source}
use Rattle.fsrm_model.specs.commands.TemplateWork.{is_applied, new_template, number_in}
use Rattle.fsrm_model.specs.texts.Text.{is_bare}
use Rattle.fsrm_model.specs.values.Texts.{auto_bytes, object_texts, template_bytes}
use Rattle.fsrm_model.specs.objects.Thresholds.{are_too_many, changed_thresholds}
use Rattle.fsrm_model.specs.nodes.Tree.{usage}
use Rattle.fsrm_model.proofs.commands.ValueParts.{IsNewTemplate}
use Rattle.fsrm_model.proofs.thresholds.ThresholdLaws.{changed_kept}
use Rattle.fsrm_model.proofs.thresholds.UnrunKept.{changed_unrun}
use Rattle.fsrm_model.proofs.valid.QuotasKept.{IsQuota, quotas-map}
use Rattle.fsrm_model.proofs.valid.TemplatesKept.{template_joined}
use Rattle.fsrm_objects.specs.Tables.{job_texts, quota_texts, screen_texts}
use Rattle.quota_usage.specs.declared.change.Counter.{Counter}
use Rattle.templates.specs.declared.answer.TemplateFault.{TemplateFault}
use Rattle.templates.specs.declared.answer.TemplateFault.TheVariants as template
use Rattle.templates.specs.Faults.{IsFault, delete_fault, template_fault}
use Rattle.templates.specs.Held.{Held, numbered, with_template, without_template}
use Rattle.fsrm_engine.specs.declared.parts.Parts.{Parts}
use Rattle.fsrm_parts.specs.Faults.{template_answer, template_refusal}
use Rattle.fsrm_engine.specs.Faults.{text_room, texts_of}
use Rattle.fsrm_engine.specs.Machine.{AreCounted, Does, IsCounted, IsIdle, IsSound, IsWhole, ended, rows_of}
use Rattle.fsrm_engine.proofs.settling.CalmLaws.{calm_mapped, calm_same}
use Rattle.fsrm_engine.proofs.settling.EndLaws.{due_of, few_log}
use Rattle.fsrm_engine.proofs.steps.StepLaws.{Accepts, asked, done_as, due, followed_own, refused_as, told}
use Rattle.fsrm_parts.proofs.tables.AnswerLaws.{last_check}
use Rattle.fsrm_engine.proofs.steps.WholeLaws.{sound_ended}
use Rattle.fsrm_engine.proofs.tables.PeakLaws.{was}
use Rattle.fsrm_engine.proofs.tables.RoomLaws.{few_texts, full_test, room_test}
use Rattle.fsrm_parts.proofs.tables.SumLaws.{sums_kept}

-- ---- quotas that are edited, each by itself, and count as they did
pub record IsEdit (g : QuotaRow → QuotaRow) : Type 0 where
  pub folder : (q : QuotaRow) → (g q).folder ≡ q.folder
  pub state : (q : QuotaRow) → (g q).state ≡ q.state
  pub peak : (q : QuotaRow) → (g q).peak ≡ q.peak
  pub own : (q : QuotaRow) → IsQuota q → IsQuota (g q)

pub counted_edited : {level : Bool} (K : Capacity) (nodes : List NodeRow) (quotas : List QuotaRow) (counters : List Counter) (g : QuotaRow → QuotaRow) → IsEdit g → IsCounted K nodes quotas counters level → IsCounted K nodes (map g quotas) counters level
counted_edited K nodes quotas counters g i e =
    record {
      volume = e.volume;
      legal = e.legal;
      are_quotas = quotas-map nodes quotas g e.are_quotas i.folder i.own;
      sums = e.sums ∙ sym (sums_kept K nodes g i.folder (λ q. ap is_complete (i.state q)) quotas);
      peaks = λ l f q h c.
          let w = was g i.folder f quotas q h in
          let counting : counts w.old ≡ true = sym (ap is_complete (i.state w.old)) ∙ (sym (ap counts w.is) ∙ c) in
          subst (λ (k : ℕ). usage K nodes f ≤ k) (sym (ap (λ (r : QuotaRow). r.peak) w.is ∙ i.peak w.old)) (e.peaks l f w.old w.found counting);
    }

-- ---- parts whose templates, auto-apply quotas and quotas are others
abbrev pub rewritten : Parts → Held → List QuotaRow → Parts
rewritten p held quotas = record p { templates = held; objects = record p.objects { quotas = quotas } }

module _ (p : Parts) (held : Held) (quotas : List QuotaRow) (w : IsWhole p) (counted : IsCounted p.tree.size p.tree.nodes quotas p.usage p.level) where
  pub rewritten_sound : IsSound (rewritten p held quotas)
  rewritten_sound = record { counted = counted; scanning = w.sound.scanning }

  pub rewritten_ended : (new : Parts) (m : ℕ) → new ≡ ended (rewritten p held quotas) m → AreCounted new → IsSound new
  rewritten_ended new m ends counted = sound_ended (rewritten p held quotas) new m ends counted w.sound.scanning

  -- a command that makes them is taken, if no check refuses it
  pub rewritten_accepts : (m : ℕ) (deed : Deed) → IsIdle p → p.last_moment ≤ m → due p m deed ≡ None → (asked p m deed).effect ≡ record (rows_of p) { templates = held.templates; autos = held.autos; quotas = quotas } → (asked p m deed).lasts ≡ true → Accepts p (rewritten p held quotas) m deed
  rewritten_accepts m deed idle after none effect lasts =
      record {
        quotas = quotas;
        after = after;
        none = none;
        lasts = lasts;
        size = refl;
        idle = record { numbers = idle.numbers; places = idle.places; crossing = idle.crossing };
        made = ap (followed (rows_of p)) effect ∙ followed_own (record (rows_of p) { templates = held.templates; autos = held.autos; quotas = quotas });
        raised = refl;
      }

  -- and done, if no act is due
  pub rewritten_as : (new : Parts) (m : ℕ) (deed : Deed) (answer : Answer) → IsIdle p → p.last_moment ≤ m → due p m deed ≡ None → (asked p m deed).effect ≡ record (rows_of p) { templates = held.templates; autos = held.autos; quotas = quotas } → (asked p m deed).lasts ≡ true → (asked p m deed).judged ≡ None → due_of p (rewritten p held quotas) m ≡ [] → new ≡ ended (rewritten p held quotas) m → answer ≡ record { outcome = (asked p m deed).outcome; lasting = true } → Does p new m deed answer
  rewritten_as new m deed answer idle after none effect lasts judged calm ends e =
      done_as p (rewritten p held quotas) new m deed answer (rewritten_accepts m deed idle after none effect lasts) judged (few_log p w) calm ends e

-- ---- what the tables of templates and auto-apply quotas refuse
template_bare : (fault : TemplateFault) (r : Refusal) → template_refusal fault ≡ Some r → is_bare r ≡ true
template_bare template.DuplicateName r h = cc h
template_bare template.AlreadyExists r h = cc h
template_bare template.InUse r h = cc h
template_bare template.TableFull r h = cc h
template_bare template.TextsFull r h = cc h
template_bare template.NoMemory r h = cc h

fault_refusal : (fault : TemplateFault) (o : Option TemplateFault) → IsFault fault o → option_and_then template_refusal o ≡ template_refusal fault
fault_refusal template.DuplicateName o h = ap (option_and_then template_refusal) h
fault_refusal template.AlreadyExists o h = ap (option_and_then template_refusal) h
fault_refusal template.InUse o h = ap (option_and_then template_refusal) h
fault_refusal template.TableFull o h = ap (option_and_then template_refusal) h
fault_refusal template.TextsFull o h = ap (option_and_then template_refusal) h
fault_refusal template.NoMemory o h = ap (option_and_then template_refusal) h

-- the answer to a command that they refused, if it wasn't for want of memory
pub refused_by : (p : Parts) (m : ℕ) (deed : Deed) (held : Held) (fault : TemplateFault) (o : Option TemplateFault) (result : Result Answer Wanting) → IsIdle p → p.last_moment ≤ m → due p m deed ≡ option_and_then template_refusal o → IsFault fault o → held ≡ p.templates → IfOk result (λ answer. template_answer fault ≡ Some answer) → IfOk result (λ answer. Does p (record p { templates = held }) m deed answer)
refused_by p m deed held fault o (Err e) idle after h is same given = tt
refused_by p m deed held fault o (Ok answer) idle after h is same given =
    let t = told (template_refusal fault) answer given in
    subst (λ (h : Held). Does p (record p { templates = h }) m deed answer) (sym same)
    (refused_as p m deed answer t.refusal idle after (h ∙ (fault_refusal fault o is ∙ t.is)) (template_bare fault t.refusal t.is) t.answer_is)

-- all texts, with those of other templates and quotas
abbrev pub rest_texts : Parts → ℕ
rest_texts p = ((screen_texts p.objects.screens + job_texts p.objects.jobs) + group_texts p.groups) + sum_by auto_bytes p.templates.autos

pub all_texts : (p : Parts) (templates : List TemplateRow) (quotas : List QuotaRow) → object_texts (record (rows_of p) { templates = templates; quotas = quotas }) ≡ (quota_texts quotas + sum_by template_bytes templates) + rest_texts p
all_texts p templates quotas = omega arith

-- ---- a new template
abbrev pub blank : List ℕ → ℕ → Bool → List Threshold → TemplateRow
blank name limit enforce thresholds = record { number = 0; name = name; limit = limit; enforce = enforce; thresholds = thresholds }

pub blank_legal : (values : NewTemplate) (thresholds : List Threshold) → IsNewTemplate values → thresholds ≡ changed_thresholds [] values.thresholds.percents values.thresholds.notices [] → are_too_many thresholds ≡ false → is_template (blank values.name values.limit values.enforce thresholds) ≡ true
blank_legal values thresholds legal is few =
    subst (λ (ts : List Threshold). is_template (blank values.name values.limit values.enforce ts) ≡ true) (sym is)
    (template_joined (blank values.name values.limit values.enforce (changed_thresholds [] values.thresholds.percents values.thresholds.notices [])) (record {
      below = refl;
      named = legal.name;
      limit = legal.limit;
      thresholds = changed_kept [] values.thresholds.percents values.thresholds.notices [] refl legal.thresholds.percents legal.thresholds.notices (sym (ap are_too_many is) ∙ few);
      unrun = changed_unrun [] values.thresholds.percents values.thresholds.notices [] legal.thresholds.notices refl;
    }))

three : (a c d : Bool) → first ((refusal.DuplicateName when a) ∷ (refusal.OutOfRange when false) ∷ (refusal.TableFull when c) ∷ (refusal.TextsFull when d) ∷ []) ≡ option_and_then template_refusal (first ((template.DuplicateName when a) ∷ (template.TableFull when c) ∷ (template.TextsFull when d) ∷ []))
three true c d = refl
three false true d = refl
three false false true = refl
three false false false = refl

module _ (p : Parts) (m : ℕ) (values : NewTemplate) (w : IsWhole p) where
  abbrev marks : List Threshold
  marks = changed_thresholds [] values.thresholds.percents values.thresholds.notices []

  abbrev grown : List TemplateRow
  grown = with_row template_number (new_template p.templates.templates values) p.templates.templates

  abbrev test : Bool → Bool → Bool → Bool → Option Refusal
  test a b c d = first ((refusal.DuplicateName when a) ∷ (refusal.OutOfRange when b) ∷ (refusal.TableFull when c) ∷ (refusal.TextsFull when d) ∷ [])

  abbrev full : Bool
  full = nat_lt most_templates (length grown)

  abbrev long : Bool
  long = nat_lt most_text_bytes (object_texts (record (rows_of p) { templates = grown }))

  due_blank : are_too_many marks ≡ false → due p m (Template (TemplateAdd values)) ≡ option_and_then template_refusal (template_fault p.templates (blank values.name values.limit values.enforce (changed_thresholds [] values.thresholds.percents values.thresholds.notices [])) (text_room p))
  due_blank few =
      let ts = p.templates.templates in
      let row = new_template ts values in
      let known = list_any (is_named template_name values.name) ts in
      let whole : object_texts (record (rows_of p) { templates = grown }) ≡ (quota_texts p.objects.quotas + sum_by template_bytes grown) + rest_texts p = all_texts p grown p.objects.quotas in
      let sum : sum_by template_bytes grown ≡ template_bytes row + sum_by template_bytes ts = sum_by-with_row template_number template_bytes row ts in
      let bytes : long ≡ nat_lt (text_room p) (template_bytes row) =
      room_test most_text_bytes (texts_of p) (template_bytes row) (object_texts (record (rows_of p) { templates = grown })) (few_texts p w) (omega (arith, whole, sum)) in
      ap (λ a. test a (are_too_many marks) full long) (is_some-find (is_named template_name values.name) ts)
      ∙ (ap (λ b. test known b full long) few
      ∙ (ap (λ c. test known false c long) (full_test most_templates (length ts) (length grown) (length-with_row template_number row ts))
      ∙ (ap (test known false (nat_le most_templates (length ts))) bytes
      ∙ three known (nat_le most_templates (length ts)) (nat_lt (text_room p) (template_bytes row)))))

  -- by the row that was given to the table
  pub add_due : (row : TemplateRow) (thresholds : List Threshold) (room : ℕ) → row ≡ blank values.name values.limit values.enforce thresholds → thresholds ≡ changed_thresholds [] values.thresholds.percents values.thresholds.notices [] → room ≡ text_room p → are_too_many thresholds ≡ false → due p m (Template (TemplateAdd values)) ≡ option_and_then template_refusal (template_fault p.templates row room)
  add_due row thresholds room is are room_is few =
      due_blank (sym (ap are_too_many are) ∙ few)
      ∙ (ap (λ (r : TemplateRow). option_and_then template_refusal (template_fault p.templates r (text_room p))) (sym (is ∙ ap (blank values.name values.limit values.enforce) are))
      ∙ ap (λ k. option_and_then template_refusal (template_fault p.templates row k)) (sym room_is))

  pub template_added : (new : Parts) (held : Held) (row : TemplateRow) (thresholds : List Threshold) (room : ℕ) (answer : Answer) → row ≡ blank values.name values.limit values.enforce thresholds → thresholds ≡ changed_thresholds [] values.thresholds.percents values.thresholds.notices [] → room ≡ text_room p → are_too_many thresholds ≡ false → IsIdle p → p.last_moment ≤ m → template_fault p.templates row room ≡ None → held ≡ with_template p.templates (numbered p.templates.templates row) → new ≡ ended (record p { templates = held }) m → answer ≡ record { outcome = Done None; lasting = true } → Does p new m (Template (TemplateAdd values)) answer
  template_added new held row thresholds room answer is are room_is few idle after may held_is ends e =
      let own : held ≡ with_template p.templates (numbered p.templates.templates (blank values.name values.limit values.enforce (changed_thresholds [] values.thresholds.percents values.thresholds.notices []))) =
      held_is ∙ ap (λ (r : TemplateRow). with_template p.templates (numbered p.templates.templates r)) (is ∙ ap (blank values.name values.limit values.enforce) are) in
      rewritten_as p held p.objects.quotas w w.sound.counted new m (Template (TemplateAdd values)) answer idle after
      (add_due row thresholds room is are room_is few ∙ ap (option_and_then template_refusal) may)
      (ap (λ (h : Held). record (rows_of p) { templates = h.templates; autos = h.autos }) (sym own)) refl refl
      (calm_same p (rewritten p held p.objects.quotas) m w.sound.counted w.sound.counted refl refl refl) ends e

-- ---- a template goes
pub source_edit : (n : ℕ) → IsEdit (without_source n)
source_edit n =
    record {
      folder = λ q. folder q (is_derived n q);
      state = λ q. state q (is_derived n q);
      peak = λ q. peak q (is_derived n q);
      own = λ q is. own q is (is_derived n q);
    }
  where
    folder : (q : QuotaRow) (b : Bool) → (cond b (record q { template = None }) q).folder ≡ q.folder
    folder q true = refl
    folder q false = refl

    state : (q : QuotaRow) (b : Bool) → (cond b (record q { template = None }) q).state ≡ q.state
    state q true = refl
    state q false = refl

    peak : (q : QuotaRow) (b : Bool) → (cond b (record q { template = None }) q).peak ≡ q.peak
    peak q true = refl
    peak q false = refl

    own : (q : QuotaRow) → IsQuota q → (b : Bool) → IsQuota (cond b (record q { template = None }) q)
    own q is true = record { limit = is.limit; thresholds = is.thresholds; moment = is.moment }
    own q is false = is

source_limit : (n : ℕ) (q : QuotaRow) → (without_source n q).limit ≡ q.limit
source_limit n q = at (is_derived n q)
  where
    at : (b : Bool) → (cond b (record q { template = None }) q).limit ≡ q.limit
    at true = refl
    at false = refl

source_thresholds : (n : ℕ) (q : QuotaRow) → (without_source n q).thresholds ≡ q.thresholds
source_thresholds n q = at (is_derived n q)
  where
    at : (b : Bool) → (cond b (record q { template = None }) q).thresholds ≡ q.thresholds
    at true = refl
    at false = refl

free_of : (b : Bool) → (template.InUse when b) ≡ None → b ≡ false
free_of true h = cc
free_of false h = refl

taken_by : (b : Bool) (fault : TemplateFault) → (template.InUse when b) ≡ Some fault → b ≡ true
taken_by true fault h = refl
taken_by false fault h = cc

pub delete_missing : (p : Parts) (m : ℕ) (name : List ℕ) → template_named p.templates.templates name ≡ None → due p m (Template (TemplateDelete name)) ≡ Some refusal.NotFound
delete_missing p m name h = ap (λ o. first ((refusal.NotFound when is_none o) ∷ (refusal.InUse when is_applied (rows_of p) (number_in o)) ∷ [])) h

module _ (p : Parts) (m : ℕ) (name : List ℕ) (t : TemplateRow) (is : template_named p.templates.templates name ≡ Some t) where
  delete_due : (b : Bool) → is_applied (rows_of p) t.number ≡ b → due p m (Template (TemplateDelete name)) ≡ (refusal.InUse when b)
  delete_due b h =
      ap (λ o. first ((refusal.NotFound when is_none o) ∷ (refusal.InUse when is_applied (rows_of p) (number_in o)) ∷ [])) is
      ∙ (last_check (refusal.InUse when is_applied (rows_of p) t.number) ∙ ap (λ b. refusal.InUse when b) h)

  pub delete_used : (fault : TemplateFault) → delete_fault p.templates t.number ≡ Some fault → due p m (Template (TemplateDelete name)) ≡ Some refusal.InUse
  delete_used fault h = delete_due true (taken_by (is_applied (rows_of p) t.number) fault h)

  pub gone_counted : (quotas : List QuotaRow) → IsWhole p → quotas ≡ map (without_source t.number) p.objects.quotas → IsCounted p.tree.size p.tree.nodes quotas p.usage p.level
  gone_counted quotas w made =
      subst (λ (qs : List QuotaRow). IsCounted p.tree.size p.tree.nodes qs p.usage p.level) (sym made)
      (counted_edited p.tree.size p.tree.nodes p.objects.quotas p.usage (without_source t.number) (source_edit t.number) w.sound.counted)

  pub template_deleted : (new : Parts) (held : Held) (quotas : List QuotaRow) (answer : Answer) → IsWhole p → IsIdle p → p.last_moment ≤ m → delete_fault p.templates t.number ≡ None → held ≡ without_template p.templates t.number → quotas ≡ map (without_source t.number) p.objects.quotas → new ≡ ended (rewritten p held quotas) m → answer ≡ record { outcome = Done None; lasting = true } → Does p new m (Template (TemplateDelete name)) answer
  template_deleted new held quotas answer w idle after may held_is made ends e =
      let counted = gone_counted quotas w made in
      rewritten_as p held quotas w counted new m (Template (TemplateDelete name)) answer idle after
      (delete_due false (free_of (is_applied (rows_of p) t.number) may))
      (ap (λ o. record (rows_of p) { templates = without_row template_number (number_in o) p.templates.templates; quotas = map (without_source (number_in o)) p.objects.quotas }) is
      ∙ (ap (λ (h : Held). record (rows_of p) { templates = h.templates; autos = h.autos; quotas = map (without_source t.number) p.objects.quotas }) (sym held_is)
      ∙ ap (λ (qs : List QuotaRow). record (rows_of p) { templates = held.templates; autos = held.autos; quotas = qs }) (sym made))) refl refl
      (calm_mapped p (rewritten p held quotas) m (without_source t.number) w.sound.counted counted refl made refl (source_edit t.number).folder (source_limit t.number) (source_thresholds t.number)) ends e
