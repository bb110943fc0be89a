-- Quotas whose thresholds stand apart, since they are those of the template already.
use Rattle.std.proofs.Common.{◌≡◌, ℕ, ◌+◌, ◌==◌, ◌&&◌, ◌||◌, not, Bool, true, false, cond, List, [], ◌∷◌, ◌++◌, Option, Some, None, drop, refl, sym, ◌∙◌, ap, append_assoc}
use Rattle.std.proofs.lemmas.List.{map-append}
use Rattle.std.proofs.lemmas.List.Elements.{All-get_or}
use Rattle.std.proofs.lemmas.List.Sums.{AllPass-from_list_all, sum_by-cons}
use Rattle.std.proofs.lemmas.Option.{get_or_from_slice_get, same_Some, slice_get-map, slice_get_within}
use Rattle.std.specs.Bool.{beq}
use Rattle.std.specs.Cmp.Lexicographic.{pointwise}
use Rattle.std.specs.List.{list_all}
use Rattle.std.specs.Prelude.{filter, is_none, map, option_map, slice_get}
use Rattle.fsrm_base.proofs.TestLaws.{both, both_true, eq_same}
use Rattle.fsrm_model.specs.declared.command.Update.{Update}
use Rattle.fsrm_model.specs.declared.row.Action.{Action}
use Rattle.fsrm_model.specs.declared.row.QuotaRow.{QuotaRow}
use Rattle.fsrm_model.specs.declared.row.TemplateRow.{TemplateRow}
use Rattle.fsrm_model.specs.declared.row.Threshold.{Threshold}
use Rattle.fsrm_model.specs.meaning.Derives.{unrun, unrun_threshold}
use Rattle.fsrm_model.specs.objects.Templates.{as_template, is_reached, is_template, is_unrun, same_threshold, updated}
use Rattle.fsrm_model.specs.values.Texts.{quota_bytes, threshold_bytes}
use Rattle.fsrm_model.proofs.templates.MatchLaws.{matching}
use Rattle.fsrm_model.proofs.valid.TemplatesKept.{template_parts}
use Rattle.fsrm_objects.specs.Tables.{quota_texts}
use Rattle.templates.specs.declared.reached.Was.{Was}
use Rattle.templates.specs.Reached.{has_thresholds, keeps, stand_apart, whole}
use Rattle.templates.proofs.UpdateLaws.{left_from}

-- ---- thresholds that are those of a template
unrun_action : (o : Action) → is_none o.last_run ≡ true → unrun o ≡ o
unrun_action o h = at o.last_run h
  where
    at : (run : Option ℕ) → is_none run ≡ true → record o { last_run = None } ≡ record o { last_run = run }
    at None e = refl
    at (Some run) e = cc

same_all : {X : Type 0} (f : X → X) (p : X → Bool) → ((x : X) → p x ≡ true → f x ≡ x) → (xs : List X) → list_all p xs ≡ true → map f xs ≡ xs
same_all f p same [] all = refl
same_all f p same (x ∷ xs) all =
    let parts = both (p x) (list_all p xs) all in
    ap (λ y. y ∷ map f xs) (same x parts.0) ∙ ap (λ ys. x ∷ ys) (same_all f p same xs parts.1)

unrun_lists : (thresholds : List Threshold) → list_all is_unrun thresholds ≡ true → map unrun_threshold thresholds ≡ thresholds
unrun_lists =
    same_all unrun_threshold is_unrun
    (λ t is. ap (λ (actions : List Action). record t { actions = actions }) (same_all unrun (λ action. is_none action.last_run) unrun_action t.actions is))

kind_own : (b : Bool) → beq b b ≡ true
kind_own true = refl
kind_own false = refl

pub same_lists : (template : TemplateRow) (quota : QuotaRow) → is_template template ≡ true → has_thresholds template quota ≡ true → quota.thresholds ≡ template.thresholds
same_lists template quota is has =
    let parts = both (pointwise same_threshold template.thresholds quota.thresholds) (list_all is_unrun quota.thresholds) has in
    let like = record template { limit = quota.limit; enforce = quota.enforce } in
    let own = both_true (quota.limit == quota.limit) (beq quota.enforce quota.enforce) (eq_same quota.limit) (kind_own quota.enforce) in
    let matches = (matching like quota).0 (both_true ((quota.limit == quota.limit) && beq quota.enforce quota.enforce) (pointwise same_threshold template.thresholds quota.thresholds) own parts.0) in
    sym (unrun_lists quota.thresholds parts.1) ∙ (sym matches.thresholds ∙ unrun_lists template.thresholds (template_parts template is).unrun)

-- ---- quotas that keep their thresholds
pub kept : (mode : Update) (old new : TemplateRow) (quotas : List QuotaRow) (place : ℕ) (quota : QuotaRow) → list_all (keeps mode old new) quotas ≡ true → slice_get quotas place ≡ Some quota → is_reached mode old quota ≡ true → has_thresholds new quota ≡ true
kept mode old new quotas place quota all at reached =
    let within = slice_get_within quotas place quota at in
    let own = All-get_or (λ q. keeps mode old new q ≡ true) quotas place quota within (AllPass-from_list_all (keeps mode old new) quotas all) in
    ap (λ b. not b || has_thresholds new quota) (sym reached) ∙ (ap (keeps mode old new) (sym (get_or_from_slice_get quotas place quota quota at)) ∙ own)

-- so their texts stay
pub same_texts : (mode : Update) (old new : TemplateRow) (quotas : List QuotaRow) → is_template new ≡ true → list_all (keeps mode old new) quotas ≡ true → quota_texts (map (updated mode old new) quotas) ≡ quota_texts quotas
same_texts mode old new [] is all = refl
same_texts mode old new (q ∷ quotas) is all =
    let parts = both (keeps mode old new q) (list_all (keeps mode old new) quotas) all in
    let change = updated mode old new in
    sum_by-cons quota_bytes (change q) (map change quotas)
    ∙ (ap (λ n. n + quota_texts (map change quotas)) (at (is_reached mode old q) parts.0)
    ∙ (ap (λ n. quota_bytes q + n) (same_texts mode old new quotas is parts.1) ∙ sym (sum_by-cons quota_bytes q quotas)))
  where
    at : (b : Bool) → (not b || has_thresholds new q) ≡ true → quota_bytes (cond b (as_template new q) q) ≡ quota_bytes q
    at true has = ap threshold_bytes (sym (same_lists new q is has))
    at false has = refl

-- ---- quotas whose thresholds stand apart
pub whole_folder : (thresholds : List Threshold) (was : Was) → (whole thresholds was).folder ≡ was.row.folder
whole_folder thresholds was = at was.same
  where
    at : (b : Bool) → (cond b (record was.row { thresholds = thresholds }) was.row).folder ≡ was.row.folder
    at true = refl
    at false = refl

-- one whose thresholds stand apart had those of the template
pub stood_apart : (new : TemplateRow) (rows : List Was) (reached : List QuotaRow) (place : ℕ) (w : Was) (q : QuotaRow) → is_template new ≡ true → map stand_apart rows ≡ map (has_thresholds new) reached → slice_get rows place ≡ Some w → slice_get reached place ≡ Some q → w.same ≡ true → q.thresholds ≡ new.thresholds
stood_apart new rows reached place w q is alike at_row at_quota same =
    same_lists new q is
    (same_Some (has_thresholds new q) w.same
    (sym (slice_get-map (has_thresholds new) reached place ∙ ap (option_map (has_thresholds new)) at_quota)
    ∙ (sym (ap (λ bs. slice_get bs place) alike) ∙ (slice_get-map stand_apart rows place ∙ ap (option_map stand_apart) at_row)))
    ∙ same)

-- ---- rows that are made of those that pass a test
module _ {X Y Z : Type 0} (f : X → Z) (g : Y → Z) (p : Y → Bool) (all : List Y) (k : ℕ) (y : Y) (here : slice_get all k ≡ Some y) (xs : List X) (so_far : map f xs ++ map g (filter p (drop k all)) ≡ map g (filter p all)) where
  abbrev later : List Y
  later = filter p (drop (k + 1) all)

  left : (b : Bool) → p y ≡ b → filter p (drop k all) ≡ cond b (y ∷ later) later
  left b e = ap (filter p) (left_from all k y here) ∙ ap (λ b. cond b (y ∷ later) later) e

  pub passed : (x : X) → p y ≡ true → f x ≡ g y → map f (xs ++ x ∷ []) ++ map g later ≡ map g (filter p all)
  passed x e made =
      ap (λ zs. zs ++ map g later) (map-append f xs (x ∷ []))
      ∙ (append_assoc (map f xs) (f x ∷ []) (map g later)
      ∙ (ap (λ z. map f xs ++ z ∷ map g later) made ∙ (sym (ap (λ (ys : List Y). map f xs ++ map g ys) (left true e)) ∙ so_far)))

  pub left_out : p y ≡ false → map f xs ++ map g later ≡ map g (filter p all)
  left_out e = sym (ap (λ (ys : List Y). map f xs ++ map g ys) (left false e)) ∙ so_far
