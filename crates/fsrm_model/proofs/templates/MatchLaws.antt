-- Which quotas match a template, and what its change makes of those that it reaches.
use Rattle.std.proofs.Common.{◌≡◌, ℕ, ℤ, ◌==◌, Bool, true, false, cond, ◌&&◌, List, [], ◌∷◌, Some, None, Option, refl, sym, ◌∙◌, ap}
use Rattle.std.proofs.lemmas.Slice.Eq.{bytes_eq-Decides}
use Rattle.std.specs.Prelude.{◌↔◌, map, bytes_eq}
use Rattle.std.specs.Bool.{beq}
use Rattle.std.specs.Cmp.{signed_Decides}
use Rattle.std.specs.Cmp.Lexicographic.{pointwise}
use Rattle.std.specs.Option.{option_map_or}
use Rattle.std.specs.Ordering.{int_eq}
use Rattle.fsrm_base.proofs.TestLaws.{both, both_true, eq_is, eq_test}
use Rattle.fsrm_model.specs.declared.command.Update.{Update}
use Rattle.fsrm_model.specs.declared.command.Update.TheVariants.{Keep, Matching, All}
use Rattle.fsrm_model.specs.declared.row.Action.{Action}
use Rattle.fsrm_model.specs.declared.row.ActionKind.{ActionKind}
use Rattle.fsrm_model.specs.declared.row.ActionKind.TheVariants.{Event, Mail, Program, Report}
use Rattle.fsrm_model.specs.declared.row.QuotaRow.{QuotaRow}
use Rattle.fsrm_model.specs.declared.row.TemplateRow.{TemplateRow}
use Rattle.fsrm_model.specs.declared.row.Threshold.{Threshold}
use Rattle.fsrm_model.specs.meaning.Derives.{unrun, unrun_threshold, Matches, Reaches}
use Rattle.fsrm_model.specs.objects.Templates.{is_derived, without_source, same_kind, same_action, same_threshold, matches_template, is_reached, as_template, updated}

-- ---- a test that says that two things are one after a change
record Tells {X Y : Type 0} (test : X → X → Bool) (f : X → Y) : Type 0 where
  is : (a b : X) → test a b ≡ true → f a ≡ f b
  holds : (a b : X) → f a ≡ f b → test a b ≡ true

-- of lists, pair by pair
lists_are : {X Y : Type 0} (test : X → X → Bool) (f : X → Y) → Tells test f → (xs ys : List X) → pointwise test xs ys ≡ true → map f xs ≡ map f ys
lists_are test f t [] [] h = refl
lists_are test f t [] (y ∷ ys) h = absurd (cc h)
lists_are test f t (x ∷ xs) [] h = absurd (cc h)
lists_are test f t (x ∷ xs) (y ∷ ys) h =
    let parts = both (test x y) (pointwise test xs ys) h in
    ap (λ z. z ∷ map f xs) (t.is x y parts.0) ∙ ap (λ zs. f y ∷ zs) (lists_are test f t xs ys parts.1)

abbrev first_of : {Y : Type 0} (y : Y) (ys : List Y) → Y
first_of y [] = y
first_of y (x ∷ xs) = x

abbrev rest_of : {Y : Type 0} (ys : List Y) → List Y
rest_of [] = []
rest_of (y ∷ ys) = ys

lists_hold : {X Y : Type 0} (test : X → X → Bool) (f : X → Y) → Tells test f → (xs ys : List X) → map f xs ≡ map f ys → pointwise test xs ys ≡ true
lists_hold test f t [] [] h = refl
lists_hold test f t [] (y ∷ ys) h = absurd (cc h)
lists_hold test f t (x ∷ xs) [] h = absurd (cc h)
lists_hold test f t (x ∷ xs) (y ∷ ys) h =
    both_true (test x y) (pointwise test xs ys) (t.holds x y (ap (first_of (f x)) h)) (lists_hold test f t xs ys (ap rest_of h))

-- ---- actions and thresholds
kind_is : (a b : ActionKind) → same_kind a b ≡ true → a ≡ b
kind_is Event Event h = refl
kind_is Mail Mail h = refl
kind_is Program Program h = refl
kind_is Report Report h = refl
kind_is a b h = absurd (cc h)

kind_own : (a : ActionKind) → same_kind a a ≡ true
kind_own Event = refl
kind_own Mail = refl
kind_own Program = refl
kind_own Report = refl

kind_holds : (a b : ActionKind) → a ≡ b → same_kind a b ≡ true
kind_holds a b e = ap (same_kind a) (sym e) ∙ kind_own a

abbrev new_action : ActionKind → ℤ → List ℕ → Action
new_action kind minutes text = record { kind = kind; minutes = minutes; text = text; last_run = None }

actions_tell : Tells same_action unrun
actions_tell =
    record {
      is = λ a b h.
          let parts = both (same_kind a.kind b.kind) (int_eq a.minutes b.minutes && bytes_eq a.text b.text) h in
          let rest = both (int_eq a.minutes b.minutes) (bytes_eq a.text b.text) parts.1 in
          ap (λ k. new_action k a.minutes a.text) (kind_is a.kind b.kind parts.0)
          ∙ (ap (λ m. new_action b.kind m a.text) ((signed_Decides a.minutes b.minutes).0 rest.0)
          ∙ ap (λ t. new_action b.kind b.minutes t) ((bytes_eq-Decides a.text b.text).0 rest.1));
      holds = λ a b h.
          both_true (same_kind a.kind b.kind) (int_eq a.minutes b.minutes && bytes_eq a.text b.text) (kind_holds a.kind b.kind (ap (λ (x : Action). x.kind) h))
          (both_true (int_eq a.minutes b.minutes) (bytes_eq a.text b.text)
          ((signed_Decides a.minutes b.minutes).1 (ap (λ (x : Action). x.minutes) h))
          ((bytes_eq-Decides a.text b.text).1 (ap (λ (x : Action). x.text) h)));
    }

abbrev new_threshold : ℕ → List Action → Threshold
new_threshold percent actions = record { percent = percent; actions = actions }

thresholds_tell : Tells same_threshold unrun_threshold
thresholds_tell =
    record {
      is = λ a b h.
          let parts = both (a.percent == b.percent) (pointwise same_action a.actions b.actions) h in
          ap (λ p. new_threshold p (map unrun a.actions)) (eq_is a.percent b.percent parts.0)
          ∙ ap (λ actions. new_threshold b.percent actions) (lists_are same_action unrun actions_tell a.actions b.actions parts.1);
      holds = λ a b h.
          both_true (a.percent == b.percent) (pointwise same_action a.actions b.actions) (eq_test a.percent b.percent (ap (λ (x : Threshold). x.percent) h))
          (lists_hold same_action unrun actions_tell a.actions b.actions (ap (λ (x : Threshold). x.actions) h));
    }

-- ---- quotas that match
bool_is : (a b : Bool) → beq a b ≡ true → a ≡ b
bool_is true true h = refl
bool_is true false h = absurd (cc h)
bool_is false true h = absurd (cc h)
bool_is false false h = refl

bool_own : (a : Bool) → beq a a ≡ true
bool_own true = refl
bool_own false = refl

pub matching : (template : TemplateRow) (quota : QuotaRow) → (matches_template template quota ≡ true) ↔ Matches template quota
matching template quota = (is, holds)
  where
    is : matches_template template quota ≡ true → Matches template quota
    is h =
        let parts = both ((template.limit == quota.limit) && beq template.enforce quota.enforce) (pointwise same_threshold template.thresholds quota.thresholds) h in
        let kind = both (template.limit == quota.limit) (beq template.enforce quota.enforce) parts.0 in
        record {
          limit = eq_is template.limit quota.limit kind.0;
          enforce = bool_is template.enforce quota.enforce kind.1;
          thresholds = lists_are same_threshold unrun_threshold thresholds_tell template.thresholds quota.thresholds parts.1;
        }

    holds : Matches template quota → matches_template template quota ≡ true
    holds m =
        both_true ((template.limit == quota.limit) && beq template.enforce quota.enforce) (pointwise same_threshold template.thresholds quota.thresholds)
        (both_true (template.limit == quota.limit) (beq template.enforce quota.enforce) (eq_test template.limit quota.limit m.limit) (ap (beq template.enforce) (sym m.enforce) ∙ bool_own template.enforce))
        (lists_hold same_threshold unrun_threshold thresholds_tell template.thresholds quota.thresholds m.thresholds)

-- ---- a template's change
derived_is : (number : ℕ) (o : Option ℕ) → option_map_or (λ n. n == number) o false ≡ true → o ≡ Some number
derived_is number None h = absurd (cc h)
derived_is number (Some n) h = ap (λ k. Some k) (eq_is n number h)

derived_test : (number : ℕ) (o : Option ℕ) → o ≡ Some number → option_map_or (λ n. n == number) o false ≡ true
derived_test number o e = ap (λ o. option_map_or (λ n. n == number) o false) e ∙ eq_test number number refl

-- it reaches those that it is said to reach, and leaves each other as it was
reached_parts : (mode : Update) (old : TemplateRow) (quota : QuotaRow) → is_reached mode old quota ≡ true → Reaches mode old quota
reached_parts Keep old quota h = cc h
reached_parts Matching old quota h =
    let parts = both (is_derived old.number quota) (matches_template old quota) h in
    (derived_is old.number quota.template parts.0, (matching old quota).0 parts.1)
reached_parts All old quota h = derived_is old.number quota.template h

reached_test : (mode : Update) (old : TemplateRow) (quota : QuotaRow) → Reaches mode old quota → is_reached mode old quota ≡ true
reached_test Keep old quota r = absurd r
reached_test Matching old quota r =
    both_true (is_derived old.number quota) (matches_template old quota) (derived_test old.number quota.template r.0) ((matching old quota).1 r.1)
reached_test All old quota r = derived_test old.number quota.template r

pub reached_is : (mode : Update) (old : TemplateRow) (quota : QuotaRow) → (is_reached mode old quota ≡ true) ↔ Reaches mode old quota
reached_is mode old quota = (reached_parts mode old quota, reached_test mode old quota)

pub updated_stays : (mode : Update) (old new : TemplateRow) (quota : QuotaRow) → is_reached mode old quota ≡ false → updated mode old new quota ≡ quota
updated_stays mode old new quota h = ap (λ (b : Bool). cond b (as_template new quota) quota) h

pub updated_match : (mode : Update) (old new : TemplateRow) (quota : QuotaRow) → is_reached mode old quota ≡ true → Matches new (updated mode old new quota)
updated_match mode old new quota h = at (is_reached mode old quota) h
  where
    at : (b : Bool) → b ≡ true → Matches new (cond b (as_template new quota) quota)
    at true e = record { limit = refl; enforce = refl; thresholds = refl }
    at false e = absurd (cc e)

-- and a template that goes
pub source_gone : (number : ℕ) (quota : QuotaRow) → is_derived number (without_source number quota) ≡ false
source_gone number quota = at (is_derived number quota) refl
  where
    at : (b : Bool) → is_derived number quota ≡ b → is_derived number (cond b (record quota { template = None }) quota) ≡ false
    at true e = refl
    at false e = e
