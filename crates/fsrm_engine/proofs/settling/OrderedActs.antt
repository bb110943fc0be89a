-- Two lists of acts that stand in order, have the same acts, and name actions of the same rows are the same list. So the acts that
-- wait are those of the step.
use Rattle.std.proofs.Common.{◌≡◌, ℕ, ◌==◌, Bool, true, false, ◌||◌, ◌&&◌, List, [], ◌∷◌, Option, Some, None, refl, sym, ◌∙◌, ap, subst, arith, is_some, slice_get, nat_lt}
use Rattle.std.proofs.lemmas.Bool.Decides.{nat_tests}
use Rattle.std.proofs.lemmas.Option.{same_Some}
use Rattle.std.specs.List.{list_all, AllByRecursion, cons_option}
use Rattle.std.specs.Option.{option_map_or}
use Rattle.fsrm_base.specs.Keyed.{row_of}
use Rattle.fsrm_base.specs.Numbers.{itself, is_set}
use Rattle.fsrm_base.proofs.EditedRows.{ascending_tail}
use Rattle.fsrm_base.proofs.NumberLaws.{first_least}
use Rattle.fsrm_base.proofs.SortedRows.{row_at}
use Rattle.fsrm_base.proofs.TestLaws.{both, both_true, clash, eq_is, eq_same}
use Rattle.fsrm_model.specs.declared.command.Act.{Act}
use Rattle.fsrm_model.specs.declared.command.Subject.{Subject}
use Rattle.fsrm_model.specs.declared.command.Subject.TheVariants.{Quota, Screen}
use Rattle.fsrm_model.specs.declared.row.Action.{Action}
use Rattle.fsrm_model.specs.declared.row.QuotaRow.{QuotaRow}
use Rattle.fsrm_model.specs.declared.row.Rows.{Rows}
use Rattle.fsrm_model.specs.declared.row.Threshold.{Threshold}
use Rattle.fsrm_model.specs.objects.Acts.{folder_in, percent_in, same_subject, has_act, actions_of, IsAct, act_before, are_in_order}
use Rattle.fsrm_model.specs.objects.Quota.{folder_of, quota_of}
use Rattle.fsrm_model.specs.objects.Thresholds.{percent_of, actions_at}
use Rattle.thresholds.specs.Marked.{act_at, waiting, quota_place, threshold_place}
use Rattle.thresholds.specs.Settled.{are_orderly}
use Rattle.thresholds.proofs.Decoded.{Found, found, found_act, found_is}
use Rattle.thresholds.proofs.OrderLaws.{first_waits, orderly, percents_ascend}

-- ---- which act comes before
-- whether an act comes before that of an action, which is named by its place
abbrev before_at : Act → Subject → ℕ → Bool
before_at a subject place =
    nat_lt (folder_in a.subject) (folder_in subject)
    || ((folder_in a.subject == folder_in subject)
    && (nat_lt (percent_in a.subject) (percent_in subject)
    || ((percent_in a.subject == percent_in subject) && nat_lt a.place place)))

not_both : (f p k g q l : ℕ) → (nat_lt f g || ((f == g) && (nat_lt p q || ((p == q) && nat_lt k l)))) ≡ true → (nat_lt g f || ((g == f) && (nat_lt q p || ((q == p) && nat_lt l k)))) ≡ true → ⊥
not_both f p k g q l h e = grind (arith, nat_tests)

one_first : (a b : Act) → act_before a b ≡ true → act_before b a ≡ true → ⊥
one_first a b h e = not_both (folder_in a.subject) (percent_in a.subject) a.place (folder_in b.subject) (percent_in b.subject) b.place h e

-- ---- the same action
same_is : (a b : Subject) → same_subject a b ≡ true → a ≡ b
same_is (Quota f p) (Quota g q) h =
    let t = both (f == g) (p == q) h in
    ap (λ n. Quota n p) (eq_is f g t.0) ∙ ap (Quota g) (eq_is p q t.1)
same_is (Quota f p) (Screen g) h = cc h
same_is (Screen f) (Quota g q) h = cc h
same_is (Screen f) (Screen g) h = ap Screen (eq_is f g h)

same_own : (a : Subject) → same_subject a a ≡ true
same_own (Quota f p) = both_true (f == f) (p == p) (eq_same f) (eq_same p)
same_own (Screen f) = eq_same f

abbrev names : Act → Subject → ℕ → Bool
names act subject place = same_subject act.subject subject && (act.place == place)

own_name : (act : Act) → names act act.subject act.place ≡ true
own_name act = both_true (same_subject act.subject act.subject) (act.place == act.place) (same_own act.subject) (eq_same act.place)

pub has_first : (act : Act) (acts : List Act) → has_act (act ∷ acts) act.subject act.place ≡ true
has_first act acts = ap (λ b. b || has_act acts act.subject act.place) (own_name act)

-- an act comes before the actions of all that it comes before
before_member : (a : Act) (acts : List Act) (subject : Subject) (place : ℕ) → list_all (act_before a) acts ≡ true → has_act acts subject place ≡ true → before_at a subject place ≡ true
before_member a [] subject place h has = cc has
before_member a (x ∷ acts) subject place h has =
    at (before_member a acts subject place (both (act_before a x) (list_all (act_before a) acts) h).1) (names x subject place) refl has
  where
    at : (has_act acts subject place ≡ true → before_at a subject place ≡ true) → (b : Bool) → names x subject place ≡ b → (b || has_act acts subject place) ≡ true → before_at a subject place ≡ true
    at later true e t =
        let n = both (same_subject x.subject subject) (x.place == place) e in
        subst (λ s. before_at a s place ≡ true) (same_is x.subject subject n.0)
        (subst (λ k. before_at a x.subject k ≡ true) (eq_is x.place place n.1) (both (act_before a x) (list_all (act_before a) acts) h).0)
    at later false e t = later t

-- so it isn't among them
none_again : (a : Act) (acts : List Act) (subject : Subject) (place : ℕ) → list_all (act_before a) acts ≡ true → names a subject place ≡ true → has_act acts subject place ≡ false
none_again a acts subject place h e = at (has_act acts subject place) refl
  where
    at : (b : Bool) → has_act acts subject place ≡ b → b ≡ false
    at true has =
        let n = both (same_subject a.subject subject) (a.place == place) e in
        let own : act_before a a ≡ true =
        subst (λ s. before_at a s a.place ≡ true) (sym (same_is a.subject subject n.0))
        (subst (λ k. before_at a subject k ≡ true) (sym (eq_is a.place place n.1)) (before_member a acts subject place h has)) in
        absurd (one_first a a own own)
    at false has = refl

-- ---- the same lists
record SameName (a b : Act) : Type 0 where
  subject : a.subject ≡ b.subject
  place : a.place ≡ b.place

heads : (x y : Act) (xs ys : List Act) → list_all (act_before x) xs ≡ true → list_all (act_before y) ys ≡ true → has_act (y ∷ ys) x.subject x.place ≡ true → has_act (x ∷ xs) y.subject y.place ≡ true → SameName x y
heads x y xs ys before after h e = at (names y x.subject x.place) refl h
  where
    inner : has_act ys x.subject x.place ≡ true → (b : Bool) → names x y.subject y.place ≡ b → (b || has_act xs y.subject y.place) ≡ true → SameName x y
    inner later true is has = let n = both (same_subject x.subject y.subject) (x.place == y.place) is in record { subject = same_is x.subject y.subject n.0; place = eq_is x.place y.place n.1 }
    inner later false is has = absurd (one_first y x (before_member y ys x.subject x.place after later) (before_member x xs y.subject y.place before has))

    at : (b : Bool) → names y x.subject x.place ≡ b → (b || has_act ys x.subject x.place) ≡ true → SameName x y
    at true is has = let n = both (same_subject y.subject x.subject) (y.place == x.place) is in record { subject = sym (same_is y.subject x.subject n.0); place = sym (eq_is y.place x.place n.1) }
    at false is has = inner has (names x y.subject y.place) refl e

-- an action has one kind
same_act : (R : Rows) (a b : Act) → IsAct R a → IsAct R b → SameName a b → a ≡ b
same_act R a b is own n =
    let action : is.action ≡ own.action =
    same_Some is.action own.action (sym is.there ∙ (ap (λ s. slice_get (actions_of R s) a.place) n.subject ∙ (ap (slice_get (actions_of R b.subject)) n.place ∙ own.there))) in
    let kind : a.kind ≡ b.kind = is.kind_is ∙ (ap (λ (x : Action). x.kind) action ∙ sym own.kind_is) in
    ap (λ s. record a { subject = s }) n.subject
    ∙ (ap (λ k. record { subject = b.subject; place = k; kind = a.kind }) n.place
    ∙ ap (λ k. record b { kind = k }) kind)

tails : (x : Act) (xs ys : List Act) → list_all (act_before x) xs ≡ true → list_all (act_before x) ys ≡ true → (subject : Subject) (place : ℕ) → has_act (x ∷ xs) subject place ≡ has_act (x ∷ ys) subject place → has_act xs subject place ≡ has_act ys subject place
tails x xs ys before after subject place h = at (names x subject place) refl h
  where
    at : (b : Bool) → names x subject place ≡ b → (b || has_act xs subject place) ≡ (b || has_act ys subject place) → has_act xs subject place ≡ has_act ys subject place
    at true is e = none_again x xs subject place before is ∙ sym (none_again x ys subject place after is)
    at false is e = e

pub same_acts : (R : Rows) (xs ys : List Act) → are_in_order xs ≡ true → are_in_order ys ≡ true → AllByRecursion (IsAct R) xs → AllByRecursion (IsAct R) ys → ((subject : Subject) (place : ℕ) → has_act xs subject place ≡ has_act ys subject place) → xs ≡ ys
same_acts R [] [] one other is own same = refl
same_acts R [] (y ∷ ys) one other is own same = absurd (clash (has_act (y ∷ ys) y.subject y.place) (has_first y ys) (sym (same y.subject y.place)))
same_acts R (x ∷ xs) [] one other is own same = absurd (clash (has_act (x ∷ xs) x.subject x.place) (has_first x xs) (same x.subject x.place))
same_acts R (x ∷ xs) (y ∷ ys) one other is own same =
    let p = both (list_all (act_before x) xs) (are_in_order xs) one in
    let q = both (list_all (act_before y) ys) (are_in_order ys) other in
    let head : x ≡ y =
    same_act R x y is.0 own.0
    (heads x y xs ys p.0 q.0 (sym (same x.subject x.place) ∙ has_first x xs) (same y.subject y.place ∙ has_first y ys)) in
    let rest : xs ≡ ys =
    same_acts R xs ys p.1 q.1 is.1 own.1
    (λ subject place. tails x xs ys p.0 (subst (λ a. list_all (act_before a) ys ≡ true) (sym head) q.0) subject place
    (same subject place ∙ ap (λ a. has_act (a ∷ ys) subject place) (sym head))) in
    ap (λ a. a ∷ xs) head ∙ ap (λ acts. y ∷ acts) rest

-- ---- the acts that wait
pub waiting_order : (quotas : List QuotaRow) (numbers : List ℕ) → are_orderly quotas ≡ true → is_set numbers ≡ true → are_in_order (waiting quotas numbers) ≡ true
waiting_order quotas [] o set = refl
waiting_order quotas (n ∷ numbers) o set =
    at (waiting_order quotas numbers o (ascending_tail itself n numbers set)) (act_at quotas n) refl
  where
    at : are_in_order (waiting quotas numbers) ≡ true → (a : Option Act) → act_at quotas n ≡ a → are_in_order (cons_option a (waiting quotas numbers)) ≡ true
    at rest None e = rest
    at rest (Some act) e =
        both_true (list_all (act_before act) (waiting quotas numbers)) (are_in_order (waiting quotas numbers))
        (first_waits quotas n numbers act o e (λ m h. first_least n m numbers set h)) rest

act_there : (R : Rows) (n : ℕ) → are_orderly R.quotas ≡ true → (f : Found R.quotas n) → IsAct R (found_act f)
act_there R n o f =
    let own = orderly R.quotas o in
    let quota : quota_of R f.quota.folder ≡ Some f.quota = row_at folder_of f.quota.folder R.quotas (quota_place n) f.quota own.ascending f.quota_is refl in
    let threshold : row_of percent_of f.threshold.percent f.quota.thresholds ≡ Some f.threshold =
    row_at percent_of f.threshold.percent f.quota.thresholds (threshold_place n) f.threshold (percents_ascend R.quotas (quota_place n) f.quota own f.quota_is) f.threshold_is refl in
    record {
      action = f.action;
      there =
          ap (λ o. slice_get (option_map_or (λ (q : QuotaRow). actions_at q.thresholds f.threshold.percent) o []) (found_act f).place) quota
          ∙ (ap (λ o. slice_get (option_map_or (λ (t : Threshold). t.actions) o []) (found_act f).place) threshold ∙ f.action_is);
      kind_is = refl;
    }

pub waiting_there : (R : Rows) (numbers : List ℕ) → are_orderly R.quotas ≡ true → AllByRecursion (IsAct R) (waiting R.quotas numbers)
waiting_there R [] o = tt
waiting_there R (n ∷ numbers) o = at (waiting_there R numbers o) (act_at R.quotas n) refl
  where
    at : AllByRecursion (IsAct R) (waiting R.quotas numbers) → (a : Option Act) → act_at R.quotas n ≡ a → AllByRecursion (IsAct R) (cons_option a (waiting R.quotas numbers))
    at rest None e = rest
    at rest (Some act) e =
        let f = found R.quotas n (ap is_some e) in
        (subst (IsAct R) (same_Some (found_act f) act (sym (found_is R.quotas n f) ∙ e)) (act_there R n o f), rest)

-- those that wait are exactly these, if they stand in order and have the same acts
pub waits_as : (R : Rows) (numbers : List ℕ) (acts : List Act) → are_orderly R.quotas ≡ true → is_set numbers ≡ true → are_in_order acts ≡ true → AllByRecursion (IsAct R) acts → ((subject : Subject) (place : ℕ) → has_act (waiting R.quotas numbers) subject place ≡ has_act acts subject place) → waiting R.quotas numbers ≡ acts
waits_as R numbers acts o set order there same =
    same_acts R (waiting R.quotas numbers) acts (waiting_order R.quotas numbers o set) order (waiting_there R numbers o) there same
