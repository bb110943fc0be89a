-- The quotas that folders get of the folders that they stand in are such as may come to a store.
use Rattle.std.proofs.Common.{◌≡◌, ℕ, ◌≤◌, ◌==◌, Bool, true, false, cond, not, ◌||◌, ◌&&◌, List, [], ◌∷◌, refl, sym, ◌∙◌, ap, subst, arith, Some, None, Option}
use Rattle.std.proofs.lemmas.Option.{same_Some}
use Rattle.std.specs.Prelude.{filter, filter_map, is_some, map, option_and_then, option_map, option_to_list}
use Rattle.std.specs.List.{list_all, cons_option}
use Rattle.fsrm_base.specs.Keyed.{row_of, has_row, is_ascending}
use Rattle.fsrm_base.specs.Numbers.{is_in, each_once}
use Rattle.fsrm_base.proofs.EditedRows.{absent_later, ascending_tail}
use Rattle.fsrm_base.proofs.EditedTests.{list_all-filter}
use Rattle.fsrm_base.proofs.Look.{found_has, found_key, has_row-new_other, is_some-find}
use Rattle.fsrm_base.proofs.Members.{all_found, all_pass}
use Rattle.fsrm_base.proofs.Order.{ascending-filter}
use Rattle.fsrm_base.proofs.TestLaws.{both, both_true, clash, eq_is, eq_same, is_false, le_test, not_true, or_later}
use Rattle.fsrm_model.specs.objects.AutoApply.{applied, quotas_with, subfolders, template_for}
use Rattle.fsrm_model.specs.declared.row.NodeRow.{NodeRow}
use Rattle.fsrm_model.specs.declared.row.QuotaRow.{QuotaRow}
use Rattle.fsrm_model.specs.declared.row.Rows.{Rows}
use Rattle.fsrm_model.specs.declared.row.TemplateRow.{TemplateRow}
use Rattle.fsrm_model.specs.values.Limits.{latest_moment, most_templates}
use Rattle.fsrm_model.specs.objects.Quota.{folder_of, quota_of}
use Rattle.fsrm_model.specs.objects.QuotaStates.{start}
use Rattle.fsrm_model.specs.objects.Templates.{template_number, template_name, template_of, is_template, derived}
use Rattle.fsrm_model.specs.nodes.Tree.{number, parent_of, name_of, is_folder, is_child, children}
use Rattle.fsrm_model.specs.store.Valid.{has_source, are_templates}
use Rattle.fsrm_model.proofs.nodes.Keeps.{found_folder}
use Rattle.fsrm_model.proofs.valid.NamesApart.{named_parts}
use Rattle.fsrm_model.proofs.valid.QuotasKept.{IsQuota}
use Rattle.fsrm_model.proofs.valid.TemplatesKept.{AreComing, template_parts}

-- the quota that a folder gets
pub record IsApplied (E : Rows) (f : ℕ) (quota : QuotaRow) : Type 0 where
  pub on : quota.folder ≡ f
  pub absent : has_row folder_of f E.quotas ≡ false
  pub own : IsQuota quota
  pub source : has_source E.templates quota ≡ true

pub applied_is : (E : Rows) (moment f : ℕ) (quota : QuotaRow) → are_templates E.templates ≡ true → moment ≤ latest_moment → applied E moment f ≡ Some quota → IsApplied E f quota
applied_is E moment f quota named late h = at (is_some (quota_of E f)) refl h
  where
    made : TemplateRow → QuotaRow
    made template = derived template f (start E.nodes f) moment

    from : (n : ℕ) (o : Option TemplateRow) → row_of template_number n E.templates ≡ o → has_row folder_of f E.quotas ≡ false → option_map made o ≡ Some quota → IsApplied E f quota
    from n None e absent h = absurd (cc h)
    from n (Some template) e absent h =
        let t = named_parts template_number template_name most_templates is_template E.templates named in
        let own = template_parts template (all_found is_template (λ x. template_number x == n) E.templates template t.each e) in
        let key : template.number ≡ n = found_key template_number n E.templates template e in
        subst (λ (q : QuotaRow). IsApplied E f q) (same_Some (made template) quota h) (record {
          on = refl;
          absent = absent;
          own = record { limit = own.limit; thresholds = own.thresholds; moment = le_test moment latest_moment late };
          source = ap (λ k. has_row template_number k E.templates) key ∙ found_has template_number n E.templates template e;
        })

    by_source : (o : Option ℕ) → has_row folder_of f E.quotas ≡ false → option_map made (option_and_then (template_of E.templates) o) ≡ Some quota → IsApplied E f quota
    by_source None absent h = absurd (cc h)
    by_source (Some n) absent h = from n (row_of template_number n E.templates) refl absent h

    at : (b : Bool) → is_some (quota_of E f) ≡ b → cond b None (option_map made (option_and_then (template_of E.templates) (template_for E.autos (parent_of E.nodes f) (name_of E.nodes f)))) ≡ Some quota → IsApplied E f quota
    at true e h = absurd (cc h)
    at false e h = by_source (template_for E.autos (parent_of E.nodes f) (name_of E.nodes f)) (sym (is_some-find (λ q. folder_of q == f) E.quotas) ∙ e) h

-- one that comes alone
pub coming_one : (E : Rows) (moment f : ℕ) → are_templates E.templates ≡ true → moment ≤ latest_moment → is_folder E.nodes f ≡ true → AreComing E.nodes E.templates E.quotas (option_to_list (applied E moment f))
coming_one E moment f named late folder = at (applied E moment f) refl
  where
    at : (o : Option QuotaRow) → applied E moment f ≡ o → AreComing E.nodes E.templates E.quotas (option_to_list o)
    at None e = tt
    at (Some quota) e =
        let is = applied_is E moment f quota named late e in (
          record {
            absent = ap (λ n. has_row folder_of n E.quotas) is.on ∙ is.absent;
            folder = ap (is_folder E.nodes) is.on ∙ folder;
            own = is.own;
            source = is.source;
          },
          tt,
        )

-- of many folders, each once
pub coming_from : (E : Rows) (moment : ℕ) (quotas : List QuotaRow) (ns : List ℕ) → are_templates E.templates ≡ true → moment ≤ latest_moment → each_once ns ≡ true → list_all (is_folder E.nodes) ns ≡ true → ((n : ℕ) → is_in ns n ≡ true → has_row folder_of n quotas ≡ has_row folder_of n E.quotas) → AreComing E.nodes E.templates quotas (filter_map (applied E moment) ns)
coming_from E moment quotas [] named late once folders same = tt
coming_from E moment quotas (n ∷ ns) named late once folders same =
    let first = both (not (is_in ns n)) (each_once ns) once in
    let kinds = both (is_folder E.nodes n) (list_all (is_folder E.nodes) ns) folders in
    at (is_false (is_in ns n) first.0) kinds.0 (λ more its. coming_from E moment more ns named late first.1 kinds.1 its) (applied E moment n) refl
  where
    later : (m : ℕ) → is_in ns m ≡ true → has_row folder_of m quotas ≡ has_row folder_of m E.quotas
    later m there = same m (or_later (n == m) (is_in ns m) there)

    apart : is_in ns n ≡ false → (m : ℕ) → is_in ns m ≡ true → (m == n) ≡ false
    apart lacks m there = not_true (m == n) (λ e. clash (is_in ns n) (subst (λ k. is_in ns k ≡ true) (eq_is m n e) there) lacks)

    at : is_in ns n ≡ false → is_folder E.nodes n ≡ true → ((more : List QuotaRow) → ((m : ℕ) → is_in ns m ≡ true → has_row folder_of m more ≡ has_row folder_of m E.quotas) → AreComing E.nodes E.templates more (filter_map (applied E moment) ns)) → (o : Option QuotaRow) → applied E moment n ≡ o → AreComing E.nodes E.templates quotas (cons_option o (filter_map (applied E moment) ns))
    at lacks folder rest None e = rest quotas later
    at lacks folder rest (Some quota) e =
        let is = applied_is E moment n quota named late e in (
          record {
            absent = ap (λ k. has_row folder_of k quotas) is.on ∙ (same n (ap (λ b. b || is_in ns n) (eq_same n)) ∙ is.absent);
            folder = ap (is_folder E.nodes) is.on ∙ folder;
            own = is.own;
            source = is.source;
          },
          rest (quotas_with quotas quota) (λ m there.
              has_row-new_other folder_of quota m quotas (ap (λ k. m == k) is.on ∙ apart lacks m there) ∙ later m there),
        )

-- the folders in a folder stand there each once
in_mapped : {X : Type 0} (key : X → ℕ) (xs : List X) (n : ℕ) → is_in (map key xs) n ≡ has_row key n xs
in_mapped key [] n = refl
in_mapped key (x ∷ xs) n = ap (λ b. (key x == n) || b) (in_mapped key xs n)

once_mapped : {X : Type 0} (key : X → ℕ) (xs : List X) → is_ascending key xs ≡ true → each_once (map key xs) ≡ true
once_mapped key [] a = refl
once_mapped key (x ∷ xs) a =
    both_true (not (is_in (map key xs) (key x))) (each_once (map key xs))
    (ap not (in_mapped key xs (key x) ∙ absent_later key (key x) x xs (omega arith) a))
    (once_mapped key xs (ascending_tail key x xs a))

all_mapped : {X : Type 0} (key : X → ℕ) (p : ℕ → Bool) (xs : List X) → list_all p (map key xs) ≡ list_all (λ x. p (key x)) xs
all_mapped key p [] = refl
all_mapped key p (x ∷ xs) = ap (λ b. p (key x) && b) (all_mapped key p xs)

-- rows that pass a test, if all pass it or another one that picked them fails
picked : {X : Type 0} (p q : X → Bool) (xs : List X) → list_all (λ x. not (p x) || q x) xs ≡ true → list_all q (filter p xs) ≡ true
picked p q [] h = refl
picked {X} p q (x ∷ xs) h =
    let parts = both (not (p x) || q x) (list_all (λ x. not (p x) || q x) xs) h in
    at (p x) parts.0 (picked p q xs parts.1)
  where
    at : (b : Bool) → (not b || q x) ≡ true → list_all q (filter p xs) ≡ true → list_all q (cond b (x ∷ filter p xs) (filter p xs)) ≡ true
    at true own rest = both_true (q x) (list_all q (filter p xs)) own rest
    at false own rest = rest

all_folders : (nodes : List NodeRow) (folder : ℕ) → is_ascending number nodes ≡ true → list_all (is_folder nodes) (subfolders nodes folder) ≡ true
all_folders nodes folder ascending =
    all_mapped number (is_folder nodes) (filter (λ node. node.folder) (children nodes folder))
    ∙ picked (λ (node : NodeRow). node.folder) (λ node. is_folder nodes node.number) (children nodes folder)
    (list_all-filter (λ node. not node.folder || is_folder nodes node.number) (is_child folder) nodes
    (all_pass number (λ node. not node.folder || is_folder nodes node.number) nodes ascending (λ r own. either r.folder (is_folder nodes r.number) (found_folder nodes r.number r own))))
  where
    either : (a b : Bool) → b ≡ a → (not a || b) ≡ true
    either true b e = e
    either false b e = refl

pub once_subfolders : (nodes : List NodeRow) (folder : ℕ) → is_ascending number nodes ≡ true → each_once (subfolders nodes folder) ≡ true
once_subfolders nodes folder ascending =
    once_mapped number (filter (λ node. node.folder) (children nodes folder))
    (ascending-filter number (λ (node : NodeRow). node.folder) (children nodes folder) (ascending-filter number (is_child folder) nodes ascending))

pub coming_subfolders : (E : Rows) (moment folder : ℕ) → are_templates E.templates ≡ true → moment ≤ latest_moment → is_ascending number E.nodes ≡ true → AreComing E.nodes E.templates E.quotas (filter_map (applied E moment) (subfolders E.nodes folder))
coming_subfolders E moment folder named late ascending =
    coming_from E moment E.quotas (subfolders E.nodes folder) named late
    (once_subfolders E.nodes folder ascending)
    (all_folders E.nodes folder ascending) (λ n there. refl)
