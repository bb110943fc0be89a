-- Which folders in a folder get a quota when the folder gets an auto-apply quota: those whose name it doesn't exclude and that have none.
use Rattle.std.proofs.Common.{◌≡◌, ℕ, ◌==◌, Bool, true, false, cond, not, ◌&&◌, List, [], ◌∷◌, Some, None, Option, refl, ◌∙◌, ap}
use Rattle.std.specs.Prelude.{filter, filter_map, is_none, is_some, map, option_and_then, option_map, if◌then◌else◌}
use Rattle.std.specs.List.{AllByRecursion, cons_option}
use Rattle.fsrm_base.specs.Keyed.{is_ascending}
use Rattle.fsrm_base.proofs.RowLaws.{all_filter, each, each_found}
use Rattle.fsrm_base.proofs.TestLaws.{both, eq_is}
use Rattle.fsrm_model.specs.declared.row.AutoRow.{AutoRow}
use Rattle.fsrm_model.specs.declared.row.NodeRow.{NodeRow}
use Rattle.fsrm_model.specs.declared.row.QuotaRow.{QuotaRow}
use Rattle.fsrm_model.specs.declared.row.Rows.{Rows}
use Rattle.fsrm_model.specs.declared.row.TemplateRow.{TemplateRow}
use Rattle.fsrm_model.specs.objects.AutoApply.{auto_of, excludes, applied, subfolders}
use Rattle.fsrm_model.specs.objects.Quota.{quota_of}
use Rattle.fsrm_model.specs.objects.QuotaStates.{start}
use Rattle.fsrm_model.specs.objects.Templates.{template_of, derived}
use Rattle.fsrm_model.specs.nodes.Tree.{number, parent_of, name_of, is_child, children}
use Rattle.fsrm_model.proofs.valid.ValidLaws.{found_parent}

-- a folder that an auto-apply quota gives one
abbrev pub is_eligible : Rows → AutoRow → ℕ → Bool
is_eligible R auto folder = not (excludes auto (name_of R.nodes folder)) && is_none (quota_of R folder)

-- what all rows have, all their numbers have
of_numbers : {X : Type 0} (key : X → ℕ) (P : ℕ → Type 0) (xs : List X) → AllByRecursion (λ x. P (key x)) xs → AllByRecursion P (map key xs)
of_numbers key P [] h = tt
of_numbers key P (x ∷ xs) h = (h.0, of_numbers key P xs h.1)

pub subfolders_inner : (nodes : List NodeRow) (folder : ℕ) → is_ascending number nodes ≡ true → AllByRecursion (λ n. parent_of nodes n ≡ folder) (subfolders nodes folder)
subfolders_inner nodes folder ascending =
    of_numbers number (λ n. parent_of nodes n ≡ folder) (filter (λ node. node.folder) (children nodes folder))
    (all_filter (λ (r : NodeRow). r.folder) (λ r. parent_of nodes r.number ≡ folder) (children nodes folder)
    (each (children nodes folder) (λ r inner is. inner)
    (all_filter (is_child folder) (λ r. parent_of nodes r.number ≡ folder) nodes
    (each_found number (λ r. is_child folder r ≡ true → parent_of nodes r.number ≡ folder) nodes ascending (λ r own is.
    found_parent nodes r.number r own ∙ eq_is r.parent folder (both (not (r.number == 0)) (r.parent == folder) is).1)))))

eligible_one : (R : Rows) (moment f : ℕ) (auto : AutoRow) (template : TemplateRow) → auto_of R (parent_of R.nodes f) ≡ Some auto → template_of R.templates auto.template ≡ Some template → applied R moment f ≡ (if is_eligible R auto f then Some (derived template f (start R.nodes f) moment) else None)
eligible_one R moment f auto template above source =
    ap (λ (o : Option AutoRow). if is_some (quota_of R f) then None else option_map made (option_and_then (template_of R.templates) (option_and_then picked o))) above
    ∙ at (excludes auto (name_of R.nodes f)) (quota_of R f)
  where
    made : TemplateRow → QuotaRow
    made t = derived t f (start R.nodes f) moment

    picked : AutoRow → Option ℕ
    picked a = if excludes a (name_of R.nodes f) then None else Some a.template

    at : (b : Bool) (o : Option QuotaRow) → (if is_some o then None else option_map made (option_and_then (template_of R.templates) (if b then None else Some auto.template))) ≡ (if not b && is_none o then Some (made template) else None)
    at true None = refl
    at true (Some q) = refl
    at false None = ap (option_map made) source
    at false (Some q) = refl

pub eligible : (R : Rows) (moment folder : ℕ) (auto : AutoRow) (template : TemplateRow) (ns : List ℕ) → auto_of R folder ≡ Some auto → template_of R.templates auto.template ≡ Some template → AllByRecursion (λ n. parent_of R.nodes n ≡ folder) ns → filter_map (applied R moment) ns ≡ map (λ f. derived template f (start R.nodes f) moment) (filter (is_eligible R auto) ns)
eligible R moment folder auto template [] there source inner = refl
eligible R moment folder auto template (n ∷ ns) there source inner =
    ap (λ o. cons_option o (filter_map (applied R moment) ns)) (eligible_one R moment n auto template (ap (auto_of R) inner.0 ∙ there) source)
    ∙ at (is_eligible R auto n) (eligible R moment folder auto template ns there source inner.1)
  where
    made : ℕ → QuotaRow
    made f = derived template f (start R.nodes f) moment

    rest : List ℕ
    rest = filter (is_eligible R auto) ns

    at : (b : Bool) → filter_map (applied R moment) ns ≡ map made rest → cons_option (if b then Some (made n) else None) (filter_map (applied R moment) ns) ≡ map made (cond b (n ∷ rest) rest)
    at true e = ap (λ qs. made n ∷ qs) e
    at false e = e
