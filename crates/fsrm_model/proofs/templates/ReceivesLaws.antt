-- What an accepted command makes of the quotas of a template that it changes, and which folders get a quota by it.
use Rattle.std.proofs.Common.{◌≡◌, ℕ, ◌==◌, nat_lt, Bool, true, false, not, ◌||◌, List, [], ◌∷◌, Option, Some, None, refl, sym, ◌∙◌, ap, subst, inl, inr}
use Rattle.std.specs.Prelude.{filter_map, fold, is_none, is_some, map, option_map, option_to_list, if◌then◌else◌}
use Rattle.std.specs.List.{cons_option}
use Rattle.fsrm_base.specs.Keyed.{row_of, has_row, with_change}
use Rattle.fsrm_base.specs.Numbers.{is_in, each_once}
use Rattle.fsrm_model.specs.declared.command.AutoquotaDeed.TheVariants.{Add as AutoquotaAdd}
use Rattle.fsrm_model.specs.declared.command.Command.{Command}
use Rattle.fsrm_model.specs.declared.command.Deed.{Deed}
use Rattle.fsrm_model.specs.declared.command.Deed.TheVariants.{File, Template, Autoquota}
use Rattle.fsrm_model.specs.declared.command.FileOp.TheVariants.{Mkdir, Move}
use Rattle.fsrm_model.specs.declared.command.NewAutoquota.{NewAutoquota}
use Rattle.fsrm_model.specs.declared.command.Refusal.{Refusal}
use Rattle.fsrm_model.specs.declared.command.Refusal.TheVariants.{ClockBack, NotFound}
use Rattle.fsrm_model.specs.declared.command.TemplateChange.{TemplateChange}
use Rattle.fsrm_model.specs.declared.command.TemplateDeed.TheVariants.{Modify as TemplateModify}
use Rattle.fsrm_model.specs.declared.row.Capacity.{Capacity}
use Rattle.fsrm_model.specs.declared.row.QuotaRow.{QuotaRow}
use Rattle.fsrm_model.specs.declared.row.Rows.{Rows}
use Rattle.fsrm_model.specs.declared.row.TemplateRow.{TemplateRow}
use Rattle.fsrm_model.specs.objects.AutoApply.{applied, quotas_with, subfolders}
use Rattle.fsrm_model.specs.commands.Check.{◌when◌}
use Rattle.fsrm_model.specs.nodes.FileOps.{plain, target}
use Rattle.fsrm_model.specs.nodes.Leads.{leads_to_folder}
use Rattle.fsrm_model.specs.objects.Quota.{folder_of, quota_of}
use Rattle.fsrm_model.specs.meaning.Receives.{ended, Modifies, with_auto, moved_folder, Gives}
use Rattle.fsrm_model.specs.commands.Step.{Stepped, is_accepted, step, work, decided}
use Rattle.fsrm_model.specs.objects.Templates.{template_number, template_named, updated}
use Rattle.fsrm_model.specs.commands.TemplateWork.{number_in, retemplated, updated_quotas, template_modify_work}
use Rattle.fsrm_model.specs.nodes.Tree.{fresh}
use Rattle.fsrm_model.specs.store.Valid.{IsValid}
use Rattle.fsrm_model.specs.commands.Work.{Work}
use Rattle.fsrm_base.proofs.Look.{has_row-new_other, is_some-find, row_of-new_other}
use Rattle.fsrm_base.proofs.EditedRows.{find-with_row_same}
use Rattle.fsrm_base.proofs.TestLaws.{both, clash, eq_is, eq_same, eq_turned, is_false, is_or_not, not_true, or_later}
use Rattle.fsrm_model.proofs.commands.AcceptedEnds.{IsEnded, none_refuses, work_lasts, step_ended, quota_ended, map_twice}
use Rattle.fsrm_model.proofs.commands.Orderly.{first_none, when_none}
use Rattle.fsrm_model.proofs.commands.OrderlyLaws.{verdict}
use Rattle.fsrm_model.proofs.templates.GetsLaws.{gets}
use Rattle.fsrm_model.proofs.valid.ComingQuotas.{once_subfolders}

-- ---- a template's change
-- a template that is there
named_there : (o : Option TemplateRow) → is_none o ≡ false → (old : TemplateRow) × (o ≡ Some old)
named_there None h = absurd (cc h)
named_there (Some old) h = (old, refl)

modify_modifies : (K : Capacity) (R : Rows) (moment : ℕ) (change : TemplateChange) → let c : Command = record { moment = moment; deed = Template (TemplateModify change) } in is_accepted (step K R c).outcome ≡ true → Modifies K R c change
modify_modifies K R moment change told =
    let c : Command = record { moment = moment; deed = Template (TemplateModify change) } in
    let w = template_modify_work R change in
    let named = template_named R.templates change.name in
    let late = nat_lt moment R.last_moment in
    let none : verdict late w ≡ None = none_refuses K R moment w (verdict late w) told in
    let own = (first_none (ClockBack when late) w.checks none).1 in
    let there = named_there named (when_none NotFound (is_none named) (first_none (NotFound when is_none named) _ own).0) in
    let s : Stepped = step K R c in
    let is = step_ended K R c told (work_lasts K R moment w (verdict late w) none refl) in
    record {
      old = there.0;
      named = there.1;
      templates =
          ap (λ (o : Option Refusal). (decided K R moment w o).rows.templates) none
          ∙ ap (λ (o : Option TemplateRow). with_change template_number (number_in o) (retemplated change) R.templates) there.1;
      quotas =
          is.quotas_are
          ∙ (ap (λ (o : Option TemplateRow). map (ended K moment s) (updated_quotas change.update o (retemplated change) R.quotas)) there.1
          ∙ map_twice (ended K moment s) (updated change.update there.0 (retemplated change there.0)) R.quotas);
    }

pub modified : (K : Capacity) (R : Rows) (c : Command) (change : TemplateChange) → c.deed ≡ Template (TemplateModify change) → is_accepted (step K R c).outcome ≡ true → Modifies K R c change
modified K R c change is =
    subst (λ (deed : Deed). is_accepted (step K R (record { moment = c.moment; deed = deed })).outcome ≡ true → Modifies K R (record { moment = c.moment; deed = deed }) change) (sym is) (modify_modifies K R c.moment change)

-- ---- quotas that come to folders
on_folder : (E : Rows) (moment n : ℕ) (quota : QuotaRow) → applied E moment n ≡ Some quota → quota.folder ≡ n
on_folder E moment n quota e = sym (ap folder_of ((gets E moment n quota).0 e).made)

other_folder : (E : Rows) (moment f n : ℕ) (quota : QuotaRow) → (f == n) ≡ false → applied E moment n ≡ Some quota → (f == folder_of quota) ≡ false
other_folder E moment f n quota other e = ap (λ k. f == k) (on_folder E moment n quota e) ∙ other

-- a folder that gets none keeps what it has
coming_other : (E : Rows) (moment f : ℕ) (ns : List ℕ) (qs : List QuotaRow) → (is_in ns f ≡ true → applied E moment f ≡ None) → row_of folder_of f (fold quotas_with qs (filter_map (applied E moment) ns)) ≡ row_of folder_of f qs
coming_other E moment f [] qs h = refl
coming_other E moment f (n ∷ ns) qs h = at (λ more. coming_other E moment f ns more (λ there. h (or_later (n == f) (is_in ns f) there))) (applied E moment n) refl
  where
    never : (quota : QuotaRow) → Some quota ≡ None → ⊥
    never quota e = cc e

    apart : (quota : QuotaRow) → applied E moment n ≡ Some quota → (f == n) ≡ false
    apart quota e =
        not_true (f == n) (λ same.
        let is : f ≡ n = eq_is f n same in
        never quota (sym e ∙ (ap (applied E moment) (sym is) ∙ h (ap (λ b. b || is_in ns f) (ap (λ k. n == k) is ∙ eq_same n)))))

    at : ((more : List QuotaRow) → row_of folder_of f (fold quotas_with more (filter_map (applied E moment) ns)) ≡ row_of folder_of f more) → (o : Option QuotaRow) → applied E moment n ≡ o → row_of folder_of f (fold quotas_with qs (cons_option o (filter_map (applied E moment) ns))) ≡ row_of folder_of f qs
    at later None e = later qs
    at later (Some quota) e =
        later (quotas_with qs quota)
        ∙ row_of-new_other folder_of quota f qs (other_folder E moment f n quota (apart quota e) e)

-- and one that gets a quota has it
coming_given : (E : Rows) (moment f : ℕ) (quota : QuotaRow) (ns : List ℕ) (qs : List QuotaRow) → each_once ns ≡ true → is_in ns f ≡ true → applied E moment f ≡ Some quota → has_row folder_of f qs ≡ false → row_of folder_of f (fold quotas_with qs (filter_map (applied E moment) ns)) ≡ Some quota
coming_given E moment f quota [] qs once there got absent = absurd (cc there)
coming_given E moment f quota (n ∷ ns) qs once there got absent =
    let first = both (not (is_in ns n)) (each_once ns) once in
    elim (is_or_not (n == f)) [
      | inl same ↦ here (eq_is n f same) (is_false (is_in ns n) first.0)
      | inr other ↦
          later other (λ more lacks. coming_given E moment f quota ns more first.1 (ap (λ b. b || is_in ns f) (sym other) ∙ there) got lacks) (applied E moment n) refl
    ]
  where
    here : n ≡ f → is_in ns n ≡ false → row_of folder_of f (fold quotas_with qs (filter_map (applied E moment) (n ∷ ns))) ≡ Some quota
    here is lacks =
        ap (λ (o : Option QuotaRow). row_of folder_of f (fold quotas_with qs (cons_option o (filter_map (applied E moment) ns)))) (ap (applied E moment) is ∙ got)
        ∙ (coming_other E moment f ns (quotas_with qs quota) (λ more. absurd (clash (is_in ns f) more (ap (is_in ns) (sym is) ∙ lacks)))
        ∙ find-with_row_same folder_of (λ q. folder_of q == f) quota qs (ap (λ k. k == f) (on_folder E moment f quota got) ∙ eq_same f) absent)

    later : (n == f) ≡ false → ((more : List QuotaRow) → has_row folder_of f more ≡ false → row_of folder_of f (fold quotas_with more (filter_map (applied E moment) ns)) ≡ Some quota) → (o : Option QuotaRow) → applied E moment n ≡ o → row_of folder_of f (fold quotas_with qs (cons_option o (filter_map (applied E moment) ns))) ≡ Some quota
    later other rest None e = rest qs absent
    later other rest (Some q) e =
        rest (quotas_with qs q) (has_row-new_other folder_of q f qs (other_folder E moment f n q (eq_turned n f other) e) ∙ absent)

-- ---- a command that gives folders quotas
unset_lacks : (R : Rows) (f : ℕ) → quota_of R f ≡ None → has_row folder_of f R.quotas ≡ false
unset_lacks R f unset = sym (is_some-find (λ q. folder_of q == f) R.quotas) ∙ ap is_some unset

-- a folder that has a quota gets none
has_own : (E : Rows) (moment f : ℕ) (quota : QuotaRow) → quota_of E f ≡ Some quota → applied E moment f ≡ None
has_own E moment f quota own = at (applied E moment f) refl
  where
    never : Some quota ≡ None → ⊥
    never e = cc e

    at : (o : Option QuotaRow) → applied E moment f ≡ o → applied E moment f ≡ None
    at None e = e
    at (Some q) e = absurd (never (sym own ∙ ((gets E moment f q).0 e).unset))

gives_by : (K : Capacity) (R E : Rows) (c : Command) (folders : List ℕ) → E.quotas ≡ R.quotas → each_once folders ≡ true → (work K R c.moment c.deed).effect.quotas ≡ fold quotas_with R.quotas (filter_map (applied E c.moment) folders) → IsEnded K R c.moment (work K R c.moment c.deed) (step K R c) → Gives K R E c folders
gives_by K R E c folders same once effect is =
    record {
      given = λ folder quota there g.
          at folder (Some quota)
          (coming_given E c.moment folder quota folders R.quotas once there ((gets E c.moment folder quota).1 g)
          (unset_lacks R folder (ap (row_of folder_of folder) (sym same) ∙ g.unset)));
      stays = λ folder quota own.
          at folder (Some quota)
          (coming_other E c.moment folder folders R.quotas (λ there. has_own E c.moment folder quota (ap (row_of folder_of folder) same ∙ own)) ∙ own);
      none = λ folder unset never.
          at folder None
          (coming_other E c.moment folder folders R.quotas (λ there. nothing folder (λ quota e. never quota there ((gets E c.moment folder quota).0 e)) (applied E c.moment folder) refl) ∙ unset);
    }
  where
    w : Work
    w = work K R c.moment c.deed

    at : (folder : ℕ) (o : Option QuotaRow) → row_of folder_of folder (fold quotas_with R.quotas (filter_map (applied E c.moment) folders)) ≡ o → quota_of (step K R c).rows folder ≡ option_map (ended K c.moment (step K R c)) o
    at folder o has =
        quota_ended K R c.moment w (step K R c) is folder
        ∙ ap (option_map (ended K c.moment (step K R c))) (ap (row_of folder_of folder) effect ∙ has)

    nothing : (folder : ℕ) → ((quota : QuotaRow) → applied E c.moment folder ≡ Some quota → ⊥) → (o : Option QuotaRow) → applied E c.moment folder ≡ o → applied E c.moment folder ≡ None
    nothing folder never None e = e
    nothing folder never (Some quota) e = absurd (never quota e)

-- what is known of a command whose work lasts
command_ended : (K : Capacity) (R : Rows) (c : Command) → (work K R c.moment c.deed).lasts ≡ true → is_accepted (step K R c).outcome ≡ true → IsEnded K R c.moment (work K R c.moment c.deed) (step K R c)
command_ended K R c lasts told =
    let w = work K R c.moment c.deed in
    let late = nat_lt c.moment R.last_moment in
    step_ended K R c told (work_lasts K R c.moment w (verdict late w) (none_refuses K R c.moment w (verdict late w) told) lasts)

-- one that comes alone
alone_comes : (quotas : List QuotaRow) (o : Option QuotaRow) → fold quotas_with quotas (option_to_list o) ≡ fold quotas_with quotas (cons_option o [])
alone_comes quotas None = refl
alone_comes quotas (Some quota) = refl

mkdir_gives : (K : Capacity) (R : Rows) (moment : ℕ) (path : List (List ℕ)) (owner : ℕ) → let c : Command = record { moment = moment; deed = File (Mkdir path owner) } in is_accepted (step K R c).outcome ≡ true → Gives K R (record R { nodes = plain R.nodes (Mkdir path owner) moment }) c (fresh R.nodes ∷ [])
mkdir_gives K R moment path owner told =
    let c : Command = record { moment = moment; deed = File (Mkdir path owner) } in
    let E : Rows = record R { nodes = plain R.nodes (Mkdir path owner) moment } in
    gives_by K R E c (fresh R.nodes ∷ []) refl refl (alone_comes R.quotas (applied E moment (fresh R.nodes))) (command_ended K R c refl told)

pub made_gives : (K : Capacity) (R : Rows) (c : Command) (path : List (List ℕ)) (owner : ℕ) → c.deed ≡ File (Mkdir path owner) → is_accepted (step K R c).outcome ≡ true → Gives K R (record R { nodes = plain R.nodes (Mkdir path owner) c.moment }) c (fresh R.nodes ∷ [])
made_gives K R c path owner is =
    subst (λ (deed : Deed). is_accepted (step K R (record { moment = c.moment; deed = deed })).outcome ≡ true → Gives K R (record R { nodes = plain R.nodes (Mkdir path owner) c.moment }) (record { moment = c.moment; deed = deed }) (fresh R.nodes ∷ [])) (sym is) (mkdir_gives K R c.moment path owner)

move_gives : (K : Capacity) (R : Rows) (moment : ℕ) (from to : List (List ℕ)) → let c : Command = record { moment = moment; deed = File (Move from to) } in is_accepted (step K R c).outcome ≡ true → Gives K R (record R { nodes = plain R.nodes (Move from to) moment }) c (moved_folder R.nodes from)
move_gives K R moment from to told =
    let c : Command = record { moment = moment; deed = File (Move from to) } in
    gives_by K R E c (moved_folder R.nodes from) refl (once (leads_to_folder R.nodes from)) (comes (leads_to_folder R.nodes from)) (command_ended K R c refl told)
  where
    E : Rows
    E = record R { nodes = plain R.nodes (Move from to) moment }

    x : ℕ
    x = target R.nodes from

    once : (b : Bool) → each_once (if b then x ∷ [] else []) ≡ true
    once true = refl
    once false = refl

    comes : (b : Bool) → fold quotas_with R.quotas (if b then option_to_list (applied E moment x) else []) ≡ fold quotas_with R.quotas (filter_map (applied E moment) (if b then x ∷ [] else []))
    comes true = alone_comes R.quotas (applied E moment x)
    comes false = refl

pub moved_gives : (K : Capacity) (R : Rows) (c : Command) (from to : List (List ℕ)) → c.deed ≡ File (Move from to) → is_accepted (step K R c).outcome ≡ true → Gives K R (record R { nodes = plain R.nodes (Move from to) c.moment }) c (moved_folder R.nodes from)
moved_gives K R c from to is =
    subst (λ (deed : Deed). is_accepted (step K R (record { moment = c.moment; deed = deed })).outcome ≡ true → Gives K R (record R { nodes = plain R.nodes (Move from to) c.moment }) (record { moment = c.moment; deed = deed }) (moved_folder R.nodes from)) (sym is) (move_gives K R c.moment from to)

auto_gives : (K : Capacity) (R : Rows) (moment : ℕ) (new : NewAutoquota) → let c : Command = record { moment = moment; deed = Autoquota (AutoquotaAdd new) } in IsValid K R → is_accepted (step K R c).outcome ≡ true → Gives K R (with_auto R new) c (subfolders R.nodes (target R.nodes new.path))
auto_gives K R moment new valid told =
    let c : Command = record { moment = moment; deed = Autoquota (AutoquotaAdd new) } in
    let folder = target R.nodes new.path in
    gives_by K R (with_auto R new) c (subfolders R.nodes folder) refl (once_subfolders R.nodes folder valid.volume.ascending) refl (command_ended K R c refl told)

pub added_gives : (K : Capacity) (R : Rows) (c : Command) (new : NewAutoquota) → IsValid K R → c.deed ≡ Autoquota (AutoquotaAdd new) → is_accepted (step K R c).outcome ≡ true → Gives K R (with_auto R new) c (subfolders R.nodes (target R.nodes new.path))
added_gives K R c new valid is =
    subst (λ (deed : Deed). is_accepted (step K R (record { moment = c.moment; deed = deed })).outcome ≡ true → Gives K R (with_auto R new) (record { moment = c.moment; deed = deed }) (subfolders R.nodes (target R.nodes new.path))) (sym is) (auto_gives K R c.moment new valid)
