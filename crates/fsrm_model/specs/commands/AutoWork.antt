-- The commands on auto-apply quotas: their refusals in order, and what they do.
use Rattle.std.specs.Prelude.{ℕ, true, false, not, is_some, is_none, List, [], ◌∷◌, filter_map, None}
use Rattle.fsrm_base.specs.Keyed.{with_row}
use Rattle.fsrm_model.specs.declared.command.Ask.TheVariants.{Autos}
use Rattle.fsrm_model.specs.declared.command.NewAutoquota.{NewAutoquota}
use Rattle.fsrm_model.specs.declared.command.Outcome.TheVariants.{Done, Listing}
use Rattle.fsrm_model.specs.declared.command.Refusal.TheVariants.{PathNotFound, NotFound, AlreadyExists}
use Rattle.fsrm_model.specs.declared.row.AutoRow.{AutoRow}
use Rattle.fsrm_model.specs.declared.row.Rows.{Rows}
use Rattle.fsrm_model.specs.objects.AutoApply.{auto_folder, auto_of, applied, with_quotas, subfolders, without_auto}
use Rattle.fsrm_model.specs.commands.Check.{◌when◌, autos_full, table_full, texts_full}
use Rattle.fsrm_model.specs.nodes.FileOps.{target}
use Rattle.fsrm_model.specs.nodes.Leads.{leads_to_folder}
use Rattle.fsrm_model.specs.commands.TemplateWork.{number_in}
use Rattle.fsrm_model.specs.objects.Templates.{template_named}
use Rattle.fsrm_model.specs.commands.Work.{Work, asks}

abbrev pub new_auto : ℕ → ℕ → List (List ℕ) → AutoRow
new_auto folder template excluded = record { folder = folder; template = template; excluded = excluded }

-- each folder in it gets its quota, in the order of their numbers
abbrev pub auto_add_work : Rows → ℕ → NewAutoquota → Work
auto_add_work R moment new =
    let folder = target R.nodes new.path in
    let template = template_named R.templates new.template in
    let ruled = record R { autos = with_row auto_folder (new_auto folder (number_in template) new.excluded) R.autos } in
    let after = with_quotas ruled (filter_map (applied ruled moment) (subfolders R.nodes folder)) in
    asks
    ((PathNotFound when not (leads_to_folder R.nodes new.path)) ∷ (AlreadyExists when is_some (auto_of R folder))
    ∷ (NotFound when is_none template) ∷ autos_full after ∷ table_full after ∷ texts_full after ∷ [])
    after (Done None) true

abbrev pub auto_delete_work : Rows → List (List ℕ) → Work
auto_delete_work R path =
    let folder = target R.nodes path in
    asks ((PathNotFound when not (leads_to_folder R.nodes path)) ∷ (NotFound when is_none (auto_of R folder)) ∷ [])
    (without_auto R folder) (Done None) true

-- a list changes nothing
abbrev pub auto_list_work : Rows → Work
auto_list_work R = asks [] R (Listing Autos) false
