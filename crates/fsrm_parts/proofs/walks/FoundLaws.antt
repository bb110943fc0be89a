-- What is found on the folder that a path leads to, or why nothing is.
use Rattle.std.proofs.Common.{◌≡◌, ℕ, Bool, true, false, not, List, ◌∷◌, Some, refl, ap, ◌∙◌, [], None, sym, subst}
use Rattle.std.specs.Prelude.{is_none, if◌then◌else◌}
use Rattle.fsrm_model.specs.declared.command.Refusal.TheVariants.{PathNotFound, NotFound}
use Rattle.fsrm_model.specs.declared.row.NodeRow.{NodeRow}
use Rattle.fsrm_model.specs.declared.row.Rows.{Rows}
use Rattle.fsrm_model.specs.commands.Check.{Check, ◌when◌, first}
use Rattle.fsrm_model.specs.nodes.FileOps.{target}
use Rattle.fsrm_model.specs.nodes.Leads.{leads_to_folder}
use Rattle.fsrm_model.specs.objects.Quota.{quota_of, folder_of}
use Rattle.fsrm_parts.specs.Places.{IsFolder, IsQuotaAt}
use Rattle.fsrm_parts.proofs.walks.PlaceLaws.{target_is, leads_to_folder_is}
use Rattle.fsrm_base.specs.Keyed.{row_of}
use Rattle.fsrm_base.proofs.Look.{found_key}
use Rattle.fsrm_model.specs.declared.command.Refusal.TheVariants as refusal
use Rattle.fsrm_model.specs.declared.row.ScreenRow.{ScreenRow}
use Rattle.fsrm_model.specs.objects.Screens.{screen_folder, screen_of}
use Rattle.fsrm_model.specs.commands.ScreenWork.{screen_checks}
use Rattle.fsrm_model.specs.declared.row.QuotaRow.{QuotaRow}

-- Refusals: the path leads to no folder, or that folder has no quota
pub missing : (nodes : List NodeRow) (path : List (List ℕ)) (more : List Check) → leads_to_folder nodes path ≡ false → first ((PathNotFound when not (leads_to_folder nodes path)) ∷ more) ≡ Some PathNotFound
missing nodes path more h = ap (λ b. first ((PathNotFound when not b) ∷ more)) h

pub on_folder : (R : Rows) (path : List (List ℕ)) (n : ℕ) (next : ℕ → List Check) → IsFolder R.nodes path n → first ((PathNotFound when not (leads_to_folder R.nodes path)) ∷ next (target R.nodes path)) ≡ first (next n)
on_folder R path n next at =
    ap (λ b. first ((PathNotFound when not b) ∷ next (target R.nodes path))) (leads_to_folder_is R.nodes path n at.resolved ∙ at.folder)
    ∙ ap (λ k. first (next k)) (target_is R.nodes path n at.resolved)

pub checked : (R : Rows) (path : List (List ℕ)) (n : ℕ) (b : Bool) (more : ℕ → List Check) → IsFolder R.nodes path n → is_none (quota_of R n) ≡ b → first ((PathNotFound when not (leads_to_folder R.nodes path)) ∷ (NotFound when is_none (quota_of R (target R.nodes path))) ∷ more (target R.nodes path)) ≡ (if b then Some NotFound else first (more n))
checked R path n b more at h =
    on_folder R path n (λ k. (NotFound when is_none (quota_of R k)) ∷ more k) at
    ∙ (ap (λ b. first ((NotFound when b) ∷ more n)) h ∙ by_case b)
  where
    by_case : (b : Bool) → first ((NotFound when b) ∷ more n) ≡ (if b then Some NotFound else first (more n))
    by_case true = refl
    by_case false = refl

-- ---- the screen of a folder that a path leads to
abbrev pub there : Rows → ℕ → List Check
there R k = (refusal.NotFound when is_none (screen_of R k)) ∷ []

pub screen_missing : (R : Rows) (path : List (List ℕ)) (n : ℕ) → IsFolder R.nodes path n → screen_of R n ≡ None → first (screen_checks R path) ≡ Some refusal.NotFound
screen_missing R path n at h = on_folder R path n (there R) at ∙ ap (λ o. first ((refusal.NotFound when is_none o) ∷ [])) h

-- what is found is at its folder
pub found_at : (nodes : List NodeRow) (screens : List ScreenRow) (path : List (List ℕ)) (n : ℕ) (screen : ScreenRow) → IsFolder nodes path n → row_of screen_folder n screens ≡ Some screen → IsFolder nodes path screen.folder
found_at nodes screens path n screen at found = subst (λ (k : ℕ). IsFolder nodes path k) (sym (found_key screen_folder n screens screen found)) at

pub found_own : (screens : List ScreenRow) (n : ℕ) (screen : ScreenRow) → row_of screen_folder n screens ≡ Some screen → row_of screen_folder screen.folder screens ≡ Some screen
found_own screens n screen found = subst (λ (k : ℕ). row_of screen_folder k screens ≡ Some screen) (sym (found_key screen_folder n screens screen found)) found

-- the quota of a folder that a path leads to
pub quota_found : (nodes : List NodeRow) (quotas : List QuotaRow) (path : List (List ℕ)) (n : ℕ) (quota : QuotaRow) → IsFolder nodes path n → row_of folder_of n quotas ≡ Some quota → IsQuotaAt nodes quotas path quota
quota_found nodes quotas path n quota at found =
    let is : n ≡ quota.folder = sym (found_key folder_of n quotas quota found) in
    record {
      at = subst (λ (k : ℕ). IsFolder nodes path k) is at;
      found = subst (λ (k : ℕ). row_of folder_of k quotas ≡ Some quota) is found;
    }
