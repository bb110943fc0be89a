-- The commands that give a quota its state.
use Rattle.std.proofs.Common.{◌≡◌, ℕ, ◌==◌, Bool, true, false, cond, not, List, [], ◌∷◌, ◌++◌, length, Option, Some, None, refl, ap, sym, ◌∙◌, arith}
use Rattle.std.proofs.lemmas.Option.{same_Some}
use Rattle.std.specs.Prelude.{sum_by, is_none, if◌then◌else◌}
use Rattle.std.specs.Option.{option_map_or}
use Rattle.fsrm_model.specs.declared.command.Refusal.{Refusal}
use Rattle.fsrm_model.specs.declared.command.Refusal.TheVariants.{PathNotFound, NotFound}
use Rattle.fsrm_model.specs.declared.row.Capacity.{Capacity}
use Rattle.fsrm_model.specs.declared.row.NodeRow.{NodeRow}
use Rattle.fsrm_model.specs.declared.row.QuotaRow.{QuotaRow}
use Rattle.fsrm_model.specs.declared.row.QuotaState.{QuotaState}
use Rattle.fsrm_model.specs.declared.row.QuotaState.TheVariants.{Complete, Disabled, Rebuilding}
use Rattle.fsrm_model.specs.declared.row.Rows.{Rows}
use Rattle.fsrm_model.specs.commands.Check.{Check, ◌when◌, first}
use Rattle.fsrm_model.specs.nodes.FileOps.{target}
use Rattle.fsrm_base.specs.Keyed.{is_ascending, with_change}
use Rattle.fsrm_model.specs.nodes.Leads.{leads_to_folder}
use Rattle.fsrm_model.specs.objects.Quota.{folder_of, quota_of, is_complete}
use Rattle.fsrm_model.specs.objects.QuotaStates.{start, state_of, state_after, is_disabled, in_state}
use Rattle.fsrm_model.specs.commands.QuotaWork.{quota_checks}
use Rattle.fsrm_model.specs.values.Space.{space}
use Rattle.fsrm_model.specs.nodes.Tree.{node_of, is_folder, children, usage}
use Rattle.fsrm_model.specs.store.Valid.{IsVolume}
use Rattle.fsrm_base.proofs.TestLaws.{clash, eq_is}
use Rattle.fsrm_model.proofs.nodes.UsageLaws.{usage_children}
use Rattle.fsrm_base.proofs.RowLaws.{change_same}
use Rattle.rescan.proofs.followed.ChangeLaws.{change_twice}

-- the refusals that commands on a quota share come before others
pub quota_first : (R : Rows) (path : List (List ℕ)) (more : List Check) (refusal : Refusal) → first (quota_checks R path) ≡ Some refusal → first (quota_checks R path ++ more) ≡ Some refusal
quota_first R path more refusal h = at (not (leads_to_folder R.nodes path)) (is_none (quota_of R (target R.nodes path))) h
  where
    at : (a b : Bool) → first ((PathNotFound when a) ∷ (NotFound when b) ∷ []) ≡ Some refusal → first ((PathNotFound when a) ∷ (NotFound when b) ∷ more) ≡ Some refusal
    at true b h = h
    at false true h = h
    at false false h = cc

-- A quota that comes to be complete has a folder without children, in which nothing is used
start_empty : (nodes : List NodeRow) (n : ℕ) → is_complete (start nodes n) ≡ true → length (children nodes n) ≡ 0
start_empty nodes n h = at (length (children nodes n) == 0) refl h
  where
    at : (b : Bool) → (length (children nodes n) == 0) ≡ b → is_complete (cond b Complete Rebuilding) ≡ true → length (children nodes n) ≡ 0
    at true e h = eq_is (length (children nodes n)) 0 e
    at false e h = cc

pub first_empty : (nodes : List NodeRow) (n : ℕ) (enabled : Bool) → is_complete (if enabled then start nodes n else Disabled) ≡ true → length (children nodes n) ≡ 0
first_empty nodes n true h = start_empty nodes n h
first_empty nodes n false h = cc

pub after_empty : (R : Rows) (n : ℕ) (enabled : Option Bool) → is_complete (state_of R n) ≡ false → is_complete (state_after R n enabled) ≡ true → length (children R.nodes n) ≡ 0
after_empty R n None was h = absurd (clash _ h was)
after_empty R n (Some false) was h = cc
after_empty R n (Some true) was h = at (is_disabled (state_of R n)) h
  where
    at : (b : Bool) → is_complete (cond b (start R.nodes n) (state_of R n)) ≡ true → length (children R.nodes n) ≡ 0
    at true h = start_empty R.nodes n h
    at false h = absurd (clash _ h was)

no_length : {X : Type 0} (xs : List X) → length xs ≡ 0 → xs ≡ []
no_length [] h = refl
no_length (x ∷ xs) h = absurd (omega arith)

pub empty_folder : (K : Capacity) (nodes : List NodeRow) (n : ℕ) → IsVolume K nodes → is_folder nodes n ≡ true → length (children nodes n) ≡ 0 → usage K nodes n ≡ 0
empty_folder K nodes n v f h =
    at (node_of nodes n) f refl
  where
    at : (o : Option NodeRow) → option_map_or (λ node. node.folder) o false ≡ true → node_of nodes n ≡ o → usage K nodes n ≡ 0
    at None e is = cc
    at (Some r) e is =
        let nothing : space K r ≡ 0 = ap (λ b. cond b 0 (space K (record r { folder = false }))) e in
        let none : sum_by (λ c. usage K nodes c.number) (children nodes n) ≡ 0 = ap (sum_by (λ c. usage K nodes c.number)) (no_length (children nodes n) h) in
        omega (arith, usage_children K nodes n r v is, nothing, none)

-- a quota that was changed, and then has its state, is another one in its place
pub modified_to : (R : Rows) (n : ℕ) (change : QuotaRow → QuotaRow) → ((r : QuotaRow) → (change r).folder ≡ r.folder) → (state : QuotaState) (q : QuotaRow) → is_ascending folder_of R.quotas ≡ true → quota_of R n ≡ Some q → with_change folder_of n (in_state state) (with_change folder_of n change R.quotas) ≡ with_change folder_of n (λ old. in_state state (change q)) R.quotas
modified_to R n change same state q asc found =
    change_twice folder_of n change (in_state state) same R.quotas
    ∙ change_same folder_of n (λ r. in_state state (change r)) (λ old. in_state state (change q)) R.quotas asc
    (λ r h. ap (λ x. in_state state (change x)) (same_Some r q (sym h ∙ found)))
