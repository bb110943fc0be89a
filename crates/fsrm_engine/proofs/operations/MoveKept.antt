-- A node that moves: what quotas refuse, and what is kept.
use Rattle.std.proofs.Common.{◌≡◌, ℕ, ◌+◌, ◌*◌, ◌≤◌, ◌==◌, Bool, true, false, List, [], ◌∷◌, length, Option, Some, None, refl, ap, sym, ◌∙◌, subst, arith}
use Rattle.std.specs.Prelude.{map, nat_lt, if◌then◌else◌}
use Rattle.fsrm_base.specs.Causes.{◌when◌, first}
use Rattle.fsrm_model.specs.declared.command.FileOp.TheVariants.{Move}
use Rattle.fsrm_model.specs.declared.row.Capacity.{Capacity}
use Rattle.fsrm_model.specs.declared.row.NodeRow.{NodeRow}
use Rattle.fsrm_model.specs.declared.row.QuotaRow.{QuotaRow}
use Rattle.fsrm_model.specs.commands.Cost.{op_cost}
use Rattle.fsrm_model.specs.nodes.FileOps.{placed}
use Rattle.fsrm_base.specs.Keyed.{has_row, with_change}
use Rattle.fsrm_model.specs.nodes.Leads.{leads_to_folder}
use Rattle.fsrm_model.specs.nodes.Tree.{number, name_of, parent_of, is_folder, is_under, under, chain, resolve, child_number, name_bytes}
use Rattle.fsrm_model.specs.store.Valid.{IsVolume, AreQuotas}
use Rattle.fsrm_model.proofs.nodes.Climbs.{shorter}
use Rattle.fsrm_model.proofs.nodes.Keeps.{tree_of}
use Rattle.fsrm_base.proofs.Look.{has_row-change, has_found}
use Rattle.fsrm_model.proofs.nodes.Resolves.{resolved}
use Rattle.fsrm_model.proofs.nodes.UsageLaws.{count_of_file}
use Rattle.quota_usage.specs.declared.change.Change.{Change}
use Rattle.quota_usage.specs.declared.change.Counter.{Counter}
use Rattle.quota_usage.specs.Charge.{charged_counter, Fits}
use Rattle.volume_tree.specs.Volume.{Volume, with_place, is_other, move_fault}
use Rattle.volume_tree.specs.declared.answer.TreeFault.{TreeFault}
use Rattle.volume_tree.specs.declared.answer.TreeFault.TheVariants as fault
use Rattle.fsrm_engine.specs.Machine.{IsCounted}
use Rattle.fsrm_parts.specs.Peaks.{raised_above}
use Rattle.fsrm_parts.proofs.walks.PlaceLaws.{leads_to_folder_is, target_is}
use Rattle.fsrm_engine.proofs.operations.ChangeLaws.{Changes, IsMoved, MovesTo, changes_moved, moved_chain_to, moved_chain_from, not_zero}
use Rattle.fsrm_engine.proofs.operations.FitLaws.{fits_moved, fits_new}
use Rattle.fsrm_engine.proofs.operations.GrowthLaws.{ChargedTo, charged_at, placed_folder}

-- the change of a move
abbrev pub move_change : ℕ → ℕ → ℕ → Change
move_change from to bytes = record { from = Some from; to = Some to; minus = bytes; plus = bytes }

abbrev pub moved_nodes : List NodeRow → ℕ → ℕ → List ℕ → List NodeRow
moved_nodes nodes x d name = with_change number x (placed d name) nodes

-- a node that may come to a place, as far as the way up goes
pub moves_to : (nodes : List NodeRow) (x d : ℕ) → has_row number x nodes ≡ true → (x == 0) ≡ false → is_folder nodes d ≡ true → is_under nodes x d ≡ false → MovesTo nodes x d
moves_to nodes x d there inner folder apart =
    let found = has_found number x nodes there in
    record { inner = inner; row = found.row; found = found.is; folder = folder; apart = apart }

pub move_changes : (K : Capacity) (nodes : List NodeRow) (quotas : List QuotaRow) (x d : ℕ) (name : List ℕ) (parent bytes : ℕ) → IsVolume K nodes → AreQuotas nodes quotas → parent_of nodes x ≡ parent → MovesTo nodes x d → IsMoved K nodes quotas x bytes → Changes K nodes (moved_nodes nodes x d name) quotas (move_change parent d bytes)
move_changes K nodes quotas x d name parent bytes v qs s m moved =
    subst (λ (p : ℕ). Changes K nodes (moved_nodes nodes x d name) quotas (move_change p d bytes)) s
    (changes_moved K nodes quotas x d name bytes v qs m moved)

pub move_done : {level : Bool} (v w : Volume) (quotas raised : List QuotaRow) (counters charged_are : List Counter) (x d : ℕ) (name : List ℕ) (parent bytes m : ℕ) → IsCounted v.size v.nodes quotas counters level → parent_of v.nodes x ≡ parent → MovesTo v.nodes x d → IsMoved v.size v.nodes quotas x bytes → w ≡ with_place v x d name → IsVolume w.size w.nodes → m ≤ 4102444799 →
    charged_are ≡ map (charged_counter w.nodes (move_change parent d bytes)) counters → raised ≡ map (raised_above w.nodes (Some d) charged_are m) quotas → ChargedTo v w quotas raised charged_are m level
move_done v w quotas raised counters charged_are x d name parent bytes m e s to moved made kept late charging raising =
    charged_at v w (moved_nodes v.nodes x d name) quotas raised counters charged_are (move_change parent d bytes) m made e kept
    (λ f q found was. placed_folder v.nodes x d name f was)
    (move_changes v.size v.nodes quotas x d name parent bytes e.volume e.are_quotas s to moved) late charging raising

-- where a move is ready its folder isn't at or below what moves
pub ready_apart : (v : Volume) (n d : ℕ) (name : List ℕ) → move_fault v n d name ≡ None → is_under v.nodes n d ≡ false
ready_apart v n d name h = at (is_under v.nodes n d) ((fault.AlreadyExists when (is_other (child_number v.nodes d name) n)) ∷ (fault.NamesFull when (nat_lt (v.size.names + length (name_of v.nodes n)) (name_bytes v.nodes + length name))) ∷ []) h
  where
    at : (b : Bool) (more : List (Option TreeFault)) → first ((fault.InvalidMove when b) ∷ more) ≡ None → b ≡ false
    at true more h = cc
    at false more h = refl

-- how high the two folders are, before and after
pub from_height : (K : Capacity) (nodes : List NodeRow) (path : List (List ℕ)) (n parent : ℕ) → IsVolume K nodes → resolve nodes path ≡ Some n → (n == 0) ≡ false → parent_of nodes n ≡ parent → length (chain nodes parent) ≤ length path
from_height K nodes path n parent v h inner s =
    let r = resolved K nodes path n v h in
    let lower = shorter nodes (tree_of K nodes v) n r.has (not_zero n inner) in
    let same : length (chain nodes (parent_of nodes n)) ≡ length (chain nodes parent) = ap (λ p. length (chain nodes p)) s in
    omega (arith, r.deep, lower, same)

pub to_height : (v w : Volume) (x d : ℕ) (name : List ℕ) → IsVolume v.size v.nodes → MovesTo v.nodes x d → w ≡ with_place v x d name → length (chain w.nodes d) ≡ length (chain v.nodes d)
to_height v w x d name k m made = ap (λ (u : Volume). length (chain u.nodes d)) made ∙ ap length (moved_chain_to v.size v.nodes x d name k m)

pub left_height : (v w : Volume) (x d : ℕ) (name : List ℕ) (parent : ℕ) → IsVolume v.size v.nodes → MovesTo v.nodes x d → parent_of v.nodes x ≡ parent → w ≡ with_place v x d name → length (chain w.nodes parent) ≡ length (chain v.nodes parent)
left_height v w x d name parent k m s made =
    ap (λ (u : Volume). length (chain u.nodes parent)) made
    ∙ subst (λ (p : ℕ). length (chain (moved_nodes v.nodes x d name) p) ≡ length (chain v.nodes p)) s (ap length (moved_chain_from v.size v.nodes x d name k m))

-- the two folders are there, and stay
pub parent_there : (K : Capacity) (nodes : List NodeRow) (n parent : ℕ) → IsVolume K nodes → has_row number n nodes ≡ true → parent_of nodes n ≡ parent → has_row number parent nodes ≡ true
parent_there K nodes n parent v there s =
    subst (λ (p : ℕ). has_row number p nodes ≡ true) s ((tree_of K nodes v).closed n there)

pub there_moved : (v w : Volume) (x d : ℕ) (name : List ℕ) (p : ℕ) → w ≡ with_place v x d name → has_row number p v.nodes ≡ true → has_row number p w.nodes ≡ true
there_moved v w x d name p made h =
    ap (λ (u : Volume). has_row number p u.nodes) made ∙ (has_row-change number x (placed d name) (λ r. refl) p v.nodes ∙ h)

-- looking through what moves takes no more than is allowed
pub move_room : (K : Capacity) (nodes : List NodeRow) (from to : List (List ℕ)) (n : ℕ) → IsVolume K nodes → resolve nodes from ≡ Some n → 7 * length (under nodes n) ≤ 7 + op_cost nodes (Move from to)
move_room K nodes from to n v h = at (is_folder nodes n) refl
  where
    cost : (b : Bool) → is_folder nodes n ≡ b → op_cost nodes (Move from to) ≡ (if b then 8 * length (under nodes n) else 0)
    cost b e =
        ap (λ (t : ℕ). if leads_to_folder nodes from then 8 * length (under nodes t) else 0) (target_is nodes from n h)
        ∙ ap (λ c. if c then 8 * length (under nodes n) else 0) (leads_to_folder_is nodes from n h ∙ e)

    at : (b : Bool) → is_folder nodes n ≡ b → 7 * length (under nodes n) ≤ 7 + op_cost nodes (Move from to)
    at true e = omega (arith, cost true e)
    at false e =
        let r = has_found number n nodes (resolved K nodes from n v h).has in
        omega (arith, cost false e, count_of_file K nodes n r.row v r.is e)

-- what moves fits, on the old ways up and on the new
pub move_fits : {level : Bool} (v : Volume) (quotas : List QuotaRow) (counters : List Counter) (x d : ℕ) (name : List ℕ) (parent bytes : ℕ) → IsCounted v.size v.nodes quotas counters level → parent_of v.nodes x ≡ parent → MovesTo v.nodes x d → IsMoved v.size v.nodes quotas x bytes → Fits v.nodes counters (move_change parent d bytes)
move_fits v quotas counters x d name parent bytes e s to moved =
    fits_moved v.size v.nodes quotas counters x d name (move_change parent d bytes) e.volume e.legal e.are_quotas e.sums (move_changes v.size v.nodes quotas x d name parent bytes e.volume e.are_quotas s to moved)

pub moved_fits : {level : Bool} (v w : Volume) (quotas : List QuotaRow) (counters : List Counter) (x d : ℕ) (name : List ℕ) (parent bytes : ℕ) → IsCounted v.size v.nodes quotas counters level → parent_of v.nodes x ≡ parent → MovesTo v.nodes x d → IsMoved v.size v.nodes quotas x bytes → w ≡ with_place v x d name → Fits w.nodes counters (move_change parent d bytes)
moved_fits v w quotas counters x d name parent bytes e s to moved made =
    subst (λ (u : Volume). Fits u.nodes counters (move_change parent d bytes)) (sym made)
    (fits_new v.size v.nodes (moved_nodes v.nodes x d name) quotas counters (move_change parent d bytes) (move_changes v.size v.nodes quotas x d name parent bytes e.volume e.are_quotas s to moved)
    (move_fits v quotas counters x d name parent bytes e s to moved))
