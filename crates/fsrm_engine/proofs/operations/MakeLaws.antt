-- A file that is made: what quotas refuse, and what is kept.
use Rattle.std.proofs.Common.{◌≡◌, ℕ, ◌≤◌, Bool, true, false, List, length, Some, None, ap, sym, ◌∙◌, subst}
use Rattle.std.specs.Prelude.{map}
use Rattle.fsrm_model.specs.declared.row.Capacity.{Capacity}
use Rattle.fsrm_model.specs.declared.row.NodeRow.{NodeRow}
use Rattle.fsrm_model.specs.declared.row.QuotaRow.{QuotaRow}
use Rattle.fsrm_model.specs.nodes.FileOps.{made_node}
use Rattle.fsrm_base.specs.Keyed.{has_row, with_row}
use Rattle.fsrm_model.specs.values.Space.{alloc}
use Rattle.fsrm_model.specs.nodes.Tree.{number, is_folder, chain}
use Rattle.fsrm_model.specs.store.Valid.{IsVolume, AreQuotas}
use Rattle.fsrm_model.proofs.nodes.ChainLaws.{chain-new_other}
use Rattle.fsrm_model.proofs.nodes.Keeps.{tree_of}
use Rattle.fsrm_base.proofs.Order.{least_free_is}
use Rattle.fsrm_model.proofs.valid.ValidLaws.{folder_has}
use Rattle.quota_usage.specs.declared.change.Counter.{Counter}
use Rattle.quota_usage.specs.Charge.{charged_counter}
use Rattle.volume_tree.specs.Volume.{Volume, with_node}
use Rattle.fsrm_engine.specs.Machine.{IsCounted}
use Rattle.fsrm_parts.specs.Peaks.{raised_above}
use Rattle.fsrm_engine.proofs.operations.ChangeLaws.{Changes, changes_made}
use Rattle.fsrm_engine.proofs.operations.GrowthLaws.{ChargedTo, charged_at, made_folder}

-- what is made of nodes
abbrev pub made_nodes : List NodeRow → ℕ → List ℕ → ℕ → ℕ → ℕ → List NodeRow
made_nodes nodes d name bytes owner m = with_row number (made_node nodes d name false bytes owner m) nodes

pub make_changes : (K : Capacity) (nodes : List NodeRow) (quotas : List QuotaRow) (d : ℕ) (name : List ℕ) (bytes owner m plus : ℕ) → IsVolume K nodes → AreQuotas nodes quotas → is_folder nodes d ≡ true → plus ≡ alloc K bytes → Changes K nodes (made_nodes nodes d name bytes owner m) quotas (record { from = None; to = Some d; minus = 0; plus = plus })
make_changes K nodes quotas d name bytes owner m plus v qs folder is =
    subst (λ (s : ℕ). Changes K nodes (made_nodes nodes d name bytes owner m) quotas (record { from = None; to = Some d; minus = 0; plus = s })) (sym is)
    (changes_made K nodes quotas d name bytes owner m v qs folder)

pub make_done : {level : Bool} (v w : Volume) (quotas raised : List QuotaRow) (counters charged_are : List Counter) (d : ℕ) (name : List ℕ) (bytes owner m plus : ℕ) → IsCounted v.size v.nodes quotas counters level → is_folder v.nodes d ≡ true → plus ≡ alloc v.size bytes → w ≡ with_node v (made_node v.nodes d name false bytes owner m) → IsVolume w.size w.nodes → m ≤ 4102444799 →
    charged_are ≡ map (charged_counter w.nodes (record { from = None; to = Some d; minus = 0; plus = plus })) counters → raised ≡ map (raised_above w.nodes (Some d) charged_are m) quotas → ChargedTo v w quotas raised charged_are m level
make_done v w quotas raised counters charged_are d name bytes owner m plus e folder is made kept late charging raising =
    charged_at v w (made_nodes v.nodes d name bytes owner m) quotas raised counters charged_are (record { from = None; to = Some d; minus = 0; plus = plus }) m made e kept
    (λ f q found was. made_folder v.size v.nodes d name false bytes owner m f e.volume was)
    (make_changes v.size v.nodes quotas d name bytes owner m plus e.volume e.are_quotas folder is) late charging raising

pub made_height : (v w : Volume) (d : ℕ) (name : List ℕ) (bytes owner m : ℕ) → IsVolume v.size v.nodes → is_folder v.nodes d ≡ true → w ≡ with_node v (made_node v.nodes d name false bytes owner m) → length (chain w.nodes d) ≡ length (chain v.nodes d)
made_height v w d name bytes owner m k folder made =
    ap (λ (u : Volume). length (chain u.nodes d)) made
    ∙ ap length (chain-new_other v.nodes (tree_of v.size v.nodes k) (made_node v.nodes d name false bytes owner m) (least_free_is number v.nodes k.ascending).free d (folder_has v.nodes d folder))

pub there_made : (v w : Volume) (d : ℕ) (name : List ℕ) (bytes owner m : ℕ) → IsVolume v.size v.nodes → is_folder v.nodes d ≡ true → w ≡ with_node v (made_node v.nodes d name false bytes owner m) → has_row number d w.nodes ≡ true
there_made v w d name bytes owner m k folder made =
    ap (λ (u : Volume). has_row number d u.nodes) made
    ∙ folder_has (made_nodes v.nodes d name bytes owner m) d (made_folder v.size v.nodes d name false bytes owner m d k folder)
