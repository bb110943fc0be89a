-- Valid rows meet the limits of pieces.
use Rattle.std.proofs.Common.{◌≡◌, ◌⊎◌, inl, inr, ℕ, ◌≤◌, Bool, true, false, cond, List, [], ◌∷◌, ◌++◌, length, Option, Some, None, refl, ◌∙◌, arith}
use Rattle.std.specs.Prelude.{◌==◌, ◌&&◌, ◌||◌, not, nat_lt, nat_le, map}
use Rattle.std.specs.List.{list_all, list_any}
use Rattle.std.specs.Option.{option_map_or}
use Rattle.std.proofs.lemmas.Bool.{eqb-true, leb-true, le-leb, ltb-false}
use Rattle.fsrm_base.proofs.TestLaws.{both, both_true, is_false}
use Rattle.fsrm_base.specs.Keyed.{is_ascending, has_row}
use Rattle.fsrm_model.specs.declared.row.Action.{Action}
use Rattle.fsrm_model.specs.declared.row.AuditRow.{AuditRow}
use Rattle.fsrm_model.specs.declared.row.AutoRow.{AutoRow}
use Rattle.fsrm_model.specs.declared.row.Capacity.{Capacity}
use Rattle.fsrm_model.specs.declared.row.ExceptRow.{ExceptRow}
use Rattle.fsrm_model.specs.declared.row.Filter.{Filter}
use Rattle.fsrm_model.specs.declared.row.GroupRow.{GroupRow}
use Rattle.fsrm_model.specs.declared.row.JobRow.{JobRow}
use Rattle.fsrm_model.specs.declared.row.NodeRow.{NodeRow}
use Rattle.fsrm_model.specs.declared.row.QuotaRow.{QuotaRow}
use Rattle.fsrm_model.specs.declared.row.Rows.{Rows}
use Rattle.fsrm_model.specs.declared.row.ScreenRow.{ScreenRow}
use Rattle.fsrm_model.specs.declared.row.TemplateRow.{TemplateRow}
use Rattle.fsrm_model.specs.declared.row.Threshold.{Threshold}
use Rattle.fsrm_model.specs.nodes.Tree.{number, is_folder}
use Rattle.fsrm_model.specs.objects.AutoApply.{is_auto}
use Rattle.fsrm_model.specs.objects.Jobs.{is_schedule, is_job}
use Rattle.fsrm_model.specs.objects.Quota.{is_limit}
use Rattle.fsrm_model.specs.objects.Templates.{template_number, is_template, is_unrun}
use Rattle.fsrm_model.specs.objects.Thresholds.{percent_of, is_percent, are_minutes, is_printing, is_action_text, is_action, is_kept_action, is_threshold, is_crowded, are_too_many, are_thresholds}
use Rattle.fsrm_model.specs.reports.Filters.{is_owner, is_length, is_filter}
use Rattle.fsrm_model.specs.store.Valid.{is_root_node, is_own, is_inner_node, is_sound_node, is_tree, is_sound_quota, are_quotas, are_templates, is_sound_auto, are_autos, are_groups, are_group_numbers, are_screen_actions, is_sound_screen, are_screens, is_sound_except, are_excepts, is_audit, are_audits, is_sound_job, are_jobs, are_tables, has_source, is_moment, is_valid}
use Rattle.fsrm_model.specs.values.Limits.{longest_name, longest_action_text, longest_schedule, most_jobs}
use Rattle.fsrm_model.specs.values.Name.{is_name}
use Rattle.fsrm_model.specs.values.Patterns.{is_object_name, is_object_byte, is_pattern, are_members, are_non_members, is_group}
use Rattle.image_codec.specs.Parts.{any, is_short, few_meet, action_meets, threshold_meets, thresholds_meet, quota_meets, template_meets, auto_meets, group_meets, screen_meets, except_meets, some_meets, filter_meets, job_meets}
use Rattle.image_codec.specs.Pieces.{Piece, NodePiece, QuotaPiece, TemplatePiece, AutoPiece, GroupPiece, ScreenPiece, ExceptPiece, JobPiece, ActPiece, AuditPiece, piece_meets, list_pieces, pieces}

-- ---- lists
pub each_so : {X : Type 0} (p q : X → Bool) → ((x : X) → p x ≡ true → q x ≡ true) → (xs : List X) → list_all p xs ≡ true → list_all q xs ≡ true
each_so p q so [] all = refl
each_so p q so (x ∷ xs) all = let b = both (p x) (list_all p xs) all in both_true _ _ (so x b.0) (each_so p q so xs b.1)

each_any : {X : Type 0} (xs : List X) → list_all any xs ≡ true
each_any [] = refl
each_any (x ∷ xs) = each_any xs

mapped_meet : {X : Type 0} (make : X → Piece) (meets : X → Bool) → ((x : X) → piece_meets (make x) ≡ meets x) → (xs : List X) (rest : List Piece) → list_all meets xs ≡ true → list_all piece_meets rest ≡ true
    → list_all piece_meets (map make xs ++ rest) ≡ true
mapped_meet make meets same [] rest all after = after
mapped_meet make meets same (x ∷ xs) rest all after =
    let b = both (meets x) (list_all meets xs) all in both_true _ _ (same x ∙ b.0) (mapped_meet make meets same xs rest b.1 after)

last_meet : {X : Type 0} (make : X → Piece) (meets : X → Bool) → ((x : X) → piece_meets (make x) ≡ meets x) → (xs : List X) → list_all meets xs ≡ true → list_all piece_meets (map make xs) ≡ true
last_meet make meets same [] all = refl
last_meet make meets same (x ∷ xs) all = let b = both (meets x) (list_all meets xs) all in both_true _ _ (same x ∙ b.0) (last_meet make meets same xs b.1)

-- ---- texts
within : (text : List ℕ) (most : ℕ) → most ≤ longest_action_text → nat_le (length text) most ≡ true → is_short text ≡ true
within text most less le = le-leb _ _ (omega (arith, less, leb-true (length text) most le))

object_short : (text : List ℕ) → is_object_name text ≡ true → is_short text ≡ true
object_short text is =
    within text longest_name (omega arith) (both (nat_lt 0 (length text)) (nat_le (length text) longest_name) (both (nat_lt 0 (length text) && nat_le (length text) longest_name) (list_all is_object_byte text) is).0).1

-- ---- actions and thresholds
action_fits : (a : Action) → is_kept_action a ≡ true → action_meets a ≡ true
action_fits a is = (both (nat_le (length a.text) longest_action_text) (list_all is_printing a.text) (both (are_minutes a.minutes) (is_action_text a.text) (both (is_action a) _ is).0).1).0

not_either : (a b : Bool) → (a || b) ≡ false → (a ≡ false) × (b ≡ false)
not_either true b e = absurd (cc e)
not_either false b e = (refl, e)

up_to : (most n : ℕ) → nat_lt most n ≡ false → nat_le n most ≡ true
up_to most n e = le-leb n most (ltb-false most n e)

each_threshold : (ts : List Threshold) → list_any is_crowded ts ≡ false → list_all is_threshold ts ≡ true → list_all threshold_meets ts ≡ true
each_threshold [] few all = refl
each_threshold (t ∷ ts) few all =
    let f = not_either (is_crowded t) (list_any is_crowded ts) few in
    let a = both (is_threshold t) (list_all is_threshold ts) all in
    let kept = (both (is_percent t.percent) (list_all is_kept_action t.actions) a.0).1 in
    both_true _ _ (both_true _ _ (up_to 8 (length t.actions) f.0) (each_so is_kept_action action_meets action_fits t.actions kept)) (each_threshold ts f.1 a.1)

thresholds_fit : (ts : List Threshold) → are_thresholds ts ≡ true → thresholds_meet ts ≡ true
thresholds_fit ts are =
    let a = both (is_ascending percent_of ts && not (are_too_many ts)) (list_all is_threshold ts) are in
    let f = not_either (nat_lt 16 (length ts)) (list_any is_crowded ts) (is_false (are_too_many ts) (both (is_ascending percent_of ts) (not (are_too_many ts)) a.0).1) in
    both_true _ _ (up_to 16 (length ts) f.0) (each_threshold ts f.1 a.1)

-- ---- rows
-- a name of 1 to 255 bytes, of which more is known
named : (text : List ℕ) (more last : Bool) → (((nat_lt 0 (length text) && nat_le (length text) longest_name) && more) && last) ≡ true → is_short text ≡ true
named text more last is =
    let sized = nat_lt 0 (length text) && nat_le (length text) longest_name in
    within text longest_name (omega arith) (both (nat_lt 0 (length text)) (nat_le (length text) longest_name) (both sized more (both (sized && more) last is).0).0).1

name_short : (text : List ℕ) → is_name text ≡ true → is_short text ≡ true
name_short text is = named text _ _ is

pattern_short : (text : List ℕ) → is_pattern text ≡ true → is_short text ≡ true
pattern_short text is = named text _ _ is

chosen_so : (b x y : Bool) → cond b x y ≡ true → (x ≡ true) ⊎ (y ≡ true)
chosen_so true x y e = inl e
chosen_so false x y e = inr e

node_fits : (K : Capacity) (nodes : List NodeRow) (r : NodeRow) → is_sound_node K nodes r ≡ true → is_short r.name ≡ true
node_fits K nodes r sound =
    elim (chosen_so (r.number == 0) (is_root_node r) (is_inner_node nodes r) (both (nat_lt r.number K.nodes) _ sound).1) [
      | inl root ↦
          let none = (both r.folder (length r.name == 0) (both (r.folder && (length r.name == 0)) _ (both ((r.folder && (length r.name == 0)) && _) _ root).0).0).1 in
          le-leb _ _ (omega (arith, eqb-true (length r.name) 0 none))
      | inr inner ↦ name_short r.name (both (is_name r.name) (nat_lt 0 r.owner) (both (is_name r.name && nat_lt 0 r.owner) _ (both (is_own r) _ inner).0).0).0
    ]

quota_fits : (nodes : List NodeRow) (q : QuotaRow) → is_sound_quota nodes q ≡ true → quota_meets q ≡ true
quota_fits nodes q sound =
    thresholds_fit q.thresholds (both (are_thresholds q.thresholds) (is_moment q.peak_at) (both (is_limit q.limit) _ (both (is_folder nodes q.folder) _ sound).1).1).0

template_fits : (t : TemplateRow) → is_template t ≡ true → template_meets t ≡ true
template_fits t is =
    let a = both (nat_lt t.number 1024 && is_object_name t.name) _ is in
    both_true _ _ (object_short t.name (both (nat_lt t.number 1024) (is_object_name t.name) a.0).1)
    (thresholds_fit t.thresholds (both (are_thresholds t.thresholds) (list_all is_unrun t.thresholds) (both (is_limit t.limit) _ a.1).1).0)

auto_fits : (nodes : List NodeRow) (templates : List TemplateRow) (a : AutoRow) → is_sound_auto nodes templates a ≡ true → auto_meets a ≡ true
auto_fits nodes templates a sound =
    let is = both (nat_le (length a.excluded) 32) (list_all is_name a.excluded) (both (is_folder nodes a.folder && has_row template_number a.template templates) (is_auto a) sound).1 in
    both_true _ _ is.0 (each_so is_name is_short name_short a.excluded is.1)

group_fits : (g : GroupRow) → is_group g ≡ true → group_meets g ≡ true
group_fits g is =
    let a = both (nat_lt g.number 1024 && is_object_name g.name) (are_members g.members && are_non_members g.non_members) is in
    let l = both (are_members g.members) (are_non_members g.non_members) a.1 in
    let m = both (nat_lt 0 (length g.members) && nat_le (length g.members) 64) (list_all is_pattern g.members) l.0 in
    let n = both (nat_le (length g.non_members) 64) (list_all is_pattern g.non_members) l.1 in
    both_true _ _ (object_short g.name (both (nat_lt g.number 1024) (is_object_name g.name) a.0).1)
    (both_true _ _ (both_true _ _ (both (nat_lt 0 (length g.members)) (nat_le (length g.members) 64) m.0).1 (each_so is_pattern is_short pattern_short g.members m.1))
    (both_true _ _ n.0 (each_so is_pattern is_short pattern_short g.non_members n.1)))

numbers_fit : (groups : List GroupRow) (numbers : List ℕ) → are_group_numbers groups numbers ≡ true → few_meet 16 any numbers ≡ true
numbers_fit groups numbers are = both_true _ _ (both (nat_lt 0 (length numbers)) (nat_le (length numbers) 16) (both (nat_lt 0 (length numbers) && nat_le (length numbers) 16) _ are).0).1 (each_any numbers)

screen_fits : (nodes : List NodeRow) (groups : List GroupRow) (excepts : List ExceptRow) (s : ScreenRow) → is_sound_screen nodes groups excepts s ≡ true → screen_meets s ≡ true
screen_fits nodes groups excepts s sound =
    let a = both (are_group_numbers groups s.groups) (are_screen_actions s.actions) (both (is_folder nodes s.folder && _) _ sound).1 in
    let b = both (nat_le (length s.actions) 8) (list_all is_kept_action s.actions) a.1 in
    both_true _ _ (numbers_fit groups s.groups a.0) (both_true _ _ b.0 (each_so is_kept_action action_meets action_fits s.actions b.1))

except_fits : (nodes : List NodeRow) (groups : List GroupRow) (e : ExceptRow) → is_sound_except nodes groups e ≡ true → except_meets e ≡ true
except_fits nodes groups e sound = numbers_fit groups e.groups (both (is_folder nodes e.folder) (are_group_numbers groups e.groups) sound).1

audit_fits : (a : AuditRow) → is_audit a ≡ true → is_short a.name ≡ true
audit_fits a is = name_short a.name (both (is_moment a.moment) (is_name a.name) is).1

schedule_short : (text : List ℕ) → is_schedule text ≡ true → is_short text ≡ true
schedule_short text is = within text longest_schedule (omega arith) (both (nat_le (length text) longest_schedule) (list_all is_printing text) is).0

pattern_fits : (o : Option (List ℕ)) → option_map_or is_pattern o true ≡ true → some_meets is_short o ≡ true
pattern_fits None is = refl
pattern_fits (Some pattern) is = pattern_short pattern is

filter_fits : (f : Filter) → is_filter f ≡ true → filter_meets f ≡ true
filter_fits f is =
    let a = both (option_map_or is_owner f.owner true && (option_map_or is_pattern f.pattern true && option_map_or is_length f.min_size true)) _ is in
    let b = both (option_map_or is_owner f.owner true) (option_map_or is_pattern f.pattern true && option_map_or is_length f.min_size true) a.0 in
    pattern_fits f.pattern (both (option_map_or is_pattern f.pattern true) (option_map_or is_length f.min_size true) b.1).0

job_fits : (nodes : List NodeRow) (j : JobRow) → is_sound_job nodes j ≡ true → job_meets j ≡ true
job_fits nodes j sound =
    let a = both (nat_lt j.number most_jobs && is_object_name j.name) (is_filter j.filter && (is_schedule j.schedule && _)) (both (is_folder nodes j.scope) (is_job j) sound).1 in
    let b = both (is_filter j.filter) (is_schedule j.schedule && _) a.1 in
    both_true _ _ (object_short j.name (both (nat_lt j.number most_jobs) (is_object_name j.name) a.0).1)
    (both_true _ _ (filter_fits j.filter b.0) (schedule_short j.schedule (both (is_schedule j.schedule) _ b.1).0))

pub valid_pieces : (K : Capacity) (R : Rows) → is_valid K R ≡ true → list_all piece_meets (pieces R) ≡ true
valid_pieces K R valid =
    let v = both (is_tree K R.nodes && (are_quotas R.nodes R.quotas && are_tables R)) _ valid in
    let w = both (is_tree K R.nodes) (are_quotas R.nodes R.quotas && are_tables R) v.0 in
    let tree = both (list_all (is_sound_node K R.nodes) R.nodes) _ (both (is_ascending number R.nodes && has_row number 0 R.nodes) _ w.0).1 in
    let t = both (are_quotas R.nodes R.quotas) (are_tables R) w.1 in
    let quotas = (both _ (list_all (is_sound_quota R.nodes) R.quotas) t.0).1 in
    let u = both (list_all (has_source R.templates) R.quotas && (are_templates R.templates && (are_autos R.nodes R.templates R.autos && are_jobs R.nodes R.jobs)))
    ((are_groups R.groups && are_screens R.nodes R.groups R.excepts R.screens) && (are_excepts R.nodes R.groups R.excepts && are_audits R.audits)) t.1 in
    let a = both (list_all (has_source R.templates) R.quotas) (are_templates R.templates && (are_autos R.nodes R.templates R.autos && are_jobs R.nodes R.jobs)) u.0 in
    let b = both (are_templates R.templates) (are_autos R.nodes R.templates R.autos && are_jobs R.nodes R.jobs) a.1 in
    let templates = (both (list_all is_template R.templates) _ (both _ _ b.0).1).0 in
    let c = both (are_autos R.nodes R.templates R.autos) (are_jobs R.nodes R.jobs) b.1 in
    let autos = (both _ (list_all (is_sound_auto R.nodes R.templates) R.autos) c.0).1 in
    let jobs = (both (list_all (is_sound_job R.nodes) R.jobs) _ (both _ _ c.1).1).0 in
    let d = both (are_groups R.groups && are_screens R.nodes R.groups R.excepts R.screens) (are_excepts R.nodes R.groups R.excepts && are_audits R.audits) u.1 in
    let e = both (are_groups R.groups) (are_screens R.nodes R.groups R.excepts R.screens) d.0 in
    let groups = (both (list_all is_group R.groups) _ (both _ _ e.0).1).0 in
    let screens = (both _ (list_all (is_sound_screen R.nodes R.groups R.excepts) R.screens) e.1).1 in
    let f = both (are_excepts R.nodes R.groups R.excepts) (are_audits R.audits) d.1 in
    let excepts = (both _ (list_all (is_sound_except R.nodes R.groups) R.excepts) f.0).1 in
    let audits = (both _ (list_all is_audit R.audits) f.1).1 in
    let audits_pieces : List Piece = list_pieces AuditPiece R.audits in
    let audits_meet : list_all piece_meets audits_pieces ≡ true = last_meet AuditPiece (λ a. is_short a.name) (λ x. refl) R.audits (each_so is_audit (λ a. is_short a.name) audit_fits R.audits audits) in
    let acts_pieces : List Piece = list_pieces ActPiece R.acts ++ audits_pieces in
    let acts_meet : list_all piece_meets acts_pieces ≡ true = mapped_meet ActPiece any (λ x. refl) R.acts audits_pieces (each_any R.acts) audits_meet in
    let jobs_pieces : List Piece = list_pieces JobPiece R.jobs ++ acts_pieces in
    let jobs_meet : list_all piece_meets jobs_pieces ≡ true = mapped_meet JobPiece job_meets (λ x. refl) R.jobs acts_pieces (each_so (is_sound_job R.nodes) job_meets (job_fits R.nodes) R.jobs jobs) acts_meet in
    let excepts_pieces : List Piece = list_pieces ExceptPiece R.excepts ++ jobs_pieces in
    let excepts_meet : list_all piece_meets excepts_pieces ≡ true = mapped_meet ExceptPiece except_meets (λ x. refl) R.excepts jobs_pieces (each_so (is_sound_except R.nodes R.groups) except_meets (except_fits R.nodes R.groups) R.excepts excepts) jobs_meet in
    let screens_pieces : List Piece = list_pieces ScreenPiece R.screens ++ excepts_pieces in
    let screens_meet : list_all piece_meets screens_pieces ≡ true = mapped_meet ScreenPiece screen_meets (λ x. refl) R.screens excepts_pieces (each_so (is_sound_screen R.nodes R.groups R.excepts) screen_meets (screen_fits R.nodes R.groups R.excepts) R.screens screens) excepts_meet in
    let groups_pieces : List Piece = list_pieces GroupPiece R.groups ++ screens_pieces in
    let groups_meet : list_all piece_meets groups_pieces ≡ true = mapped_meet GroupPiece group_meets (λ x. refl) R.groups screens_pieces (each_so is_group group_meets group_fits R.groups groups) screens_meet in
    let autos_pieces : List Piece = list_pieces AutoPiece R.autos ++ groups_pieces in
    let autos_meet : list_all piece_meets autos_pieces ≡ true = mapped_meet AutoPiece auto_meets (λ x. refl) R.autos groups_pieces (each_so (is_sound_auto R.nodes R.templates) auto_meets (auto_fits R.nodes R.templates) R.autos autos) groups_meet in
    let templates_pieces : List Piece = list_pieces TemplatePiece R.templates ++ autos_pieces in
    let templates_meet : list_all piece_meets templates_pieces ≡ true = mapped_meet TemplatePiece template_meets (λ x. refl) R.templates autos_pieces (each_so is_template template_meets template_fits R.templates templates) autos_meet in
    let quotas_pieces : List Piece = list_pieces QuotaPiece R.quotas ++ templates_pieces in
    let quotas_meet : list_all piece_meets quotas_pieces ≡ true = mapped_meet QuotaPiece quota_meets (λ x. refl) R.quotas templates_pieces (each_so (is_sound_quota R.nodes) quota_meets (quota_fits R.nodes) R.quotas quotas) templates_meet in
    let nodes_pieces : List Piece = list_pieces NodePiece R.nodes ++ quotas_pieces in
    let nodes_meet : list_all piece_meets nodes_pieces ≡ true = mapped_meet NodePiece (λ r. is_short r.name) (λ x. refl) R.nodes quotas_pieces (each_so (is_sound_node K R.nodes) (λ r. is_short r.name) (node_fits K R.nodes) R.nodes tree.0) quotas_meet in
    nodes_meet
