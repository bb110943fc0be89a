-- How long spellings of rows are.
use Rattle.std.proofs.Common.{◌≡◌, ℕ, ◌+◌, ◌*◌, ◌≤◌, ◌<◌, Bool, true, List, [], ◌∷◌, length, Option, Some, None, refl, ap, arith}
use Rattle.std.specs.Prelude.{nat_le, ◌&&◌}
use Rattle.std.proofs.Math.Nat.{mul-le-mul_right}
use Rattle.std.proofs.lemmas.Bool.{leb-true}
use Rattle.fsrm_base.proofs.TestLaws.{both}
use Rattle.fsrm_model.specs.store.Lasting.{flagged_quota}
use Rattle.fsrm_model.specs.values.Limits.{longest_action_text}
use Rattle.image_codec.specs.Parts.{any, is_short, few_meet, some_meets, action_meets, threshold_meets, thresholds_meet, group_meets, screen_meets, filter_meets, job_meets}
use Rattle.image_codec.specs.Pieces.{Piece, StartPiece, CountPiece, NodePiece, QuotaPiece, TemplatePiece, AutoPiece, GroupPiece, ScreenPiece, ExceptPiece, JobPiece, ActPiece, AuditPiece, piece_meets, piece_spelled, longest_piece}
use Rattle.std.specs.List.{flat_map, list_all}
use Rattle.std.proofs.lemmas.List.{length-append}
use Rattle.byteorder.specs.Numbers.{length-bytes_low_first}
use Rattle.fsrm_model.specs.declared.row.ActRow.{ActRow}
use Rattle.fsrm_model.specs.declared.row.Action.{Action}
use Rattle.fsrm_model.specs.declared.row.AuditRow.{AuditRow}
use Rattle.fsrm_model.specs.declared.row.AutoRow.{AutoRow}
use Rattle.fsrm_model.specs.declared.row.ExceptRow.{ExceptRow}
use Rattle.fsrm_model.specs.declared.row.Filter.{Filter}
use Rattle.fsrm_model.specs.declared.row.GroupRow.{GroupRow}
use Rattle.fsrm_model.specs.declared.row.JobRow.{JobRow}
use Rattle.fsrm_model.specs.declared.row.NodeRow.{NodeRow}
use Rattle.fsrm_model.specs.declared.row.QuotaRow.{QuotaRow}
use Rattle.fsrm_model.specs.declared.row.ScreenRow.{ScreenRow}
use Rattle.fsrm_model.specs.declared.row.TemplateRow.{TemplateRow}
use Rattle.fsrm_model.specs.declared.row.Threshold.{Threshold}
use Rattle.record_fields.specs.Formats.{number_spelled, text_spelled, optional_spelled, listed_spelled}
use Rattle.image_codec.specs.Rows.{rows, node, quota, template, auto, group, screen, except, filter, job, act, audit, action, threshold}

pub number_long : (width n : ℕ) → length (number_spelled width n) ≡ width
unfolding number_spelled
number_long width n = length-bytes_low_first 0 width n

pub text_long : (text : List ℕ) → length (text_spelled text) ≡ 2 + length text
unfolding text_spelled
text_long text = omega (arith, length-append (number_spelled 2 (length text)) text, number_long 2 (length text))

pub none_long : {X : Type 0} (spell : X → List ℕ) → length (optional_spelled spell None) ≡ 1
unfolding optional_spelled
none_long spell = number_long 1 0

pub some_long : {X : Type 0} (spell : X → List ℕ) (x : X) → length (optional_spelled spell (Some x)) ≡ 1 + length (spell x)
unfolding optional_spelled
some_long spell x = omega (arith, length-append (number_spelled 1 1) (spell x), number_long 1 1)

pub list_long : {X : Type 0} (spell : X → List ℕ) (xs : List X) → length (listed_spelled (number_spelled 4) spell xs) ≡ 4 + length (flat_map spell xs)
unfolding listed_spelled
list_long spell xs = omega (arith, length-append (number_spelled 4 (length xs)) (flat_map spell xs), number_long 4 (length xs))

pub node_long : (r : NodeRow) → length (node.spell r) ≡ 47 + length r.name
node_long r = simp (length-append, number_long, text_long) (omega arith)

pub action_long : (a : Action) → length (action.spell a) ≡ 7 + length a.text + length (optional_spelled (number_spelled 8) a.last_run)
action_long a = simp (length-append, number_long, text_long) (omega arith)

pub threshold_long : (t : Threshold) → length (threshold.spell t) ≡ 2 + length ((rows action).spell t.actions)
threshold_long t = simp (length-append, number_long) (omega arith)

pub quota_long : (q : QuotaRow) → length (quota.spell q) ≡ 30 + length ((rows threshold).spell q.thresholds) + length (optional_spelled (number_spelled 4) q.template)
quota_long q = simp (length-append, number_long) (omega arith)

pub template_long : (t : TemplateRow) → length (template.spell t) ≡ 15 + length t.name + length ((rows threshold).spell t.thresholds)
template_long t = simp (length-append, number_long, text_long) (omega arith)

pub auto_long : (a : AutoRow) → length (auto.spell a) ≡ 8 + length (listed_spelled (number_spelled 4) text_spelled a.excluded)
auto_long a = simp (length-append, number_long) (omega arith)

pub group_long : (g : GroupRow) → length (group.spell g) ≡ 6 + length g.name + length (listed_spelled (number_spelled 4) text_spelled g.members) + length (listed_spelled (number_spelled 4) text_spelled g.non_members)
group_long g = simp (length-append, number_long, text_long) (omega arith)

pub screen_long : (s : ScreenRow) → length (screen.spell s) ≡ 5 + length (listed_spelled (number_spelled 4) (number_spelled 4) s.groups) + length ((rows action).spell s.actions)
screen_long s = simp (length-append, number_long) (omega arith)

pub except_long : (e : ExceptRow) → length (except.spell e) ≡ 4 + length (listed_spelled (number_spelled 4) (number_spelled 4) e.groups)
except_long e = simp (length-append, number_long) (omega arith)

pub filter_long : (f : Filter) → length (filter.spell f) ≡ 4 + length (optional_spelled (number_spelled 4) f.owner) + length (optional_spelled text_spelled f.pattern) + length (optional_spelled (number_spelled 8) f.min_size)
    + length (optional_spelled (number_spelled 4) f.days) + length (optional_spelled (number_spelled 4) f.min_use)
filter_long f = simp (length-append, number_long) (omega arith)

pub job_long : (j : JobRow) → length (job.spell j) ≡ 21 + length j.name + length j.schedule + length (filter.spell j.filter) + length (optional_spelled (number_spelled 8) j.last_run)
job_long j = simp (length-append, number_long, text_long) (omega arith)

pub act_long : (a : ActRow) → length (act.spell a) ≡ 15
act_long a = simp (length-append, number_long) (omega arith)

pub audit_long : (a : AuditRow) → length (audit.spell a) ≡ 23 + length a.name
audit_long a = simp (length-append, number_long, text_long) (omega arith)

-- ---- rows that meet their limits
opt4_short : (o : Option ℕ) → length (optional_spelled (number_spelled 4) o) ≤ 5
opt4_short None = omega (arith, none_long (number_spelled 4))
opt4_short (Some n) = omega (arith, some_long (number_spelled 4) n, number_long 4 n)

opt8_short : (o : Option ℕ) → length (optional_spelled (number_spelled 8) o) ≤ 9
opt8_short None = omega (arith, none_long (number_spelled 8))
opt8_short (Some n) = omega (arith, some_long (number_spelled 8) n, number_long 8 n)

text_short : (t : List ℕ) → is_short t ≡ true → length (text_spelled t) ≤ 1026
text_short t short = omega (arith, text_long t, leb-true (length t) longest_action_text short)

pattern_short : (o : Option (List ℕ)) → some_meets is_short o ≡ true → length (optional_spelled text_spelled o) ≤ 1027
pattern_short None meets = omega (arith, none_long text_spelled)
pattern_short (Some t) meets = omega (arith, some_long text_spelled t, text_short t meets)

pub flat_short : {X : Type 0} (spell : X → List ℕ) (meets : X → Bool) (most : ℕ) → ((x : X) → meets x ≡ true → length (spell x) ≤ most) → (xs : List X) → list_all meets xs ≡ true → length (flat_map spell xs) ≤ length xs * most
flat_short spell meets most each [] all = omega arith
flat_short spell meets most each (x ∷ xs) all =
    let parts = both (meets x) (list_all meets xs) all in
    let rest = flat_short spell meets most each xs parts.1 in
    let one = each x parts.0 in
    omega (arith, rest, one, length-append (spell x) (flat_map spell xs))

pub list_short : {X : Type 0} (spell : X → List ℕ) (meets : X → Bool) (most n : ℕ) → ((x : X) → meets x ≡ true → length (spell x) ≤ most) → (xs : List X) → few_meet n meets xs ≡ true
    → length (listed_spelled (number_spelled 4) spell xs) ≤ 4 + n * most
list_short spell meets most n each xs few =
    let parts = both (nat_le (length xs) n) (list_all meets xs) few in
    omega (arith, list_long spell xs, flat_short spell meets most each xs parts.1, mul-le-mul_right most (leb-true (length xs) n parts.0))

action_short : (a : Action) → action_meets a ≡ true → length (action.spell a) ≤ 1040
action_short a short = omega (arith, action_long a, opt8_short a.last_run, leb-true (length a.text) longest_action_text short)

threshold_short : (t : Threshold) → threshold_meets t ≡ true → length (threshold.spell t) ≤ 8326
threshold_short t meets = omega (arith, threshold_long t, list_short action.spell action_meets 1040 8 action_short t.actions meets)

thresholds_short : (ts : List Threshold) → thresholds_meet ts ≡ true → length ((rows threshold).spell ts) ≤ 133220
thresholds_short ts meets = list_short threshold.spell threshold_meets 8326 16 threshold_short ts meets

group_short : (g : GroupRow) → group_meets g ≡ true → length (group.spell g) ≤ 132366
group_short g meets =
    let m = both (is_short g.name) (few_meet 64 is_short g.members && few_meet 64 is_short g.non_members) meets in
    let n = both (few_meet 64 is_short g.members) (few_meet 64 is_short g.non_members) m.1 in
    omega (arith, group_long g, leb-true (length g.name) longest_action_text m.0, list_short text_spelled is_short 1026 64 text_short g.members n.0, list_short text_spelled is_short 1026 64 text_short g.non_members n.1)

numbers_short : (ns : List ℕ) → few_meet 16 any ns ≡ true → length (listed_spelled (number_spelled 4) (number_spelled 4) ns) ≤ 68
numbers_short ns few = list_short (number_spelled 4) any 4 16 (λ n may. omega (arith, number_long 4 n)) ns few

screen_short : (s : ScreenRow) → screen_meets s ≡ true → length (screen.spell s) ≤ 8397
screen_short s meets =
    let m = both (few_meet 16 any s.groups) (few_meet 8 action_meets s.actions) meets in
    omega (arith, screen_long s, numbers_short s.groups m.0, list_short action.spell action_meets 1040 8 action_short s.actions m.1)

filter_short : (f : Filter) → filter_meets f ≡ true → length (filter.spell f) ≤ 1055
filter_short f meets = omega (arith, filter_long f, opt4_short f.owner, pattern_short f.pattern meets, opt8_short f.min_size, opt4_short f.days, opt4_short f.min_use)

job_short : (j : JobRow) → job_meets j ≡ true → length (job.spell j) ≤ 3133
job_short j meets =
    let m = both (is_short j.name) (filter_meets j.filter && is_short j.schedule) meets in
    let n = both (filter_meets j.filter) (is_short j.schedule) m.1 in
    omega (arith, job_long j, leb-true (length j.name) longest_action_text m.0, filter_short j.filter n.0, leb-true (length j.schedule) longest_action_text n.1, opt8_short j.last_run)

pub piece_short : (p : Piece) → piece_meets p ≡ true → length (piece_spelled p) ≤ longest_piece
piece_short (StartPiece m l) meets = omega (arith, length-append (number_spelled 8 m) (number_spelled 4 l), number_long 8 m, number_long 4 l)
piece_short (CountPiece n) meets = omega (arith, number_long 4 n)
piece_short (NodePiece r) meets = omega (arith, node_long r, leb-true (length r.name) longest_action_text meets)
piece_short (QuotaPiece r) meets = omega (arith, quota_long (flagged_quota r), thresholds_short r.thresholds meets, opt4_short r.template)
piece_short (TemplatePiece r) meets =
    let m = both (is_short r.name) (thresholds_meet r.thresholds) meets in
    omega (arith, template_long r, leb-true (length r.name) longest_action_text m.0, thresholds_short r.thresholds m.1)
piece_short (AutoPiece r) meets = omega (arith, auto_long r, list_short text_spelled is_short 1026 32 text_short r.excluded meets)
piece_short (GroupPiece r) meets = omega (arith, group_short r meets)
piece_short (ScreenPiece r) meets = omega (arith, screen_short r meets)
piece_short (ExceptPiece r) meets = omega (arith, except_long r, numbers_short r.groups meets)
piece_short (JobPiece r) meets = omega (arith, job_short r meets)
piece_short (ActPiece r) meets = omega (arith, act_long r)
piece_short (AuditPiece r) meets = omega (arith, audit_long r, leb-true (length r.name) longest_action_text meets)

-- ---- no piece is empty
piece_some : (p : Piece) → 0 < length (piece_spelled p)
piece_some (StartPiece m l) = omega (arith, length-append (number_spelled 8 m) (number_spelled 4 l), number_long 8 m, number_long 4 l)
piece_some (CountPiece n) = omega (arith, number_long 4 n)
piece_some (NodePiece r) = omega (arith, node_long r)
piece_some (QuotaPiece r) = omega (arith, quota_long (flagged_quota r))
piece_some (TemplatePiece r) = omega (arith, template_long r)
piece_some (AutoPiece r) = omega (arith, auto_long r)
piece_some (GroupPiece r) = omega (arith, group_long r)
piece_some (ScreenPiece r) = omega (arith, screen_long r)
piece_some (ExceptPiece r) = omega (arith, except_long r)
piece_some (JobPiece r) = omega (arith, job_long r)
piece_some (ActPiece r) = omega (arith, act_long r)
piece_some (AuditPiece r) = omega (arith, audit_long r)

pub no_piece : (ps : List Piece) → flat_map piece_spelled ps ≡ [] → ps ≡ []
no_piece [] none = refl
no_piece (p ∷ ps) none = absurd (omega (arith, piece_some p, length-append (piece_spelled p) (flat_map piece_spelled ps), ap length none))
