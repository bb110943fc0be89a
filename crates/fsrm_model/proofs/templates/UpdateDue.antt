-- The acts that are due when many quotas changed are those of the quotas that changed: what the others have reached stays. So those of a
-- template's change are those of the quotas that it reaches.
use Rattle.std.proofs.Common.{◌≡◌, ℕ, ◌==◌, Bool, true, false, cond, not, ◌&&◌, List, [], ◌∷◌, ◌++◌, Some, None, Option, refl, sym, ◌∙◌, ap, nat_lt}
use Rattle.std.specs.Prelude.{filter, flat_map, map, option_and_then, option_map, if◌then◌else◌}
use Rattle.std.specs.List.{AllByRecursion}
use Rattle.std.specs.Option.{option_map_or}
use Rattle.fsrm_base.specs.Keyed.{row_of, has_row, is_ascending}
use Rattle.fsrm_base.proofs.Look.{find-map}
use Rattle.fsrm_base.proofs.RowLaws.{each_found}
use Rattle.fsrm_model.specs.declared.command.Act.{Act}
use Rattle.fsrm_model.specs.declared.command.Update.{Update}
use Rattle.fsrm_model.specs.declared.row.Capacity.{Capacity}
use Rattle.fsrm_model.specs.declared.row.NodeRow.{NodeRow}
use Rattle.fsrm_model.specs.declared.row.QuotaRow.{QuotaRow}
use Rattle.fsrm_model.specs.declared.row.Rows.{Rows}
use Rattle.fsrm_model.specs.declared.row.TemplateRow.{TemplateRow}
use Rattle.fsrm_model.specs.declared.row.Threshold.{Threshold}
use Rattle.fsrm_model.specs.objects.DueActions.{quota_acts, due}
use Rattle.fsrm_model.specs.objects.Quota.{folder_of, quota_of, counts, used_of, peaked, peaks}
use Rattle.fsrm_model.specs.objects.Reached.{reaches, has_reached, reached, crossed}
use Rattle.fsrm_model.specs.objects.Templates.{is_reached, as_template, updated}
use Rattle.fsrm_model.specs.objects.Thresholds.{percent_of}
use Rattle.fsrm_model.specs.nodes.Tree.{usage}
use Rattle.fsrm_model.proofs.commands.QuotaLaws.{peaked_folder}
use Rattle.fsrm_model.proofs.thresholds.SettleLaws.{no_acts}

-- what a change leaves of a quota: nothing that tells what it has reached
pub record IsLeft (g : QuotaRow → QuotaRow) (quota : QuotaRow) : Type 0 where
  pub limit : (g quota).limit ≡ quota.limit
  pub thresholds : (g quota).thresholds ≡ quota.thresholds
  pub counting : counts (g quota) ≡ counts quota

gathered : (f : QuotaRow → List Act) (g : QuotaRow → QuotaRow) (p : QuotaRow → Bool) (quotas : List QuotaRow) → AllByRecursion (λ q. p q ≡ false → f (g q) ≡ []) quotas → flat_map f (map g quotas) ≡ flat_map (λ q. f (g q)) (filter p quotas)
gathered f g p [] h = refl
gathered f g p (q ∷ quotas) h = at (p q) refl (gathered f g p quotas h.1)
  where
    own : QuotaRow → List Act
    own r = f (g r)

    at : (b : Bool) → p q ≡ b → flat_map f (map g quotas) ≡ flat_map own (filter p quotas) → f (g q) ++ flat_map f (map g quotas) ≡ flat_map own (cond b (q ∷ filter p quotas) (filter p quotas))
    at true e rest = ap (λ acts. f (g q) ++ acts) rest
    at false e rest = ap (λ acts. acts ++ flat_map f (map g quotas)) (h.0 e) ∙ rest

-- a quota of which nothing changed that tells crosses nothing
never : (b : Bool) → (b && not b) ≡ false
never true = refl
never false = refl

same_used : (K : Capacity) (R E : Rows) (folder : ℕ) (was now : QuotaRow) → E.nodes ≡ R.nodes → quota_of R folder ≡ Some was → quota_of E folder ≡ Some now → counts now ≡ counts was → used_of K E folder ≡ used_of K R folder
same_used K R E folder was now nodes old new counting =
    ap (option_and_then (λ (quota : QuotaRow). if counts quota then Some (usage K E.nodes folder) else None)) new
    ∙ (ap (λ b. if b then Some (usage K E.nodes folder) else None) counting
    ∙ (ap (λ (ns : List NodeRow). if counts was then Some (usage K ns folder) else None) nodes
    ∙ sym (ap (option_and_then (λ (quota : QuotaRow). if counts quota then Some (usage K R.nodes folder) else None)) old)))

left_crosses : (K : Capacity) (R E : Rows) (g : QuotaRow → QuotaRow) (q : QuotaRow) (percent : ℕ) → E.nodes ≡ R.nodes → quota_of R q.folder ≡ Some q → quota_of E q.folder ≡ Some (g q) → IsLeft g q → crossed K R E q.folder percent ≡ false
left_crosses K R E g q percent nodes old new left =
    ap (λ b. b && not (reached K R q.folder percent)) same ∙ never (reached K R q.folder percent)
  where
    used : Option ℕ
    used = used_of K R q.folder

    same : reached K E q.folder percent ≡ reached K R q.folder percent
    same =
        ap (λ (o : Option QuotaRow). option_map_or (λ quota. has_reached quota percent (used_of K E q.folder)) o false) new
        ∙ (ap (has_reached (g q) percent) (same_used K R E q.folder q (g q) nodes old new left.counting)
        ∙ (ap (λ (ts : List Threshold). has_row percent_of percent ts && reaches (g q).limit percent used) left.thresholds
        ∙ (ap (λ n. has_row percent_of percent q.thresholds && reaches n percent used) left.limit
        ∙ sym (ap (λ (o : Option QuotaRow). option_map_or (λ quota. has_reached quota percent used) o false) old))))

pub due_mapped : (K : Capacity) (R E : Rows) (moment : ℕ) (g : QuotaRow → QuotaRow) (p : QuotaRow → Bool) → is_ascending folder_of R.quotas ≡ true → E.nodes ≡ R.nodes → E.quotas ≡ map g R.quotas → ((q : QuotaRow) → folder_of (g q) ≡ folder_of q) → ((q : QuotaRow) → p q ≡ false → IsLeft g q) → due K R E moment ≡ flat_map (λ quota. quota_acts (crossed K R E (g quota).folder) E.run_limit moment (g quota)) (filter p R.quotas)
due_mapped K R E moment g p ascending nodes quotas keeps left =
    ap (flat_map acts) quotas
    ∙ gathered acts g p R.quotas (each_found folder_of (λ q. p q ≡ false → acts (g q) ≡ []) R.quotas ascending (λ q own other. none q own (left q other)))
  where
    acts : QuotaRow → List Act
    acts quota = quota_acts (crossed K R E quota.folder) E.run_limit moment quota

    now : (q : QuotaRow) → quota_of R q.folder ≡ Some q → quota_of E q.folder ≡ Some (g q)
    now q own =
        ap (row_of folder_of q.folder) quotas
        ∙ (find-map (λ r. folder_of r == q.folder) g (λ r. ap (λ n. n == q.folder) (keeps r)) R.quotas ∙ ap (option_map g) own)

    none : (q : QuotaRow) → quota_of R q.folder ≡ Some q → IsLeft g q → acts (g q) ≡ []
    none q own is =
        no_acts (crossed K R E (g q).folder) E.run_limit moment (g q) (λ percent.
        ap (λ n. crossed K R E n percent) (keeps q) ∙ left_crosses K R E g q percent nodes own (now q own) is)

-- ---- a template's change, and the peaks after it
fused : (f g : QuotaRow → QuotaRow) (quotas : List QuotaRow) → map f (map g quotas) ≡ map (λ q. f (g q)) quotas
fused f g [] = refl
fused f g (q ∷ quotas) = ap (λ rows. f (g q) ∷ rows) (fused f g quotas)

abbrev pub settled : Capacity → Rows → ℕ → Update → TemplateRow → TemplateRow → QuotaRow → QuotaRow
settled K R moment mode old new quota = peaked K R.nodes moment (updated mode old new quota)

settled_folder : (K : Capacity) (R : Rows) (moment : ℕ) (mode : Update) (old new : TemplateRow) (q : QuotaRow) → folder_of (settled K R moment mode old new q) ≡ folder_of q
settled_folder K R moment mode old new q = peaked_folder K R.nodes moment (updated mode old new q) ∙ at (is_reached mode old q)
  where
    at : (b : Bool) → folder_of (cond b (as_template new q) q) ≡ folder_of q
    at true = refl
    at false = refl

-- peaks that rise tell nothing
peaked_left : (K : Capacity) (nodes : List NodeRow) (moment : ℕ) (q : QuotaRow) → IsLeft (peaked K nodes moment) q
peaked_left K nodes moment q =
    record {
      limit = size (counts q && nat_lt q.peak (usage K nodes q.folder));
      thresholds = marks (counts q && nat_lt q.peak (usage K nodes q.folder));
      counting = kind (counts q && nat_lt q.peak (usage K nodes q.folder));
    }
  where
    size : (b : Bool) → (cond b (record q { peak = usage K nodes q.folder; peak_at = moment }) q).limit ≡ q.limit
    size true = refl
    size false = refl

    marks : (b : Bool) → (cond b (record q { peak = usage K nodes q.folder; peak_at = moment }) q).thresholds ≡ q.thresholds
    marks true = refl
    marks false = refl

    kind : (b : Bool) → counts (cond b (record q { peak = usage K nodes q.folder; peak_at = moment }) q) ≡ counts q
    kind true = refl
    kind false = refl

settled_left : (K : Capacity) (R : Rows) (moment : ℕ) (mode : Update) (old new : TemplateRow) (q : QuotaRow) → is_reached mode old q ≡ false → IsLeft (settled K R moment mode old new) q
settled_left K R moment mode old new q other =
    let same : updated mode old new q ≡ q = ap (λ b. cond b (as_template new q) q) other in
    let left = peaked_left K R.nodes moment (updated mode old new q) in
    record {
      limit = left.limit ∙ ap (λ (r : QuotaRow). r.limit) same;
      thresholds = left.thresholds ∙ ap (λ (r : QuotaRow). r.thresholds) same;
      counting = left.counting ∙ ap counts same;
    }

pub due_updated : (K : Capacity) (R : Rows) (templates : List TemplateRow) (moment : ℕ) (mode : Update) (old new : TemplateRow) → is_ascending folder_of R.quotas ≡ true → let E = peaks K (record R { templates = templates; quotas = map (updated mode old new) R.quotas }) moment in due K R E moment ≡ flat_map (λ quota. quota_acts (crossed K R E (settled K R moment mode old new quota).folder) R.run_limit moment (settled K R moment mode old new quota)) (filter (is_reached mode old) R.quotas)
due_updated K R templates moment mode old new ascending =
    due_mapped K R (peaks K (record R { templates = templates; quotas = map (updated mode old new) R.quotas }) moment) moment (settled K R moment mode old new) (is_reached mode old) ascending refl
    (fused (peaked K R.nodes moment) (updated mode old new) R.quotas) (settled_folder K R moment mode old new) (settled_left K R moment mode old new)
