-- The commands on quotas: each one's work is orderly, and leaves the rows of a store if no check refuses.
use Rattle.std.proofs.Common.{◌≡◌, ℕ, ◌==◌, Bool, true, false, not, ◌&&◌, List, [], ◌∷◌, ◌++◌, refl, sym, ◌∙◌, ap, subst, cond, Some, None, Option, ◌≤◌, length, arith, nat_lt}
use Rattle.std.specs.Prelude.{is_some, is_none, unwrap_or, if◌then◌else◌, option_map}
use Rattle.fsrm_model.specs.declared.command.NewQuota.{NewQuota}
use Rattle.fsrm_model.specs.declared.command.QuotaChange.{QuotaChange}
use Rattle.fsrm_model.specs.declared.command.Refusal.TheVariants.{PathNotFound, NotFound, AlreadyExists, OutOfRange, TableFull, TextsFull}
use Rattle.fsrm_model.specs.declared.row.Capacity.{Capacity}
use Rattle.fsrm_model.specs.declared.row.QuotaRow.{QuotaRow}
use Rattle.fsrm_model.specs.declared.row.Rows.{Rows}
use Rattle.fsrm_model.specs.declared.row.TemplateRow.{TemplateRow}
use Rattle.fsrm_model.specs.declared.row.Threshold.{Threshold}
use Rattle.fsrm_model.specs.commands.Commands.{is_new_quota, is_quota_change}
use Rattle.fsrm_model.specs.commands.Check.{first, ◌when◌, table_full, texts_full}
use Rattle.fsrm_model.specs.nodes.FileOps.{target}
use Rattle.fsrm_base.specs.Keyed.{has_row, with_row, with_change, without_row}
use Rattle.fsrm_model.specs.nodes.Leads.{leads_to_folder}
use Rattle.fsrm_model.specs.objects.Quota.{folder_of, quota_of, is_limit, counts}
use Rattle.fsrm_model.specs.commands.QuotaWork.{quota_checks, first_quota, source_of, add_work, modify_work, delete_work, reset_work, list_work, modified, remarked, changed_by, thresholds_of, reset}
use Rattle.fsrm_base.proofs.Look.{found_has, found_own, is_some-find, has_row-change}
use Rattle.fsrm_base.proofs.Members.{all_found}
use Rattle.fsrm_model.proofs.commands.Orderly.{IsStill, change_still, show_still, bare, first_none, when_none, KeepsValid}
use Rattle.std.specs.Option.{option_map_or}
use Rattle.fsrm_model.specs.declared.row.QuotaState.{QuotaState}
use Rattle.fsrm_model.specs.declared.row.QuotaState.TheVariants.{Disabled}
use Rattle.fsrm_model.specs.values.Limits.{latest_moment, most_quotas, most_templates, most_text_bytes}
use Rattle.fsrm_model.specs.values.Name.{is_named}
use Rattle.fsrm_model.specs.objects.Templates.{template_number, template_name, is_template}
use Rattle.fsrm_model.specs.values.Texts.{quota_bytes, object_texts}
use Rattle.fsrm_model.specs.objects.Thresholds.{are_thresholds, are_too_many, may_be_removed, changed_thresholds}
use Rattle.fsrm_model.specs.nodes.Tree.{is_folder, usage}
use Rattle.fsrm_model.proofs.thresholds.KeptLaws.{fewer_texts, same_texts, sum_by-same, sum_by-less}
use Rattle.fsrm_model.proofs.thresholds.ThresholdLaws.{changed_kept}
use Rattle.fsrm_base.specs.Numbers.{without_number}
use Rattle.fsrm_model.specs.objects.QuotaStates.{start, state_after, queued, in_state, with_quota, is_disabled, state_of, without_quota}
use Rattle.fsrm_model.specs.store.Valid.{is_moment, has_source, are_templates, AreQuotas}
use Rattle.fsrm_model.proofs.commands.FileParts.{folder_at}
use Rattle.fsrm_model.proofs.commands.ValueParts.{new_quota_parts, quota_change_parts}
use Rattle.fsrm_base.proofs.Order.{length-with_row}
use Rattle.fsrm_model.proofs.valid.QueueKept.{queue_added, queue_changed, queue_same, queue_without}
use Rattle.fsrm_model.proofs.valid.QuotasKept.{quota_at, quotas-new, quotas-change, quotas-without}
use Rattle.fsrm_model.proofs.valid.NamesApart.{named_parts}
use Rattle.fsrm_model.proofs.valid.RowsKept.{quotas_followed, nothing_followed}
use Rattle.fsrm_model.proofs.valid.TemplatesKept.{template_parts, sources-new, sources-change, sources-without}
use Rattle.fsrm_base.proofs.TestLaws.{ge_is, le_test}
use Rattle.fsrm_model.proofs.journal.KeptQuotas.{Keeps, counts_flagged, flagged_twice, kept, kept_change, kept_twice, kept_with, kept_without}
use Rattle.fsrm_model.proofs.journal.Alike.{RowsAlike, WorksAlike, alike, lasting_alike, quotas_alike, table_same, texts_same, with_state_alike}
use Rattle.fsrm_model.proofs.journal.KeptEnds.{disabled_lasting, none_lasting, quota_lasting, some_lasting, state_lasting}
use Rattle.fsrm_model.specs.store.Lasting.{flagged, flagged_quota, lasting}

pub add_still : (K : Capacity) (R : Rows) (moment : ℕ) (new : NewQuota) → IsStill K R (add_work R moment new)
add_still K R moment new =
    change_still K R _ _ (bare _ _ refl, (bare _ _ refl, (bare _ _ refl, (bare _ _ refl, (bare _ _ refl, (bare _ _ refl, tt)))))) refl

pub modify_still : (K : Capacity) (R : Rows) (change : QuotaChange) → IsStill K R (modify_work R change)
modify_still K R change =
    change_still K R _ _ (bare _ _ refl, (bare _ _ refl, (bare _ _ refl, (bare _ _ refl, (bare _ _ refl, tt))))) refl

pub delete_still : (K : Capacity) (R : Rows) (path : List (List ℕ)) → IsStill K R (delete_work R path)
delete_still K R path = change_still K R _ _ (bare _ _ refl, (bare _ _ refl, tt)) refl

pub reset_still : (K : Capacity) (R : Rows) (moment : ℕ) (path : List (List ℕ)) → IsStill K R (reset_work K R moment path)
reset_still K R moment path = change_still K R _ _ (bare _ _ refl, (bare _ _ refl, tt)) refl

-- a path that these checks let pass leads to a folder with a quota
some_there : (o : Option QuotaRow) → is_none o ≡ false → is_some o ≡ true
some_there None h = absurd (cc h)
some_there (Some quota) h = refl

pub quota_there : (R : Rows) (path : List (List ℕ)) → first (quota_checks R path) ≡ None → has_row folder_of (target R.nodes path) R.quotas ≡ true
quota_there R path h =
    let o = quota_of R (target R.nodes path) in
    let rest = first_none (PathNotFound when not (leads_to_folder R.nodes path)) ((NotFound when is_none o) ∷ []) h in
    let own = when_none NotFound (is_none o) (first_none (NotFound when is_none o) [] rest.1).0 in
    sym (is_some-find (λ quota. folder_of quota == target R.nodes path) R.quotas) ∙ some_there o own

pub list_still : (K : Capacity) (R : Rows) (path : Option (List (List ℕ))) → IsStill K R (list_work R path)
list_still K R None = show_still K R _ _ tt tt (λ store h. tt)
list_still K R (Some path) = show_still K R _ _ tt (bare _ _ refl, (bare _ _ refl, tt)) (λ store h. quota_there R path h)

-- a limit that has to be given
limit_given : (limit : Option ℕ) → option_map_or is_limit limit false ≡ true → is_limit (unwrap_or limit 0) ≡ true
limit_given None legal = cc
limit_given (Some limit) legal = legal

-- another limit is one
pub limit_kept : (limit : Option ℕ) (old : ℕ) → option_map_or is_limit limit true ≡ true → is_limit old ≡ true → is_limit (unwrap_or limit old) ≡ true
limit_kept None old legal was = was
limit_kept (Some limit) old legal was = legal

-- a quota before options change it
record IsFirst (R : Rows) (limit : Option ℕ) (folder moment : ℕ) (quota : QuotaRow) : Type 0 where
  on : quota.folder ≡ folder
  size : is_limit (unwrap_or limit quota.limit) ≡ true
  marks : are_thresholds quota.thresholds ≡ true
  made : quota.peak_at ≡ moment
  source : has_source R.templates quota ≡ true

first_is : (R : Rows) (limit : Option ℕ) (template : Option (List ℕ)) (o : Option TemplateRow) (folder : ℕ) (state : QuotaState) (moment : ℕ) → are_templates R.templates ≡ true → source_of R template ≡ o → (is_some template && is_none o) ≡ false → option_map_or is_limit limit (is_some template) ≡ true → IsFirst R limit folder moment (first_quota o folder state moment)
first_is R limit None None folder state moment named e known legal =
    record { on = refl; size = limit_given limit legal; marks = refl; made = refl; source = refl }
first_is R limit None (Some template) folder state moment named e known legal = absurd (cc e)
first_is R limit (Some name) None folder state moment named e known legal = absurd (cc known)
first_is R limit (Some name) (Some template) folder state moment named e known legal =
    let t = named_parts template_number template_name most_templates is_template R.templates named in
    let own = template_parts template (all_found is_template (is_named template_name name) R.templates template t.each e) in
    record {
      on = refl;
      size = limit_kept limit template.limit legal own.limit;
      marks = own.thresholds;
      made = refl;
      source = found_has template_number template.number R.templates template (found_own template_number (is_named template_name name) R.templates template t.ascending e);
    }

pub add_kept : (K : Capacity) (R : Rows) (moment : ℕ) (new : NewQuota) → is_new_quota new ≡ true → moment ≤ latest_moment → KeepsValid K R (add_work R moment new)
add_kept K R moment new legal late s h =
    let given = new_quota_parts new legal in
    let folder = target R.nodes new.path in
    let state = if new.enabled then start R.nodes folder else Disabled in
    let source = source_of R new.template in
    let before = first_quota source folder state moment in
    let quota = remarked [] new.thresholds (modified new.limit new.enforce before) in
    let quotas = with_row folder_of quota R.quotas in
    let unknown = is_some new.template && is_none source in
    let missing = (NotFound when unknown) in
    let many = OutOfRange when are_too_many quota.thresholds in
    let full = table_full (with_quota R quota) in
    let long = texts_full (with_quota R quota) in
    let taken = is_some (quota_of R folder) in
    let a = first_none (PathNotFound when not (leads_to_folder R.nodes new.path)) ((AlreadyExists when taken) ∷ missing ∷ many ∷ full ∷ long ∷ []) h in
    let b = first_none (AlreadyExists when taken) (missing ∷ many ∷ full ∷ long ∷ []) a.1 in
    let u = first_none missing (many ∷ full ∷ long ∷ []) b.1 in
    let c = first_none many (full ∷ long ∷ []) u.1 in
    let d = first_none full (long ∷ []) c.1 in
    let e = first_none long [] d.1 in
    let is = first_is R new.limit new.template source folder state moment s.tables.templates refl (when_none NotFound unknown u.0) given.limit in
    let free : has_row folder_of folder R.quotas ≡ false = sym (is_some-find (λ q. folder_of q == folder) R.quotas) ∙ when_none AlreadyExists taken b.0 in
    let absent : has_row folder_of quota.folder R.quotas ≡ false = ap (λ n. has_row folder_of n R.quotas) is.on ∙ free in
    let few : length quotas ≤ most_quotas = ge_is _ _ (when_none TableFull (nat_lt most_quotas (length quotas)) d.0) in
    let texts : object_texts (record R { quotas = quotas }) ≤ most_text_bytes = ge_is _ _ (when_none TextsFull (nat_lt most_text_bytes (object_texts (record R { quotas = quotas }))) e.0) in
    quotas_followed K R quotas (queued R.queue quota.folder quota.state) s
    (quotas-new R.nodes R.quotas quota s.quotas absent (omega (arith, length-with_row folder_of quota R.quotas, few)) (ap (is_folder R.nodes) is.on ∙ folder_at R.nodes new.path a.0)
    (record {
      limit = is.size;
      thresholds = changed_kept [] new.thresholds.percents new.thresholds.notices before.thresholds is.marks given.thresholds.percents given.thresholds.notices (when_none OutOfRange (are_too_many quota.thresholds) c.0);
      moment = ap is_moment is.made ∙ le_test moment latest_moment late;
    }))
    (sources-new R.templates quota R.quotas is.source s.tables.sources)
    texts
    (queue_added R.quotas R.queue quota s.queue absent)

-- quotas of which one changed and kept its texts
changed_texts : (R : Rows) (folder : ℕ) (change : QuotaRow → QuotaRow) → ((q : QuotaRow) → quota_bytes (change q) ≡ quota_bytes q) → object_texts R ≤ most_text_bytes → object_texts (record R { quotas = with_change folder_of folder change R.quotas }) ≤ most_text_bytes
changed_texts R folder change same few =
    same_texts R (with_change folder_of folder change R.quotas) (sum_by-same quota_bytes (λ q. if folder_of q == folder then change q else q) (λ q. at q (folder_of q == folder)) R.quotas) few
  where
    at : (q : QuotaRow) (b : Bool) → quota_bytes (cond b (change q) q) ≡ quota_bytes q
    at q true = same q
    at q false = refl

-- a quota in another state
pub state_quotas : (K : Capacity) (R : Rows) (folder : ℕ) (state : QuotaState) (quotas : List QuotaRow) → AreQuotas R.nodes quotas → AreQuotas R.nodes (with_change folder_of folder (in_state state) quotas)
state_quotas K R folder state quotas a =
    quotas-change R.nodes quotas folder (in_state state) a (λ q. refl) (λ q found.
    let is = quota_at R.nodes quotas folder q a found in
    record { limit = is.limit; thresholds = is.thresholds; moment = is.moment })

-- has the same texts
pub state_texts : (R : Rows) (folder : ℕ) (state : QuotaState) → object_texts R ≤ most_text_bytes → object_texts (record R { quotas = with_change folder_of folder (in_state state) R.quotas }) ≤ most_text_bytes
state_texts R folder state few = changed_texts R folder (in_state state) (λ q. refl) few

-- the thresholds of a folder's quota
own_thresholds : (R : Rows) (folder : ℕ) (quota : QuotaRow) → quota_of R folder ≡ Some quota → thresholds_of R folder ≡ quota.thresholds
own_thresholds R folder quota there = ap (λ o. option_map_or (λ (q : QuotaRow). q.thresholds) o []) there

-- what the checks of a change let pass
record Unrefused (R : Rows) (path : List (List ℕ)) (thresholds : List Threshold) (after : Rows) : Type 0 where
  there : has_row folder_of (target R.nodes path) R.quotas ≡ true
  few : are_too_many thresholds ≡ false
  short : object_texts after ≤ most_text_bytes

unrefused : (R : Rows) (path : List (List ℕ)) (missing : Bool) (thresholds : List Threshold) (after : Rows) → first (quota_checks R path ++ (NotFound when missing) ∷ (OutOfRange when are_too_many thresholds) ∷ texts_full after ∷ []) ≡ None → Unrefused R path thresholds after
unrefused R path missing thresholds after h =
    let folder = target R.nodes path in
    let lost = (PathNotFound when not (leads_to_folder R.nodes path)) in
    let none = (NotFound when is_none (quota_of R folder)) in
    let gone = (NotFound when missing) in
    let many = (OutOfRange when are_too_many thresholds) in
    let long = texts_full after in
    let a = first_none lost (none ∷ gone ∷ many ∷ long ∷ []) h in
    let b = first_none none (gone ∷ many ∷ long ∷ []) a.1 in
    let c = first_none gone (many ∷ long ∷ []) b.1 in
    let d = first_none many (long ∷ []) c.1 in
    let e = first_none long [] d.1 in
    record {
      there = quota_there R path (rw (a.0, b.0) refl);
      few = when_none OutOfRange (are_too_many thresholds) d.0;
      short = ge_is _ _ (when_none TextsFull (nat_lt most_text_bytes (object_texts after)) e.0);
    }

pub modify_kept : (K : Capacity) (R : Rows) (given : QuotaChange) → is_quota_change given ≡ true → KeepsValid K R (modify_work R given)
modify_kept K R given legal s h =
    let its = quota_change_parts given legal in
    let folder = target R.nodes given.path in
    let change : QuotaRow → QuotaRow = changed_by given in
    let marked : List Threshold → List Threshold = changed_thresholds given.removed given.thresholds.percents given.thresholds.notices in
    let quotas = with_change folder_of folder change R.quotas in
    let state = state_after R folder given.enabled in
    let new = with_change folder_of folder (in_state state) quotas in
    let u = unrefused R given.path (not (may_be_removed given.removed (thresholds_of R folder))) (marked (thresholds_of R folder)) (record R { quotas = new; queue = queued R.queue folder state }) h in
    let are = quotas-change R.nodes R.quotas folder change s.quotas (λ q. refl) (λ q found.
    let is = quota_at R.nodes R.quotas folder q s.quotas found in
    record {
      limit = limit_kept given.limit q.limit its.limit is.limit;
      thresholds = changed_kept given.removed given.thresholds.percents given.thresholds.notices q.thresholds is.thresholds its.thresholds.percents its.thresholds.notices (subst (λ ts. are_too_many (marked ts) ≡ false) (own_thresholds R folder q found) u.few);
      moment = is.moment;
    }) in
    quotas_followed K R new (queued R.queue folder state) s
    (state_quotas K R folder state quotas are)
    (sources-change R.templates folder (in_state state) quotas (λ q is. is) (sources-change R.templates folder change R.quotas (λ q is. is) s.tables.sources))
    u.short
    (queue_changed quotas R.queue folder state (in_state state) (queue_same R.quotas R.queue folder change (λ q. refl) (λ q. refl) s.queue)
    (has_row-change folder_of folder change (λ q. refl) folder R.quotas ∙ u.there) (λ q. refl) (λ q. refl))

pub delete_kept : (K : Capacity) (R : Rows) (path : List (List ℕ)) → KeepsValid K R (delete_work R path)
delete_kept K R path s h =
    let folder = target R.nodes path in
    quotas_followed K R (without_row folder_of folder R.quotas) (without_number folder R.queue) s
    (quotas-without R.nodes R.quotas folder s.quotas) (sources-without R.templates folder R.quotas s.tables.sources)
    (fewer_texts R (without_row folder_of folder R.quotas) (sum_by-less quota_bytes (λ q. not (folder_of q == folder)) R.quotas) s.texts) (queue_without R.quotas R.queue folder s.queue)

pub reset_kept : (K : Capacity) (R : Rows) (moment : ℕ) (path : List (List ℕ)) → moment ≤ latest_moment → KeepsValid K R (reset_work K R moment path)
reset_kept K R moment path late s h =
    let folder = target R.nodes path in
    quotas_followed K R (with_change folder_of folder (reset K R moment) R.quotas) R.queue s
    (quotas-change R.nodes R.quotas folder (reset K R moment) s.quotas (λ q. refl) (λ q found.
    let is = quota_at R.nodes R.quotas folder q s.quotas found in
    record { limit = is.limit; thresholds = is.thresholds; moment = le_test moment latest_moment late }))
    (sources-change R.templates folder (reset K R moment) R.quotas (λ q is. is) s.tables.sources)
    (changed_texts R folder (reset K R moment) (λ q. refl) s.texts)
    (queue_same R.quotas R.queue folder (reset K R moment) (λ q. refl) (λ q. refl) s.queue)

-- a list leaves them as they are
pub list_kept : (K : Capacity) (R : Rows) (path : Option (List (List ℕ))) → KeepsValid K R (list_work R path)
list_kept K R None s h = nothing_followed K R s
list_kept K R (Some path) s h = nothing_followed K R s

-- ---- over rows and over what is kept of them
pub quota_alike : (R : Rows) (path : List (List ℕ)) → (NotFound when is_none (quota_of (lasting R) (target R.nodes path))) ≡ (NotFound when is_none (quota_of R (target R.nodes path)))
quota_alike R path = ap (λ b. NotFound when b) (none_lasting R (target R.nodes path))

pub add_alike : (R : Rows) (moment : ℕ) (new : NewQuota) → WorksAlike (add_work R moment new) (add_work (lasting R) moment new)
add_alike R moment new =
    let folder = target R.nodes new.path in
    let state = if new.enabled then start R.nodes folder else Disabled in
    let quota = remarked [] new.thresholds (modified new.limit new.enforce (first_quota (source_of R new.template) folder state moment)) in
    let are = quotas_alike R (with_row folder_of quota R.quotas) (with_row folder_of quota (kept R.quotas)) (queued R.queue quota.folder quota.state) (queued [] quota.folder quota.state) R.unvisited [] (kept_with quota R.quotas) in
    alike are (refl, (ap (λ b. AlreadyExists when b) (some_lasting R folder), (refl, (refl, (table_same are, (texts_same are, tt))))))

without_quota_alike : (R : Rows) (folder : ℕ) → RowsAlike (without_quota R folder) (without_quota (lasting R) folder)
without_quota_alike R folder =
    quotas_alike R (without_row folder_of folder R.quotas) (without_row folder_of folder (kept R.quotas)) _ _ R.unvisited [] (ap kept (kept_without folder R.quotas) ∙ kept_twice (without_row folder_of folder R.quotas))

pub delete_alike : (R : Rows) (path : List (List ℕ)) → WorksAlike (delete_work R path) (delete_work (lasting R) path)
delete_alike R path = alike (without_quota_alike R (target R.nodes path)) (refl, (quota_alike R path, tt))

-- a peak that is reset
reset_keeps : (K : Capacity) (R : Rows) (moment : ℕ) → Keeps (reset K R moment)
reset_keeps K R moment q =
    ap (λ (b : Bool). record q { peak = if b then usage K R.nodes q.folder else 0; peak_at = moment; state = flagged (flagged q.state) }) (counts_flagged q)
    ∙ ap (λ (state : QuotaState). record q { peak = if counts q then usage K R.nodes q.folder else 0; peak_at = moment; state = state }) (flagged_twice q.state)

pub reset_alike : (K : Capacity) (R : Rows) (moment : ℕ) (path : List (List ℕ)) → WorksAlike (reset_work K R moment path) (reset_work K (lasting R) moment path)
reset_alike K R moment path =
    let folder = target R.nodes path in
    alike (quotas_alike R (with_change folder_of folder (reset K R moment) R.quotas) (with_change folder_of folder (reset K R moment) (kept R.quotas)) R.queue [] R.unvisited [] (kept_change folder (reset K R moment) (reset_keeps K R moment) R.quotas))
    (refl, (quota_alike R path, tt))

pub list_alike : (R : Rows) (path : Option (List (List ℕ))) → WorksAlike (list_work R path) (list_work (lasting R) path)
list_alike R None = alike (lasting_alike R) tt
list_alike R (Some path) = alike (lasting_alike R) (refl, (quota_alike R path, tt))

-- the state that a status asks for
after_alike : (R : Rows) (folder : ℕ) (enabled : Option Bool) → flagged (state_after (lasting R) folder enabled) ≡ flagged (state_after R folder enabled)
after_alike R folder None = ap flagged (state_lasting R folder) ∙ flagged_twice (state_of R folder)
after_alike R folder (Some false) = refl
after_alike R folder (Some true) =
    ap (λ b. flagged (cond b (start R.nodes folder) (state_of (lasting R) folder))) (disabled_lasting R folder)
    ∙ (ap (λ state. flagged (cond (is_disabled (state_of R folder)) (start R.nodes folder) state)) (state_lasting R folder)
    ∙ at (is_disabled (state_of R folder)))
  where
    at : (b : Bool) → flagged (cond b (start R.nodes folder) (flagged (state_of R folder))) ≡ flagged (cond b (start R.nodes folder) (state_of R folder))
    at true = refl
    at false = flagged_twice (state_of R folder)

thresholds_lasting : (R : Rows) (folder : ℕ) → thresholds_of (lasting R) folder ≡ thresholds_of R folder
thresholds_lasting R folder = ap (λ o. option_map_or (λ (q : QuotaRow). q.thresholds) o []) (quota_lasting R folder) ∙ at (quota_of R folder)
  where
    at : (o : Option QuotaRow) → option_map_or (λ (q : QuotaRow). q.thresholds) (option_map flagged_quota o) [] ≡ option_map_or (λ (q : QuotaRow). q.thresholds) o []
    at None = refl
    at (Some q) = refl

changed_keeps : (change : QuotaChange) → Keeps (changed_by change)
changed_keeps change q = ap (λ (state : QuotaState). record (changed_by change q) { state = state }) (flagged_twice q.state)

pub modify_alike : (R : Rows) (change : QuotaChange) → WorksAlike (modify_work R change) (modify_work (lasting R) change)
modify_alike R change =
    let folder = target R.nodes change.path in
    let are = with_state_alike R folder (state_after R folder change.enabled) (state_after (lasting R) folder change.enabled) (after_alike R folder change.enabled)
    (with_change folder_of folder (changed_by change) R.quotas) (with_change folder_of folder (changed_by change) (kept R.quotas)) (kept_change folder (changed_by change) (changed_keeps change) R.quotas) in
    alike are (
      refl,
      (
        quota_alike R change.path,
        (
          ap (λ thresholds. NotFound when not (may_be_removed change.removed thresholds)) (thresholds_lasting R folder),
          (
            ap (λ thresholds. OutOfRange when are_too_many (changed_thresholds change.removed change.thresholds.percents change.thresholds.notices thresholds)) (thresholds_lasting R folder),
            (
              texts_same are,
              tt,
            ),
          ),
        ),
      ),
    )

-- ---- whether they last
pub list_lasts : (R : Rows) (path : Option (List (List ℕ))) → (list_work R path).lasts ≡ false
list_lasts R None = refl
list_lasts R (Some path) = refl
