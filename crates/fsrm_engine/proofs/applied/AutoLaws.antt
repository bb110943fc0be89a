-- The commands on auto-apply quotas: which refusal is due, and what is left.
use Rattle.std.proofs.Common.{◌≡◌, ℕ, ◌+◌, ◌*◌, ◌≤◌, ◌==◌, ◌⊎◌, inl, inr, nat_le, nat_lt, Bool, true, false, cond, not, ◌&&◌, List, [], ◌∷◌, length, Option, Some, None, refl, sym, ◌∙◌, ap, subst, arith}
use Rattle.std.proofs.lemmas.Option.{same_Some}
use Rattle.std.specs.Prelude.{MatchResult, Result, Ok, Err, filter_map, fold, is_none, is_some, option_map}
use Rattle.std.specs.List.{AllByRecursion, list_all}
use Rattle.std.specs.Option.{option_map_or}
use Rattle.fsrm_base.specs.Causes.{◌when◌, first}
use Rattle.fsrm_base.specs.Keyed.{has_row, row_of, with_row, without_row}
use Rattle.fsrm_base.specs.Numbers.{is_set}
use Rattle.fsrm_base.proofs.EditedRows.{find-with_row_same, length-with_row, sum_by-with_row, without_absent}
use Rattle.fsrm_base.proofs.Look.{found_has, found_key, found_own, is_some-find}
use Rattle.fsrm_base.proofs.TestLaws.{both, eq_same, ge_is, neither}
use Rattle.fsrm_model.specs.declared.command.Answer.{Answer}
use Rattle.fsrm_model.specs.declared.command.AutoquotaDeed.TheVariants.{Add as AutoquotaAdd, Delete as AutoquotaDelete}
use Rattle.fsrm_model.specs.declared.command.Deed.{Deed}
use Rattle.fsrm_model.specs.declared.command.Deed.TheVariants.{Autoquota}
use Rattle.fsrm_model.specs.declared.command.NewAutoquota.{NewAutoquota}
use Rattle.fsrm_model.specs.declared.command.Outcome.TheVariants.{Done}
use Rattle.fsrm_model.specs.declared.command.Refusal.{Refusal}
use Rattle.fsrm_model.specs.declared.command.Refusal.TheVariants as refusal
use Rattle.fsrm_model.specs.declared.row.AutoRow.{AutoRow}
use Rattle.fsrm_model.specs.declared.row.NodeRow.{NodeRow}
use Rattle.fsrm_model.specs.declared.row.QuotaRow.{QuotaRow}
use Rattle.fsrm_model.specs.declared.row.Rows.{Rows}
use Rattle.fsrm_model.specs.declared.row.TemplateRow.{TemplateRow}
use Rattle.fsrm_model.specs.objects.AutoApply.{applied, auto_folder, auto_of, excludes, queue_with, quotas_with, subfolders, with_quotas}
use Rattle.fsrm_model.specs.commands.AutoWork.{new_auto}
use Rattle.fsrm_model.specs.commands.Check.{Check, autos_full, table_full, texts_full}
use Rattle.fsrm_model.specs.nodes.FileOps.{target}
use Rattle.fsrm_model.specs.values.Name.{is_named}
use Rattle.fsrm_model.specs.nodes.Leads.{leads_to_folder}
use Rattle.fsrm_model.specs.values.Limits.{latest_moment, most_autos, most_entries, most_quotas, most_text_bytes}
use Rattle.fsrm_model.specs.objects.Quota.{folder_of, counts, is_limit}
use Rattle.fsrm_model.specs.objects.QuotaStates.{followed}
use Rattle.fsrm_model.specs.objects.Reached.{IsReached}
use Rattle.fsrm_model.specs.objects.Templates.{template_name, template_named, template_number, template_of}
use Rattle.fsrm_model.specs.commands.TemplateWork.{number_in}
use Rattle.fsrm_model.specs.texts.Text.{is_bare}
use Rattle.fsrm_model.specs.values.Texts.{auto_bytes, object_texts, threshold_bytes}
use Rattle.fsrm_model.specs.objects.Thresholds.{are_thresholds}
use Rattle.fsrm_model.specs.nodes.Tree.{is_folder, name_of, usage}
use Rattle.fsrm_model.specs.store.Valid.{is_moment}
use Rattle.fsrm_model.proofs.templates.EligibleLaws.{eligible, subfolders_inner}
use Rattle.fsrm_objects.specs.Tables.{quota_texts}
use Rattle.templates.specs.Held.{Held, with_auto, without_auto}
use Rattle.thresholds.specs.Marked.{Marked}
use Rattle.volume_tree.specs.Volume.{Volume}
use Rattle.fsrm_engine.specs.declared.parts.Parts.{Parts}
use Rattle.fsrm_engine.specs.Applying.{AreComing, apply_refusal, derived_bytes}
use Rattle.fsrm_parts.specs.Applying.{derived_rows, gets_one, given_folders}
use Rattle.fsrm_engine.specs.Faults.{text_room, texts_of}
use Rattle.fsrm_engine.specs.Machine.{Does, IsIdle, IsSound, IsWhole, Turned, ended, rows_of}
use Rattle.fsrm_parts.specs.Places.{IsFolder}
use Rattle.fsrm_engine.proofs.applied.ComingRows.{bytes-coming, coming_found, derived_many, derived_texts, length-coming}
use Rattle.fsrm_engine.proofs.applied.DerivedLaws.{bytes_are, derived_coming, template_legal, templates_ascend}
use Rattle.fsrm_parts.proofs.applied.EligibleFolders.{passing_folders, passing_set, passing_weaker}
use Rattle.fsrm_engine.proofs.settling.CalmLaws.{calm, calm_same, unused_reached}
use Rattle.fsrm_engine.proofs.settling.EndLaws.{due_of, few_log}
use Rattle.fsrm_parts.proofs.walks.PlaceLaws.{target_is}
use Rattle.fsrm_engine.proofs.steps.StepLaws.{asked, done_as, due, followed_own}
use Rattle.fsrm_parts.proofs.tables.AnswerLaws.{last_check}
use Rattle.fsrm_engine.proofs.tables.RoomLaws.{few_texts, full_test, room_test}
use Rattle.fsrm_parts.proofs.walks.FoundLaws.{missing, on_folder}
use Rattle.fsrm_engine.proofs.tables.TurnLaws.{turned_rows}

-- ---- parts whose auto-apply quotas are others
abbrev pub ruled : Parts → Held → Parts
ruled p held = record p { templates = held }

pub ruled_sound : (p : Parts) (held : Held) → IsSound p → IsSound (ruled p held)
ruled_sound p held s = record { counted = s.counted; scanning = s.scanning }

-- rows with one more, and then without it
pub with_and_without : {X : Type 0} (key : X → ℕ) (row : X) (rows : List X) → has_row key (key row) rows ≡ false → without_row key (key row) (with_row key row rows) ≡ rows
with_and_without key row [] absent = ap (λ b. cond (not b) (row ∷ []) []) (eq_same (key row))
with_and_without {X} key row (r ∷ rows) absent =
    let no = neither (key r == key row) (has_row key (key row) rows) absent in
    at (nat_lt (key row) (key r)) no.0 (with_and_without key row rows no.1) (without_absent key (key row) rows no.1)
  where
    at : (b : Bool) → (key r == key row) ≡ false → without_row key (key row) (with_row key row rows) ≡ rows → without_row key (key row) rows ≡ rows → without_row key (key row) (cond b (row ∷ r ∷ rows) (r ∷ with_row key row rows)) ≡ r ∷ rows
    at true apart rest none = rw (eq_same (key row), apart) (ap (λ rs. r ∷ rs) none)
    at false apart rest none = rw (apart) (ap (λ rs. r ∷ rs) rest)

pub taken_back : (p : Parts) (row : AutoRow) → has_row auto_folder row.folder p.templates.autos ≡ false → ruled p (without_auto (with_auto p.templates row) row.folder) ≡ p
taken_back p row absent =
    ap (λ (autos : List AutoRow). ruled p (record p.templates { autos = autos })) (with_and_without auto_folder row p.templates.autos absent)

pub has_with : (row : AutoRow) (autos : List AutoRow) → has_row auto_folder row.folder autos ≡ false → has_row auto_folder row.folder (with_row auto_folder row autos) ≡ true
has_with row autos absent =
    found_has auto_folder row.folder (with_row auto_folder row autos) row
    (find-with_row_same auto_folder (λ auto. auto_folder auto == row.folder) row autos (eq_same row.folder) absent)

-- ---- the template of a name
pub record IsSource (p : Parts) (name : List ℕ) (number : ℕ) : Type 0 where
  pub row : TemplateRow
  pub named : template_named p.templates.templates name ≡ Some row
  pub number_is : number ≡ row.number
  pub found : template_of p.templates.templates row.number ≡ Some row

pub source_found : (p : Parts) (name lent : List ℕ) (number : ℕ) → IsWhole p → lent ≡ name → Some number ≡ option_map template_number (template_named p.templates.templates lent) → IsSource p name number
source_found p name lent number w same h =
    at (template_named p.templates.templates name) refl (h ∙ ap (λ k. option_map template_number (template_named p.templates.templates k)) same)
  where
    at : (o : Option TemplateRow) → template_named p.templates.templates name ≡ o → Some number ≡ option_map template_number o → IsSource p name number
    at None e h = absurd (cc h)
    at (Some t) e h =
        record {
          row = t;
          named = e;
          number_is = same_Some number t.number h;
          found = found_own template_number (is_named template_name name) p.templates.templates t (templates_ascend p w.valid) e;
        }

pub source_none : (p : Parts) (name lent : List ℕ) → lent ≡ name → None ≡ option_map template_number (template_named p.templates.templates lent) → template_named p.templates.templates name ≡ None
source_none p name lent same h = at (template_named p.templates.templates name) (h ∙ ap (λ k. option_map template_number (template_named p.templates.templates k)) same)
  where
    at : (o : Option TemplateRow) → None ≡ option_map template_number o → o ≡ None
    at None h = refl
    at (Some t) h = absurd (cc h)

-- ---- quotas that came make nothing due
record IsUnused (p : Parts) (q : QuotaRow) : Type 0 where
  limit : is_limit q.limit ≡ true
  thresholds : are_thresholds q.thresholds ≡ true
  nothing : counts q ≡ true → usage p.tree.size p.tree.nodes q.folder ≡ 0

all_unused : (p : Parts) (rows : List QuotaRow) → list_all (λ row. is_limit row.limit && (are_thresholds row.thresholds && is_moment row.peak_at)) rows ≡ true → AllByRecursion (λ row. counts row ≡ true → usage p.tree.size p.tree.nodes row.folder ≡ 0) rows → AllByRecursion (IsUnused p) rows
all_unused p [] legal unused = tt
all_unused p (q ∷ rows) legal unused =
    let parts = both (is_limit q.limit && (are_thresholds q.thresholds && is_moment q.peak_at)) (list_all (λ row. is_limit row.limit && (are_thresholds row.thresholds && is_moment row.peak_at)) rows) legal in
    let own = both (is_limit q.limit) (are_thresholds q.thresholds && is_moment q.peak_at) parts.0 in
    let marks = both (are_thresholds q.thresholds) (is_moment q.peak_at) own.1 in
    (record { limit = own.0; thresholds = marks.0; nothing = unused.0 }, all_unused p rows parts.1 unused.1)

pub calm_received : (p mid : Parts) (m : ℕ) (rows : List QuotaRow) → mid.tree ≡ p.tree → mid.objects.quotas ≡ fold quotas_with p.objects.quotas rows → AreComing p rows → due_of p mid m ≡ []
calm_received p mid m rows tree quotas coming =
    calm p mid m (λ folder percent is. at folder percent is
    (coming_found (IsUnused p) folder is.quota p.objects.quotas rows (all_unused p rows coming.legal coming.unused) (sym (ap (row_of folder_of folder) quotas) ∙ is.is_there)))
  where
    nodes : mid.tree.nodes ≡ p.tree.nodes
    nodes = ap (λ (v : Volume). v.nodes) tree

    at : (folder percent : ℕ) (is : IsReached p.tree.size (rows_of mid) folder percent) → (row_of folder_of folder p.objects.quotas ≡ Some is.quota) ⊎ IsUnused p is.quota → IsReached p.tree.size (rows_of p) folder percent
    at folder percent is (inl there) =
        record {
          quota = is.quota;
          is_there = there;
          has = is.has;
          counting = is.counting;
          enough = subst (λ (ns : List NodeRow). percent * is.quota.limit ≤ 100 * usage p.tree.size ns folder) nodes is.enough;
        }
    at folder percent is (inr own) =
        let on : is.quota.folder ≡ folder = found_key folder_of folder mid.objects.quotas is.quota is.is_there in
        absurd (unused_reached p.tree.size (rows_of mid) folder percent is.quota is.is_there own.thresholds own.limit
        (λ c. ap (λ (ns : List NodeRow). usage p.tree.size ns folder) nodes ∙ (ap (usage p.tree.size p.tree.nodes) (sym on) ∙ own.nothing c)) is)

-- ---- what it is that nothing refuses an auto-apply quota
record IsApplied (p : Parts) (row : AutoRow) (count : ℕ) : Type 0 where
  few : length p.objects.quotas + count ≤ most_quotas
  short : count * derived_bytes p.templates.templates row.template + auto_bytes row ≤ text_room p

three_none : (a b c : Bool) → first ((refusal.TableFull when a) ∷ (refusal.TableFull when b) ∷ (refusal.TextsFull when c) ∷ []) ≡ None → (b ≡ false) × (c ≡ false)
three_none true b c h = cc h
three_none false true c h = cc h
three_none false false true h = cc h
three_none false false false h = (refl, refl)

applies_none : (p : Parts) (row : AutoRow) (count : ℕ) → apply_refusal p row count ≡ None → IsApplied p row count
applies_none p row count h =
    let parts = three_none (nat_le most_autos (length p.templates.autos)) (nat_lt most_quotas (length p.objects.quotas + count)) (nat_lt (text_room p) (count * derived_bytes p.templates.templates row.template + auto_bytes row)) h in
    record { few = ge_is _ _ parts.0; short = ge_is _ _ parts.1 }

-- ---- a new auto-apply quota
module _ (p : Parts) (m : ℕ) (values : NewAutoquota) where
  abbrev deed : Deed
  deed = Autoquota (AutoquotaAdd values)

  -- the rows with it, and the quotas that it gives
  abbrev with_it : ℕ → ℕ → Rows
  with_it n template = rows_of (ruled p (with_auto p.templates (new_auto n template values.excluded)))

  abbrev after : ℕ → ℕ → List QuotaRow → Rows
  after n template coming = with_quotas (with_it n template) coming

  abbrev coming : ℕ → ℕ → List QuotaRow
  coming n template = filter_map (applied (with_it n template) m) (subfolders p.tree.nodes n)

  abbrev checks : ℕ → ℕ → List QuotaRow → List Check
  checks n template quotas = autos_full (after n template quotas) ∷ table_full (after n template quotas) ∷ texts_full (after n template quotas) ∷ []

  abbrev later : ℕ → List Check
  later n =
      (refusal.AlreadyExists when is_some (auto_of (rows_of p) n))
      ∷ (refusal.NotFound when is_none (template_named p.templates.templates values.template))
      ∷ checks n (number_in (template_named p.templates.templates values.template)) (coming n (number_in (template_named p.templates.templates values.template)))

  on_it : (n : ℕ) → IsFolder p.tree.nodes values.path n → due p m deed ≡ first (later n)
  on_it n at = on_folder (rows_of p) values.path n later at

  pub auto_missing : leads_to_folder p.tree.nodes values.path ≡ false → due p m deed ≡ Some refusal.PathNotFound
  auto_missing h = missing p.tree.nodes values.path (later (target p.tree.nodes values.path)) h

  pub auto_taken : (n : ℕ) → IsFolder p.tree.nodes values.path n → is_some (auto_of (rows_of p) n) ≡ true → due p m deed ≡ Some refusal.AlreadyExists
  auto_taken n at taken =
      on_it n at
      ∙ ap (λ b. first ((refusal.AlreadyExists when b) ∷ (refusal.NotFound when is_none (template_named p.templates.templates values.template)) ∷ checks n (number_in (template_named p.templates.templates values.template)) (coming n (number_in (template_named p.templates.templates values.template))))) taken

  pub auto_unknown : (n : ℕ) → IsFolder p.tree.nodes values.path n → is_some (auto_of (rows_of p) n) ≡ false → template_named p.templates.templates values.template ≡ None → due p m deed ≡ Some refusal.NotFound
  auto_unknown n at free unknown =
      on_it n at
      ∙ (ap (λ b. first ((refusal.AlreadyExists when b) ∷ (refusal.NotFound when is_none (template_named p.templates.templates values.template)) ∷ checks n (number_in (template_named p.templates.templates values.template)) (coming n (number_in (template_named p.templates.templates values.template))))) free
      ∙ ap (λ (o : Option TemplateRow). first ((refusal.NotFound when is_none o) ∷ checks n (number_in o) (coming n (number_in o)))) unknown)

  module _ (n : ℕ) (t : TemplateRow) (w : IsWhole p) (at : IsFolder p.tree.nodes values.path n) (free : is_some (auto_of (rows_of p) n) ≡ false) (named : template_named p.templates.templates values.template ≡ Some t) (source : template_of p.templates.templates t.number ≡ Some t) where
    abbrev row : AutoRow
    row = new_auto n t.number values.excluded

    abbrev folders : List ℕ
    folders = given_folders p.tree.nodes p.objects.quotas row

    abbrev rows : List QuotaRow
    rows = derived_rows p.tree.nodes t m folders

    absent : has_row auto_folder n p.templates.autos ≡ false
    absent = sym (is_some-find (λ auto. auto_folder auto == n) p.templates.autos) ∙ free

    coming_are : coming n t.number ≡ rows
    coming_are =
        eligible (with_it n t.number) m n row t (subfolders p.tree.nodes n)
        (find-with_row_same auto_folder (λ auto. auto_folder auto == n) row p.templates.autos (eq_same n) absent) source
        (subfolders_inner p.tree.nodes n w.sound.counted.volume.ascending)

    as_many : length rows ≡ length folders
    as_many = derived_many p.tree.nodes t m folders

    full : nat_lt most_quotas (length (fold quotas_with p.objects.quotas rows)) ≡ nat_lt most_quotas (length p.objects.quotas + length folders)
    full = ap (nat_lt most_quotas) (length-coming p.objects.quotas rows ∙ ap (λ k. length p.objects.quotas + k) as_many)

    autos : nat_lt most_autos (length (with_row auto_folder row p.templates.autos)) ≡ nat_le most_autos (length p.templates.autos)
    autos = full_test most_autos (length p.templates.autos) (length (with_row auto_folder row p.templates.autos)) (length-with_row auto_folder row p.templates.autos)

    abbrev bytes : ℕ
    bytes = length folders * threshold_bytes t.thresholds + auto_bytes row

    texts : object_texts (after n t.number rows) ≡ bytes + texts_of p
    texts =
        omega (
          arith,
          bytes-coming p.objects.quotas rows,
          derived_texts p.tree.nodes t m folders,
          sum_by-with_row auto_folder auto_bytes row p.templates.autos,
        )

    long : nat_lt most_text_bytes (object_texts (after n t.number rows)) ≡ nat_lt (text_room p) bytes
    long = room_test most_text_bytes (texts_of p) bytes (object_texts (after n t.number rows)) (few_texts p w) texts

    abbrev three : Bool → Bool → Bool → Option Refusal
    three a b c = first ((refusal.TableFull when a) ∷ (refusal.TableFull when b) ∷ (refusal.TextsFull when c) ∷ [])

    pub auto_due : due p m deed ≡ apply_refusal p row (length folders)
    auto_due =
        on_it n at
        ∙ (ap (λ b. first ((refusal.AlreadyExists when b) ∷ (refusal.NotFound when is_none (template_named p.templates.templates values.template)) ∷ checks n (number_in (template_named p.templates.templates values.template)) (coming n (number_in (template_named p.templates.templates values.template))))) free
        ∙ (ap (λ (o : Option TemplateRow). first ((refusal.NotFound when is_none o) ∷ checks n (number_in o) (coming n (number_in o)))) named
        ∙ (ap (λ (quotas : List QuotaRow). first (checks n t.number quotas)) coming_are
        ∙ (ap (λ a. three a (nat_lt most_quotas (length (fold quotas_with p.objects.quotas rows))) (nat_lt most_text_bytes (object_texts (after n t.number rows)))) autos
        ∙ (ap (λ b. three (nat_le most_autos (length p.templates.autos)) b (nat_lt most_text_bytes (object_texts (after n t.number rows)))) full
        ∙ (ap (λ c. three (nat_le most_autos (length p.templates.autos)) (nat_lt most_quotas (length p.objects.quotas + length folders)) c) long
        ∙ ap (λ (o : Option TemplateRow). three (nat_le most_autos (length p.templates.autos)) (nat_lt most_quotas (length p.objects.quotas + length folders)) (nat_lt (text_room p) (length folders * option_map_or (λ (r : TemplateRow). threshold_bytes r.thresholds) o 0 + auto_bytes row))) (sym source)))))))

    made : (asked p m deed).effect ≡ after n t.number rows
    made =
        ap (λ k. after k (number_in (template_named p.templates.templates values.template)) (coming k (number_in (template_named p.templates.templates values.template)))) (target_is p.tree.nodes values.path n at.resolved)
        ∙ (ap (λ (o : Option TemplateRow). after n (number_in o) (coming n (number_in o))) named
        ∙ ap (after n t.number) coming_are)

    -- it is there, with the quotas that it gives
    pub auto_added : (mid new : Parts) (answer : Answer) (room : ℕ) → IsIdle p → p.last_moment ≤ m → apply_refusal p row (length folders) ≡ None → AreComing (ruled p (with_auto p.templates row)) rows → Turned (record (ruled p (with_auto p.templates row)) { objects = record p.objects { room = room } }) mid (fold quotas_with p.objects.quotas rows) (fold queue_with p.scans.queue rows) → new ≡ ended mid m → answer ≡ record { outcome = Done None; lasting = true } → Does p new m deed answer
    auto_added mid new answer room idle late may comes t ends e =
        let from = record (ruled p (with_auto p.templates row)) { objects = record p.objects { room = room } } in
        let marks = ap (λ (x : Parts). x.marks) t.parts_are in
        done_as p mid new m deed answer
        (record {
          quotas = mid.objects.quotas;
          after = late;
          none = auto_due ∙ may;
          lasts = refl;
          size = ap (λ (x : Parts). x.tree.size) t.parts_are;
          idle = record {
            numbers = ap (λ (x : Marked). x.numbers) marks ∙ idle.numbers;
            places = ap (λ (x : Marked). x.places) marks ∙ idle.places;
            crossing = ap (λ (x : Parts). x.crossing) t.parts_are ∙ idle.crossing;
          };
          made = ap (followed (rows_of p)) made ∙ sym (turned_rows from mid (fold quotas_with p.objects.quotas rows) (fold queue_with p.scans.queue rows) t);
          raised = refl;
        })
        refl (subst (λ (x : Marked). length x.log ≤ most_entries) (sym marks) (few_log p w))
        (calm_received p mid m rows (ap (λ (x : Parts). x.tree) t.parts_are) (ap (λ (x : Parts). x.objects.quotas) t.parts_are)
        (record { ascending = comes.ascending; absent = comes.absent; folders = comes.folders; legal = comes.legal; unused = comes.unused; few = comes.few; short = omega (arith, short comes.short) }))
        ends e
      where
        short : quota_texts rows ≤ text_room (ruled p (with_auto p.templates row)) → quota_texts rows ≤ text_room p
        short h = omega (arith, h, sum_by-with_row auto_folder auto_bytes row p.templates.autos)

-- by the row that was made, its folders and its quotas
module _ (p : Parts) (m : ℕ) (values : NewAutoquota) (n number : ℕ) (w : IsWhole p) (at : IsFolder p.tree.nodes values.path n) (free : is_some (auto_of (rows_of p) n) ≡ false) (source : IsSource p values.template number) (row : AutoRow) (row_is : row ≡ new_auto n number values.excluded) (folders : List ℕ) (folders_are : folders ≡ given_folders p.tree.nodes p.objects.quotas row) where
  abbrev own : AutoRow
  own = new_auto n source.row.number values.excluded

  same_row : row ≡ own
  same_row = row_is ∙ ap (λ k. new_auto n k values.excluded) source.number_is

  same_folders : folders ≡ given_folders p.tree.nodes p.objects.quotas own
  same_folders = folders_are ∙ ap (given_folders p.tree.nodes p.objects.quotas) same_row

  pub row_due : due p m (Autoquota (AutoquotaAdd values)) ≡ apply_refusal p row (length folders)
  row_due =
      auto_due p m values n source.row w at free source.named source.found
      ∙ (ap (λ (fs : List ℕ). apply_refusal p own (length fs)) (sym same_folders)
      ∙ ap (λ (r : AutoRow). apply_refusal p r (length folders)) (sym same_row))

  pub row_source : template_of p.templates.templates row.template ≡ Some source.row
  row_source = ap (λ (r : AutoRow). template_of p.templates.templates r.template) same_row ∙ source.found

  -- the quotas that it gives may come
  pub row_coming : m ≤ latest_moment → apply_refusal p row (length folders) ≡ None → AreComing (ruled p (with_auto p.templates row)) (derived_rows p.tree.nodes source.row m folders)
  row_coming late may =
      let fits = applies_none p row (length folders) may in
      let bytes = ap (λ b. length folders * b) (bytes_are p row.template source.row row_source) in
      let nodes = p.tree.nodes in
      let quotas = p.objects.quotas in
      let ascending = w.sound.counted.volume.ascending in
      let back : (P : List ℕ → Type 0) → P (given_folders nodes quotas row) → P folders = λ P h. subst P (sym folders_are) h in
      derived_coming (ruled p (with_auto p.templates row)) source.row m w.sound.counted.volume folders
      (template_legal p row.template source.row w row_source) late
      (back (λ fs. is_set fs ≡ true) (passing_set nodes row.folder ascending (gets_one nodes quotas row)))
      (back (λ fs. list_all (is_folder nodes) fs ≡ true) (passing_folders nodes row.folder ascending (gets_one nodes quotas row)))
      (back (λ fs. list_all (λ f. is_none (row_of folder_of f quotas)) fs ≡ true)
      (passing_weaker (gets_one nodes quotas row) (λ f. is_none (row_of folder_of f quotas)) (λ f h. (both (not (excludes row (name_of nodes f))) (is_none (row_of folder_of f quotas)) h).1) (subfolders nodes row.folder)))
      fits.few
      (omega (arith, fits.short, bytes, sum_by-with_row auto_folder auto_bytes row p.templates.autos))

  pub row_added : (mid new : Parts) (answer : Answer) (rows : List QuotaRow) (room : ℕ) → IsIdle p → p.last_moment ≤ m → m ≤ latest_moment → apply_refusal p row (length folders) ≡ None → rows ≡ derived_rows p.tree.nodes source.row m folders → Turned (record (ruled p (with_auto p.templates row)) { objects = record p.objects { room = room } }) mid (fold quotas_with p.objects.quotas rows) (fold queue_with p.scans.queue rows) → new ≡ ended mid m → answer ≡ record { outcome = Done None; lasting = true } → Does p new m (Autoquota (AutoquotaAdd values)) answer
  row_added mid new answer rows room idle after late may rows_are t ends e =
      let nodes = p.tree.nodes in
      let same : rows ≡ derived_rows nodes source.row m (given_folders nodes p.objects.quotas own) = rows_are ∙ ap (derived_rows nodes source.row m) same_folders in
      auto_added p m values n source.row w at free source.named source.found mid new answer room idle after
      (sym (auto_due p m values n source.row w at free source.named source.found) ∙ (row_due ∙ may))
      (subst (λ (r : AutoRow). AreComing (ruled p (with_auto p.templates r)) (derived_rows nodes source.row m (given_folders nodes p.objects.quotas own))) same_row
      (subst (λ (fs : List ℕ). AreComing (ruled p (with_auto p.templates row)) (derived_rows nodes source.row m fs)) same_folders (row_coming late may)))
      (subst (λ (r : AutoRow). Turned (record (ruled p (with_auto p.templates r)) { objects = record p.objects { room = room } }) mid (fold quotas_with p.objects.quotas (derived_rows nodes source.row m (given_folders nodes p.objects.quotas own))) (fold queue_with p.scans.queue (derived_rows nodes source.row m (given_folders nodes p.objects.quotas own)))) same_row
      (subst (λ (qs : List QuotaRow). Turned (record (ruled p (with_auto p.templates row)) { objects = record p.objects { room = room } }) mid (fold quotas_with p.objects.quotas qs) (fold queue_with p.scans.queue qs)) same t))
      ends e

-- the refusal of one that can't come is by no quota
three_bare : (a b c : Bool) (r : Refusal) → first ((refusal.TableFull when a) ∷ (refusal.TableFull when b) ∷ (refusal.TextsFull when c) ∷ []) ≡ Some r → is_bare r ≡ true
three_bare true b c r h = sym (ap is_bare (same_Some refusal.TableFull r h))
three_bare false true c r h = sym (ap is_bare (same_Some refusal.TableFull r h))
three_bare false false true r h = sym (ap is_bare (same_Some refusal.TextsFull r h))
three_bare false false false r h = cc h

pub apply_bare : (p : Parts) (row : AutoRow) (count : ℕ) (r : Refusal) → apply_refusal p row count ≡ Some r → is_bare r ≡ true
apply_bare p row count r h =
    three_bare (nat_le most_autos (length p.templates.autos)) (nat_lt most_quotas (length p.objects.quotas + count))
    (nat_lt (text_room p) (count * derived_bytes p.templates.templates row.template + auto_bytes row)) r h

-- ---- one goes
module _ (p : Parts) (m n : ℕ) (path : List (List ℕ)) (at : IsFolder p.tree.nodes path n) where
  gone_due : (b : Bool) → is_none (auto_of (rows_of p) n) ≡ b → due p m (Autoquota (AutoquotaDelete path)) ≡ (refusal.NotFound when b)
  gone_due b h =
      on_folder (rows_of p) path n (λ k. (refusal.NotFound when is_none (auto_of (rows_of p) k)) ∷ []) at
      ∙ (last_check (refusal.NotFound when is_none (auto_of (rows_of p) n)) ∙ ap (λ b. refusal.NotFound when b) h)

  pub auto_deleted : (new : Parts) (held : Held) (answer : Answer) → IsWhole p → IsIdle p → p.last_moment ≤ m → is_none (auto_of (rows_of p) n) ≡ false → held ≡ without_auto p.templates n → new ≡ ended (ruled p held) m → answer ≡ record { outcome = Done None; lasting = true } → Does p new m (Autoquota (AutoquotaDelete path)) answer
  auto_deleted new held answer w idle late there is ends e =
      let mid = ruled p held in
      let S : Held → Rows = λ held. rows_of (ruled p held) in
      done_as p mid new m (Autoquota (AutoquotaDelete path)) answer
      (record {
        quotas = p.objects.quotas;
        after = late;
        none = gone_due false there;
        lasts = refl;
        size = refl;
        idle = record { numbers = idle.numbers; places = idle.places; crossing = idle.crossing };
        made = ap (λ k. followed (rows_of p) (S (without_auto p.templates k))) (target_is p.tree.nodes path n at.resolved)
            ∙ (ap (λ held. followed (rows_of p) (S held)) (sym is) ∙ followed_own (S held));
        raised = refl;
      })
      refl (few_log p w) (calm_same p mid m w.sound.counted w.sound.counted refl refl refl) ends e

pub has_auto : (autos : List AutoRow) (n : ℕ) → is_none (row_of auto_folder n autos) ≡ false → has_row auto_folder n autos ≡ true
has_auto autos n h = sym (is_some-find (λ auto. auto_folder auto == n) autos) ∙ at (row_of auto_folder n autos) h
  where
    at : (o : Option AutoRow) → is_none o ≡ false → is_some o ≡ true
    at None h = absurd (cc h)
    at (Some auto) h = refl

-- what is known of a result, by which it is
pub when_given : {A E : Type 0} (P : A → Type 0) (Q : E → Type 0) (result : Result A E) (a : A) → result ≡ Ok a → MatchResult result P Q → P a
when_given P Q result a is h = subst (λ r. MatchResult r P Q) is h

pub when_refused : {A E : Type 0} (P : A → Type 0) (Q : E → Type 0) (result : Result A E) (e : E) → result ≡ Err e → MatchResult result P Q → Q e
when_refused P Q result e is h = subst (λ r. MatchResult r P Q) is h
