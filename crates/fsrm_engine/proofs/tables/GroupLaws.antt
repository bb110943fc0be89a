-- The commands on file groups: which refusal is due, and what is left.
use Rattle.std.proofs.Common.{◌≡◌, ℕ, ◌+◌, ◌≤◌, Bool, true, false, not, ◌&&◌, List, [], ◌∷◌, length, Option, Some, None, nat_lt, nat_le, refl, ap, sym, ◌∙◌, subst, arith}
use Rattle.std.specs.Prelude.{find, is_some, map, unwrap_or, Result, Ok, Err, IfOk}
use Rattle.std.specs.List.{list_all, list_any}
use Rattle.std.specs.Option.{option_and_then, option_map_or}
use Rattle.file_groups.specs.declared.answer.GroupFault.{GroupFault}
use Rattle.file_groups.specs.declared.answer.GroupFault.TheVariants as group
use Rattle.file_groups.specs.Faults.{IsFault, group_fault, patterns_fault}
use Rattle.file_groups.specs.Kept.{group_texts}
use Rattle.fsrm_base.specs.declared.memory.NoMemory.{NoMemory as Wanting}
use Rattle.fsrm_base.specs.Causes.{◌when◌, first}
use Rattle.fsrm_base.specs.Keyed.{has_row, is_ascending}
use Rattle.fsrm_base.proofs.EditedRows.{sum_by-with_change, sum_by-with_row}
use Rattle.fsrm_base.proofs.Look.{has_found, is_some-find, is_some-mapped}
use Rattle.fsrm_base.proofs.Order.{length-with_row}
use Rattle.fsrm_base.proofs.TestLaws.{both}
use Rattle.fsrm_model.specs.declared.command.Answer.{Answer}
use Rattle.fsrm_model.specs.declared.command.Deed.{Deed}
use Rattle.fsrm_model.specs.declared.command.Deed.TheVariants.{Filegroup}
use Rattle.fsrm_model.specs.declared.command.FilegroupChange.{FilegroupChange}
use Rattle.fsrm_model.specs.declared.command.FilegroupDeed.TheVariants.{Add as FilegroupAdd, Modify as FilegroupModify, Delete as FilegroupDelete}
use Rattle.fsrm_model.specs.declared.command.NewFilegroup.{NewFilegroup}
use Rattle.fsrm_model.specs.declared.command.Outcome.TheVariants.{Done}
use Rattle.fsrm_model.specs.declared.command.Refusal.{Refusal}
use Rattle.fsrm_model.specs.declared.command.Refusal.TheVariants as refusal
use Rattle.fsrm_model.specs.declared.row.GroupRow.{GroupRow}
use Rattle.fsrm_model.specs.commands.Check.{texts_full}
use Rattle.fsrm_model.specs.commands.GroupWork.{is_group_named, is_used}
use Rattle.fsrm_model.specs.values.Limits.{most_groups, most_text_bytes}
use Rattle.fsrm_model.specs.values.Patterns.{are_apart, group_number, has_name, is_group, new_group, number_named, regrouped, with_group, with_patterns, without_group}
use Rattle.fsrm_model.specs.objects.Quota.{peaked}
use Rattle.fsrm_model.specs.objects.QuotaStates.{followed}
use Rattle.fsrm_model.specs.texts.Text.{is_bare}
use Rattle.fsrm_model.specs.values.Texts.{group_bytes, object_texts}
use Rattle.fsrm_objects.specs.Tables.{Tables, texts_in}
use Rattle.templates.specs.Held.{texts_in as template_texts}
use Rattle.fsrm_engine.specs.declared.parts.Parts.{Parts}
use Rattle.fsrm_parts.specs.Faults.{group_answer, group_refusal}
use Rattle.fsrm_engine.specs.Faults.{text_room, texts_of}
use Rattle.fsrm_engine.specs.Machine.{AreCounted, Does, IsIdle, IsSound, IsWhole, ended, rows_of}
use Rattle.fsrm_engine.proofs.settling.CalmLaws.{calm_same}
use Rattle.fsrm_engine.proofs.settling.EndLaws.{few_log}
use Rattle.fsrm_engine.proofs.steps.StepLaws.{asked, done_as, due, followed_own, refused_as, told}
use Rattle.fsrm_parts.proofs.tables.AnswerLaws.{last_check}
use Rattle.fsrm_engine.proofs.steps.WholeLaws.{sound_ended}
use Rattle.fsrm_engine.proofs.tables.QuotaLaws.{counted_same}
use Rattle.fsrm_engine.proofs.tables.RoomLaws.{few_texts, full_test, room_other, room_test}

-- ---- parts whose groups, screens and exceptions are others
abbrev pub retabled : Parts → List GroupRow → Tables → Parts
retabled p groups tables = record p { groups = groups; objects = tables }

module _ (p : Parts) (groups : List GroupRow) (tables : Tables) (w : IsWhole p) (same : tables.quotas ≡ p.objects.quotas) where
  pub retabled_counted : AreCounted (retabled p groups tables)
  retabled_counted = counted_same p.tree.size p.tree.nodes p.usage p.objects.quotas tables.quotas same w.sound.counted

  pub retabled_sound : IsSound (retabled p groups tables)
  retabled_sound = record { counted = retabled_counted; scanning = w.sound.scanning }

  pub retabled_ended : (new : Parts) (m : ℕ) → new ≡ ended (retabled p groups tables) m → AreCounted new → IsSound new
  retabled_ended new m ends counted = sound_ended (retabled p groups tables) new m ends counted w.sound.scanning

  -- a command that makes them is done, if no check refuses it
  pub retabled_as : (new : Parts) (m : ℕ) (deed : Deed) (answer : Answer) → IsIdle p → p.last_moment ≤ m → due p m deed ≡ None → (asked p m deed).effect ≡ record (rows_of p) { groups = groups; screens = tables.screens; excepts = tables.excepts; jobs = tables.jobs } → (asked p m deed).lasts ≡ true → (asked p m deed).judged ≡ None → new ≡ ended (retabled p groups tables) m → answer ≡ record { outcome = (asked p m deed).outcome; lasting = true } → Does p new m deed answer
  retabled_as new m deed answer idle after none effect lasts judged ends e =
      let mid = retabled p groups tables in
      done_as p mid new m deed answer
      (record {
        quotas = p.objects.quotas;
        after = after;
        none = none;
        lasts = lasts;
        size = refl;
        idle = record { numbers = idle.numbers; places = idle.places; crossing = idle.crossing };
        made = ap (followed (rows_of p)) effect ∙ followed_own (record (rows_of p) { groups = groups; screens = tables.screens; excepts = tables.excepts; jobs = tables.jobs });
        raised = ap (map (peaked p.tree.size p.tree.nodes m)) same;
      })
      judged (few_log p w) (calm_same p mid m w.sound.counted retabled_counted refl same refl) ends e

-- ---- what the table of groups refuses
group_bare : (fault : GroupFault) (r : Refusal) → group_refusal fault ≡ Some r → is_bare r ≡ true
group_bare group.DuplicateName r h = cc h
group_bare group.TableFull r h = cc h
group_bare group.TextsFull r h = cc h
group_bare group.NoMemory r h = cc h

fault_refusal : (fault : GroupFault) (o : Option GroupFault) → IsFault fault o → option_and_then group_refusal o ≡ group_refusal fault
fault_refusal group.DuplicateName o h = ap (option_and_then group_refusal) h
fault_refusal group.TableFull o h = ap (option_and_then group_refusal) h
fault_refusal group.TextsFull o h = ap (option_and_then group_refusal) h
fault_refusal group.NoMemory o h = ap (option_and_then group_refusal) h

-- the answer to a command that it refused, if it wasn't for want of memory
refused_by : (p : Parts) (m : ℕ) (deed : Deed) (groups : List GroupRow) (fault : GroupFault) (o : Option GroupFault) (result : Result Answer Wanting) → IsIdle p → p.last_moment ≤ m → due p m deed ≡ option_and_then group_refusal o → IsFault fault o → groups ≡ p.groups → IfOk result (λ answer. group_answer fault ≡ Some answer) → IfOk result (λ answer. Does p (record p { groups = groups }) m deed answer)
refused_by p m deed groups fault o (Err e) idle after h is same given = tt
refused_by p m deed groups fault o (Ok answer) idle after h is same given =
    let t = told (group_refusal fault) answer given in
    subst (λ (gs : List GroupRow). Does p (record p { groups = gs }) m deed answer) (sym same)
    (refused_as p m deed answer t.refusal idle after (h ∙ (fault_refusal fault o is ∙ t.is)) (group_bare fault t.refusal t.is) t.answer_is)

-- the order of the groups of a store
groups_ascend : (p : Parts) → IsWhole p → is_ascending group_number p.groups ≡ true
groups_ascend p w =
    let groups = p.groups in
    (both (is_ascending group_number groups) (nat_le (length groups) most_groups) (both (is_ascending group_number groups && nat_le (length groups) most_groups) (list_all is_group groups && are_apart groups) w.valid.tables.groups).0).0

-- all texts, with those of other groups
all_texts : (p : Parts) (groups : List GroupRow) → object_texts (record (rows_of p) { groups = groups }) ≡ group_texts groups + (texts_in p.objects + template_texts p.templates)
all_texts p groups = omega arith

-- ---- a new group
three : (a b c : Bool) → first ((refusal.DuplicateName when a) ∷ (refusal.TableFull when b) ∷ (refusal.TextsFull when c) ∷ []) ≡ option_and_then group_refusal (first ((group.DuplicateName when a) ∷ (group.TableFull when b) ∷ (group.TextsFull when c) ∷ []))
three true b c = refl
three false true c = refl
three false false true = refl
three false false false = refl

add_due : (p : Parts) (m : ℕ) (values : NewFilegroup) → IsWhole p → due p m (Filegroup (FilegroupAdd values)) ≡ option_and_then group_refusal (group_fault p.groups (new_group p.groups values.name values.members values.non_members) (text_room p))
add_due p m values w =
    let groups = p.groups in
    let row = new_group groups values.name values.members values.non_members in
    let grown = with_group row groups in
    let test : Bool → Bool → Bool → Option Refusal =
    λ a b c. first ((refusal.DuplicateName when a) ∷ (refusal.TableFull when b) ∷ (refusal.TextsFull when c) ∷ []) in
    let long = nat_lt most_text_bytes (object_texts (record (rows_of p) { groups = grown })) in
    let taken : is_group_named (rows_of p) values.name ≡ list_any (has_name values.name) groups = is_some-mapped group_number (find (has_name values.name) groups) ∙ is_some-find (has_name values.name) groups in
    let full : nat_lt most_groups (length grown) ≡ nat_le most_groups (length groups) = full_test most_groups (length groups) (length grown) (length-with_row group_number row groups) in
    let whole = all_texts p grown in
    let sum : group_texts grown ≡ group_bytes row + group_texts groups = sum_by-with_row group_number group_bytes row groups in
    let bytes : long ≡ nat_lt (text_room p) (group_bytes row) = room_test most_text_bytes (texts_of p) (group_bytes row) (object_texts (record (rows_of p) { groups = grown })) (few_texts p w) (omega (arith, whole, sum)) in
    ap (λ a. test a (nat_lt most_groups (length grown)) long) taken
    ∙ (ap (λ b. test (list_any (has_name values.name) groups) b long) full
    ∙ (ap (test (list_any (has_name values.name) groups) (nat_le most_groups (length groups))) bytes
    ∙ three (list_any (has_name values.name) groups) (nat_le most_groups (length groups)) (nat_lt (text_room p) (group_bytes row))))

-- by the values that were given to the table
module _ (p : Parts) (m : ℕ) (values : NewFilegroup) (lent : List ℕ) (given others : List (List ℕ)) (room : ℕ) (w : IsWhole p) (idle : IsIdle p) (after : p.last_moment ≤ m) (name_is : lent ≡ values.name) (given_is : given ≡ values.members) (others_are : others ≡ values.non_members) (room_is : room ≡ text_room p) where
  abbrev deed : Deed
  deed = Filegroup (FilegroupAdd values)

  same_row : new_group p.groups lent given others ≡ new_group p.groups values.name values.members values.non_members
  same_row =
      ap (λ n. new_group p.groups n given others) name_is
      ∙ (ap (λ texts. new_group p.groups values.name texts others) given_is ∙ ap (new_group p.groups values.name values.members) others_are)

  add_is : due p m deed ≡ option_and_then group_refusal (group_fault p.groups (new_group p.groups lent given others) room)
  add_is =
      add_due p m values w
      ∙ (ap (λ row. option_and_then group_refusal (group_fault p.groups row (text_room p))) (sym same_row)
      ∙ ap (λ r. option_and_then group_refusal (group_fault p.groups (new_group p.groups lent given others) r)) (sym room_is))

  pub group_added : (new : Parts) (groups : List GroupRow) (answer : Answer) → group_fault p.groups (new_group p.groups lent given others) room ≡ None → groups ≡ with_group (new_group p.groups lent given others) p.groups → new ≡ ended (record p { groups = groups }) m → answer ≡ record { outcome = Done None; lasting = true } → Does p new m deed answer
  group_added new groups answer may is ends e =
      retabled_as p groups p.objects w refl new m deed answer idle after (add_is ∙ ap (option_and_then group_refusal) may)
      (ap (λ gs. record (rows_of p) { groups = gs }) (ap (λ row. with_group row p.groups) (sym same_row) ∙ sym is)) refl refl ends e

  pub group_unadded : (groups : List GroupRow) (fault : GroupFault) (result : Result Answer Wanting) → IsFault fault (group_fault p.groups (new_group p.groups lent given others) room) → groups ≡ p.groups → IfOk result (λ answer. group_answer fault ≡ Some answer) → IfOk result (λ answer. Does p (record p { groups = groups }) m deed answer)
  group_unadded groups fault result is same told = refused_by p m deed groups fault _ result idle after add_is is same told

-- ---- a group by its name
pub group_missing : (p : Parts) (m : ℕ) (values : FilegroupChange) → number_named values.name p.groups ≡ None → due p m (Filegroup (FilegroupModify values)) ≡ Some refusal.NotFound
group_missing p m values h =
    ap (λ o. first ((refusal.NotFound when not (is_some o)) ∷ texts_full (record (rows_of p) { groups = with_patterns (unwrap_or o 0) values.members values.non_members p.groups }) ∷ [])) h

pub group_gone : (p : Parts) (m : ℕ) (name : List ℕ) → number_named name p.groups ≡ None → due p m (Filegroup (FilegroupDelete name)) ≡ Some refusal.NotFound
group_gone p m name h = ap (λ o. first ((refusal.NotFound when not (is_some o)) ∷ (refusal.InUse when is_used (rows_of p) (unwrap_or o 0)) ∷ [])) h

-- ---- other patterns
one : (b : Bool) → first ((refusal.TextsFull when b) ∷ []) ≡ option_and_then group_refusal (group.TextsFull when b)
one true = refl
one false = refl

modify_due : (p : Parts) (m : ℕ) (values : FilegroupChange) (n : ℕ) → IsWhole p → number_named values.name p.groups ≡ Some n → has_row group_number n p.groups ≡ true → due p m (Filegroup (FilegroupModify values)) ≡ option_and_then group_refusal (patterns_fault p.groups n values.members values.non_members (text_room p))
modify_due p m values n w h has =
    let groups = p.groups in
    let f = has_found group_number n groups has in
    let old = f.row in
    let row = regrouped values.members values.non_members old in
    let changed = with_patterns n values.members values.non_members groups in
    let whole = all_texts p changed in
    let sum : group_texts changed + group_bytes old ≡ group_texts groups + group_bytes row = sum_by-with_change group_number group_bytes n (regrouped values.members values.non_members) old groups (groups_ascend p w) f.is in
    let bytes : nat_lt most_text_bytes (object_texts (record (rows_of p) { groups = changed })) ≡ nat_lt (text_room p + group_bytes old) (group_bytes row) =
    room_other most_text_bytes (texts_of p) (group_bytes old) (group_bytes row) (object_texts (record (rows_of p) { groups = changed })) (few_texts p w) (omega (arith, whole, sum)) in
    ap (λ o. first ((refusal.NotFound when not (is_some o)) ∷ texts_full (record (rows_of p) { groups = with_patterns (unwrap_or o 0) values.members values.non_members groups }) ∷ [])) h
    ∙ (ap (λ b. first ((refusal.TextsFull when b) ∷ [])) bytes
    ∙ (one (nat_lt (text_room p + group_bytes old) (group_bytes row))
    ∙ ap (λ o. option_and_then group_refusal (option_map_or (λ (g : GroupRow). group.TextsFull when nat_lt (text_room p + group_bytes g) (group_bytes (regrouped values.members values.non_members g))) o None)) (sym f.is)))

module _ (p : Parts) (m : ℕ) (values : FilegroupChange) (lent : List ℕ) (given others : Option (List (List ℕ))) (n room : ℕ) (w : IsWhole p) (idle : IsIdle p) (after : p.last_moment ≤ m) (name_is : lent ≡ values.name) (found : Some n ≡ number_named lent p.groups) (has : has_row group_number n p.groups ≡ true) (given_is : given ≡ values.members) (others_are : others ≡ values.non_members) (room_is : room ≡ text_room p) where
  abbrev change : Deed
  change = Filegroup (FilegroupModify values)

  named : number_named values.name p.groups ≡ Some n
  named = ap (λ k. number_named k p.groups) (sym name_is) ∙ sym found

  modify_is : due p m change ≡ option_and_then group_refusal (patterns_fault p.groups n given others room)
  modify_is =
      modify_due p m values n w named has
      ∙ (ap (λ texts. option_and_then group_refusal (patterns_fault p.groups n texts values.non_members (text_room p))) (sym given_is)
      ∙ (ap (λ texts. option_and_then group_refusal (patterns_fault p.groups n given texts (text_room p))) (sym others_are)
      ∙ ap (λ r. option_and_then group_refusal (patterns_fault p.groups n given others r)) (sym room_is)))

  pub group_changed : (new : Parts) (groups : List GroupRow) (answer : Answer) → patterns_fault p.groups n given others room ≡ None → groups ≡ with_patterns n given others p.groups → new ≡ ended (record p { groups = groups }) m → answer ≡ record { outcome = Done None; lasting = true } → Does p new m change answer
  group_changed new groups answer may is ends e =
      retabled_as p groups p.objects w refl new m change answer idle after (modify_is ∙ ap (option_and_then group_refusal) may)
      (ap (λ gs. record (rows_of p) { groups = gs })
      (ap (λ o. with_patterns (unwrap_or o 0) values.members values.non_members p.groups) named
      ∙ (ap (λ texts. with_patterns n texts values.non_members p.groups) (sym given_is)
      ∙ (ap (λ texts. with_patterns n given texts p.groups) (sym others_are) ∙ sym is)))) refl refl ends e

  pub group_unchanged : (groups : List GroupRow) (fault : GroupFault) (result : Result Answer Wanting) → IsFault fault (patterns_fault p.groups n given others room) → groups ≡ p.groups → IfOk result (λ answer. group_answer fault ≡ Some answer) → IfOk result (λ answer. Does p (record p { groups = groups }) m change answer)
  group_unchanged groups fault result is same told = refused_by p m change groups fault _ result idle after modify_is is same told

-- ---- a group goes
module _ (p : Parts) (m : ℕ) (name lent : List ℕ) (n : ℕ) (name_is : lent ≡ name) (found : Some n ≡ number_named lent p.groups) where
  its : number_named name p.groups ≡ Some n
  its = ap (λ k. number_named k p.groups) (sym name_is) ∙ sym found

  delete_due : (b : Bool) → is_used (rows_of p) n ≡ b → due p m (Filegroup (FilegroupDelete name)) ≡ (refusal.InUse when b)
  delete_due b h =
      ap (λ o. first ((refusal.NotFound when not (is_some o)) ∷ (refusal.InUse when is_used (rows_of p) (unwrap_or o 0)) ∷ [])) its
      ∙ (last_check (refusal.InUse when is_used (rows_of p) n) ∙ ap (λ b. refusal.InUse when b) h)

  pub group_used : is_used (rows_of p) n ≡ true → due p m (Filegroup (FilegroupDelete name)) ≡ Some refusal.InUse
  group_used h = delete_due true h

  pub group_deleted : (new : Parts) (groups : List GroupRow) (answer : Answer) → IsWhole p → IsIdle p → p.last_moment ≤ m → is_used (rows_of p) n ≡ false → groups ≡ without_group n p.groups → new ≡ ended (record p { groups = groups }) m → answer ≡ record { outcome = Done None; lasting = true } → Does p new m (Filegroup (FilegroupDelete name)) answer
  group_deleted new groups answer w idle after unused is ends e =
      retabled_as p groups p.objects w refl new m (Filegroup (FilegroupDelete name)) answer idle after (delete_due false unused)
      (ap (λ gs. record (rows_of p) { groups = gs }) (ap (λ o. without_group (unwrap_or o 0) p.groups) its ∙ sym is)) refl refl ends e
