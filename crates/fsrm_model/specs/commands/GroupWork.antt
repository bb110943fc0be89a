-- The commands on file groups: their refusals in order, and what they do.
use Rattle.std.specs.Prelude.{ℕ, ◌||◌, Bool, true, false, not, is_some, List, [], ◌∷◌, None, unwrap_or}
use Rattle.std.specs.List.{list_any}
use Rattle.fsrm_base.specs.Numbers.{is_in}
use Rattle.fsrm_model.specs.declared.command.Ask.TheVariants.{Groups}
use Rattle.fsrm_model.specs.declared.command.FilegroupChange.{FilegroupChange}
use Rattle.fsrm_model.specs.declared.command.NewFilegroup.{NewFilegroup}
use Rattle.fsrm_model.specs.declared.command.Outcome.TheVariants.{Done, Listing}
use Rattle.fsrm_model.specs.declared.command.Refusal.TheVariants.{DuplicateName, NotFound, InUse}
use Rattle.fsrm_model.specs.declared.row.Rows.{Rows}
use Rattle.fsrm_model.specs.commands.Check.{◌when◌, groups_full, texts_full}
use Rattle.fsrm_model.specs.values.Patterns.{number_named, new_group, with_group, with_patterns, without_group}
use Rattle.fsrm_model.specs.commands.Work.{Work, asks}

-- whether a group has a name, in some spelling, and its number; 0 if there is none
abbrev pub is_group_named : Rows → List ℕ → Bool
is_group_named R name = is_some (number_named name R.groups)

abbrev pub group_at : Rows → List ℕ → ℕ
group_at R name = unwrap_or (number_named name R.groups) 0

abbrev pub group_add_work : Rows → NewFilegroup → Work
group_add_work R new =
    let group = new_group R.groups new.name new.members new.non_members in
    let after = record R { groups = with_group group R.groups } in
    asks ((DuplicateName when is_group_named R new.name) ∷ groups_full after ∷ texts_full after ∷ []) after (Done None) true

-- the lists that are given take the place of the old ones
abbrev pub group_modify_work : Rows → FilegroupChange → Work
group_modify_work R change =
    let groups = with_patterns (group_at R change.name) change.members change.non_members R.groups in
    let after = record R { groups = groups } in
    asks ((NotFound when not (is_group_named R change.name)) ∷ texts_full after ∷ []) after (Done None) true

-- whether a screen or an exception names a group
abbrev pub is_used : Rows → ℕ → Bool
is_used R number =
    list_any (λ screen. is_in screen.groups number) R.screens || list_any (λ except. is_in except.groups number) R.excepts

abbrev pub group_delete_work : Rows → List ℕ → Work
group_delete_work R name =
    let number = group_at R name in
    asks ((NotFound when not (is_group_named R name)) ∷ (InUse when is_used R number) ∷ [])
    (record R { groups = without_group number R.groups }) (Done None) true

-- a list changes nothing
abbrev pub group_list_work : Rows → Work
group_list_work R = asks [] R (Listing Groups) false
