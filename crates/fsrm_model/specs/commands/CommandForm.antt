-- What there is to say of a command by itself, as one row.
use Rattle.std.specs.Prelude.{ℕ, Bool, true, List, [], ◌∷◌, Option, Some, None}
use Rattle.fsrm_model.specs.declared.command.Deed.{Deed}
use Rattle.fsrm_model.specs.declared.row.Capacity.{Capacity}
use Rattle.fsrm_model.specs.declared.row.NodeRow.{NodeRow}
use Rattle.fsrm_model.specs.declared.row.Rows.{Rows}
use Rattle.fsrm_model.specs.commands.Entry.{Path, text_bytes}
use Rattle.fsrm_model.specs.values.Patterns.{is_object_name}
use Rattle.fsrm_model.specs.commands.Work.{Work}

-- The entry of a command in a journal: its kind, by which a reader of the journal knows the command, so that no two
-- commands have the same one; and how many bytes all its values have but the paths
pub record EntryForm : Type 0 where
  pub kind : ℕ
  pub bytes : ℕ

pub record CommandForm : Type 0 where
  -- the command without its values: two deeds are of the same command if they are the same but for these
  pub emptied : Deed
  pub paths : List Path
  -- whether all values but the paths are in their ranges
  pub legal : Bool
  -- a command that never lasts has no entry, nor has a step of a scan: what is kept of it is that the scan was finished
  pub entry : Option EntryForm
  pub work : Capacity → Rows → ℕ → Work
  -- the looks beside those for the names of its paths
  pub looks : List NodeRow → ℕ

-- What there is to say of a command that a journal keeps, and that takes no looks beside those for the names of its
-- paths: the kind of its entry, and how many bytes the entry has for all values but the paths
pub record KeptForm : Type 0 where
  pub kind : ℕ
  pub emptied : Deed
  pub paths : List Path
  pub legal : Bool
  pub bytes : ℕ
  pub work : Capacity → Rows → ℕ → Work

abbrev pub kept : KeptForm → CommandForm
kept form =
    record {
      emptied = form.emptied;
      paths = form.paths;
      legal = form.legal;
      entry = Some (record { kind = form.kind; bytes = form.bytes });
      work = form.work;
      looks = λ nodes. 0;
    }

-- one that has a path and no other value
abbrev pub on_path : ℕ → (Path → Deed) → Path → (Capacity → Rows → ℕ → Work) → CommandForm
on_path kind deed path work =
    kept (record {
      kind = kind;
      emptied = deed [];
      paths = path ∷ [];
      legal = true;
      bytes = 0;
      work = work;
    })

-- one that has the name of a group, a template or a report job and no other value
abbrev pub on_name : ℕ → (List ℕ → Deed) → List ℕ → (Capacity → Rows → ℕ → Work) → CommandForm
on_name kind deed name work =
    kept (record {
      kind = kind;
      emptied = deed [];
      paths = [];
      legal = is_object_name name;
      bytes = text_bytes name;
      work = work;
    })

-- a command that never lasts: the command without its values, its paths, and its work
abbrev pub shows : Deed → List Path → (Capacity → Rows → ℕ → Work) → CommandForm
shows emptied paths work =
    record { emptied = emptied; paths = paths; legal = true; entry = None; work = work; looks = λ nodes. 0 }
