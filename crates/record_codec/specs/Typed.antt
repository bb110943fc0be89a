-- What the types of values tell of their texts: that they are UTF-8.
use Rattle.std.specs.Prelude.{Bool, true, List, Option}
use Rattle.std.specs.List.{list_all}
use Rattle.std.specs.Option.{option_map_or}
use Rattle.std.specs.Str.{is_utf8}
use Rattle.fsrm_model.specs.commands.Entry.{Path}
use Rattle.fsrm_model.specs.declared.command.Added.{Added}
use Rattle.fsrm_model.specs.declared.row.Action.{Action}
use Rattle.record_codec.specs.Fields.{path_text}

abbrev pub all_typed : {X : Type 0} → (X → Bool) → List X → Bool
all_typed typed values = list_all typed values

abbrev pub some_typed : {X : Type 0} → (X → Bool) → Option X → Bool
some_typed typed value = option_map_or typed value true

abbrev pub action_typed : Action → Bool
action_typed action = is_utf8 action.text

abbrev pub notice_typed : Added → Bool
notice_typed notice = action_typed notice.action

abbrev pub is_path_text : Path → Bool
is_path_text path = is_utf8 (path_text path)
