-- Which commands are valid: those whose values have their forms and ranges, that have what is required, and whose entry in a
-- journal can be spelled and isn't too long.
use Rattle.std.specs.Prelude.{ℕ, ◌&&◌, nat_le, Bool, true, List}
use Rattle.std.specs.List.{list_all}
use Rattle.std.specs.Option.{option_map_or}
use Rattle.fsrm_model.specs.declared.command.Command.{Command}
use Rattle.fsrm_model.specs.declared.command.Deed.{Deed}
use Rattle.fsrm_model.specs.declared.command.FileOp.{FileOp}
use Rattle.fsrm_model.specs.commands.Commands.{paths_of_op, paths, has_values_of_op, has_values, entry_bytes}
use Rattle.fsrm_model.specs.commands.Entry.{path_length}
use Rattle.fsrm_model.specs.values.Limits.{longest_path, longest_entry}
use Rattle.fsrm_model.specs.values.Name.{is_name}
use Rattle.fsrm_model.specs.store.Valid.{is_moment}

abbrev pub is_path : List (List ℕ) → Bool
is_path path = list_all is_name path

abbrev pub is_op : FileOp → Bool
is_op op = list_all is_path (paths_of_op op) && has_values_of_op op

abbrev pub is_deed : Deed → Bool
is_deed deed = list_all is_path (paths deed) && has_values deed

-- a path's text in an entry has at most 65,535 bytes, since two bytes tell how many
abbrev pub is_short_path : List (List ℕ) → Bool
is_short_path path = nat_le (path_length path) longest_path

-- an entry that can be spelled and that a journal takes, if the command has one
abbrev pub is_short : Deed → Bool
is_short deed =
    option_map_or (λ bytes. list_all is_short_path (paths deed) && nat_le bytes longest_entry) (entry_bytes deed) true

abbrev pub is_command : Command → Bool
is_command c = is_moment c.moment && (is_deed c.deed && is_short c.deed)
