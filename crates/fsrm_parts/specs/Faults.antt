-- Faults of the tree and of the tables as refusals of a command.
use Rattle.std.specs.Prelude.{ℕ, false, not, List, [], ◌∷◌, Option, Some, None, option_map}
use Rattle.file_groups.specs.declared.answer.GroupFault.{GroupFault}
use Rattle.file_groups.specs.declared.answer.GroupFault.TheVariants as group
use Rattle.fsrm_model.specs.declared.command.Answer.{Answer}
use Rattle.fsrm_model.specs.declared.command.Outcome.TheVariants.{Refused}
use Rattle.fsrm_model.specs.declared.command.Refusal.{Refusal}
use Rattle.fsrm_model.specs.declared.command.Refusal.TheVariants as refusal
use Rattle.fsrm_model.specs.commands.Check.{◌when◌, first}
use Rattle.fsrm_model.specs.nodes.FileOps.{target_folder}
use Rattle.fsrm_model.specs.nodes.Leads.{is_root, leads_to_folder}
use Rattle.fsrm_model.specs.nodes.Tree.{folder_part, last_name}
use Rattle.fsrm_objects.specs.declared.answer.ObjectFault.{ObjectFault}
use Rattle.fsrm_objects.specs.declared.answer.ObjectFault.TheVariants as object
use Rattle.quota_usage.specs.declared.change.Exceeded.{Exceeded}
use Rattle.templates.specs.declared.answer.TemplateFault.{TemplateFault}
use Rattle.templates.specs.declared.answer.TemplateFault.TheVariants as template
use Rattle.volume_tree.specs.declared.answer.TreeFault.{TreeFault}
use Rattle.volume_tree.specs.declared.answer.TreeFault.TheVariants.{AlreadyExists, InvalidMove, NotEmpty, VolumeFull, NamesFull}
use Rattle.volume_tree.specs.Volume.{Volume, new_fault}

abbrev pub refusal_of : TreeFault → Refusal
refusal_of AlreadyExists = refusal.AlreadyExists
refusal_of InvalidMove = refusal.InvalidMove
refusal_of NotEmpty = refusal.NotEmpty
refusal_of VolumeFull = refusal.VolumeFull
refusal_of NamesFull = refusal.NamesFull

-- the answer of a refused command that leaves nothing
abbrev pub refused_answer : Refusal → Answer
refused_answer refusal = record { outcome = Refused refusal; lasting = false }

-- why no node can be made at a path: it names no place, or the tree can't hold the node there
abbrev pub new_refusal : Volume → List (List ℕ) → Option Refusal
new_refusal v path =
    first ((refusal.AlreadyExists when is_root path)
    ∷ (refusal.PathNotFound when not (leads_to_folder v.nodes (folder_part path)))
    ∷ option_map refusal_of (new_fault v (target_folder v.nodes path) (last_name path)) ∷ [])

-- ---- the same of the tables. A lack of memory is no refusal
abbrev pub table_refusal : ObjectFault → Option Refusal
table_refusal object.AlreadyExists = Some refusal.AlreadyExists
table_refusal object.InvalidCombination = Some refusal.InvalidCombination
table_refusal object.DuplicateName = Some refusal.DuplicateName
table_refusal object.OutOfRange = Some refusal.OutOfRange
table_refusal object.TableFull = Some refusal.TableFull
table_refusal object.TextsFull = Some refusal.TextsFull
table_refusal object.NoMemory = None

abbrev pub table_answer : ObjectFault → Option Answer
table_answer fault = option_map refused_answer (table_refusal fault)

-- ---- and of the table of groups
abbrev pub group_refusal : GroupFault → Option Refusal
group_refusal group.DuplicateName = Some refusal.DuplicateName
group_refusal group.TableFull = Some refusal.TableFull
group_refusal group.TextsFull = Some refusal.TextsFull
group_refusal group.NoMemory = None

abbrev pub group_answer : GroupFault → Option Answer
group_answer fault = option_map refused_answer (group_refusal fault)

-- ---- and of the tables of templates and auto-apply quotas
abbrev pub template_refusal : TemplateFault → Option Refusal
template_refusal template.DuplicateName = Some refusal.DuplicateName
template_refusal template.AlreadyExists = Some refusal.AlreadyExists
template_refusal template.InUse = Some refusal.InUse
template_refusal template.TableFull = Some refusal.TableFull
template_refusal template.TextsFull = Some refusal.TextsFull
template_refusal template.NoMemory = None

abbrev pub template_answer : TemplateFault → Option Answer
template_answer fault = option_map refused_answer (template_refusal fault)

-- ---- and of a quota
-- the refusal by a quota
abbrev pub exceeded_refusal : Exceeded → Refusal
exceeded_refusal exceeded = refusal.QuotaExceeded exceeded.folder exceeded.would exceeded.limit
