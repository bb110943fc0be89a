-- The texts of templates and auto-apply quotas: their lists.
use Rattle.std.specs.Prelude.{ℕ, List, [], ◌∷◌, ◌++◌, flat_map, decimal, codes}
use Rattle.std.specs.Option.{option_map_or}
use Rattle.fsrm_model.specs.declared.row.AutoRow.{AutoRow}
use Rattle.fsrm_model.specs.declared.row.NodeRow.{NodeRow}
use Rattle.fsrm_model.specs.declared.row.TemplateRow.{TemplateRow}
use Rattle.fsrm_model.specs.texts.ActText.{threshold_lines}
use Rattle.fsrm_model.specs.texts.Printed.{body_line, labelled_line, path_text, type_word}
use Rattle.fsrm_model.specs.objects.Templates.{template_name, template_of}

-- a template: its limit, whether a quota of it is enforced, and its name; below that its thresholds
abbrev pub template_lines : TemplateRow → List ℕ
template_lines template =
    body_line (decimal template.limit ∷ type_word template.enforce ∷ template.name ∷ []) ++ threshold_lines template.thresholds

-- an auto-apply quota: its folder, its template, by its name, and the names that it excludes, as they were given
abbrev pub auto_lines : List NodeRow → List TemplateRow → AutoRow → List ℕ
auto_lines nodes templates auto =
    body_line (path_text nodes auto.folder ∷ [])
    ++ labelled_line (codes "template") (option_map_or template_name (template_of templates auto.template) [])
    ++ flat_map (labelled_line (codes "except")) auto.excluded
