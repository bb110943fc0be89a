-- Lists of refusals, of which the first one whose condition holds decides.
use Rattle.std.specs.Prelude.{nat_lt, length, Option}
use Rattle.fsrm_model.specs.declared.row.Capacity.{Capacity}
use Rattle.fsrm_model.specs.declared.row.Rows.{Rows}
use Rattle.fsrm_model.specs.declared.command.Refusal.{Refusal}
use Rattle.fsrm_model.specs.declared.command.Refusal.TheVariants.{VolumeFull, NamesFull, TableFull, TextsFull}
use Rattle.fsrm_model.specs.values.Limits.{most_quotas, most_templates, most_autos, most_groups, most_screens, most_excepts, most_jobs, most_text_bytes}
use Rattle.fsrm_model.specs.values.Texts.{object_texts}
use Rattle.fsrm_model.specs.nodes.Tree.{name_bytes}
pub use Rattle.fsrm_base.specs.Causes.{◌when◌, first}

-- the refusal, if its condition holds
abbrev pub Check : Type 0
Check = Option Refusal

-- the capacity refusals look at the rows that the effect would make
abbrev pub volume_full : Capacity → Rows → Check
volume_full K after = VolumeFull when nat_lt K.nodes (length after.nodes)

abbrev pub names_full : Capacity → Rows → Check
names_full K after = NamesFull when nat_lt K.names (name_bytes after.nodes)

abbrev pub table_full : Rows → Check
table_full after = TableFull when nat_lt most_quotas (length after.quotas)

abbrev pub templates_full : Rows → Check
templates_full after = TableFull when nat_lt most_templates (length after.templates)

abbrev pub autos_full : Rows → Check
autos_full after = TableFull when nat_lt most_autos (length after.autos)

abbrev pub groups_full : Rows → Check
groups_full after = TableFull when nat_lt most_groups (length after.groups)

abbrev pub screens_full : Rows → Check
screens_full after = TableFull when nat_lt most_screens (length after.screens)

abbrev pub excepts_full : Rows → Check
excepts_full after = TableFull when nat_lt most_excepts (length after.excepts)

abbrev pub jobs_full : Rows → Check
jobs_full after = TableFull when nat_lt most_jobs (length after.jobs)

abbrev pub texts_full : Rows → Check
texts_full after = TextsFull when nat_lt most_text_bytes (object_texts after)
