-- Which commands may run out of memory.
use Rattle.std.specs.Prelude.{Bool, ◌&&◌, not, true, false, is_some}
use Rattle.fsrm_model.specs.declared.command.AutoquotaDeed.TheVariants.{Add as AutoquotaAdd}
use Rattle.fsrm_model.specs.declared.command.Deed.{Deed}
use Rattle.fsrm_model.specs.declared.command.Deed.TheVariants.{File, Usage, Quota, Template, Autoquota, Filegroup, Screen, Exception, Reports}
use Rattle.fsrm_model.specs.declared.command.ExceptionDeed.TheVariants.{Add as ExceptionAdd}
use Rattle.fsrm_model.specs.declared.command.FileOp.{FileOp}
use Rattle.fsrm_model.specs.declared.command.FileOp.TheVariants.{Mkdir, Move}
use Rattle.fsrm_model.specs.declared.command.FilegroupDeed.TheVariants.{Add as FilegroupAdd, Modify as FilegroupModify}
use Rattle.fsrm_model.specs.declared.command.QuotaDeed.TheVariants.{Add as QuotaAdd, Modify as QuotaModify}
use Rattle.fsrm_model.specs.declared.command.ReportsDeed.TheVariants.{Generate as ReportsGenerate, Add as ReportsAdd, Run as ReportsRun}
use Rattle.fsrm_model.specs.declared.command.ScreenDeed.TheVariants.{Add as ScreenAdd, Modify as ScreenModify}
use Rattle.fsrm_model.specs.declared.command.TemplateDeed.TheVariants.{Add as TemplateAdd, Modify as TemplateModify}
use Rattle.fsrm_model.specs.declared.row.Rows.{Rows}
use Rattle.fsrm_model.specs.objects.AutoApply.{template_for}
use Rattle.fsrm_model.specs.objects.Jobs.{job_named}
use Rattle.fsrm_model.specs.nodes.FileOps.{target_folder}
use Rattle.fsrm_model.specs.nodes.Leads.{is_root, leads_to_folder}
use Rattle.fsrm_model.specs.nodes.Tree.{folder_part, last_name}

-- Of the file operations: a folder is made in one that is there, and gets a quota; or a folder moves, so what is in it may
-- be summed up, and it may get a quota
abbrev pub op_may_want_memory : Rows → FileOp → Bool
op_may_want_memory R (Mkdir path owner) =
    not (is_root path) && (leads_to_folder R.nodes (folder_part path)
    && is_some (template_for R.autos (target_folder R.nodes path) (last_name path)))
op_may_want_memory R (Move from to) = leads_to_folder R.nodes from
op_may_want_memory R other = false

-- Of all commands: beside these, a folder is summed up, or an object is made or changed, and its folder is there if it has
-- one; or a report is to be made of a folder or by a job that is there. No other command can run out of memory
abbrev pub may_want_memory : Rows → Deed → Bool
may_want_memory R (File op) = op_may_want_memory R op
may_want_memory R (Usage path) = leads_to_folder R.nodes path
may_want_memory R (Quota (QuotaAdd new)) = leads_to_folder R.nodes new.path
may_want_memory R (Quota (QuotaModify change)) = leads_to_folder R.nodes change.path
may_want_memory R (Autoquota (AutoquotaAdd new)) = leads_to_folder R.nodes new.path
may_want_memory R (Screen (ScreenAdd new)) = leads_to_folder R.nodes new.path
may_want_memory R (Screen (ScreenModify change)) = leads_to_folder R.nodes change.path
may_want_memory R (Exception (ExceptionAdd new)) = leads_to_folder R.nodes new.path
may_want_memory R (Template (TemplateAdd new)) = true
may_want_memory R (Template (TemplateModify change)) = true
may_want_memory R (Filegroup (FilegroupAdd new)) = true
may_want_memory R (Filegroup (FilegroupModify change)) = true
may_want_memory R (Reports (ReportsGenerate new)) = leads_to_folder R.nodes new.scope
may_want_memory R (Reports (ReportsAdd new)) = leads_to_folder R.nodes new.scope
may_want_memory R (Reports (ReportsRun name)) = is_some (job_named R.jobs name)
may_want_memory R other = false
