-- Which replies may be long.
use Rattle.std.specs.Prelude.{Bool, true, false}
use Rattle.fsrm_model.specs.declared.command.Deed.{Deed}
use Rattle.fsrm_model.specs.declared.command.Deed.TheVariants.{Usage, Quota, Template, Autoquota, Filegroup, Screen, Exception, Reports, Admin}
use Rattle.fsrm_model.specs.declared.command.QuotaDeed.TheVariants.{List as ListQuotas}
use Rattle.fsrm_model.specs.declared.command.TemplateDeed.TheVariants.{List as ListTemplates}
use Rattle.fsrm_model.specs.declared.command.AutoquotaDeed.TheVariants.{List as ListAutoquotas}
use Rattle.fsrm_model.specs.declared.command.FilegroupDeed.TheVariants.{List as ListFilegroups}
use Rattle.fsrm_model.specs.declared.command.ScreenDeed.TheVariants.{List as ListScreens}
use Rattle.fsrm_model.specs.declared.command.ExceptionDeed.TheVariants.{List as ListExceptions}
use Rattle.fsrm_model.specs.declared.command.ReportsDeed.TheVariants.{List as ListJobs, Generate, Run}
use Rattle.fsrm_model.specs.declared.command.AdminDeed.TheVariants.{List as ListOptions, Log}

-- whether a command asks for a list, a sum or a report
abbrev pub is_long : Deed → Bool
is_long (Usage path) = true
is_long (Quota (ListQuotas path)) = true
is_long (Template ListTemplates) = true
is_long (Autoquota ListAutoquotas) = true
is_long (Filegroup ListFilegroups) = true
is_long (Screen ListScreens) = true
is_long (Exception ListExceptions) = true
is_long (Reports (Generate ask)) = true
is_long (Reports (Run name)) = true
is_long (Reports ListJobs) = true
is_long (Admin ListOptions) = true
is_long (Admin Log) = true
is_long other = false
