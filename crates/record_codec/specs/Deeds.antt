-- What commands do, by the families that they belong to: which of it an entry keeps, and how this is spelled.
use Rattle.std.specs.Prelude.{ℕ, List, [], Option, Some, None, option_map}
use Rattle.std.specs.Option.{option_or}
use Rattle.fsrm_model.specs.declared.command.Deed.{Deed}
use Rattle.fsrm_model.specs.declared.command.Deed.TheVariants.{File, Quota, Template, Autoquota, Admin, Filegroup, Screen, Exception, Reports}
use Rattle.fsrm_model.specs.declared.command.AdminDeed.{AdminDeed}
use Rattle.fsrm_model.specs.declared.command.AutoquotaDeed.{AutoquotaDeed}
use Rattle.fsrm_model.specs.declared.command.ExceptionDeed.{ExceptionDeed}
use Rattle.fsrm_model.specs.declared.command.FileOp.{FileOp}
use Rattle.fsrm_model.specs.declared.command.FilegroupDeed.{FilegroupDeed}
use Rattle.fsrm_model.specs.declared.command.QuotaDeed.{QuotaDeed}
use Rattle.fsrm_model.specs.declared.command.ReportsDeed.{ReportsDeed}
use Rattle.fsrm_model.specs.declared.command.ScreenDeed.{ScreenDeed}
use Rattle.fsrm_model.specs.declared.command.TemplateDeed.{TemplateDeed}
use Rattle.record_fields.specs.Formats.{Format}
use Rattle.record_codec.specs.declared.deeds.DeedKind.{DeedKind}
use Rattle.record_codec.specs.declared.deeds.DeedKind.TheVariants.{File as FileKinds, Quota as QuotaKinds, Template as TemplateKinds, Autoquota as AutoquotaKinds, Setting as SettingKinds, Filegroup as FilegroupKinds, Screen as ScreenKinds, Exception as ExceptionKinds, Job as JobKinds}
use Rattle.record_codec.specs.Autoquotas.{autoquota_kind, autoquota_code, autoquota_kind_in, autoquota_deed, autoquota_spelled}
use Rattle.record_codec.specs.Exceptions.{exception_kind, exception_code, exception_kind_in, exception_deed, exception_spelled}
use Rattle.record_codec.specs.Filegroups.{filegroup_kind, filegroup_code, filegroup_kind_in, filegroup_deed, filegroup_spelled}
use Rattle.record_codec.specs.Files.{file_kind, file_code, file_kind_in, file_op, file_spelled}
use Rattle.record_codec.specs.Quotas.{quota_kind, quota_code, quota_kind_in, quota_deed, quota_spelled}
use Rattle.record_codec.specs.Reports.{job_kind, job_code, job_kind_in, job_deed, job_spelled}
use Rattle.record_codec.specs.Screens.{screen_kind, screen_code, screen_kind_in, screen_deed, screen_spelled}
use Rattle.record_codec.specs.Settings.{setting_kind, setting_code, setting_kind_in, setting_deed, setting_spelled}
use Rattle.record_codec.specs.Templates.{template_kind, template_code, template_kind_in, template_deed, template_spelled}
use Rattle.record_codec.specs.Kinds.{one_of}

-- the kind that a number means, if it is one of a deed
abbrev pub deed_kind_of : ℕ → Option DeedKind
deed_kind_of n =
    option_or (option_map FileKinds (file_kind n))
    (option_or (option_map QuotaKinds (quota_kind n))
    (option_or (option_map TemplateKinds (template_kind n))
    (option_or (option_map AutoquotaKinds (autoquota_kind n))
    (option_or (option_map SettingKinds (setting_kind n))
    (option_or (option_map FilegroupKinds (filegroup_kind n))
    (option_or (option_map ScreenKinds (screen_kind n))
    (option_or (option_map ExceptionKinds (exception_kind n))
    (option_or (option_map JobKinds (job_kind n)) None))))))))

abbrev pub deed_code : DeedKind → ℕ
deed_code (FileKinds k) = file_code k
deed_code (QuotaKinds k) = quota_code k
deed_code (TemplateKinds k) = template_code k
deed_code (AutoquotaKinds k) = autoquota_code k
deed_code (SettingKinds k) = setting_code k
deed_code (FilegroupKinds k) = filegroup_code k
deed_code (ScreenKinds k) = screen_code k
deed_code (ExceptionKinds k) = exception_code k
deed_code (JobKinds k) = job_code k

-- the kind of a deed, if its entry has one
abbrev pub deed_kind : Deed → Option DeedKind
deed_kind (File op) = Some (FileKinds (file_kind_in op))
deed_kind (Quota deed) = option_map QuotaKinds (quota_kind_in deed)
deed_kind (Template deed) = option_map TemplateKinds (template_kind_in deed)
deed_kind (Autoquota deed) = option_map AutoquotaKinds (autoquota_kind_in deed)
deed_kind (Admin deed) = option_map SettingKinds (setting_kind_in deed)
deed_kind (Filegroup deed) = option_map FilegroupKinds (filegroup_kind_in deed)
deed_kind (Screen deed) = option_map ScreenKinds (screen_kind_in deed)
deed_kind (Exception deed) = option_map ExceptionKinds (exception_kind_in deed)
deed_kind (Reports deed) = option_map JobKinds (job_kind_in deed)
deed_kind other = None

-- ---- the values of each kind
abbrev pub op_in : Deed → Option FileOp
op_in (File deed) = Some deed
op_in other = None

abbrev pub quota_in : Deed → Option QuotaDeed
quota_in (Quota deed) = Some deed
quota_in other = None

abbrev pub template_in : Deed → Option TemplateDeed
template_in (Template deed) = Some deed
template_in other = None

abbrev pub autoquota_in : Deed → Option AutoquotaDeed
autoquota_in (Autoquota deed) = Some deed
autoquota_in other = None

abbrev pub setting_in : Deed → Option AdminDeed
setting_in (Admin deed) = Some deed
setting_in other = None

abbrev pub filegroup_in : Deed → Option FilegroupDeed
filegroup_in (Filegroup deed) = Some deed
filegroup_in other = None

abbrev pub screen_in : Deed → Option ScreenDeed
screen_in (Screen deed) = Some deed
screen_in other = None

abbrev pub exception_in : Deed → Option ExceptionDeed
exception_in (Exception deed) = Some deed
exception_in other = None

abbrev pub job_in : Deed → Option ReportsDeed
job_in (Reports deed) = Some deed
job_in other = None

abbrev pub deed_values : DeedKind → Format Deed
deed_values (FileKinds k) = one_of (λ deed. File deed) op_in (file_op k)
deed_values (QuotaKinds k) = one_of (λ deed. Quota deed) quota_in (quota_deed k)
deed_values (TemplateKinds k) = one_of (λ deed. Template deed) template_in (template_deed k)
deed_values (AutoquotaKinds k) = one_of (λ deed. Autoquota deed) autoquota_in (autoquota_deed k)
deed_values (SettingKinds k) = one_of (λ deed. Admin deed) setting_in (setting_deed k)
deed_values (FilegroupKinds k) = one_of (λ deed. Filegroup deed) filegroup_in (filegroup_deed k)
deed_values (ScreenKinds k) = one_of (λ deed. Screen deed) screen_in (screen_deed k)
deed_values (ExceptionKinds k) = one_of (λ deed. Exception deed) exception_in (exception_deed k)
deed_values (JobKinds k) = one_of (λ deed. Reports deed) job_in (job_deed k)

-- a deed after its kind, if its entry has one
abbrev pub deed_spelled : Deed → List ℕ
deed_spelled (File deed) = file_spelled deed
deed_spelled (Quota deed) = quota_spelled deed
deed_spelled (Template deed) = template_spelled deed
deed_spelled (Autoquota deed) = autoquota_spelled deed
deed_spelled (Admin deed) = setting_spelled deed
deed_spelled (Filegroup deed) = filegroup_spelled deed
deed_spelled (Screen deed) = screen_spelled deed
deed_spelled (Exception deed) = exception_spelled deed
deed_spelled (Reports deed) = job_spelled deed
deed_spelled other = []
