-- The laws of what commands do, over all families.
use Rattle.std.proofs.Common.{◌≡◌, ℕ, true, Option, Some, None, refl, sym, ap, ◌∙◌, arith}
use Rattle.std.specs.Prelude.{nat_lt, option_map}
use Rattle.std.specs.Option.{option_or}
use Rattle.std.proofs.lemmas.Grind.{common_steps}
use Rattle.fsrm_model.specs.commands.Commands.{kind}
use Rattle.fsrm_model.specs.declared.command.Deed.{Deed}
use Rattle.fsrm_model.specs.declared.command.Deed.TheVariants.{File, Quota, Template, Autoquota, Admin, Filegroup, Screen, Exception, Reports}
use Rattle.record_fields.specs.Laws.{Places}
use Rattle.record_codec.specs.declared.deeds.DeedKind.{DeedKind}
use Rattle.record_codec.specs.declared.deeds.DeedKind.TheVariants.{File as FileKinds, Quota as QuotaKinds, Template as TemplateKinds, Autoquota as AutoquotaKinds, Setting as SettingKinds, Filegroup as FilegroupKinds, Screen as ScreenKinds, Exception as ExceptionKinds, Job as JobKinds}
use Rattle.record_codec.specs.declared.autoquotas.AutoquotaKind.TheVariants.{Add as AddAutoquota, Delete as DeleteAutoquota}
use Rattle.record_codec.specs.declared.exceptions.ExceptionKind.TheVariants.{Add as AddException, Delete as DeleteException}
use Rattle.record_codec.specs.declared.filegroups.FilegroupKind.TheVariants.{Add as AddFilegroup, Modify as ModifyFilegroup, Delete as DeleteFilegroup}
use Rattle.record_codec.specs.declared.files.FileKind.TheVariants.{Mkdir as MkdirFile, Create as CreateFile, Resize as ResizeFile, Touch as TouchFile, Move as MoveFile, Remove as RemoveFile}
use Rattle.record_codec.specs.declared.quotas.QuotaKind.TheVariants.{Add as AddQuota, Modify as ModifyQuota, Delete as DeleteQuota, Scan as ScanQuota, Resetpeak as ResetpeakQuota}
use Rattle.record_codec.specs.declared.reports.JobKind.TheVariants.{Add as AddJob, Delete as DeleteJob, Run as RunJob}
use Rattle.record_codec.specs.declared.screens.ScreenKind.TheVariants.{Add as AddScreen, Modify as ModifyScreen, Delete as DeleteScreen}
use Rattle.record_codec.specs.declared.settings.SettingKind.TheVariants.{Options as OptionsSetting}
use Rattle.record_codec.specs.declared.templates.TemplateKind.TheVariants.{Add as AddTemplate, Modify as ModifyTemplate, Delete as DeleteTemplate}
use Rattle.record_codec.specs.Deeds.{deed_kind_of, deed_code, deed_kind, deed_values, op_in, quota_in, template_in, autoquota_in, setting_in, filegroup_in, screen_in, exception_in, job_in}
use Rattle.record_codec.specs.Autoquotas.{autoquota_kind, autoquota_kind_in, autoquota_deed}
use Rattle.record_codec.specs.Exceptions.{exception_kind, exception_kind_in, exception_deed}
use Rattle.record_codec.specs.Filegroups.{filegroup_kind, filegroup_kind_in, filegroup_deed}
use Rattle.record_codec.specs.Files.{file_kind, file_op}
use Rattle.record_codec.specs.Quotas.{quota_kind, quota_kind_in, quota_deed}
use Rattle.record_codec.specs.Reports.{job_kind, job_kind_in, job_deed}
use Rattle.record_codec.specs.Screens.{screen_kind, screen_kind_in, screen_deed}
use Rattle.record_codec.specs.Settings.{setting_kind, setting_kind_in, setting_deed}
use Rattle.record_codec.specs.Templates.{template_kind, template_kind_in, template_deed}
use Rattle.record_codec.proofs.AutoquotaLaws.{autoquota_home, autoquota_deed_places, autoquota_own, autoquota_numbered}
use Rattle.record_codec.proofs.ExceptionLaws.{exception_home, exception_deed_places, exception_own, exception_numbered}
use Rattle.record_codec.proofs.FileLaws.{file_home, file_op_places, file_own, file_numbered}
use Rattle.record_codec.proofs.FilegroupLaws.{filegroup_home, filegroup_deed_places, filegroup_own, filegroup_numbered}
use Rattle.record_codec.proofs.QuotaLaws.{quota_home, quota_deed_places, quota_own, quota_numbered}
use Rattle.record_codec.proofs.ReportLaws.{job_home, job_deed_places, job_own, job_numbered}
use Rattle.record_codec.proofs.ScreenLaws.{screen_home, screen_deed_places, screen_own, screen_numbered}
use Rattle.record_codec.proofs.SettingLaws.{setting_home, setting_deed_places, setting_own, setting_numbered}
use Rattle.record_codec.proofs.TemplateLaws.{template_home, template_deed_places, template_own, template_numbered}
use Rattle.record_codec.proofs.KindLaws.{AreOwn, one_of_places, chosen}

-- ---- the bytes of the kinds
-- each is the kind of its byte
pub deed_known : (k : DeedKind) → (deed_kind_of (deed_code k) ≡ Some k) × (nat_lt (deed_code k) 256 ≡ true)
deed_known (FileKinds MkdirFile) = (refl, refl)
deed_known (FileKinds CreateFile) = (refl, refl)
deed_known (FileKinds ResizeFile) = (refl, refl)
deed_known (FileKinds TouchFile) = (refl, refl)
deed_known (FileKinds MoveFile) = (refl, refl)
deed_known (FileKinds RemoveFile) = (refl, refl)
deed_known (QuotaKinds AddQuota) = (refl, refl)
deed_known (QuotaKinds ModifyQuota) = (refl, refl)
deed_known (QuotaKinds DeleteQuota) = (refl, refl)
deed_known (QuotaKinds ScanQuota) = (refl, refl)
deed_known (QuotaKinds ResetpeakQuota) = (refl, refl)
deed_known (TemplateKinds AddTemplate) = (refl, refl)
deed_known (TemplateKinds ModifyTemplate) = (refl, refl)
deed_known (TemplateKinds DeleteTemplate) = (refl, refl)
deed_known (AutoquotaKinds AddAutoquota) = (refl, refl)
deed_known (AutoquotaKinds DeleteAutoquota) = (refl, refl)
deed_known (SettingKinds OptionsSetting) = (refl, refl)
deed_known (FilegroupKinds AddFilegroup) = (refl, refl)
deed_known (FilegroupKinds ModifyFilegroup) = (refl, refl)
deed_known (FilegroupKinds DeleteFilegroup) = (refl, refl)
deed_known (ScreenKinds AddScreen) = (refl, refl)
deed_known (ScreenKinds ModifyScreen) = (refl, refl)
deed_known (ScreenKinds DeleteScreen) = (refl, refl)
deed_known (ExceptionKinds AddException) = (refl, refl)
deed_known (ExceptionKinds DeleteException) = (refl, refl)
deed_known (JobKinds AddJob) = (refl, refl)
deed_known (JobKinds DeleteJob) = (refl, refl)
deed_known (JobKinds RunJob) = (refl, refl)

abbrev IsCode : ℕ → DeedKind → Type 0
IsCode n k = deed_code k ≡ n

-- a byte of a family's, or of a later one
pub earlier : {F K : Type 0} (P : K → Type 0) (of_family : F → K) (o : Option F) (rest : Option K) (k : K) → ((f : F) → o ≡ Some f → P (of_family f)) → (rest ≡ Some k → P k)
    → option_or (option_map of_family o) rest ≡ Some k → P k
earlier P of_family None rest k here later e = later e
earlier P of_family (Some f) rest k here later e = chosen P true (of_family f) k rest (λ t. here f refl) later e

pub deed_home : (n : ℕ) (k : DeedKind) → deed_kind_of n ≡ Some k → deed_code k ≡ n
deed_home n k =
    earlier (IsCode n) FileKinds (file_kind n) _ k (file_home n)
    (earlier (IsCode n) QuotaKinds (quota_kind n) _ k (quota_home n)
    (earlier (IsCode n) TemplateKinds (template_kind n) _ k (template_home n)
    (earlier (IsCode n) AutoquotaKinds (autoquota_kind n) _ k (autoquota_home n)
    (earlier (IsCode n) SettingKinds (setting_kind n) _ k (setting_home n)
    (earlier (IsCode n) FilegroupKinds (filegroup_kind n) _ k (filegroup_home n)
    (earlier (IsCode n) ScreenKinds (screen_kind n) _ k (screen_home n)
    (earlier (IsCode n) ExceptionKinds (exception_kind n) _ k (exception_home n)
    (earlier (IsCode n) JobKinds (job_kind n) _ k (job_home n) (λ none. absurd (cc none))))))))))

-- ---- their values
pub deed_places : (k : DeedKind) → Places (deed_values k)
deed_places (FileKinds k) = one_of_places (λ deed. File deed) op_in (file_op k) (file_op_places k) (λ deed. refl) (grind (arith, common_steps))
deed_places (QuotaKinds k) = one_of_places (λ deed. Quota deed) quota_in (quota_deed k) (quota_deed_places k) (λ deed. refl) (grind (arith, common_steps))
deed_places (TemplateKinds k) = one_of_places (λ deed. Template deed) template_in (template_deed k) (template_deed_places k) (λ deed. refl) (grind (arith, common_steps))
deed_places (AutoquotaKinds k) = one_of_places (λ deed. Autoquota deed) autoquota_in (autoquota_deed k) (autoquota_deed_places k) (λ deed. refl) (grind (arith, common_steps))
deed_places (SettingKinds k) = one_of_places (λ deed. Admin deed) setting_in (setting_deed k) (setting_deed_places k) (λ deed. refl) (grind (arith, common_steps))
deed_places (FilegroupKinds k) = one_of_places (λ deed. Filegroup deed) filegroup_in (filegroup_deed k) (filegroup_deed_places k) (λ deed. refl) (grind (arith, common_steps))
deed_places (ScreenKinds k) = one_of_places (λ deed. Screen deed) screen_in (screen_deed k) (screen_deed_places k) (λ deed. refl) (grind (arith, common_steps))
deed_places (ExceptionKinds k) = one_of_places (λ deed. Exception deed) exception_in (exception_deed k) (exception_deed_places k) (λ deed. refl) (grind (arith, common_steps))
deed_places (JobKinds k) = one_of_places (λ deed. Reports deed) job_in (job_deed k) (job_deed_places k) (λ deed. refl) (grind (arith, common_steps))

pub deed_own : AreOwn deed_values deed_kind
deed_own (FileKinds k) (File op) legal = ap (λ j. Some (FileKinds j)) (file_own k op legal)
deed_own (QuotaKinds k) (Quota deed) legal = ap (option_map QuotaKinds) (quota_own k deed legal)
deed_own (TemplateKinds k) (Template deed) legal = ap (option_map TemplateKinds) (template_own k deed legal)
deed_own (AutoquotaKinds k) (Autoquota deed) legal = ap (option_map AutoquotaKinds) (autoquota_own k deed legal)
deed_own (SettingKinds k) (Admin deed) legal = ap (option_map SettingKinds) (setting_own k deed legal)
deed_own (FilegroupKinds k) (Filegroup deed) legal = ap (option_map FilegroupKinds) (filegroup_own k deed legal)
deed_own (ScreenKinds k) (Screen deed) legal = ap (option_map ScreenKinds) (screen_own k deed legal)
deed_own (ExceptionKinds k) (Exception deed) legal = ap (option_map ExceptionKinds) (exception_own k deed legal)
deed_own (JobKinds k) (Reports deed) legal = ap (option_map JobKinds) (job_own k deed legal)
deed_own k other legal = absurd (cc legal)

-- ---- the machine's own kinds
numbered : {F : Type 0} (of_family : F → DeedKind) (o : Option F) → option_map deed_code (option_map of_family o) ≡ option_map (λ f. deed_code (of_family f)) o
numbered of_family None = refl
numbered of_family (Some f) = refl

pub deed_numbered : (deed : Deed) → option_map deed_code (deed_kind deed) ≡ kind deed
deed_numbered (File op) = sym (file_numbered op)
deed_numbered (Quota deed) = numbered QuotaKinds (quota_kind_in deed) ∙ sym (quota_numbered deed)
deed_numbered (Template deed) = numbered TemplateKinds (template_kind_in deed) ∙ sym (template_numbered deed)
deed_numbered (Autoquota deed) = numbered AutoquotaKinds (autoquota_kind_in deed) ∙ sym (autoquota_numbered deed)
deed_numbered (Admin deed) = numbered SettingKinds (setting_kind_in deed) ∙ sym (setting_numbered deed)
deed_numbered (Filegroup deed) = numbered FilegroupKinds (filegroup_kind_in deed) ∙ sym (filegroup_numbered deed)
deed_numbered (Screen deed) = numbered ScreenKinds (screen_kind_in deed) ∙ sym (screen_numbered deed)
deed_numbered (Exception deed) = numbered ExceptionKinds (exception_kind_in deed) ∙ sym (exception_numbered deed)
deed_numbered (Reports deed) = numbered JobKinds (job_kind_in deed) ∙ sym (job_numbered deed)
deed_numbered other = refl
