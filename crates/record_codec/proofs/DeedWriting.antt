-- What commands do has a spelling if its values are legal, of the length that the definitions count.
use Rattle.std.proofs.Common.{◌≡◌, ℕ, ◌+◌, ◌≤◌, Bool, true, List, [], ◌++◌, length, Option, Some, None, refl, ◌∙◌, arith}
use Rattle.std.specs.Prelude.{◌&&◌, nat_le, is_some, sum_by, option_map}
use Rattle.std.specs.List.{list_all}
use Rattle.std.specs.Option.{option_map_or}
use Rattle.std.proofs.lemmas.Bool.{leb-true}
use Rattle.fsrm_base.proofs.TestLaws.{both}
use Rattle.fsrm_model.specs.commands.Commands.{kind, paths, more_bytes, form_of_admin, form_of_autoquota, form_of_exception, form_of_filegroup, form_of_quota, form_of_reports, form_of_screen, form_of_template}
use Rattle.fsrm_model.specs.commands.Entry.{path_bytes}
use Rattle.fsrm_model.specs.declared.command.Deed.{Deed}
use Rattle.fsrm_model.specs.declared.command.Deed.TheVariants.{File, Quota, Template, Autoquota, Admin, Filegroup, Screen, Exception, Reports}
use Rattle.fsrm_model.specs.store.Valued.{is_path, is_deed, is_short, is_short_path}
use Rattle.fsrm_model.specs.values.Limits.{longest_entry}
use Rattle.record_fields.specs.Formats.{Format, number_spelled}
use Rattle.record_codec.specs.declared.deeds.DeedKind.{DeedKind}
use Rattle.record_codec.specs.declared.deeds.DeedKind.TheVariants.{Quota as QuotaKinds, Template as TemplateKinds, Autoquota as AutoquotaKinds, Setting as SettingKinds, Filegroup as FilegroupKinds, Screen as ScreenKinds, Exception as ExceptionKinds, Job as JobKinds}
use Rattle.record_codec.specs.Deeds.{deed_code, deed_kind, deed_values, deed_spelled}
use Rattle.record_codec.specs.Autoquotas.{autoquota_kind_in, autoquota_deed, autoquota_spelled_as}
use Rattle.record_codec.specs.Exceptions.{exception_kind_in, exception_deed, exception_spelled_as}
use Rattle.record_codec.specs.Filegroups.{filegroup_kind_in, filegroup_deed, filegroup_spelled_as}
use Rattle.record_codec.specs.Quotas.{quota_kind_in, quota_deed, quota_spelled_as}
use Rattle.record_codec.specs.Reports.{job_kind_in, job_deed, job_spelled_as}
use Rattle.record_codec.specs.Screens.{screen_kind_in, screen_deed, screen_spelled_as}
use Rattle.record_codec.specs.Settings.{setting_kind_in, setting_deed, setting_spelled_as}
use Rattle.record_codec.specs.Templates.{template_kind_in, template_deed, template_spelled_as}
use Rattle.record_codec.specs.Writing.{deed_typed}
use Rattle.record_codec.proofs.AutoquotaWriting.{autoquota_legal, autoquota_long}
use Rattle.record_codec.proofs.ExceptionWriting.{exception_legal, exception_long}
use Rattle.record_codec.proofs.FileWriting.{file_legal, file_bytes}
use Rattle.record_codec.proofs.FilegroupWriting.{filegroup_legal, filegroup_long}
use Rattle.record_codec.proofs.QuotaWriting.{quota_legal, quota_long}
use Rattle.record_codec.proofs.ReportWriting.{job_legal, job_long}
use Rattle.record_codec.proofs.ScreenWriting.{screen_legal, screen_long}
use Rattle.record_codec.proofs.SettingLaws.{setting_legal, setting_long}
use Rattle.record_codec.proofs.TemplateWriting.{template_legal, template_long}

-- what is known of one that is short
pub short_of : (deed : Deed) → is_some (kind deed) ≡ true → is_short deed ≡ true
    → (list_all is_short_path (paths deed) ≡ true) × (8 + (1 + (sum_by path_bytes (paths deed) + more_bytes deed)) ≤ longest_entry)
short_of deed there short =
    let bytes = 8 + (1 + (sum_by path_bytes (paths deed) + more_bytes deed)) in
    let s = both (list_all is_short_path (paths deed)) (nat_le bytes longest_entry) (tested (list_all is_short_path (paths deed)) (λ b. nat_le b longest_entry) bytes (kind deed) there short) in
    (s.0, leb-true bytes longest_entry s.1)
  where
    tested : (first : Bool) (test : ℕ → Bool) (bytes : ℕ) (o : Option ℕ) → is_some o ≡ true → option_map_or (λ b. first && test b) (option_map (λ (k : ℕ). bytes) o) true ≡ true → (first && test bytes) ≡ true
    tested first test bytes None there is = absurd (cc there)
    tested first test bytes (Some n) there is = is

-- ---- of a family
in_there : {F : Type 0} (of_family : F → DeedKind) (o : Option F) → is_some (option_map of_family o) ≡ true → is_some o ≡ true
in_there of_family None there = absurd (cc there)
in_there of_family (Some k) there = refl

-- whether a deed's values are legal, if it has a kind
abbrev pub deed_is_legal : Deed → Bool
deed_is_legal deed = option_map_or (λ k. (deed_values k).legal deed) (deed_kind deed) true

in_family : {F D : Type 0} (of_family : F → DeedKind) (format : F → Format D) (deed : Deed) (own : D) (o : Option F) → ((k : F) → (deed_values (of_family k)).legal deed ≡ (format k).legal own)
    → option_map_or (λ k. (format k).legal own) o true ≡ true → option_map_or (λ k. (deed_values k).legal deed) (option_map of_family o) true ≡ true
in_family of_family format deed own None same legal = refl
in_family of_family format deed own (Some k) same legal = same k ∙ legal

spelled_so : {F : Type 0} (of_family : F → DeedKind) (f : F → List ℕ) (g : DeedKind → List ℕ) (o : Option F) → ((k : F) → f k ≡ g (of_family k)) → option_map_or f o [] ≡ option_map_or g (option_map of_family o) []
spelled_so of_family f g None same = refl
spelled_so of_family f g (Some k) same = same k

-- ---- over all families
pub deed_legal : (deed : Deed) → is_some (kind deed) ≡ true → is_deed deed ≡ true → is_short deed ≡ true → deed_typed deed ≡ true → deed_is_legal deed ≡ true
deed_legal (File op) kinds legal short typed =
    let s = short_of (File op) kinds short in
    file_legal op legal s.0 typed
deed_legal (Quota deed) kinds legal short typed =
    let s = short_of (Quota deed) kinds short in
    let l = both (list_all is_path (form_of_quota deed).paths) (form_of_quota deed).legal legal in
    in_family QuotaKinds quota_deed (Quota deed) deed (quota_kind_in deed) (λ k. refl) (quota_legal deed l.0 s.0 l.1 typed (omega (arith, s.1)))
deed_legal (Template deed) kinds legal short typed =
    let s = short_of (Template deed) kinds short in
    let l = both (list_all is_path (form_of_template deed).paths) (form_of_template deed).legal legal in
    in_family TemplateKinds template_deed (Template deed) deed (template_kind_in deed) (λ k. refl) (template_legal deed l.1 typed (omega (arith, s.1)))
deed_legal (Autoquota deed) kinds legal short typed =
    let s = short_of (Autoquota deed) kinds short in
    let l = both (list_all is_path (form_of_autoquota deed).paths) (form_of_autoquota deed).legal legal in
    in_family AutoquotaKinds autoquota_deed (Autoquota deed) deed (autoquota_kind_in deed) (λ k. refl) (autoquota_legal deed l.0 s.0 l.1 typed)
deed_legal (Admin deed) kinds legal short typed =
    let l = both (list_all is_path (form_of_admin deed).paths) (form_of_admin deed).legal legal in
    in_family SettingKinds setting_deed (Admin deed) deed (setting_kind_in deed) (λ k. refl) (setting_legal deed l.1)
deed_legal (Filegroup deed) kinds legal short typed =
    let l = both (list_all is_path (form_of_filegroup deed).paths) (form_of_filegroup deed).legal legal in
    in_family FilegroupKinds filegroup_deed (Filegroup deed) deed (filegroup_kind_in deed) (λ k. refl) (filegroup_legal deed l.1 typed)
deed_legal (Screen deed) kinds legal short typed =
    let s = short_of (Screen deed) kinds short in
    let l = both (list_all is_path (form_of_screen deed).paths) (form_of_screen deed).legal legal in
    in_family ScreenKinds screen_deed (Screen deed) deed (screen_kind_in deed) (λ k. refl) (screen_legal deed l.0 s.0 l.1 typed (omega (arith, s.1)))
deed_legal (Exception deed) kinds legal short typed =
    let s = short_of (Exception deed) kinds short in
    let l = both (list_all is_path (form_of_exception deed).paths) (form_of_exception deed).legal legal in
    in_family ExceptionKinds exception_deed (Exception deed) deed (exception_kind_in deed) (λ k. refl) (exception_legal deed l.0 s.0 l.1 typed (omega (arith, s.1)))
deed_legal (Reports deed) kinds legal short typed =
    let s = short_of (Reports deed) kinds short in
    let l = both (list_all is_path (form_of_reports deed).paths) (form_of_reports deed).legal legal in
    in_family JobKinds job_deed (Reports deed) deed (job_kind_in deed) (λ k. refl) (job_legal deed l.0 s.0 l.1 typed)
deed_legal other kinds legal short typed = refl

pub deed_long : (deed : Deed) → is_some (deed_kind deed) ≡ true → length (deed_spelled deed) ≡ 1 + (sum_by path_bytes (paths deed) + more_bytes deed)
deed_long (File op) there = file_bytes op
deed_long (Quota deed) there = quota_long deed (in_there QuotaKinds (quota_kind_in deed) there)
deed_long (Template deed) there = template_long deed (in_there TemplateKinds (template_kind_in deed) there)
deed_long (Autoquota deed) there = autoquota_long deed (in_there AutoquotaKinds (autoquota_kind_in deed) there)
deed_long (Admin deed) there = setting_long deed (in_there SettingKinds (setting_kind_in deed) there)
deed_long (Filegroup deed) there = filegroup_long deed (in_there FilegroupKinds (filegroup_kind_in deed) there)
deed_long (Screen deed) there = screen_long deed (in_there ScreenKinds (screen_kind_in deed) there)
deed_long (Exception deed) there = exception_long deed (in_there ExceptionKinds (exception_kind_in deed) there)
deed_long (Reports deed) there = job_long deed (in_there JobKinds (job_kind_in deed) there)
deed_long other there = absurd (cc there)

pub deed_body : (deed : Deed) → deed_spelled deed ≡ option_map_or (λ k. number_spelled 1 (deed_code k) ++ (deed_values k).spell deed) (deed_kind deed) []
deed_body (File op) = refl
deed_body (Quota deed) = spelled_so QuotaKinds (quota_spelled_as deed) (λ k. number_spelled 1 (deed_code k) ++ (deed_values k).spell (Quota deed)) (quota_kind_in deed) (λ k. refl)
deed_body (Template deed) = spelled_so TemplateKinds (template_spelled_as deed) (λ k. number_spelled 1 (deed_code k) ++ (deed_values k).spell (Template deed)) (template_kind_in deed) (λ k. refl)
deed_body (Autoquota deed) = spelled_so AutoquotaKinds (autoquota_spelled_as deed) (λ k. number_spelled 1 (deed_code k) ++ (deed_values k).spell (Autoquota deed)) (autoquota_kind_in deed) (λ k. refl)
deed_body (Admin deed) = spelled_so SettingKinds (setting_spelled_as deed) (λ k. number_spelled 1 (deed_code k) ++ (deed_values k).spell (Admin deed)) (setting_kind_in deed) (λ k. refl)
deed_body (Filegroup deed) = spelled_so FilegroupKinds (filegroup_spelled_as deed) (λ k. number_spelled 1 (deed_code k) ++ (deed_values k).spell (Filegroup deed)) (filegroup_kind_in deed) (λ k. refl)
deed_body (Screen deed) = spelled_so ScreenKinds (screen_spelled_as deed) (λ k. number_spelled 1 (deed_code k) ++ (deed_values k).spell (Screen deed)) (screen_kind_in deed) (λ k. refl)
deed_body (Exception deed) = spelled_so ExceptionKinds (exception_spelled_as deed) (λ k. number_spelled 1 (deed_code k) ++ (deed_values k).spell (Exception deed)) (exception_kind_in deed) (λ k. refl)
deed_body (Reports deed) = spelled_so JobKinds (job_spelled_as deed) (λ k. number_spelled 1 (deed_code k) ++ (deed_values k).spell (Reports deed)) (job_kind_in deed) (λ k. refl)
deed_body other = refl
