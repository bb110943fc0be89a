-- What has a spelling that a journal takes is valid, and what is valid has one.
use Rattle.std.proofs.Common.{◌≡◌, ℕ, ◌+◌, ◌≤◌, Bool, true, false, length, Option, Some, None, refl, sym, ap, ◌∙◌, arith, length-append}
use Rattle.std.specs.Prelude.{◌&&◌, nat_le, is_some, sum_by, option_map}
use Rattle.std.specs.List.{list_all}
use Rattle.std.specs.Option.{option_map_or}
use Rattle.std.proofs.lemmas.Bool.{le-leb}
use Rattle.fsrm_base.proofs.TestLaws.{both, both_true}
use Rattle.fsrm_model.specs.commands.Commands.{kind, paths, has_values, more_bytes}
use Rattle.fsrm_model.specs.commands.Entry.{path_bytes}
use Rattle.fsrm_model.specs.declared.command.Deed.{Deed}
use Rattle.fsrm_model.specs.declared.command.Deed.TheVariants.{File, Quota, Template, Autoquota, Admin, Filegroup, Screen, Exception, Reports}
use Rattle.fsrm_model.specs.declared.command.Entry.{Entry}
use Rattle.fsrm_model.specs.declared.command.Entry.TheVariants.{Order, Finish}
use Rattle.fsrm_model.specs.store.Valued.{is_short, is_short_path}
use Rattle.fsrm_model.specs.values.Limits.{latest_moment, longest_entry}
use Rattle.record_codec.specs.declared.deeds.DeedKind.{DeedKind}
use Rattle.record_codec.specs.declared.deeds.DeedKind.TheVariants.{File as FileKinds, Quota as QuotaKinds, Template as TemplateKinds, Autoquota as AutoquotaKinds, Setting as SettingKinds, Filegroup as FilegroupKinds, Screen as ScreenKinds, Exception as ExceptionKinds, Job as JobKinds}
use Rattle.record_codec.specs.declared.kinds.Kind.TheVariants.{Deed as DeedKinds}
use Rattle.record_codec.specs.Deeds.{deed_code, deed_kind, deed_values}
use Rattle.record_codec.specs.Entries.{Does, Finishes, entry_kind, values, body}
use Rattle.record_codec.specs.Fields.{moment}
use Rattle.record_codec.specs.Kinds.{tagged_legal}
use Rattle.record_codec.specs.Writing.{IsWritable, IsSpelled, entry_typed}
use Rattle.record_codec.proofs.DeedForms.{AreFormed, file_formed, quota_formed, template_formed, autoquota_formed, setting_formed, filegroup_formed, screen_formed, exception_formed, job_formed}
use Rattle.record_codec.proofs.DeedLaws.{deed_numbered}
use Rattle.record_codec.proofs.DeedWriting.{deed_long}
use Rattle.record_codec.proofs.EntryWriting.{body_spelled, writable_legal, writable_room}
use Rattle.record_codec.proofs.Formed.{most_formed}
use Rattle.record_codec.proofs.Legal.{eight_bytes}

deed_formed : (k : DeedKind) (deed : Deed) → (deed_values k).legal deed ≡ true → AreFormed (paths deed) (has_values deed)
deed_formed (FileKinds k) (File deed) legal = file_formed k deed legal
deed_formed (QuotaKinds k) (Quota deed) legal = quota_formed k deed legal
deed_formed (TemplateKinds k) (Template deed) legal = template_formed k deed legal
deed_formed (AutoquotaKinds k) (Autoquota deed) legal = autoquota_formed k deed legal
deed_formed (SettingKinds k) (Admin deed) legal = setting_formed k deed legal
deed_formed (FilegroupKinds k) (Filegroup deed) legal = filegroup_formed k deed legal
deed_formed (ScreenKinds k) (Screen deed) legal = screen_formed k deed legal
deed_formed (ExceptionKinds k) (Exception deed) legal = exception_formed k deed legal
deed_formed (JobKinds k) (Reports deed) legal = job_formed k deed legal
deed_formed k other legal = absurd (cc legal)

-- a deed with a spelling has a kind, and its values are legal
its_kind : (deed : Deed) (o : Option DeedKind) → option_map_or (tagged_legal entry_kind values (Does deed)) (option_map DeedKinds o) false ≡ true → (k : DeedKind) × (o ≡ Some k) × ((deed_values k).legal deed ≡ true)
its_kind deed None legal = absurd (cc legal)
its_kind deed (Some k) legal = (k, refl, (both (entry_kind.legal (DeedKinds k)) ((deed_values k).legal deed) legal).1)

short_so : (first : Bool) (bytes : ℕ) (o : Option ℕ) → first ≡ true → bytes ≤ longest_entry → option_map_or (λ b. first && nat_le b longest_entry) (option_map (λ (k : ℕ). bytes) o) true ≡ true
short_so first bytes None are room = refl
short_so first bytes (Some n) are room = both_true _ _ are (le-leb bytes longest_entry room)

pub spelled_writable : (e : Entry) → IsSpelled e → IsWritable e
spelled_writable (Order command) spelled =
    let deed = command.deed in
    let l = both (moment.legal command.moment) (body.legal (Does deed)) spelled.0 in
    let k = its_kind deed (deed_kind deed) l.1 in
    let f = deed_formed k.0 deed k.2 in
    let numbered : kind deed ≡ Some (deed_code k.0) = sym (deed_numbered deed) ∙ ap (option_map deed_code) k.1 in
    let after = body.spell (Does deed) in
    let bytes = 8 + (1 + (sum_by path_bytes (paths deed) + more_bytes deed)) in
    let room : bytes ≤ longest_entry =
    omega (arith, spelled.1, length-append (moment.spell command.moment) after, eight_bytes command.moment, ap length (sym (body_spelled deed)), deed_long deed (ap is_some k.1)) in
    let short : is_short deed ≡ true = short_so (list_all is_short_path (paths deed)) bytes (kind deed) f.1 room in
    (both_true _ _ (most_formed latest_moment command.moment l.0) (both_true _ _ (both_true _ _ f.0 f.2) short), ap is_some numbered)
spelled_writable (Finish at number) spelled = most_formed latest_moment at (both (moment.legal at) (body.legal (Finishes number)) spelled.0).0

pub writable_spelled : (e : Entry) → entry_typed e ≡ true → IsWritable e → IsSpelled e
writable_spelled e typed writable = (writable_legal e writable typed, writable_room e writable)
