-- Parts that give their scans up: their rows are what a store keeps, and the acts that wait stay.
use Rattle.std.proofs.Common.{◌≡◌, [], ◌++◌, refl, ap, sym, ◌∙◌, subst}
use Rattle.std.specs.Prelude.{map}
use Rattle.fsrm_model.specs.declared.row.Rows.{Rows}
use Rattle.fsrm_model.specs.store.Lasting.{flagged_quota, lasting}
use Rattle.fsrm_model.specs.store.Valid.{IsValid}
use Rattle.fsrm_model.proofs.journal.FinishLaws.{lasting_valid}
use Rattle.thresholds.specs.Marked.{screen_waiting}
use Rattle.rescan.specs.Frontiers.{idle}
use Rattle.rescan.proofs.queued.Turning.{none_left}
use Rattle.fsrm_engine.specs.declared.parts.Parts.{Parts}
use Rattle.fsrm_engine.specs.Machine.{IsWhole, machine_of, rows_of}
use Rattle.fsrm_engine.proofs.settling.MarkLaws.{there_mapped, waiting_mapped}
use Rattle.fsrm_engine.proofs.tables.FlagLaws.{counted_flagged, flagged_act}

abbrev pub flagged_parts : Parts → Parts
flagged_parts p =
    record p { objects = record p.objects { quotas = map flagged_quota p.objects.quotas }; scans = record { queue = []; front = idle p.scans.front.room } }

flagged_rows : (p : Parts) → rows_of (flagged_parts p) ≡ lasting (rows_of p)
flagged_rows p = ap (λ us. record (rows_of p) { quotas = map flagged_quota p.objects.quotas; queue = []; unvisited = us }) (none_left p.tree.nodes (idle p.scans.front.room) refl)

pub flagged_seen : (p : Parts) → machine_of (flagged_parts p) ≡ record (machine_of p) { rows = lasting (rows_of p) }
flagged_seen p =
    ap (λ (R : Rows). record (machine_of (flagged_parts p)) { rows = R }) (flagged_rows p)
    ∙ ap (λ acts. record { size = p.tree.size; rows = lasting (rows_of p); waiting = screen_waiting p.objects.screens p.marks ++ acts }) (waiting_mapped flagged_quota flagged_act p.objects.quotas p.marks.numbers)

pub flagged_whole : (p : Parts) → IsWhole p → IsWhole (flagged_parts p)
flagged_whole p w =
    record {
      sound = record {
        counted = counted_flagged p.tree.size p.tree.nodes p.objects.quotas p.usage w.sound.counted;
        scanning = record { volume = w.sound.scanning.volume; fits = w.sound.scanning.fits; folders = λ folder h. cc; active = refl; stands = λ h. cc; idle = λ h. refl };
      };
      valid = subst (IsValid p.tree.size) (sym (flagged_rows p)) (lasting_valid p.tree.size (rows_of p) w.valid);
      there = there_mapped flagged_quota flagged_act p.objects.quotas p.marks.numbers ∙ w.there;
      screens = w.screens;
      crossing = w.crossing;
    }
