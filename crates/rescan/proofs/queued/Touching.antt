-- A file that was read changes nothing for a scan.
use Rattle.std.proofs.Common.{ℕ, refl, ◌∙◌, inl, inr}
use Rattle.std.specs.Prelude.{is_some}
use Rattle.fsrm_model.specs.nodes.FileOps.{touched}
use Rattle.fsrm_model.specs.objects.QuotaStates.{head}
use Rattle.fsrm_model.specs.store.Valid.{IsVolume}
use Rattle.fsrm_model.proofs.nodes.Keeps.{folder-change}
use Rattle.fsrm_base.proofs.Look.{none_row}
use Rattle.fsrm_base.proofs.TestLaws.{is_or_not}
use Rattle.rescan.proofs.followed.ChangeLaws.{touch_stands, touched_keeps, alike_unvisited}
use Rattle.volume_tree.specs.Volume.{Volume, with_touch}
use Rattle.rescan.specs.Courses.{Course, Scanning, Goes, left}
use Rattle.rescan.proofs.queued.Following.{goes_idle, goes_on, stands_active}

pub touch_goes : (v : Volume) (course : Course) (node moment : ℕ) → Scanning v course → IsVolume v.size (with_touch v node moment).nodes → Goes course course (with_touch v node moment) (λ scanned. left v.nodes course)
touch_goes v course node moment s volume =
    let w = with_touch v node moment in
    elim (is_or_not (is_some (head course.queue))) [
      | inl some ↦
          goes_on w course course.front (λ scanned. left v.nodes course) s.active some
          (λ m h. folder-change v.nodes node m (touched moment) (λ r. refl) (λ r. refl) ∙ s.folders m h)
          (record {
            stands = touch_stands v course.front node moment (stands_active v course s some) volume;
            unvisited_are = alike_unvisited v course.front node (touched moment) (touched_keeps moment);
            folder = refl;
            room = refl;
          })
      | inr none ↦
          goes_idle w course (λ scanned. left v.nodes course) s.active none (s.idle (s.active ∙ none_row (head course.queue) none)) volume s.fits
          (λ m h. folder-change v.nodes node m (touched moment) (λ r. refl) (λ r. refl) ∙ s.folders m h)
    ]
