use Rattle.std.proofs.Common.{List, refl, ap, ◌∙◌}
use Rattle.fsrm_base.specs.Keyed.{has_row, is_ascending, with_change}
use Rattle.fsrm_base.proofs.Look.{has_found, has_row-change}
use Rattle.fsrm_model.specs.declared.row.QuotaState.TheVariants.{Complete}
use Rattle.fsrm_model.specs.objects.Quota.{folder_of}
use Rattle.fsrm_model.specs.objects.QuotaStates.{in_state}
use Rattle.fsrm_objects.specs.Tables.{Tables}
use Rattle.quota_usage.specs.declared.change.Counter.{Counter}
use Rattle.fsrm_engine.specs.Due.{with_complete}
use Rattle.fsrm_engine.specs.Machine.{recounted}
use Rattle.fsrm_parts.specs.Peaks.{raised}
use Rattle.fsrm_engine.proofs.tables.CountingLaws.{has_counter, room_for, completed_are, completes}
use Rattle.fsrm_parts.proofs.tables.RaiseLaws.{raised_keeps}
use Rattle.fsrm_engine.proofs.parts.Parts.complete.Goals as goal

pub begin-requires-clause-free : goal.begin-requires-clause-free
begin-requires-clause-free c =
    let p = c.args.self.now in
    let f = has_found folder_of c.args.folder p.objects.quotas c.requires.there in
    has_counter p.tree.size p.tree.nodes p.objects.quotas p.usage c.args.folder f.row c.requires.may.counted f.is ∙ c.requires.uncounted f.row f.is

pub begin-requires-clause-room : goal.begin-requires-clause-room
begin-requires-clause-room c =
    let p = c.args.self.now in
    room_for p.tree.size p.tree.nodes p.objects.quotas p.usage c.args.folder c.requires.may.counted c.requires.there (begin-requires-clause-free c)

pub raise_peak-requires : goal.raise_peak-requires
raise_peak-requires c =
    let p = c.args.self.now in
    ap (λ (t : Tables). is_ascending folder_of t.quotas) c.set_state.ensures
    ∙ (completed_are p.tree.size p.tree.nodes p.objects.quotas c.args.folder c.requires.may.counted.are_quotas).ascending

pub settle_quota-requires-clause-may : goal.settle_quota-requires-clause-may
settle_quota-requires-clause-may c =
    let p = c.args.self.now in
    let done = completes p.tree.size p.tree.nodes p.objects.quotas c.set_state.new.self.quotas c.raise_peak.new.objects.quotas p.usage c.begin.new.self c.args.moment c.args.folder c.args.used c.requires.may.counted c.requires.may.in_range
    c.requires.there c.requires.uncounted c.requires.used c.begin.ensures (ap (λ (t : Tables). t.quotas) c.set_state.ensures) (ap (λ (t : Tables). t.quotas) c.raise_peak.ensures) in
    record {
      counted = done.engine;
      idle = record { numbers = c.requires.may.idle.numbers; places = c.requires.may.idle.places; crossing = c.requires.may.idle.crossing };
      in_range = c.requires.may.in_range;
    }

pub settle_quota-requires-clause-there : goal.settle_quota-requires-clause-there
settle_quota-requires-clause-there c =
    ap (λ (t : Tables). has_row folder_of c.args.folder t.quotas) (c.raise_peak.ensures ∙ ap (λ (t : Tables). record t { quotas = with_change folder_of c.args.folder (raised c.begin.new.self c.args.moment) t.quotas }) c.set_state.ensures)
    ∙ (has_row-change folder_of c.args.folder (raised c.begin.new.self c.args.moment) (raised_keeps c.begin.new.self c.args.moment) c.args.folder _
    ∙ (has_row-change folder_of c.args.folder (in_state Complete) (λ r. refl) c.args.folder c.args.self.now.objects.quotas ∙ c.requires.there))

pub returns-clause-completed : goal.returns-clause-completed
returns-clause-completed c =
    let p = c.args.self.now in
    let after = with_complete c.args.folder p.objects.quotas in
    let done = completes p.tree.size p.tree.nodes p.objects.quotas c.set_state.new.self.quotas c.raise_peak.new.objects.quotas p.usage c.begin.new.self c.args.moment c.args.folder c.args.used c.requires.may.counted c.requires.may.in_range
    c.requires.there c.requires.uncounted c.requires.used c.begin.ensures (ap (λ (t : Tables). t.quotas) c.set_state.ensures) (ap (λ (t : Tables). t.quotas) c.raise_peak.ensures) in
    let objects = c.raise_peak.ensures ∙ ap (λ (t : Tables). record t { quotas = with_change folder_of c.args.folder (raised c.begin.new.self c.args.moment) t.quotas }) c.set_state.ensures in
    record {
      counting = record p { objects = c.raise_peak.new.objects; usage = c.begin.new.self };
      run = c.settle_quota.new.self;
      parts_are = ap (λ (cs : List Counter). record (recounted p after) { objects = c.raise_peak.new.objects; usage = cs }) done.sums;
      objects_are = objects;
      peaks_are = done.quotas_are;
      counted = done.engine;
      ran = c.settle_quota.ensures.settled;
      ends = c.end.ensures.ended;
    }
