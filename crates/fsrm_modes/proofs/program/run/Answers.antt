use Rattle.std.proofs.Common.{◌∙◌, ap, refl}
use Rattle.std.specs.Prelude.{map, Err, Some}
use Rattle.std.specs.String.{string_bytes}
use Rattle.fsrm_outside.specs.Members.{Members}
use Rattle.fsrm_session.specs.Members.{members}
use Rattle.program_words.specs.Modes.{mode}
use Rattle.program_words.specs.declared.fault.WordsFault.{WordsFault}
use Rattle.program_words.specs.declared.modes.Mode.{Mode}
use Rattle.program_words.specs.declared.modes.Mode.TheVariants.{Init, Replay, Show, Outbox, Work, Expire, Tick}
use Rattle.fsrm_modes.specs.Answers.{most_taken}
use Rattle.fsrm_modes.proofs.ReplayEnds.{none_taken}
use Rattle.fsrm_modes.proofs.RunEnds.{disk_counted, init_fits, init_not, legal_expiry, legal_group, legal_size, legal_tick, reads_stay, unread_fits, writes_stay}
use Rattle.fsrm_modes.proofs.Serving.{not_asked, not_read, own_turns, served, task_served, unread}
use Rattle.fsrm_modes.proofs.program.run.Given as given
use Rattle.fsrm_modes.proofs.program.run.Goals as goal

abbrev object : (g : given.Over) → Members g.row.O.Denot
object g = members g.O.Source g.O.Sink g.O.Disk

pub init-requires : goal.init-requires
init-requires g c = record { legal = legal_size c.in-Ok-Init.field-0 c.in-Ok-Init.size c.in-Ok-Init.field-0-is c.in-Ok-Init.ensures.legal }

pub serve-requires : goal.serve-requires
serve-requires g c = record { fit = legal_group c.in-Ok-Replay.field-0 c.in-Ok-Replay.group c.in-Ok-Replay.field-0-is c.in-Ok-Replay.ensures.legal }

pub serve-requires-in-Ok-Work : goal.serve-requires-in-Ok-Work
serve-requires-in-Ok-Work g c = record { fit = tt }

pub serve-requires-in-Ok-Expire : goal.serve-requires-in-Ok-Expire
serve-requires-in-Ok-Expire g c = record { fit = legal_expiry c.in-Ok-Expire.field-0 c.in-Ok-Expire.from c.in-Ok-Expire.to c.in-Ok-Expire.days c.in-Ok-Expire.pattern c.in-Ok-Expire.moment c.in-Ok-Expire.field-0-is c.in-Ok-Expire.ensures.legal }

pub serve-requires-in-Ok-Tick : goal.serve-requires-in-Ok-Tick
serve-requires-in-Ok-Tick g c = record { fit = legal_tick c.in-Ok-Tick.field-0 c.in-Ok-Tick.moment c.in-Ok-Tick.field-0-is c.in-Ok-Tick.ensures.legal }

-- ---- one mode is asked for
pub returns-in-Ok-Init : goal.returns-in-Ok-Init
returns-in-Ok-Init g c =
    let run = c.init in
    let says = run.ensures in
    let old = c.args.outside.now in
    let new = run.new.outside in
    let source = g.met.O.Outside.disk_keeps_source old new says.by in
    let sink = g.met.O.Outside.disk_keeps_sink old new says.by in
    let other = init_not run.result says.only in
    served (object g) (mode (map string_bytes c.args.words.now)) (Init c.in-Ok-Init.size) run.result old new c.args.steps.now c.args.steps.now
    (c.in-Ok-Init.ensures.asked ∙ ap (λ (m : Mode). Some m) c.in-Ok-Init.field-0-is) other.0
    (record {
      taken = none_taken (g.O.Source.left old) (g.O.Source.left new) (most_taken run.result) source.same_left;
      long = λ script told is. absurd (other.3 is);
      counts = record {
        read_fault = λ is. absurd (other.1 is);
        write_fault = λ is. absurd (other.2 is);
        disk_fault = says.failed;
        reads_kept = reads_stay run.result _ _ source.same_faults;
        writes_kept = writes_stay run.result _ _ sink.same_faults;
        disk_kept = disk_counted run.result _ _ says.later says.counted;
      };
    })
    (record {
      own = record { made = says.made; making = says.any_moment; unshown = sink.same_shown; untouched = says.full; looks = refl };
      fits = init_fits run.result says.only;
      tells = says.tells;
      quiet = λ parts reads there. record { left = source.same_left; shown = sink.same_shown; reads = says.kept parts reads there; crash = says.quiet parts reads there };
      left = λ nothing. source.same_left;
      unwritten = λ nothing. absurd nothing;
    })

pub returns-in-Ok-Replay : goal.returns-in-Ok-Replay
returns-in-Ok-Replay g c =
    let says = c.serve.ensures.serves in
    task_served (mode (map string_bytes c.args.words.now)) (Replay c.in-Ok-Replay.group) (c.in-Ok-Replay.ensures.asked ∙ ap (λ (m : Mode). Some m) c.in-Ok-Replay.field-0-is) says
    (record { own = record { runs = says.runs; ends = says.ends; crash = says.crash; looks = says.looks }; fits = says.fits; tells = says.tells; quiet = says.quiet; left = λ nothing. absurd nothing; unwritten = λ nothing. absurd nothing })

pub returns-in-Ok-Show : goal.returns-in-Ok-Show
returns-in-Ok-Show g c =
    let run = c.show in
    let says = run.ensures in
    served (object g) (mode (map string_bytes c.args.words.now)) Show run.result c.args.outside.now run.new.outside c.args.steps.now run.new.steps
    (c.in-Ok-Show.ensures.asked ∙ ap (λ (m : Mode). Some m) c.in-Ok-Show.field-0-is) says.only.0
    (unread (object g) run.result c.args.outside.now run.new.outside says.left (unread_fits run.result says.only) (record { read_fault = λ is. absurd (says.only.3 is); write_fault = says.write_fault; disk_fault = says.disk_fault; reads_kept = says.reads_kept; writes_kept = says.writes_kept; disk_kept = says.disk_kept }))
    (record {
      own = record { shows = says.shows; looks = says.looks };
      fits = unread_fits run.result says.only;
      tells = says.store;
      quiet = says.quiet;
      left = λ nothing. says.left;
      unwritten = λ nothing. (says.reads, says.crash);
    })

pub returns-in-Ok-Outbox : goal.returns-in-Ok-Outbox
returns-in-Ok-Outbox g c =
    let run = c.show-in-Ok-Outbox in
    let says = run.ensures in
    served (object g) (mode (map string_bytes c.args.words.now)) (Outbox c.in-Ok-Outbox.since) run.result c.args.outside.now run.new.outside c.args.steps.now run.new.steps
    (c.in-Ok-Outbox.ensures.asked ∙ ap (λ (m : Mode). Some m) c.in-Ok-Outbox.field-0-is) says.only.0
    (unread (object g) run.result c.args.outside.now run.new.outside says.left (unread_fits run.result says.only) (record { read_fault = λ is. absurd (says.only.3 is); write_fault = says.write_fault; disk_fault = says.disk_fault; reads_kept = says.reads_kept; writes_kept = says.writes_kept; disk_kept = says.disk_kept }))
    (record {
      own = record { shows = says.shows; looks = says.looks };
      fits = unread_fits run.result says.only;
      tells = says.store;
      quiet = says.quiet;
      left = λ nothing. says.left;
      unwritten = λ nothing. (says.reads, says.crash);
    })

pub returns-in-Ok-Work : goal.returns-in-Ok-Work
returns-in-Ok-Work g c =
    let says = c.serve-in-Ok-Work.ensures.serves in
    task_served (mode (map string_bytes c.args.words.now)) (Work c.in-Ok-Work.seed c.in-Ok-Work.count) (c.in-Ok-Work.ensures.asked ∙ ap (λ (m : Mode). Some m) c.in-Ok-Work.field-0-is) says
    (record { own = own_turns says tt; fits = says.fits; tells = says.tells; quiet = says.quiet; left = λ nothing. says.draws; unwritten = λ nothing. absurd nothing })

pub returns-in-Ok-Expire : goal.returns-in-Ok-Expire
returns-in-Ok-Expire g c =
    let says = c.serve-in-Ok-Expire.ensures.serves in
    task_served (mode (map string_bytes c.args.words.now)) (Expire c.in-Ok-Expire.from c.in-Ok-Expire.to c.in-Ok-Expire.days c.in-Ok-Expire.pattern c.in-Ok-Expire.moment) (c.in-Ok-Expire.ensures.asked ∙ ap (λ (m : Mode). Some m) c.in-Ok-Expire.field-0-is) says
    (record { own = own_turns says tt; fits = says.fits; tells = says.tells; quiet = says.quiet; left = λ nothing. says.draws; unwritten = λ nothing. absurd nothing })

pub returns-in-Ok-Tick : goal.returns-in-Ok-Tick
returns-in-Ok-Tick g c =
    let says = c.serve-in-Ok-Tick.ensures.serves in
    task_served (mode (map string_bytes c.args.words.now)) (Tick c.in-Ok-Tick.moment) (c.in-Ok-Tick.ensures.asked ∙ ap (λ (m : Mode). Some m) c.in-Ok-Tick.field-0-is) says
    (record { own = own_turns says tt; fits = says.fits; tells = says.tells; quiet = says.quiet; left = λ nothing. says.draws; unwritten = λ nothing. absurd nothing })

-- ---- none is
pub returns-in-Err-Usage : goal.returns-in-Err-Usage
returns-in-Err-Usage g c = not_asked (object g) (mode (map string_bytes c.args.words.now)) c.args.outside.now c.args.steps.now (c.in-Err-Usage.ensures.usage (ap (λ (f : WordsFault). Err f) c.in-Err-Usage.field-0-is))

pub returns-in-Err-NoMemory : goal.returns-in-Err-NoMemory
returns-in-Err-NoMemory g c = not_read (object g) (mode (map string_bytes c.args.words.now)) c.args.outside.now c.args.steps.now
