use Rattle.std.proofs.Common.{refl, ◌∷◌, [], ◌∙◌}
use Rattle.std.specs.Prelude.{None, Ok, Err, Some}
use Rattle.fsrm_model.specs.lines.Line.{read_line}
use Rattle.fsrm_session.specs.Members.{members}
use Rattle.fsrm_session.specs.Spending.{bytes_after}
use Rattle.fsrm_session.specs.Turns.{command_turn, line_turn, refused_turn, unshown}
use Rattle.fsrm_session.proofs.Going.{ready_alike}
use Rattle.fsrm_session.proofs.Object.{laws_of}
use Rattle.fsrm_session.proofs.Spending.{after_most, spends_alike, spends_none, spends_nothing}
use Rattle.fsrm_session.proofs.Unshown.{if_ok_as, refused_goes}
use Rattle.fsrm_modes.proofs.Alike.{alike_result}
use Rattle.fsrm_modes.proofs.Outcomes.{always_ok, bare_refusal, command_alike, full_stops, on_ok, refusal_alike, was_read, was_refused, was_skipped}
use Rattle.fsrm_modes.proofs.Working.{rows_read, same_counts, skipped_unshown, tally_read, unshown_alike}
use Rattle.fsrm_modes.proofs.work.count_line.Goals as goal

pub count_read-requires-clause-valid : goal.count_read-requires-clause-valid
count_read-requires-clause-valid g c = c.in-Ok-Some.ensures.valid c.in-Ok-Some.command c.in-Ok-Some.field-0-is

pub count_read-requires-clause-ready : goal.count_read-requires-clause-ready
count_read-requires-clause-ready g c = c.requires.ready

pub count_refusal-requires-clause-bare : goal.count_refusal-requires-clause-bare
count_refusal-requires-clause-bare g c =
    bare_refusal c.without_cr.result.now c.in-Err-Refused.refusal (was_refused (read_line c.without_cr.result.now) c.in-Err-Refused.field-0 c.in-Err-Refused.refusal c.in-Err-Refused.ensures.fault c.in-Err-Refused.field-0-is)

pub count_refusal-requires-clause-idle : goal.count_refusal-requires-clause-idle
count_refusal-requires-clause-idle g c = c.requires.ready.idle

pub returns-in-Ok-Some : goal.returns-in-Ok-Some
returns-in-Ok-Some g c =
    let was = c.args.session.now in
    let size = was.store.engine.size in
    let rows = was.store.engine.rows in
    let n = c.args.number in
    let line = c.args.line.now in
    let text = c.without_cr.result.now in
    let command = c.in-Ok-Some.command in
    let read = was_read (read_line text) c.in-Ok-Some.field-0 command c.in-Ok-Some.ensures.read c.in-Ok-Some.field-0-is in
    let alike = unshown_alike (command_turn size n command) (line_turn size n line) (command_alike size n line text command c.without_cr.ensures read) in
    let done = c.count_read.ensures in
    record {
      runs = alike_result (members g.O.Source g.O.Sink g.O.Disk) c.count_read.result (unshown (command_turn size n command) ∷ []) (unshown (line_turn size n line) ∷ []) was c.count_read.new.session c.args.outside.now c.count_read.new.outside alike done.runs;
      tally = if_ok_as c.count_read.result _ _ (tally_read size rows n line text (Some (Ok command)) c.without_cr.ensures read) done.tally;
      rows = on_ok c.count_read.result (λ same. same ∙ rows_read size rows n line text (Some (Ok command)) c.without_cr.ensures read) done.rows;
      ready = done.ready;
      memory = done.memory;
      counts = done.counts;
      reads = done.reads;
      left = done.left;
      size = done.size;
      looks = spends_alike (unshown (command_turn size n command) ∷ []) (unshown (line_turn size n line) ∷ []) was c.args.outside.now c.args.steps.now c.count_read.new.steps (bytes_after c.count_read.result c.count_read.new.session) alike done.looks;
    }

pub returns-in-Ok-None : goal.returns-in-Ok-None
returns-in-Ok-None g c =
    let was = c.args.session.now in
    let size = was.store.engine.size in
    let rows = was.store.engine.rows in
    let n = c.args.number in
    let line = c.args.line.now in
    let text = c.without_cr.result.now in
    let read = was_skipped (read_line text) c.in-Ok-None.field-0 c.in-Ok-None.ensures.read c.in-Ok-None.field-0-is in
    record {
      runs = skipped_unshown size n line text was c.args.outside.now (laws_of g.met.O.Sink g.met.O.Disk g.met.O.Outside) c.without_cr.ensures read;
      tally = c.none.ensures ∙ tally_read size rows n line text None c.without_cr.ensures read;
      rows = rows_read size rows n line text None c.without_cr.ensures read;
      ready = c.requires.ready;
      memory = λ e. c.requires.ready.flush;
      counts = (refl, refl);
      reads = refl;
      left = refl;
      size = refl;
      looks = spends_nothing (unshown (line_turn size n line) ∷ []) was c.args.outside.now c.args.steps.now;
    }

pub returns-in-Err-Refused : goal.returns-in-Err-Refused
returns-in-Err-Refused g c =
    let was = c.args.session.now in
    let size = was.store.engine.size in
    let rows = was.store.engine.rows in
    let n = c.args.number in
    let line = c.args.line.now in
    let text = c.without_cr.result.now in
    let refusal = c.in-Err-Refused.refusal in
    let read = was_refused (read_line text) c.in-Err-Refused.field-0 refusal c.in-Err-Refused.ensures.fault c.in-Err-Refused.field-0-is in
    let turn = unshown (refused_turn size n refusal) in
    let alike = unshown_alike (refused_turn size n refusal) (line_turn size n line) (refusal_alike size n line text refusal c.without_cr.ensures read) in
    let counted = c.count_refusal.result in
    let next = c.count_refusal.new.self in
    let done = c.count_refusal.ensures in
    let can = ready_alike g.O.Disk.reads was next c.args.outside.now done.stands done.journal.sound c.requires.ready.flush in
    record {
      runs = alike_result (members g.O.Source g.O.Sink g.O.Disk) counted (turn ∷ []) (unshown (line_turn size n line) ∷ []) was next c.args.outside.now c.args.outside.now alike
          (refused_goes counted n refusal was next c.args.outside.now (laws_of g.met.O.Sink g.met.O.Disk g.met.O.Outside) done.stands done.kept done.only);
      tally = if_ok_as counted _ _ (tally_read size rows n line text (Some (Err refusal)) c.without_cr.ensures read) done.tally;
      rows = always_ok counted (done.stands.rows ∙ rows_read size rows n line text (Some (Err refusal)) c.without_cr.ensures read);
      ready = on_ok counted (λ idle. record { flush = can; idle = idle }) done.idle;
      memory = λ e. can;
      counts = same_counts counted _ _ done.only;
      reads = refl;
      left = refl;
      size = always_ok counted done.stands.size;
      looks = spends_alike (turn ∷ []) (unshown (line_turn size n line) ∷ []) was c.args.outside.now c.args.steps.now c.count_refusal.new.steps (bytes_after counted next) alike
          (spends_none (turn ∷ []) was next c.args.outside.now c.args.steps.now c.count_refusal.new.steps (bytes_after counted next) done.journal.journal (after_most counted next) done.looks);
    }

pub returns-in-Err-NoMemory : goal.returns-in-Err-NoMemory
returns-in-Err-NoMemory g c =
    let was = c.args.session.now in
    record {
      runs = full_stops (unshown (line_turn was.store.engine.size c.args.number c.args.line.now) ∷ []) was c.args.outside.now (laws_of g.met.O.Sink g.met.O.Disk g.met.O.Outside);
      tally = tt;
      rows = tt;
      ready = tt;
      memory = λ e. c.requires.ready.flush;
      counts = (refl, refl);
      reads = refl;
      left = refl;
      size = tt;
      looks = spends_nothing (unshown (line_turn was.store.engine.size c.args.number c.args.line.now) ∷ []) was c.args.outside.now c.args.steps.now;
    }
