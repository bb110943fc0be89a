use Rattle.std.proofs.Common.{refl, ◌∷◌, []}
use Rattle.fsrm_model.specs.lines.Line.{read_line}
use Rattle.fsrm_session.specs.Members.{members}
use Rattle.fsrm_session.specs.Spending.{bytes_after}
use Rattle.fsrm_session.specs.Turns.{command_turn, line_turn, refused_turn}
use Rattle.fsrm_modes.proofs.Alike.{alike_result}
use Rattle.fsrm_session.proofs.Object.{laws_of}
use Rattle.fsrm_session.proofs.Spending.{spends_alike, spends_nothing}
use Rattle.fsrm_modes.proofs.Outcomes.{always_ok, was_read, was_skipped, was_refused, command_alike, refusal_alike, skipped_goes, full_stops, bare_refusal}
use Rattle.fsrm_modes.proofs.answering.answer_words.Goals as goal

pub take_read-requires-clause-valid : goal.take_read-requires-clause-valid
take_read-requires-clause-valid g c = c.in-Ok-Some.ensures.valid c.in-Ok-Some.command c.in-Ok-Some.field-0-is

pub take_read-requires-clause-ready : goal.take_read-requires-clause-ready
take_read-requires-clause-ready g c = c.requires.ready

pub refuse-requires-clause-bare : goal.refuse-requires-clause-bare
refuse-requires-clause-bare g c =
    bare_refusal c.without_cr.result.now c.in-Err-Refused.refusal (was_refused (read_line c.without_cr.result.now) c.in-Err-Refused.field-0 c.in-Err-Refused.refusal c.in-Err-Refused.ensures.fault c.in-Err-Refused.field-0-is)

pub refuse-requires-clause-ready : goal.refuse-requires-clause-ready
refuse-requires-clause-ready g c = c.requires.ready

pub returns-in-Ok-Some : goal.returns-in-Ok-Some
returns-in-Ok-Some g c =
    let was = c.args.session.now in
    let size = was.store.engine.size in
    let n = c.args.number in
    let line = c.args.line.now in
    let text = c.without_cr.result.now in
    let command = c.in-Ok-Some.command in
    let done = c.take_read.ensures in
    record {
      runs = alike_result (members g.O.Source g.O.Sink g.O.Disk) c.take_read.result (command_turn size n command ∷ []) (line_turn size n line ∷ []) was c.take_read.new.session c.args.outside.now c.take_read.new.outside
          (command_alike size n line text command c.without_cr.ensures (was_read (read_line text) c.in-Ok-Some.field-0 command c.in-Ok-Some.ensures.read c.in-Ok-Some.field-0-is)) done.runs;
      ready = done.ready;
      memory = done.memory;
      counts = done.counts;
      reads = done.reads;
      left = done.left;
      size = done.size;
      looks = spends_alike (command_turn size n command ∷ []) (line_turn size n line ∷ []) was c.args.outside.now c.args.steps.now c.take_read.new.steps (bytes_after c.take_read.result c.take_read.new.session)
          (command_alike size n line text command c.without_cr.ensures (was_read (read_line text) c.in-Ok-Some.field-0 command c.in-Ok-Some.ensures.read c.in-Ok-Some.field-0-is)) done.looks;
    }

pub returns-in-Ok-None : goal.returns-in-Ok-None
returns-in-Ok-None g c =
    let was = c.args.session.now in
    let text = c.without_cr.result.now in
    record {
      runs = skipped_goes was.store.engine.size c.args.number c.args.line.now text was c.args.outside.now (laws_of g.met.O.Sink g.met.O.Disk g.met.O.Outside) c.without_cr.ensures
          (was_skipped (read_line text) c.in-Ok-None.field-0 c.in-Ok-None.ensures.read c.in-Ok-None.field-0-is);
      ready = c.requires.ready;
      memory = λ e. c.requires.ready.flush;
      counts = (refl, refl);
      reads = refl;
      left = refl;
      size = refl;
      looks = spends_nothing (line_turn was.store.engine.size c.args.number c.args.line.now ∷ []) was c.args.outside.now c.args.steps.now;
    }

pub returns-in-Err-Refused : goal.returns-in-Err-Refused
returns-in-Err-Refused g c =
    let was = c.args.session.now in
    let size = was.store.engine.size in
    let n = c.args.number in
    let line = c.args.line.now in
    let text = c.without_cr.result.now in
    let refusal = c.in-Err-Refused.refusal in
    let done = c.refuse.ensures in
    record {
      runs = alike_result (members g.O.Source g.O.Sink g.O.Disk) c.refuse.result (refused_turn size n refusal ∷ []) (line_turn size n line ∷ []) was c.refuse.new.self c.args.outside.now c.refuse.new.outside
          (refusal_alike size n line text refusal c.without_cr.ensures (was_refused (read_line text) c.in-Err-Refused.field-0 refusal c.in-Err-Refused.ensures.fault c.in-Err-Refused.field-0-is)) done.runs;
      ready = done.ready;
      memory = done.memory;
      counts = done.counts;
      reads = done.reads;
      left = done.left;
      size = always_ok c.refuse.result done.size;
      looks = spends_alike (refused_turn size n refusal ∷ []) (line_turn size n line ∷ []) was c.args.outside.now c.args.steps.now c.refuse.new.steps (bytes_after c.refuse.result c.refuse.new.self)
          (refusal_alike size n line text refusal c.without_cr.ensures (was_refused (read_line text) c.in-Err-Refused.field-0 refusal c.in-Err-Refused.ensures.fault c.in-Err-Refused.field-0-is)) done.looks;
    }

pub returns-in-Err-NoMemory : goal.returns-in-Err-NoMemory
returns-in-Err-NoMemory g c =
    let was = c.args.session.now in
    record {
      runs = full_stops (line_turn was.store.engine.size c.args.number c.args.line.now ∷ []) was c.args.outside.now (laws_of g.met.O.Sink g.met.O.Disk g.met.O.Outside);
      ready = tt;
      memory = λ e. c.requires.ready.flush;
      counts = (refl, refl);
      reads = refl;
      left = refl;
      size = tt;
      looks = spends_nothing (line_turn was.store.engine.size c.args.number c.args.line.now ∷ []) was c.args.outside.now c.args.steps.now;
    }
