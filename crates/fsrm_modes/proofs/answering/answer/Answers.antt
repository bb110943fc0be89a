use Rattle.std.proofs.Common.{refl, ◌∷◌, []}
use Rattle.fsrm_session.specs.Turns.{line_turn}
use Rattle.fsrm_session.proofs.Object.{laws_of}
use Rattle.fsrm_session.proofs.Spending.{spends_nothing}
use Rattle.fsrm_modes.proofs.Outcomes.{skipped_goes}
use Rattle.fsrm_modes.proofs.answering.answer.Goals as goal

pub answer_words-requires : goal.answer_words-requires
answer_words-requires g c = record { ready = c.requires.ready }

pub returns-then-is_skipped_line : goal.returns-then-is_skipped_line
returns-then-is_skipped_line g c =
    let was = c.args.session.now in
    record {
      runs = skipped_goes was.store.engine.size c.args.number c.args.line.now c.without_cr.result.now was c.args.outside.now (laws_of g.met.O.Sink g.met.O.Disk g.met.O.Outside) c.without_cr.ensures
          (c.is_skipped_line.ensures.0 c.if-is_skipped_line.true);
      ready = c.requires.ready;
      memory = λ e. c.requires.ready.flush;
      counts = (refl, refl);
      reads = refl;
      left = refl;
      size = refl;
      looks = spends_nothing (line_turn was.store.engine.size c.args.number c.args.line.now ∷ []) was c.args.outside.now c.args.steps.now;
    }

pub returns : goal.returns
returns g c = c.answer_words.ensures
