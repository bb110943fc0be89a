use Rattle.std.proofs.Common.{◌++◌, ◌∷◌, [], List, ℕ, refl, sym, ap, ◌∙◌, subst, arith, length, length-append}
use Rattle.std.specs.Prelude.{Err}
use Rattle.std.proofs.lemmas.Result.{err_from_is_err_and}
use Rattle.fsrm_model.specs.declared.row.Capacity.{Capacity}
use Rattle.fsrm_session.specs.Members.{members}
use Rattle.fsrm_session.specs.Spending.{bytes_after}
use Rattle.fsrm_session.specs.declared.stop.Stop.TheVariants.{NoMemory}
use Rattle.fsrm_session.proofs.Object.{laws_of}
use Rattle.fsrm_store.specs.Amortized.{bytes_since}
use Rattle.fsrm_modes.specs.Looks.{SpendsLines}
use Rattle.fsrm_modes.specs.Places.{place_of}
use Rattle.fsrm_modes.specs.Reading.{Broken, Fed}
use Rattle.fsrm_modes.proofs.Cutting.{cut_more}
use Rattle.fsrm_modes.proofs.Feeding.{broken_more, broken_still, fed_broken, fed_held, fed_nothing, fed_then}
use Rattle.fsrm_modes.proofs.Outcomes.{ok_gives, stop_counts_after}
use Rattle.fsrm_modes.proofs.Spending.{pieces_spend, spends_more, spends_none}
use Rattle.fsrm_modes.proofs.lines.feed.Goals as goal

pub lines-init : goal.lines-init
lines-init g c =
    let was = c.args.session.now in
    ([], record { cut = refl; fed = fed_nothing was.store.engine.size (place_of c.args.lines.now) was c.args.outside.now (laws_of g.met.O.Sink g.met.O.Disk g.met.O.Outside); spent = spends_none was.store.engine.size (place_of c.args.lines.now) [] was c.args.outside.now c.args.steps.now; number = omega arith; ready = c.requires.ready; size = refl; writes = refl; calls = refl; reads = refl; left = refl })

pub answer_line-requires-clause-ready : goal.answer_line-requires-clause-ready
answer_line-requires-clause-ready g c = c.lines.invariant.1.ready

pub lines-preserved : goal.lines-preserved
lines-preserved g c =
    let M = members g.O.Source g.O.Sink g.O.Disk in
    let was = c.args.session.now in
    let mid = c.lines.session in
    let now = c.answer_line.new.session in
    let a = place_of c.args.lines.now in
    let b = place_of c.lines.lines in
    let d = place_of c.answer_line.new.lines in
    let done = c.lines.invariant.0 in
    let kept = c.lines.invariant.1 in
    let line = c.in-Some.line.now in
    let end = c.in_ok-answer_line.ensures in (
      done ++ (line ++ 10 ∷ []),
      record {
        cut = cut_more c.args.piece.now done c.lines.rest.now line c.in-Some.after.now kept.cut c.in-Some.ensures;
        fed = fed_then was.store.engine.size a b d done (line ++ 10 ∷ []) was mid now c.args.outside.now c.lines.outside c.answer_line.new.outside (laws_of g.met.O.Sink g.met.O.Disk g.met.O.Outside) kept.fed
            (subst (λ (K : Capacity). Fed M K b d (line ++ 10 ∷ []) mid now c.lines.outside c.answer_line.new.outside) kept.size end.runs);
        spent = pieces_spend was.store.engine.size a b done (line ++ 10 ∷ []) was mid c.args.outside.now c.lines.outside c.args.steps.now c.lines.steps c.answer_line.new.steps (bytes_since now.store.journal) kept.fed kept.spent
            (subst (λ (K : Capacity). SpendsLines M K b (line ++ 10 ∷ []) mid c.lines.outside c.lines.steps c.answer_line.new.steps (bytes_since now.store.journal)) kept.size end.looks);
        number = omega (arith, kept.number, end.number, length-append done (line ++ 10 ∷ []), length-append line (10 ∷ []));
        ready = end.ready;
        size = end.size ∙ kept.size;
        writes = end.counts.0 ∙ kept.writes;
        calls = end.counts.1 ∙ kept.calls;
        reads = end.reads ∙ kept.reads;
        left = end.left ∙ kept.left;
      },
    )

-- the session stopped at a line
pub returns-in_err-answer_line-clause-runs : goal.returns-in_err-answer_line-clause-runs
returns-in_err-answer_line-clause-runs g c =
    let M = members g.O.Source g.O.Sink g.O.Disk in
    let was = c.args.session.now in
    let mid = c.lines.session in
    let now = c.answer_line.new.session in
    let first = c.args.outside.now in
    let last = c.answer_line.new.outside in
    let size = was.store.engine.size in
    let a = place_of c.args.lines.now in
    let b = place_of c.lines.lines in
    let done = c.lines.invariant.0 in
    let kept = c.lines.invariant.1 in
    let line = c.in-Some.line.now in
    let stop = c.in_err-answer_line.field-0.0 in
    let cut = cut_more c.args.piece.now done c.lines.rest.now line c.in-Some.after.now kept.cut c.in-Some.ensures in
    let p = err_from_is_err_and c.from_residual.result c.from_residual.ensures.1 in
    rw (p.1, p.2)
    (subst (λ (bytes : List ℕ). Broken M size stop a bytes was now first last) (sym cut)
    (broken_more size stop a (done ++ (line ++ 10 ∷ [])) c.in-Some.after.now was now first last
    (fed_broken size stop a b done (line ++ 10 ∷ []) was mid now first c.lines.outside last (laws_of g.met.O.Sink g.met.O.Disk g.met.O.Outside) kept.fed
    (subst (λ (K : Capacity). Broken M K stop b (line ++ 10 ∷ []) mid now c.lines.outside last) kept.size c.in_err-answer_line.ensures.runs))))

pub returns-in_err-answer_line-clause-looks : goal.returns-in_err-answer_line-clause-looks
returns-in_err-answer_line-clause-looks g c =
    let M = members g.O.Source g.O.Sink g.O.Disk in
    let was = c.args.session.now in
    let mid = c.lines.session in
    let now = c.answer_line.new.session in
    let first = c.args.outside.now in
    let size = was.store.engine.size in
    let a = place_of c.args.lines.now in
    let b = place_of c.lines.lines in
    let done = c.lines.invariant.0 in
    let kept = c.lines.invariant.1 in
    let line = c.in-Some.line.now in
    let left = bytes_after {T = Unit {0}} (Err c.in_err-answer_line.field-0.0) now in
    let cut = cut_more c.args.piece.now done c.lines.rest.now line c.in-Some.after.now kept.cut c.in-Some.ensures in
    let p = err_from_is_err_and c.from_residual.result c.from_residual.ensures.1 in
    rw (p.1, p.2)
    (subst (λ (bytes : List ℕ). SpendsLines M size a bytes was first c.args.steps.now c.answer_line.new.steps left) (sym cut)
    (spends_more size a (done ++ (line ++ 10 ∷ [])) c.in-Some.after.now was first c.args.steps.now c.answer_line.new.steps left
    (pieces_spend size a b done (line ++ 10 ∷ []) was mid first c.lines.outside c.args.steps.now c.lines.steps c.answer_line.new.steps left kept.fed kept.spent
    (subst (λ (K : Capacity). SpendsLines M K b (line ++ 10 ∷ []) mid c.lines.outside c.lines.steps c.answer_line.new.steps left) kept.size c.in_err-answer_line.ensures.looks))))

pub returns-in_err-answer_line-clause-memory : goal.returns-in_err-answer_line-clause-memory
returns-in_err-answer_line-clause-memory g c =
    let p = err_from_is_err_and c.from_residual.result c.from_residual.ensures.1 in
    rw (p.1, p.2) c.in_err-answer_line.ensures.memory

pub returns-in_err-answer_line-clause-counts : goal.returns-in_err-answer_line-clause-counts
returns-in_err-answer_line-clause-counts g c =
    let kept = c.lines.invariant.1 in
    let p = err_from_is_err_and c.from_residual.result c.from_residual.ensures.1 in
    rw (p.1, p.2) (stop_counts_after c.in_err-answer_line.field-0.0 _ _ _ _ _ _ kept.writes kept.calls c.in_err-answer_line.ensures.counts)

pub returns-in_err-answer_line-clause-reads : goal.returns-in_err-answer_line-clause-reads
returns-in_err-answer_line-clause-reads g c = c.answer_line.ensures.reads ∙ c.lines.invariant.1.reads

pub returns-in_err-answer_line-clause-left : goal.returns-in_err-answer_line-clause-left
returns-in_err-answer_line-clause-left g c = c.answer_line.ensures.left ∙ c.lines.invariant.1.left

-- no memory for what is left of the piece
pub returns-then-is_err : goal.returns-then-is_err
returns-then-is_err g c =
    let M = members g.O.Source g.O.Sink g.O.Disk in
    let was = c.args.session.now in
    let now = c.lines.session in
    let first = c.args.outside.now in
    let last = c.lines.outside in
    let size = was.store.engine.size in
    let a = place_of c.args.lines.now in
    let b = place_of c.lines.lines in
    let kept = c.lines.invariant.1 in
    record {
      runs = subst (λ (bytes : List ℕ). Broken M size NoMemory a bytes was now first last) (sym kept.cut)
          (fed_broken size NoMemory a b c.lines.invariant.0 c.lines.rest.now was now now first last last (laws_of g.met.O.Sink g.met.O.Disk g.met.O.Outside) kept.fed (broken_still size b c.lines.rest.now now last (laws_of g.met.O.Sink g.met.O.Disk g.met.O.Outside)));
      number = tt;
      ready = tt;
      memory = λ e. kept.ready.flush;
      counts = (kept.writes, kept.calls);
      reads = kept.reads;
      left = kept.left;
      size = tt;
      looks = subst (λ (bytes : List ℕ). SpendsLines M size a bytes was first c.args.steps.now c.lines.steps (bytes_since now.store.journal)) (sym kept.cut)
          (pieces_spend size a b c.lines.invariant.0 c.lines.rest.now was now first last c.args.steps.now c.lines.steps c.lines.steps (bytes_since now.store.journal) kept.fed kept.spent (spends_none size b c.lines.rest.now now last c.lines.steps));
    }

-- it is held
pub returns : goal.returns
returns g c =
    let M = members g.O.Source g.O.Sink g.O.Disk in
    let was = c.args.session.now in
    let now = c.lines.session in
    let first = c.args.outside.now in
    let last = c.lines.outside in
    let size = was.store.engine.size in
    let a = place_of c.args.lines.now in
    let b = place_of c.lines.lines in
    let d = place_of (record c.lines.lines { held = c.hold.new.held }) in
    let kept = c.lines.invariant.1 in
    record {
      runs = subst (λ (bytes : List ℕ). Fed M size a d bytes was now first last) (sym kept.cut)
          (fed_then size a b d c.lines.invariant.0 c.lines.rest.now was now now first last last (laws_of g.met.O.Sink g.met.O.Disk g.met.O.Outside) kept.fed
          (fed_held size b d c.lines.rest.now now last (laws_of g.met.O.Sink g.met.O.Disk g.met.O.Outside) c.in_default.ensures refl (ok_gives c.hold.result (sym c.is_err.ensures.value ∙ c.if-is_err.false) c.hold.ensures.ok)));
      number = omega (arith, kept.number, ap (λ (bs : List ℕ). length bs) kept.cut, length-append c.lines.invariant.0 c.lines.rest.now);
      ready = kept.ready;
      memory = λ e. absurd cc;
      counts = (kept.writes, kept.calls);
      reads = kept.reads;
      left = kept.left;
      size = kept.size;
      looks = subst (λ (bytes : List ℕ). SpendsLines M size a bytes was first c.args.steps.now c.lines.steps (bytes_since now.store.journal)) (sym kept.cut)
          (pieces_spend size a b c.lines.invariant.0 c.lines.rest.now was now first last c.args.steps.now c.lines.steps c.lines.steps (bytes_since now.store.journal) kept.fed kept.spent (spends_none size b c.lines.rest.now now last c.lines.steps));
    }
