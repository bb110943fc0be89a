use Rattle.std.proofs.Common.{◌≡◌, ℕ, ◌+◌, List, get_or, rules, refl, sym, ◌∙◌, subst, arith}
use Rattle.std.proofs.lemmas.List.{take_all}
use Rattle.std.specs.Prelude.{Err}
use Rattle.fsrm_model.specs.declared.row.Rows.{Rows}
use Rattle.fsrm_session.specs.Underway.{Goes}
use Rattle.fsrm_session.specs.Members.{members}
use Rattle.fsrm_store.specs.Amortized.{bytes_since}
use Rattle.fsrm_session.specs.Spending.{bytes_after, Spends}
use Rattle.fsrm_session.proofs.Going.{goes_nothing}
use Rattle.fsrm_session.proofs.Object.{laws_of}
use Rattle.fsrm_session.proofs.Results.{stops_passed}
use Rattle.fsrm_session.proofs.Spending.{after_fault}
use Rattle.file_jobs.proofs.StayLaws.{SameKinds, stay_kinds}
use Rattle.fsrm_modes.specs.Expiry.{files_cost, files_turns}
use Rattle.fsrm_modes.proofs.Moving.{file_at, kinds_then, last_spends, more_goes, more_rows, more_spends, more_stops, moving_kinds, nothing_spent}
use Rattle.fsrm_modes.proofs.expiring.move_files.Goals as goal

pub loop-place-init : goal.loop-place-init
loop-place-init g c = record {
  goes = goes_nothing c.args.session.now c.args.outside.now (laws_of g.met.O.Sink g.met.O.Disk g.met.O.Outside);
  ready = c.requires.ready;
  size = refl;
  rows = refl;
  spends = nothing_spent c.args.session.now c.args.outside.now c.args.steps.now;
  kinds = stay_kinds c.args.session.now.store.engine.rows.nodes;
  writes = refl;
  calls = refl;
  reads = refl;
  left = refl;
}

pub move_file-requires-clause-file : goal.move_file-requires-clause-file
move_file-requires-clause-file g c =
    let l = c.loop-place in
    l.invariant.kinds.files (get_or c.args.files.now l.place 0) ∙ file_at c.args.session.now.store.engine.rows.nodes c.args.files.now l.place 0 c.requires.files (omega arith)

pub move_file-requires-clause-folder : goal.move_file-requires-clause-folder
move_file-requires-clause-folder g c = c.loop-place.invariant.kinds.folders c.args.mover.now.folder ∙ c.requires.folder

pub loop-place-preserved : goal.loop-place-preserved
loop-place-preserved g c =
    let l = c.loop-place in
    let was = c.args.session.now in
    let K = was.store.engine.size in
    let R = was.store.engine.rows in
    let to = c.args.mover.now.folder in
    let moment = c.args.mover.now.moment in
    let files = c.args.files.now in
    let node = get_or files l.place 0 in
    let next = c.move_file.new.session in
    let now = l.session.store.engine.rows in
    let laws = laws_of g.met.O.Sink g.met.O.Disk g.met.O.Outside in
    let done = c.in_ok-move_file.ensures in
    record {
      goes = more_goes K R to moment files l.place node was l.session next c.args.outside.now l.outside c.move_file.new.outside laws (omega arith) refl l.invariant.size l.invariant.rows l.invariant.goes done.runs;
      ready = done.ready;
      size = done.size ∙ l.invariant.size;
      rows = more_rows K R to moment files l.place node was l.session next c.args.outside.now l.outside c.move_file.new.outside laws (omega arith) refl l.invariant.size l.invariant.rows l.invariant.goes next.store.engine.rows done.rows;
      spends = more_spends K R to moment files l.place node was l.session next c.args.outside.now l.outside c.move_file.new.outside laws (omega arith) refl l.invariant.size l.invariant.rows l.invariant.goes c.args.steps.now l.steps c.move_file.new.steps (bytes_since next.store.journal) l.invariant.spends done.looks;
      kinds = subst (λ (S : Rows). SameKinds R.nodes S.nodes) (sym done.rows) (kinds_then R.nodes now.nodes _ l.invariant.kinds (moving_kinds l.session.store.engine.size now (l.place + 1) moment node to));
      writes = done.counts.0 ∙ l.invariant.writes;
      calls = done.counts.1 ∙ l.invariant.calls;
      reads = done.reads ∙ l.invariant.reads;
      left = done.left ∙ l.invariant.left;
    }

pub returns-in_err-move_file-clause-runs : goal.returns-in_err-move_file-clause-runs
returns-in_err-move_file-clause-runs g c =
    let l = c.loop-place in
    let was = c.args.session.now in
    let K = was.store.engine.size in
    let R = was.store.engine.rows in
    let stop = c.in_err-move_file.field-0.0 in
    let fault : c.from_residual.result ≡ Err stop = search rules in
    stops_passed c.from_residual.result stop (files_turns K R c.args.mover.now.folder c.args.mover.now.moment 1 c.args.files.now) was c.move_file.new.session c.args.outside.now c.move_file.new.outside fault
    (more_stops K R c.args.mover.now.folder c.args.mover.now.moment c.args.files.now l.place (get_or c.args.files.now l.place 0) was l.session c.move_file.new.session c.args.outside.now l.outside c.move_file.new.outside (laws_of g.met.O.Sink g.met.O.Disk g.met.O.Outside)
    (omega arith) refl l.invariant.size l.invariant.rows l.invariant.goes stop c.in_err-move_file.ensures.runs)

pub returns-clause-runs : goal.returns-clause-runs
returns-clause-runs g c =
    let l = c.loop-place in
    let M = members g.O.Source g.O.Sink g.O.Disk in
    subst (λ (files : List ℕ). Goes M (files_turns c.args.session.now.store.engine.size c.args.session.now.store.engine.rows c.args.mover.now.folder c.args.mover.now.moment 1 files) c.args.session.now l.session c.args.outside.now l.outside)
    (take_all l.place c.args.files.now (omega arith)) l.invariant.goes

-- ---- what it takes
pub returns-in_err-move_file-clause-looks : goal.returns-in_err-move_file-clause-looks
returns-in_err-move_file-clause-looks g c =
    let l = c.loop-place in
    let was = c.args.session.now in
    let now = c.move_file.new.session in
    let stop = c.in_err-move_file.field-0.0 in
    let fault : c.from_residual.result ≡ Err stop = search rules in
    last_spends was.store.engine.size was.store.engine.rows c.args.mover.now.folder c.args.mover.now.moment c.args.files.now l.place (get_or c.args.files.now l.place 0) was l.session now c.args.outside.now l.outside c.move_file.new.outside (laws_of g.met.O.Sink g.met.O.Disk g.met.O.Outside)
    (omega arith) refl l.invariant.size l.invariant.rows l.invariant.goes c.args.steps.now l.steps c.move_file.new.steps (bytes_after {T = Unit {0}} (Err stop) now) (bytes_after c.from_residual.result now)
    (after_fault c.from_residual.result stop now fault) l.invariant.spends c.in_err-move_file.ensures.looks

pub returns-clause-looks : goal.returns-clause-looks
returns-clause-looks g c =
    let l = c.loop-place in
    let M = members g.O.Source g.O.Sink g.O.Disk in
    let was = c.args.session.now in
    let K = was.store.engine.size in
    let R = was.store.engine.rows in
    let to = c.args.mover.now.folder in
    let moment = c.args.mover.now.moment in
    subst (λ (files : List ℕ). Spends M (files_turns K R to moment 1 files) was c.args.outside.now (c.args.steps.now + files_cost K R to moment 1 files) l.steps (bytes_since l.session.store.journal))
    (take_all l.place c.args.files.now (omega arith)) l.invariant.spends
