use Rattle.std.proofs.Common.{ap, subst}
use Rattle.std.specs.Prelude.{Result, Err}
use Rattle.fsrm_session.proofs.Object.{laws_of}
use Rattle.fsrm_store.specs.Amortized.{bytes_since, Amortized}
use Rattle.fsrm_session.specs.Spending.{bytes_after}
use Rattle.fsrm_session.specs.Members.{members}
use Rattle.fsrm_modes.specs.Looks.{left_after}
use Rattle.fsrm_modes.specs.Statuses.{IsReadEnd}
use Rattle.fsrm_modes.specs.declared.status.Status.{Status}
use Rattle.fsrm_session.specs.declared.stop.Stop.{Stop}
use Rattle.fsrm_modes.proofs.Ends.{broken_outcome, close_counts, done_outcome, ended_outcome, if_err, of_err, settle_counts, took_err, took_ok}
use Rattle.fsrm_modes.proofs.ReplayEnds.{match_err, match_ok}
use Rattle.fsrm_modes.proofs.Spent.{done_spends, ended_spends}
use Rattle.fsrm_modes.proofs.ending.conclude.Goals as goal

pub returns-in-Ok-settle-clause-concludes : goal.returns-in-Ok-settle-clause-concludes
returns-in-Ok-settle-clause-concludes g c K R turns before start took =
    let t = took_ok c.args.ended _ K R turns before c.args.session.now start c.args.outside.now c.in-Ok.is took in
    done_outcome K R turns before c.args.session.now c.settle.new.self start c.args.outside.now c.settle.new.outside (laws_of g.met.O.Sink g.met.O.Disk g.met.O.Outside) t.ended_is t.so_far
    c.in-Ok-settle.ensures.runs c.in-Ok-settle.ensures.empty c.in-Ok-settle.ensures.none

pub returns-in-Err-settle-clause-concludes : goal.returns-in-Err-settle-clause-concludes
returns-in-Err-settle-clause-concludes g c K R turns before start took =
    let t = took_ok c.args.ended _ K R turns before c.args.session.now start c.args.outside.now c.in-Ok.is took in
    broken_outcome c.in-Err-settle.stop c.from.result K R turns before c.args.session.now c.settle.new.self start c.args.outside.now c.settle.new.outside (laws_of g.met.O.Sink g.met.O.Disk g.met.O.Outside) t.ended_is t.so_far
    c.in-Err-settle.ensures.runs (λ is. c.in-Err-settle.ensures.memory (ap (λ (s : Stop). Err s) is)) c.from.ensures

pub returns-in-Err-settle-clause-counts : goal.returns-in-Err-settle-clause-counts
returns-in-Err-settle-clause-counts g c =
    match_ok c.args.ended _ _ _ c.in-Ok.is
    (settle_counts c.in-Err-settle.stop c.from.result _ _ _ _ c.in-Err-settle.ensures.counts (λ is. c.in-Err-settle.ensures.memory (ap (λ (s : Stop). Err s) is)) c.from.ensures)

pub returns-in-Err-clause-concludes : goal.returns-in-Err-clause-concludes
returns-in-Err-clause-concludes g c K R turns before start took =
    let t = took_err c.args.ended c.in-Err.status K R turns before c.args.session.now start c.args.outside.now c.in-Err.is took in
    ended_outcome c.in-Err.status K R turns before c.args.session.now start c.args.outside.now c.close.new.outside (laws_of g.met.O.Sink g.met.O.Disk g.met.O.Outside)
    (of_err c.args.ended c.in-Err.status IsReadEnd c.in-Err.is c.requires.only) t.ended_is t.so_far c.close.ensures.settled c.close.ensures.same

pub returns-in-Err-clause-whole : goal.returns-in-Err-clause-whole
returns-in-Err-clause-whole g c K R turns words before u =
    let M = members g.O.Source g.O.Sink g.O.Disk in
    if_err c.args.ended c.in-Err.status _ c.in-Err.is (λ is. c.close.ensures.whole is K R turns words before u)

pub returns-in-Err-clause-counts : goal.returns-in-Err-clause-counts
returns-in-Err-clause-counts g c =
    let M = members g.O.Source g.O.Sink g.O.Disk in
    match_err c.args.ended c.in-Err.status _ _ c.in-Err.is
    (close_counts c.in-Err.status _ _ _ _ c.close.ensures.write_later c.close.ensures.disk_later (λ not. (ap M.write_faults (c.close.ensures.same not), ap M.disk_faults (c.close.ensures.same not))))

-- ---- what it takes
pub returns-in-Ok-settle-clause-looks : goal.returns-in-Ok-settle-clause-looks
returns-in-Ok-settle-clause-looks g c K R turns before start took most looks bytes within a =
    let was = c.args.session.now in
    let t = took_ok c.args.ended _ K R turns before was start c.args.outside.now c.in-Ok.is took in
    done_spends c.args.ended _ K R turns before was c.args.outside.now most looks c.args.steps.now c.settle.new.steps bytes (bytes_since c.settle.new.self.store.journal) c.in-Ok.is t.ended_is within a c.in-Ok-settle.ensures.looks

pub returns-in-Err-settle-clause-looks : goal.returns-in-Err-settle-clause-looks
returns-in-Err-settle-clause-looks g c K R turns before start took most looks bytes within a =
    let was = c.args.session.now in
    let t = took_ok c.args.ended _ K R turns before was start c.args.outside.now c.in-Ok.is took in
    done_spends c.args.ended _ K R turns before was c.args.outside.now most looks c.args.steps.now c.settle.new.steps bytes (bytes_after {T = Unit {0}} (Err c.in-Err-settle.stop) c.settle.new.self) c.in-Ok.is t.ended_is within a c.in-Err-settle.ensures.looks

pub returns-in-Err-clause-looks : goal.returns-in-Err-clause-looks
returns-in-Err-clause-looks g c K R turns before start took most looks bytes within a =
    let was = c.args.session.now in
    let t = took_err c.args.ended c.in-Err.status K R turns before was start c.args.outside.now c.in-Err.is took in
    ended_spends (members g.O.Source g.O.Sink g.O.Disk) (Unit {0}) c.in-Err.status K R turns before was c.args.outside.now most looks c.args.steps.now c.close.new.steps bytes t.ended_is within
    (subst (λ (r : Result (Unit {0}) Status). Amortized most looks c.args.steps.now bytes (left_after r was)) c.in-Err.is a) c.close.ensures.looks c.close.ensures.none
