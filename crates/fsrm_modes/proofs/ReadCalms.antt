-- A read of the source leaves a session as it is.
use Rattle.std.proofs.Common.{◌∙◌, length, sym}
use Rattle.fsrm_outside.specs.Members.{Members}
use Rattle.fsrm_outside.specs.Runs.{CoversMore}
use Rattle.fsrm_outside.proofs.EachMoments.{read_moments}
use Rattle.fsrm_outside.proofs.OutsideLaws.{Laws}
use Rattle.fsrm_store.proofs.Standings.{stands_beside}
use Rattle.fsrm_session.specs.Covers.{Covers}
use Rattle.fsrm_session.specs.Underway.{Calms, CanFlush, CanTake}
use Rattle.fsrm_session.specs.declared.session.Session.{Session}
use Rattle.fsrm_session.proofs.Going.{stays_covered}

pub read_calms : {O : Type 0} {M : Members O} (session : Session) (old new : O) → Laws M → M.by_read old new → Calms M session session old new
read_calms {M = M} session old new laws ran = record {
  calms = λ K R turns words before u. (
    record {
      first = u.first;
      later = u.later;
      split = u.split;
      shown = u.shown;
      shown_is = (laws.read_keeps_sink old new ran).same_shown ∙ u.shown_is;
      words_are = u.words_are;
      front = u.front;
      few = u.few;
      size = u.size;
      rows = u.rows;
      standing = stands_beside (laws.read_keeps_disk old new ran) u.standing;
    },
    read_moments laws new (CoversMore (Covers K R turns) (length before)) ran (stays_covered K R turns words before laws u),
  );
}

-- and as ready as it was
pub read_flush : {O : Type 0} {M : Members O} (session : Session) (old new : O) → Laws M → M.by_read old new → CanFlush M.reads session old → CanFlush M.reads session new
read_flush session old new laws ran can = record {
  sound = can.sound;
  young = can.young;
  ready = λ parts told. can.ready parts (sym (laws.read_keeps_disk old new ran).same_reads ∙ told);
}

pub read_take : {O : Type 0} {M : Members O} (session : Session) (old new : O) → Laws M → M.by_read old new → CanTake M.reads session old → CanTake M.reads session new
read_take session old new laws ran can = record { flush = read_flush session old new laws ran can.flush; idle = can.idle }
