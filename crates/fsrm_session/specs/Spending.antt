-- Which looks at nodes a session takes, and how many bytes of records pay for its images.
use Rattle.std.specs.Prelude.{ℕ, ◌+◌, ◌*◌, List, length, Result, Ok, Err, if◌then◌else◌}
use Rattle.fsrm_model.specs.declared.row.Capacity.{Capacity}
use Rattle.fsrm_model.specs.declared.row.Rows.{Rows}
use Rattle.fsrm_outside.specs.Members.{Members}
use Rattle.fsrm_store.specs.Amortized.{bytes_since, Amortized}
use Rattle.fsrm_store.specs.declared.store.Store.{Store}
use Rattle.fsrm_session.specs.Turns.{bytes_of, looks_of, text_of, IsWithin, Turn}
use Rattle.fsrm_session.specs.Underway.{Underway}
use Rattle.fsrm_session.specs.declared.session.Session.{Session}
use Rattle.fsrm_session.specs.declared.stop.Stop.{Stop}
use Rattle.fsrm_session.specs.declared.stop.Stop.TheVariants.{NoMemory}

-- The bytes of records for which no image was written yet, after a call. If a device failed that is at least nothing.
abbrev pub bytes_after : {T : Type 0} → Result T Stop → Session → ℕ
bytes_after (Ok done) session = bytes_since session.store.journal
bytes_after (Err NoMemory) session = bytes_since session.store.journal
bytes_after (Err other) session = 0

-- what it takes to give an old store a new image
abbrev pub renewing : Store → ℕ
renewing store = if store.is_old then 2 * length store.engine.rows.nodes else 0

-- What waits is made stable and shown: that takes looks for images alone.
pub record Eases {O : Type 0} (M : Members O) (was : Session) (old : O) (looks steps left : ℕ) : Type 0 where
  pub eases : (K : Capacity) (R : Rows) (turns : List Turn) (words before : List ℕ) → Underway M K R turns words before was old
      → Amortized (length was.store.engine.rows.nodes) looks steps (bytes_since was.store.journal) left

-- Turns are taken: that takes their looks, and those for images, for which their records pay too.
pub record Spends {O : Type 0} (M : Members O) (more : List Turn) (was : Session) (old : O) (looks steps left : ℕ) : Type 0 where
  pub spends : (K : Capacity) (R : Rows) (turns : List Turn) (before : List ℕ) → Underway M K R turns (text_of R turns) before was old → (most : ℕ) → IsWithin most was.store.engine.rows more
      → Amortized most (looks + looks_of was.store.engine.rows more) steps (bytes_since was.store.journal + bytes_of was.store.engine.rows more) left
