use Rattle.std.proofs.Common.{◌≡◌, ℕ, ◌+◌, ◌≤◌, true, List, [], ◌++◌, length, take}
use Rattle.std.specs.List.{flat_map, list_all}
use Rattle.std.specs.Option.{ForSome}
use Rattle.fsrm_outside.specs.Moments.{EachImage}
use Rattle.fsrm_outside.specs.Parts.{part_of, other}
use Rattle.fsrm_journal.specs.Opened.{HoldsOn}
use Rattle.fsrm_journal.specs.Stores.{Changing, HoldsStore}
use Rattle.fsrm_journal.specs.declared.heads.Head.{Head}
use Rattle.image_codec.specs.Pieces.{piece_legal, piece_meets, piece_spelled, pieces}
use Rattle.fsrm_store.specs.EnginePieces.{engine_pieces_left, nodes_left}
use Rattle.fsrm_store.proofs.image.put_image.Given as goal

-- the bytes in the half, those in the buffer and those of the pieces to come are all
abbrev pub invariant-loop-end : goal.invariant-loop-end
invariant-loop-end g l = record {
  within : l.end ≤ length l.buffer;
  whole : l.end ≡ 0 → engine_pieces_left l.pieces ≡ [];
  meets : list_all piece_meets (engine_pieces_left l.pieces) ≡ true;
  legal : list_all piece_legal (engine_pieces_left l.pieces) ≡ true → list_all piece_legal (pieces l.engine.rows) ≡ true;
  looks : l.steps + nodes_left l.pieces ≡ l.fn.steps + length l.engine.rows.nodes;
  store : (was next : Head) (image : List ℕ) (bodies : List (List ℕ)) → Changing g.D.Disk.reads g.D.Disk.disk_clock g.D.Disk.images was image bodies next [] l.fn.journal l.fn.disk
      → (front : List ℕ) × Changing g.D.Disk.reads g.D.Disk.disk_clock g.D.Disk.images was image bodies next front l.journal l.disk
      × (front ++ (take l.end l.buffer ++ flat_map piece_spelled (engine_pieces_left l.pieces)) ≡ flat_map piece_spelled (pieces l.engine.rows));
  leaves : (was next : Head) (image : List ℕ) (bodies : List (List ℕ)) → Changing g.D.Disk.reads g.D.Disk.disk_clock g.D.Disk.images was image bodies next [] l.fn.journal l.fn.disk
      → EachImage g.D.Disk.disk_clock g.D.Disk.images (HoldsStore l.fn.journal.ruling was image bodies) l.fn.disk l.disk;
  held : HoldsOn l.fn.journal l.journal;
  ruling : l.journal.ruling ≡ l.fn.journal.ruling;
  here : (n : ℕ) → ForSome (g.D.Disk.reads l.fn.disk) (λ parts. n ≤ length (part_of l.fn.journal.ruling parts)) → ForSome (g.D.Disk.reads l.disk) (λ parts. n ≤ length (part_of l.journal.ruling parts));
  ready : ForSome (g.D.Disk.reads l.disk) (λ parts. l.journal.written ≤ length (part_of (other l.journal.ruling) parts));
  by : g.D.Disk.by_disk l.fn.disk l.disk;
  faults : g.D.Disk.disk_faults l.disk ≡ g.D.Disk.disk_faults l.fn.disk;
}

abbrev pub decreases-loop-end : goal.decreases-loop-end
decreases-loop-end g l = l.end + length (flat_map piece_spelled (engine_pieces_left l.pieces))
