use Rattle.std.proofs.Common.{◌≡◌, ℕ, ◌+◌, List, [], ◌++◌, take, refl, sym, ap, subst, ◌∙◌, append_assoc, arith}
use Rattle.std.specs.List.{flat_map, list_all}
use Rattle.std.proofs.lemmas.List.{append-nil}
use Rattle.fsrm_outside.specs.declared.traits.Part.{Part}
use Rattle.fsrm_outside.proofs.Stages.{DiskLaws, joined, weaker}
use Rattle.fsrm_journal.specs.Stores.{Changing, HoldsStore}
use Rattle.image_codec.specs.Pieces.{piece_legal, piece_spelled, pieces}
use Rattle.fsrm_store.specs.EnginePieces.{engine_pieces_left}
use Rattle.fsrm_store.proofs.ImageLaws.{changing_now}
use Rattle.fsrm_store.proofs.image.put_image.Goals as goal

pub loop-end-init : goal.loop-end-init
loop-end-init g c =
    let f = c.fill-end.ensures in
    let all = c.new-pieces.ensures.all in
    record {
      within = f.within;
      whole = f.whole;
      meets = f.meets;
      legal = λ later. sym (ap (list_all piece_legal) all) ∙ f.legal later;
      looks = f.looks ∙ ap (λ n. c.args.steps.now + n) c.new-pieces.ensures.looks;
      store = λ was next image bodies ch. ([], ch, sym f.written ∙ ap (flat_map piece_spelled) all);
      leaves = λ was next image bodies ch. changing_now ch;
      held = record { held = refl; bytes = refl; group = refl };
      ruling = refl;
      here = λ n long. long;
      ready = c.requires.place;
      by = g.met.D.Disk.disk_same c.args.disk.now;
      faults = refl;
    }

pub returns-in_err-put_image-clause-leaves : goal.returns-in_err-put_image-clause-leaves
returns-in_err-put_image-clause-leaves g c was next image bodies ch =
    let M = g.met.D.Disk in
    let laws : DiskLaws g.D.Disk.disk_clock g.D.Disk.images g.D.Disk.by_disk = record { same = M.disk_same; then_by = M.disk_then; later = M.disk_later; past = M.disk_past } in
    let i = c.loop-end.invariant in
    let st = i.store was next image bodies ch in
    joined laws i.by c.put_image.ensures.by (i.leaves was next image bodies ch)
    (weaker _ (λ parts h. subst (λ (r : Part). HoldsStore r was image bodies parts) i.ruling h) (c.put_image.ensures.leaves was next image st.0 bodies st.1))

pub loop-end-preserved : goal.loop-end-preserved
loop-end-preserved g c =
    let M = g.met.D.Disk in
    let laws : DiskLaws g.D.Disk.disk_clock g.D.Disk.images g.D.Disk.by_disk = record { same = M.disk_same; then_by = M.disk_then; later = M.disk_later; past = M.disk_past } in
    let f = c.fill-end-in-loop-end.ensures in
    let l = c.loop-end in
    let i = l.invariant in
    let put = c.put_image.ensures in
    let wrote = take c.fill-end-in-loop-end.result c.fill-end-in-loop-end.new.buffer in
    let rest = flat_map piece_spelled (engine_pieces_left c.fill-end-in-loop-end.new.pieces) in
    record {
      within = f.within;
      whole = f.whole;
      meets = f.meets;
      legal = λ later. i.legal (f.legal later);
      looks = f.looks ∙ i.looks;
      store = λ was next image bodies ch.
          let st = i.store was next image bodies ch in (
            st.0 ++ take l.end l.buffer,
            c.in_ok-put_image.ensures.store was next image st.0 bodies st.1,
            append_assoc st.0 (take l.end l.buffer) (wrote ++ rest) ∙ ap (λ (b : List ℕ). st.0 ++ (take l.end l.buffer ++ b)) (sym f.written) ∙ st.2,
          );
      leaves = λ was next image bodies ch.
          let st = i.store was next image bodies ch in
          joined laws i.by put.by (i.leaves was next image bodies ch)
          (weaker _ (λ parts h. subst (λ (r : Part). HoldsStore r was image bodies parts) i.ruling h) (put.leaves was next image st.0 bodies st.1));
      held = record { held = put.held.held ∙ i.held.held; bytes = put.held.bytes ∙ i.held.bytes; group = put.held.group ∙ i.held.group };
      ruling = put.ruling ∙ i.ruling;
      here = λ n long. c.in_ok-put_image.ensures.here n (i.here n long);
      ready = c.in_ok-put_image.ensures.ready;
      by = M.disk_then _ _ _ i.by put.by;
      faults = c.in_ok-put_image.ensures.cause.kept ∙ i.faults;
    }

pub returns-clause-store : goal.returns-clause-store
returns-clause-store g c was next image bodies ch =
    let M = g.D.Disk in
    let l = c.loop-end in
    let st = l.invariant.store was next image bodies ch in
    let rest = flat_map piece_spelled (engine_pieces_left l.pieces) in
    let zero : l.end ≡ 0 = omega (arith, c.loop-end-test.false) in
    let none : take l.end l.buffer ++ rest ≡ [] = ap (λ n. take n l.buffer ++ rest) zero ∙ ap (flat_map piece_spelled) (l.invariant.whole zero) in
    let all : st.0 ≡ flat_map piece_spelled (pieces c.args.engine.now.rows) = sym (append-nil st.0) ∙ ap (λ (b : List ℕ). st.0 ++ b) (sym none) ∙ st.2 in
    subst (λ (front : List ℕ). Changing M.reads M.disk_clock M.images was image bodies next front l.journal l.disk) all st.1
