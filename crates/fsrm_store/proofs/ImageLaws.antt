-- Writing the image of an engine's rows.
use Rattle.std.proofs.Common.{◌≡◌, inl, inr, ℕ, ◌+◌, ◌^◌, ◌≤◌, ◌<◌, true, List, [], ◌++◌, length, take, Option, refl, sym, ap, subst, ◌∙◌, arith, length-append, length-take}
use Rattle.std.specs.Prelude.{◌&&◌, nat_le, nat_eq}
use Rattle.std.specs.List.{flat_map, list_all}
use Rattle.std.proofs.Math.Seq.{take-append-add}
use Rattle.std.proofs.lemmas.List.{take-append-le}
use Rattle.fsrm_base.proofs.TestLaws.{both, le_is, or_later}
use Rattle.fsrm_model.specs.declared.row.Capacity.{Capacity}
use Rattle.fsrm_model.specs.declared.row.Rows.{Rows}
use Rattle.fsrm_model.specs.store.Capacities.{is_capacity, is_cluster as is_cluster_size}
use Rattle.fsrm_model.specs.store.Lasting.{lasting}
use Rattle.fsrm_model.specs.store.Valid.{IsValid}
use Rattle.fsrm_model.specs.values.Limits.{most_names, most_nodes}
use Rattle.fsrm_model.proofs.valid.ValidTests.{test_by_valid}
use Rattle.fsrm_outside.specs.Moments.{EachImage}
use Rattle.fsrm_outside.specs.Parts.{Parts, part_of}
use Rattle.fsrm_outside.specs.declared.traits.Part.{Part}
use Rattle.fsrm_outside.proofs.Stages.{started}
use Rattle.fsrm_journal.specs.Halves.{IsNext}
use Rattle.fsrm_journal.specs.Legal.{IsLegal}
use Rattle.fsrm_journal.specs.Stores.{Changing, HoldsStore, HoldsOldOrNew}
use Rattle.fsrm_journal.specs.declared.heads.Head.{Head}
use Rattle.fsrm_journal.specs.declared.journal.Journal.{Journal}
use Rattle.fsrm_journal.proofs.Stores.{stays_store}
use Rattle.fsrm_journal.proofs.Turns.{shut_stays}
use Rattle.image_codec.specs.Pieces.{piece_legal, piece_meets, piece_spelled, pieces}
use Rattle.image_codec.specs.PiecesLeft.{piece_fits}
use Rattle.image_codec.proofs.KeptImages.{written_again}
use Rattle.image_codec.proofs.LeftLaws.{valid_fits}
use Rattle.image_codec.proofs.ValidLaws.{valid_pieces}
use Rattle.fsrm_store.specs.Keeps.{HoldsState, Keeps}
use Rattle.fsrm_store.proofs.KeepsLaws.{change_leaves, image_keeps, keeps_settled, written_holds}

-- ---- a piece that is written after others
pub inside : (wrote piece : List ℕ) (n : ℕ) → take n wrote ≡ piece → n ≡ length piece → n ≤ length wrote
inside wrote piece n is long = omega (arith, ap length is, length-take n wrote, long)

pub filled : (old wrote after piece : List ℕ) (end n : ℕ) → end ≤ length old → take n wrote ≡ piece → n ≤ length wrote → take (end + n) (take end old ++ (wrote ++ after)) ≡ take end old ++ piece
filled old wrote after piece end n within is le =
    let front : end ≡ length (take end old) = omega (arith, within, length-take end old) in
    ap (λ k. take (k + n) (take end old ++ (wrote ++ after))) front
    ∙ take-append-add (take end old) (wrote ++ after) n
    ∙ ap (λ (b : List ℕ). take end old ++ b) (take-append-le n wrote after le ∙ is)

pub filled_within : (old wrote after : List ℕ) (end n : ℕ) → end ≤ length old → n ≤ length wrote → end + n ≤ length (take end old ++ (wrote ++ after))
filled_within old wrote after end n within le =
    omega (arith, within, le, length-append (take end old) (wrote ++ after), length-append wrote after, length-take end old)

-- ---- valid rows can be written
small : (K : Capacity) → is_capacity K ≡ true → K.nodes < 2 ^ 32
small K legal =
    let nodes = both (nat_le 2 K.nodes && nat_le K.nodes most_nodes) ((nat_le 256 K.names && nat_le K.names most_names) && is_cluster_size K.cluster) legal in
    omega (arith, le_is K.nodes most_nodes (both (nat_le 2 K.nodes) (nat_le K.nodes most_nodes) nodes.0).1)

pub fits_of : (K : Capacity) (R : Rows) → is_capacity K ≡ true → IsValid K R → list_all piece_fits (pieces R) ≡ true
fits_of K R legal valid = valid_fits K R (small K legal) (test_by_valid K R valid)

pub meets_of : (K : Capacity) (R : Rows) → IsValid K R → list_all piece_meets (pieces R) ≡ true
meets_of K R valid = valid_pieces K R (test_by_valid K R valid)

-- ---- the next head
some_generation : (old new : ℕ) → IsNext old new → 1 ≤ new
some_generation old new (inl next) = omega (arith, next.1)
some_generation old new (inr next) = omega (arith, next.1)

pub legal_head : (old generation image : ℕ) (K : Capacity) → is_capacity K ≡ true → IsNext old generation → generation < 2 ^ 64 → image < 2 ^ 64 → IsLegal (record { generation = generation; version = 2; size = K; image = image })
legal_head old generation image K legal next few short =
    let parts = both (nat_le 2 K.nodes && nat_le K.nodes most_nodes) ((nat_le 256 K.names && nat_le K.names most_names) && is_cluster_size K.cluster) legal in
    record {
      generation = some_generation old generation next;
      version = refl;
      size = legal;
      cluster = or_later (nat_eq K.cluster 4096) (is_cluster_size K.cluster) (both (nat_le 256 K.names && nat_le K.names most_names) (is_cluster_size K.cluster) parts.1).1;
      generation_fits = few;
      image_fits = short;
    }

-- ---- the half that rules, while the other one is written
pub changing_now : {D : Type 0} {reads : D → Option Parts} {clock : D → Option ℕ} {images : D → ℕ → Parts → Type 0} {was next : Head} {image front : List ℕ} {bodies : List (List ℕ)} {journal : Journal} {disk : D}
    → Changing reads clock images was image bodies next front journal disk → EachImage clock images (HoldsStore journal.ruling was image bodies) disk disk
changing_now {was = was} {image = image} {bodies = bodies} {journal = journal} ch =
    started (record {
      now = λ t i told left.
          stays_store journal.ruling was image bodies ch.was i ch.store
          (shut_stays journal.ruling (part_of journal.ruling ch.was) i ch.filling.follows.opened ch.filling.follows.sound (ch.filling.beside.now t i told left));
    })

-- it keeps the rows, and so does the one that is written
pub old_holds : (ruling : Part) (kept : Rows) (was : Head) (image : List ℕ) (bodies : List (List ℕ)) (R : Rows) (K : Capacity) (parts : Parts) → Keeps kept was image bodies [] R → was.size ≡ K → HoldsStore ruling was image bodies parts → HoldsState K (lasting R) parts
old_holds ruling kept was image bodies R K parts k size s =
    subst (λ (K : Capacity). HoldsState K (lasting R) parts) size
    (subst (λ (kept : Rows). HoldsState was.size kept parts) (keeps_settled kept was image bodies R k) (written_holds ruling kept was image bodies [] R parts k s))

pub new_keeps : (head : Head) (R : Rows) (K : Capacity) → head.size ≡ K → IsValid K R → list_all piece_legal (pieces R) ≡ true → Keeps (lasting R) head (flat_map piece_spelled (pieces R)) [] [] R
new_keeps head R K size valid legal =
    image_keeps head (flat_map piece_spelled (pieces R)) R (subst (λ (K : Capacity). IsValid K R) (sym size) valid) (written_again R legal)

pub either_holds : (ruling : Part) (kept : Rows) (was next : Head) (image new : List ℕ) (bodies : List (List ℕ)) (R : Rows) (K : Capacity) (parts : Parts) → Keeps kept was image bodies [] R → was.size ≡ K → Keeps (lasting R) next new [] [] R → next.size ≡ K
    → HoldsOldOrNew ruling was image bodies next new parts → HoldsState K (lasting R) parts
either_holds ruling kept was next image new bodies R K parts k size l next_size h =
    subst (λ (K : Capacity). HoldsState K (lasting R) parts) size (change_leaves ruling kept was next image new bodies R parts k l (next_size ∙ sym size) h)
