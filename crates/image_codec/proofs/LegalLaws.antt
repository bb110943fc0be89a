-- Pieces that are all legal join to an image that is.
use Rattle.std.proofs.Common.{◌≡◌, true, List, [], ◌∷◌, ◌++◌, length, refl, sym, ap, ◌∙◌}
use Rattle.std.specs.Prelude.{map, ◌&&◌}
use Rattle.std.specs.List.{list_all}
use Rattle.std.proofs.lemmas.List.{length-map, append-nil}
use Rattle.std.proofs.lemmas.List.Folds.{list_all-append}
use Rattle.fsrm_base.proofs.TestLaws.{both, both_true}
use Rattle.fsrm_model.specs.declared.row.Rows.{Rows}
use Rattle.fsrm_model.specs.store.Lasting.{flagged_quota, lasting}
use Rattle.record_fields.specs.Formats.{Format, number_legal}
use Rattle.image_codec.specs.Images.{image}
use Rattle.image_codec.specs.Pieces.{Piece, NodePiece, QuotaPiece, TemplatePiece, AutoPiece, GroupPiece, ScreenPiece, ExceptPiece, JobPiece, ActPiece, AuditPiece, piece_legal, list_pieces, pieces}
use Rattle.image_codec.specs.Rows.{rows, node, quota, template, auto, group, screen, except, job, act, audit}
use Rattle.image_codec.proofs.PieceLaws.{same_map}

mapped_legal : {X Y : Type 0} (make : X → Piece) (kept : X → Y) (f : Format Y) → ((x : X) → piece_legal (make x) ≡ f.legal (kept x)) → (xs : List X) → list_all piece_legal (map make xs) ≡ true
    → list_all f.legal (map kept xs) ≡ true
mapped_legal make kept f each [] all = refl
mapped_legal make kept f each (x ∷ xs) all =
    let b = both (piece_legal (make x)) (list_all piece_legal (map make xs)) all in both_true _ _ (sym (each x) ∙ b.0) (mapped_legal make kept f each xs b.1)

-- a list's pieces, and those after them
listed_legal : {X Y : Type 0} (make : X → Piece) (kept : X → Y) (f : Format Y) → ((x : X) → piece_legal (make x) ≡ f.legal (kept x)) → (xs : List X) (rest : List Piece) → list_all piece_legal (list_pieces make xs ++ rest) ≡ true
    → ((rows f).legal (map kept xs) ≡ true) × (list_all piece_legal rest ≡ true)
listed_legal make kept f each xs rest all =
    let c = both (number_legal 4 (length xs)) (list_all piece_legal (map make xs ++ rest)) all in
    let b = both (list_all piece_legal (map make xs)) (list_all piece_legal rest) (sym (list_all-append piece_legal (map make xs) rest) ∙ c.1) in
    (both_true _ _ (ap (number_legal 4) (length-map xs kept) ∙ c.0) (mapped_legal make kept f each xs b.0), b.1)

plain_legal : {X : Type 0} (make : X → Piece) (f : Format X) → ((x : X) → piece_legal (make x) ≡ f.legal x) → (xs : List X) (rest : List Piece) → list_all piece_legal (list_pieces make xs ++ rest) ≡ true
    → ((rows f).legal xs ≡ true) × (list_all piece_legal rest ≡ true)
plain_legal make f each xs rest all =
    let l = listed_legal make (λ x. x) f each xs rest all in (ap (rows f).legal (sym (same_map xs)) ∙ l.0, l.1)

pub legal_image : (R : Rows) → list_all piece_legal (pieces R) ≡ true → image.legal (lasting R) ≡ true
legal_image R all =
    let audits_pieces : List Piece = list_pieces AuditPiece R.audits in
    let acts_pieces : List Piece = list_pieces ActPiece R.acts ++ audits_pieces in
    let jobs_pieces : List Piece = list_pieces JobPiece R.jobs ++ acts_pieces in
    let excepts_pieces : List Piece = list_pieces ExceptPiece R.excepts ++ jobs_pieces in
    let screens_pieces : List Piece = list_pieces ScreenPiece R.screens ++ excepts_pieces in
    let groups_pieces : List Piece = list_pieces GroupPiece R.groups ++ screens_pieces in
    let autos_pieces : List Piece = list_pieces AutoPiece R.autos ++ groups_pieces in
    let templates_pieces : List Piece = list_pieces TemplatePiece R.templates ++ autos_pieces in
    let quotas_pieces : List Piece = list_pieces QuotaPiece R.quotas ++ templates_pieces in
    let s = both (number_legal 8 R.last_moment && number_legal 4 R.run_limit) (list_all piece_legal (list_pieces NodePiece R.nodes ++ quotas_pieces)) all in
    let start = both (number_legal 8 R.last_moment) (number_legal 4 R.run_limit) s.0 in
    let nodes = plain_legal NodePiece node (λ x. refl) R.nodes quotas_pieces s.1 in
    let quotas = listed_legal QuotaPiece flagged_quota quota (λ x. refl) R.quotas templates_pieces nodes.1 in
    let templates = plain_legal TemplatePiece template (λ x. refl) R.templates autos_pieces quotas.1 in
    let autos = plain_legal AutoPiece auto (λ x. refl) R.autos groups_pieces templates.1 in
    let groups = plain_legal GroupPiece group (λ x. refl) R.groups screens_pieces autos.1 in
    let screens = plain_legal ScreenPiece screen (λ x. refl) R.screens excepts_pieces groups.1 in
    let excepts = plain_legal ExceptPiece except (λ x. refl) R.excepts jobs_pieces screens.1 in
    let jobs = plain_legal JobPiece job (λ x. refl) R.jobs acts_pieces excepts.1 in
    let acts = plain_legal ActPiece act (λ x. refl) R.acts audits_pieces jobs.1 in
    let audits = plain_legal AuditPiece audit (λ x. refl) R.audits [] (ap (list_all piece_legal) (append-nil audits_pieces) ∙ acts.1) in
    both_true _ _ start.0 (both_true _ _ start.1 (both_true _ _ nodes.0 (both_true _ _ quotas.0 (both_true _ _ templates.0 (both_true _ _ autos.0
    (both_true _ _ groups.0 (both_true _ _ screens.0 (both_true _ _ excepts.0 (both_true _ _ jobs.0 (both_true _ _ acts.0 audits.0))))))))))
