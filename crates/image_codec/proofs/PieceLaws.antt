-- The pieces of rows, joined, are the image of what is kept of them.
use Rattle.std.proofs.Common.{◌≡◌, ℕ, List, [], ◌∷◌, ◌++◌, length, refl, sym, ap, ◌∙◌, append_assoc}
use Rattle.std.specs.Prelude.{map}
use Rattle.std.specs.List.{flat_map}
use Rattle.std.proofs.lemmas.List.{length-map}
use Rattle.std.proofs.lemmas.List.Concat.{flat_map-append}
use Rattle.fsrm_model.specs.declared.row.Rows.{Rows}
use Rattle.fsrm_model.specs.store.Lasting.{flagged_quota, lasting}
use Rattle.record_fields.specs.Formats.{Format, number_spelled, listed_spelled}
use Rattle.image_codec.specs.Images.{image}
use Rattle.image_codec.specs.Pieces.{Piece, NodePiece, QuotaPiece, TemplatePiece, AutoPiece, GroupPiece, ScreenPiece, ExceptPiece, JobPiece, ActPiece, AuditPiece, piece_spelled, list_pieces, pieces}
use Rattle.image_codec.specs.Rows.{rows, node, quota, template, auto, group, screen, except, job, act, audit}

mapped : {X Y : Type 0} (make : X → Piece) (kept : X → Y) (f : Format Y) → ((x : X) → piece_spelled (make x) ≡ f.spell (kept x)) → (xs : List X) → flat_map piece_spelled (map make xs) ≡ flat_map f.spell (map kept xs)
mapped make kept f each [] = refl
mapped make kept f each (x ∷ xs) = ap (λ (b : List ℕ). b ++ flat_map piece_spelled (map make xs)) (each x) ∙ ap (λ (b : List ℕ). f.spell (kept x) ++ b) (mapped make kept f each xs)

listed : {X Y : Type 0} (make : X → Piece) (kept : X → Y) (f : Format Y) → ((x : X) → piece_spelled (make x) ≡ f.spell (kept x)) → (xs : List X) → flat_map piece_spelled (list_pieces make xs) ≡ (rows f).spell (map kept xs)
unfolding listed_spelled
listed make kept f each xs = ap (λ (n : ℕ). number_spelled 4 n ++ flat_map piece_spelled (map make xs)) (sym (length-map xs kept)) ∙ ap (λ (b : List ℕ). number_spelled 4 (length (map kept xs)) ++ b) (mapped make kept f each xs)

pub same_map : {X : Type 0} (xs : List X) → map (λ x. x) xs ≡ xs
same_map [] = refl
same_map (x ∷ xs) = ap (λ ys. x ∷ ys) (same_map xs)

plain : {X : Type 0} (make : X → Piece) (f : Format X) → ((x : X) → piece_spelled (make x) ≡ f.spell x) → (xs : List X) → flat_map piece_spelled (list_pieces make xs) ≡ (rows f).spell xs
plain make f each xs = listed make (λ x. x) f each xs ∙ ap (rows f).spell (same_map xs)

joined : (ps qs : List Piece) (x y : List ℕ) → flat_map piece_spelled ps ≡ x → flat_map piece_spelled qs ≡ y → flat_map piece_spelled (ps ++ qs) ≡ x ++ y
joined ps qs x y p q = flat_map-append piece_spelled ps qs ∙ ap (λ (b : List ℕ). b ++ flat_map piece_spelled qs) p ∙ ap (λ (b : List ℕ). x ++ b) q

pub pieces_spelled : (R : Rows) → flat_map piece_spelled (pieces R) ≡ image.spell (lasting R)
pieces_spelled R =
    let audits : List Piece = list_pieces AuditPiece R.audits in
    let audits_spelled : List ℕ = (rows audit).spell R.audits in
    let audits_so : flat_map piece_spelled audits ≡ audits_spelled = plain AuditPiece audit (λ x. refl) R.audits in
    let acts : List Piece = list_pieces ActPiece R.acts ++ audits in
    let acts_spelled : List ℕ = (rows act).spell R.acts ++ audits_spelled in
    let acts_so : flat_map piece_spelled acts ≡ acts_spelled = joined (list_pieces ActPiece R.acts) audits ((rows act).spell R.acts) audits_spelled (plain ActPiece act (λ x. refl) R.acts) audits_so in
    let jobs : List Piece = list_pieces JobPiece R.jobs ++ acts in
    let jobs_spelled : List ℕ = (rows job).spell R.jobs ++ acts_spelled in
    let jobs_so : flat_map piece_spelled jobs ≡ jobs_spelled = joined (list_pieces JobPiece R.jobs) acts ((rows job).spell R.jobs) acts_spelled (plain JobPiece job (λ x. refl) R.jobs) acts_so in
    let excepts : List Piece = list_pieces ExceptPiece R.excepts ++ jobs in
    let excepts_spelled : List ℕ = (rows except).spell R.excepts ++ jobs_spelled in
    let excepts_so : flat_map piece_spelled excepts ≡ excepts_spelled = joined (list_pieces ExceptPiece R.excepts) jobs ((rows except).spell R.excepts) jobs_spelled (plain ExceptPiece except (λ x. refl) R.excepts) jobs_so in
    let screens : List Piece = list_pieces ScreenPiece R.screens ++ excepts in
    let screens_spelled : List ℕ = (rows screen).spell R.screens ++ excepts_spelled in
    let screens_so : flat_map piece_spelled screens ≡ screens_spelled = joined (list_pieces ScreenPiece R.screens) excepts ((rows screen).spell R.screens) excepts_spelled (plain ScreenPiece screen (λ x. refl) R.screens) excepts_so in
    let groups : List Piece = list_pieces GroupPiece R.groups ++ screens in
    let groups_spelled : List ℕ = (rows group).spell R.groups ++ screens_spelled in
    let groups_so : flat_map piece_spelled groups ≡ groups_spelled = joined (list_pieces GroupPiece R.groups) screens ((rows group).spell R.groups) screens_spelled (plain GroupPiece group (λ x. refl) R.groups) screens_so in
    let autos : List Piece = list_pieces AutoPiece R.autos ++ groups in
    let autos_spelled : List ℕ = (rows auto).spell R.autos ++ groups_spelled in
    let autos_so : flat_map piece_spelled autos ≡ autos_spelled = joined (list_pieces AutoPiece R.autos) groups ((rows auto).spell R.autos) groups_spelled (plain AutoPiece auto (λ x. refl) R.autos) groups_so in
    let templates : List Piece = list_pieces TemplatePiece R.templates ++ autos in
    let templates_spelled : List ℕ = (rows template).spell R.templates ++ autos_spelled in
    let templates_so : flat_map piece_spelled templates ≡ templates_spelled = joined (list_pieces TemplatePiece R.templates) autos ((rows template).spell R.templates) autos_spelled (plain TemplatePiece template (λ x. refl) R.templates) autos_so in
    let quotas : List Piece = list_pieces QuotaPiece R.quotas ++ templates in
    let quotas_spelled : List ℕ = (rows quota).spell (map flagged_quota R.quotas) ++ templates_spelled in
    let quotas_so : flat_map piece_spelled quotas ≡ quotas_spelled = joined (list_pieces QuotaPiece R.quotas) templates ((rows quota).spell (map flagged_quota R.quotas)) templates_spelled (listed QuotaPiece flagged_quota quota (λ x. refl) R.quotas) templates_so in
    let nodes : List Piece = list_pieces NodePiece R.nodes ++ quotas in
    let nodes_spelled : List ℕ = (rows node).spell R.nodes ++ quotas_spelled in
    let nodes_so : flat_map piece_spelled nodes ≡ nodes_spelled = joined (list_pieces NodePiece R.nodes) quotas ((rows node).spell R.nodes) quotas_spelled (plain NodePiece node (λ x. refl) R.nodes) quotas_so in
    ap (λ (b : List ℕ). (number_spelled 8 R.last_moment ++ number_spelled 4 R.run_limit) ++ b) nodes_so
    ∙ append_assoc (number_spelled 8 R.last_moment) (number_spelled 4 R.run_limit) nodes_spelled
