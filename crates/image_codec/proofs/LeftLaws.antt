-- The pieces of rows by sections: how many there are, how many bytes they have, and that those of valid rows fit.
use Rattle.std.proofs.Common.{◌≡◌, ℕ, ◌+◌, ◌*◌, ◌^◌, ◌≤◌, ◌<◌, Bool, true, List, [], ◌∷◌, ◌++◌, length, refl, sym, ap, ◌∙◌, arith}
use Rattle.std.specs.Prelude.{map, ◌&&◌, nat_lt, nat_le}
use Rattle.std.specs.List.{flat_map, list_all}
use Rattle.std.proofs.Math.Nat.{mul-le-mul_right}
use Rattle.std.proofs.lemmas.Bool.{lt-ltb, ltb-true, leb-true}
use Rattle.std.proofs.lemmas.List.{length-map, length-append, append-nil}
use Rattle.std.proofs.lemmas.List.Folds.{list_all-append}
use Rattle.fsrm_base.proofs.TestLaws.{both, both_true}
use Rattle.fsrm_base.specs.Keyed.{is_ascending, has_row}
use Rattle.fsrm_model.specs.declared.row.Capacity.{Capacity}
use Rattle.fsrm_model.specs.declared.row.NodeRow.{NodeRow}
use Rattle.fsrm_model.specs.declared.row.Rows.{Rows}
use Rattle.fsrm_model.specs.nodes.Tree.{number}
use Rattle.fsrm_model.specs.objects.AutoApply.{auto_folder}
use Rattle.fsrm_model.specs.objects.Quota.{folder_of}
use Rattle.fsrm_model.specs.objects.Jobs.{job_number}
use Rattle.fsrm_model.specs.objects.Screens.{screen_folder, except_folder}
use Rattle.fsrm_model.specs.objects.Templates.{template_number}
use Rattle.fsrm_model.specs.store.Valid.{is_sound_node, is_tree, are_quotas, are_templates, are_autos, are_groups, are_screens, are_excepts, are_audits, are_entries, are_jobs, are_tables, has_source, is_valid}
use Rattle.fsrm_model.specs.values.Limits.{most_quotas, most_templates, most_autos, most_groups, most_screens, most_excepts, most_jobs, most_entries, most_text_bytes}
use Rattle.fsrm_model.specs.values.Patterns.{group_number}
use Rattle.fsrm_model.specs.values.Texts.{object_texts}
use Rattle.record_fields.specs.Formats.{number_legal}
use Rattle.image_codec.specs.declared.section.Section.{Section}
use Rattle.image_codec.specs.declared.section.Section.TheVariants.{Start, Nodes, Quotas, Templates, Autos, Groups, Screens, Excepts, Jobs, Acts, Audits}
use Rattle.image_codec.specs.Pieces.{Piece, StartPiece, CountPiece, NodePiece, QuotaPiece, TemplatePiece, AutoPiece, GroupPiece, ScreenPiece, ExceptPiece, JobPiece, ActPiece, AuditPiece, piece_meets, piece_spelled, longest_piece, list_pieces, pieces}
use Rattle.image_codec.specs.PiecesLeft.{is_counted, piece_fits, row_pieces, row_count, sections_pieces}
use Rattle.image_codec.specs.Sections.{following}
use Rattle.image_codec.proofs.LengthLaws.{flat_short, piece_short}
use Rattle.image_codec.proofs.ValidLaws.{each_so, valid_pieces}

-- ---- all pieces
pub all_left : (R : Rows) → row_pieces Start R ++ sections_pieces (following Start) R ≡ pieces R
all_left R =
    ap (λ (last : List Piece). StartPiece R.last_moment R.run_limit ∷ (list_pieces NodePiece R.nodes ++ (list_pieces QuotaPiece R.quotas ++ (list_pieces TemplatePiece R.templates ++ (list_pieces AutoPiece R.autos
    ++ (list_pieces GroupPiece R.groups ++ (list_pieces ScreenPiece R.screens ++ (list_pieces ExceptPiece R.excepts ++ (list_pieces JobPiece R.jobs ++ (list_pieces ActPiece R.acts ++ last))))))))))
    (append-nil (list_pieces AuditPiece R.audits))

pub counted : (s : Section) (R : Rows) → length (row_pieces s R) ≡ row_count s R
counted Start R = refl
counted Nodes R = length-map R.nodes NodePiece
counted Quotas R = length-map R.quotas QuotaPiece
counted Templates R = length-map R.templates TemplatePiece
counted Autos R = length-map R.autos AutoPiece
counted Groups R = length-map R.groups GroupPiece
counted Screens R = length-map R.screens ScreenPiece
counted Excepts R = length-map R.excepts ExceptPiece
counted Jobs R = length-map R.jobs JobPiece
counted Acts R = length-map R.acts ActPiece
counted Audits R = length-map R.audits AuditPiece

pub fits_count : (n : ℕ) → piece_fits (CountPiece n) ≡ true → n < 2 ^ 32
fits_count n fits = omega (arith, ltb-true n (256 ^ 4) (both (number_legal 4 n) true fits).0)

pub fits_meets : (p : Piece) → piece_fits p ≡ true → piece_meets p ≡ true
fits_meets p fits = (both (is_counted p) (piece_meets p) fits).1

-- ---- how many, and how long
sections_few : (ss : List Section) (R : Rows) → list_all piece_fits (sections_pieces ss R) ≡ true → length (sections_pieces ss R) ≤ length ss * 2 ^ 32
sections_few [] R fits = omega arith
sections_few (s ∷ ss) R fits =
    let b = both (piece_fits (CountPiece (row_count s R))) (list_all piece_fits (row_pieces s R ++ sections_pieces ss R)) fits in
    let r = both (list_all piece_fits (row_pieces s R)) (list_all piece_fits (sections_pieces ss R)) (sym (list_all-append piece_fits (row_pieces s R) (sections_pieces ss R)) ∙ b.1) in
    omega (arith, fits_count (row_count s R) b.0, counted s R, length-append (row_pieces s R) (sections_pieces ss R), sections_few ss R r.1)

pub few_bytes : (R : Rows) → list_all piece_fits (pieces R) ≡ true → length (flat_map piece_spelled (pieces R)) < 2 ^ 63
few_bytes R fits =
    let later : list_all piece_fits (sections_pieces (following Start) R) ≡ true = (both (piece_fits (StartPiece R.last_moment R.run_limit)) (list_all piece_fits (sections_pieces (following Start) R)) (ap (list_all piece_fits) (all_left R) ∙ fits)).1 in
    let few = sections_few (following Start) R later in
    let count : length (pieces R) ≤ 2 ^ 36 = omega (arith, few, ap length (all_left R)) in
    let short = flat_short piece_spelled piece_fits longest_piece (λ p fit. piece_short p (fits_meets p fit)) (pieces R) fits in
    omega (arith, short, mul-le-mul_right longest_piece count)

-- ---- valid rows
ascending_below : {X : Type 0} (key : X → ℕ) (bound : ℕ) (x : X) (xs : List X) → is_ascending key (x ∷ xs) ≡ true → list_all (λ y. nat_lt (key y) bound) (x ∷ xs) ≡ true → key x + length (x ∷ xs) ≤ bound
ascending_below key bound x [] rises below = omega (arith, ltb-true (key x) bound (both (nat_lt (key x) bound) true below).0)
ascending_below key bound x (y ∷ ys) rises below =
    let r = both (nat_lt (key x) (key y)) (is_ascending key (y ∷ ys)) rises in
    omega (arith, ltb-true (key x) (key y) r.0, ascending_below key bound y ys r.1 (both (nat_lt (key x) bound) (list_all (λ z. nat_lt (key z) bound) (y ∷ ys)) below).1)

few_ascending : {X : Type 0} (key : X → ℕ) (bound : ℕ) (xs : List X) → is_ascending key xs ≡ true → list_all (λ y. nat_lt (key y) bound) xs ≡ true → length xs ≤ bound
few_ascending key bound [] rises below = omega arith
few_ascending key bound (x ∷ xs) rises below = omega (arith, ascending_below key bound x xs rises below)

each_below : (K : Capacity) (nodes rows : List NodeRow) → list_all (is_sound_node K nodes) rows ≡ true → list_all (λ r. nat_lt (number r) K.nodes) rows ≡ true
each_below K nodes rows sound = each_so (is_sound_node K nodes) (λ r. nat_lt (number r) K.nodes) (λ r is. (both (nat_lt r.number K.nodes) _ is).0) rows sound

few_nodes : (K : Capacity) (nodes : List NodeRow) → is_tree K nodes ≡ true → length nodes ≤ K.nodes
few_nodes K nodes tree =
    let t = both (is_ascending number nodes && has_row number 0 nodes) _ tree in
    few_ascending number K.nodes nodes (both (is_ascending number nodes) (has_row number 0 nodes) t.0).0 (each_below K nodes nodes (both (list_all (is_sound_node K nodes) nodes) _ t.1).0)

each_counted : {X : Type 0} (make : X → Piece) → ((x : X) → is_counted (make x) ≡ true) → (xs : List X) → list_all is_counted (map make xs) ≡ true
each_counted make each [] = refl
each_counted make each (x ∷ xs) = both_true _ _ (each x) (each_counted make each xs)

list_counted : {X : Type 0} (make : X → Piece) → ((x : X) → is_counted (make x) ≡ true) → (xs : List X) (rest : List Piece) → length xs < 2 ^ 32 → list_all is_counted rest ≡ true → list_all is_counted (list_pieces make xs ++ rest) ≡ true
list_counted make each xs rest few after =
    both_true _ _ (lt-ltb (length xs) (256 ^ 4) (omega (arith, few)))
    (list_all-append is_counted (map make xs) rest ∙ both_true _ _ (each_counted make each xs) after)

both_all : {X : Type 0} (p q : X → Bool) (xs : List X) → list_all p xs ≡ true → list_all q xs ≡ true → list_all (λ x. p x && q x) xs ≡ true
both_all p q [] a b = refl
both_all p q (x ∷ xs) a b =
    let s = both (p x) (list_all p xs) a in
    let t = both (q x) (list_all q xs) b in
    both_true _ _ (both_true _ _ s.0 t.0) (both_all p q xs s.1 t.1)

small : (n most : ℕ) → most < 2 ^ 32 → nat_le n most ≡ true → n < 2 ^ 32
small n most less few = omega (arith, less, leb-true n most few)

counts_fit : (K : Capacity) (R : Rows) → K.nodes < 2 ^ 32 → is_valid K R ≡ true → list_all is_counted (pieces R) ≡ true
counts_fit K R size valid =
    let v = both (is_tree K R.nodes && (are_quotas R.nodes R.quotas && are_tables R)) _ valid in
    let w = both (is_tree K R.nodes) (are_quotas R.nodes R.quotas && are_tables R) v.0 in
    let t = both (are_quotas R.nodes R.quotas) (are_tables R) w.1 in
    let u = both (list_all (has_source R.templates) R.quotas && (are_templates R.templates && (are_autos R.nodes R.templates R.autos && are_jobs R.nodes R.jobs)))
    ((are_groups R.groups && are_screens R.nodes R.groups R.excepts R.screens) && (are_excepts R.nodes R.groups R.excepts && are_audits R.audits)) t.1 in
    let a = both (list_all (has_source R.templates) R.quotas) (are_templates R.templates && (are_autos R.nodes R.templates R.autos && are_jobs R.nodes R.jobs)) u.0 in
    let b = both (are_templates R.templates) (are_autos R.nodes R.templates R.autos && are_jobs R.nodes R.jobs) a.1 in
    let c = both (are_autos R.nodes R.templates R.autos) (are_jobs R.nodes R.jobs) b.1 in
    let d = both (are_groups R.groups && are_screens R.nodes R.groups R.excepts R.screens) (are_excepts R.nodes R.groups R.excepts && are_audits R.audits) u.1 in
    let e = both (are_groups R.groups) (are_screens R.nodes R.groups R.excepts R.screens) d.0 in
    let f = both (are_excepts R.nodes R.groups R.excepts) (are_audits R.audits) d.1 in
    let g = both (are_entries R.acts) _ (both (nat_le (object_texts R) most_text_bytes) _ (both (nat_le (object_texts R) most_text_bytes && _) _ v.1).0).1 in
    let nodes : length R.nodes < 2 ^ 32 = omega (arith, size, few_nodes K R.nodes w.0) in
    let quotas = small (length R.quotas) most_quotas (omega arith) (both (is_ascending folder_of R.quotas) _ (both (is_ascending folder_of R.quotas && _) _ t.0).0).1 in
    let templates = small (length R.templates) most_templates (omega arith) (both (is_ascending template_number R.templates) _ (both (is_ascending template_number R.templates && _) _ b.0).0).1 in
    let autos = small (length R.autos) most_autos (omega arith) (both (is_ascending auto_folder R.autos) _ (both (is_ascending auto_folder R.autos && _) _ c.0).0).1 in
    let groups = small (length R.groups) most_groups (omega arith) (both (is_ascending group_number R.groups) _ (both (is_ascending group_number R.groups && _) _ e.0).0).1 in
    let screens = small (length R.screens) most_screens (omega arith) (both (is_ascending screen_folder R.screens) _ (both (is_ascending screen_folder R.screens && _) _ e.1).0).1 in
    let excepts = small (length R.excepts) most_excepts (omega arith) (both (is_ascending except_folder R.excepts) _ (both (is_ascending except_folder R.excepts && _) _ f.0).0).1 in
    let jobs = small (length R.jobs) most_jobs (omega arith) (both (is_ascending job_number R.jobs) _ (both (is_ascending job_number R.jobs && _) _ c.1).0).1 in
    let acts = small (length R.acts) most_entries (omega arith) (both (nat_le (length R.acts) most_entries) _ g.0).0 in
    let audits = small (length R.audits) most_entries (omega arith) (both (nat_le (length R.audits) most_entries) _ f.1).0 in
    ap (list_all is_counted) (sym (all_left R))
    ∙ list_counted NodePiece (λ x. refl) R.nodes _ nodes (list_counted QuotaPiece (λ x. refl) R.quotas _ quotas (list_counted TemplatePiece (λ x. refl) R.templates _ templates
    (list_counted AutoPiece (λ x. refl) R.autos _ autos (list_counted GroupPiece (λ x. refl) R.groups _ groups (list_counted ScreenPiece (λ x. refl) R.screens _ screens
    (list_counted ExceptPiece (λ x. refl) R.excepts _ excepts (list_counted JobPiece (λ x. refl) R.jobs _ jobs (list_counted ActPiece (λ x. refl) R.acts _ acts
    (list_counted AuditPiece (λ x. refl) R.audits [] audits refl)))))))))

pub valid_fits : (K : Capacity) (R : Rows) → K.nodes < 2 ^ 32 → is_valid K R ≡ true → list_all piece_fits (pieces R) ≡ true
valid_fits K R size valid = both_all is_counted piece_meets (pieces R) (counts_fit K R size valid) (valid_pieces K R valid)
