-- File operations whose values are legal have a spelling, of the length that the definitions count.
use Rattle.std.proofs.Common.{◌≡◌, ◌+◌, true, [], ◌∷◌, length, ◌∙◌, arith}
use Rattle.std.specs.Prelude.{◌&&◌, sum_by}
use Rattle.std.specs.List.{list_all}
use Rattle.fsrm_base.proofs.TestLaws.{both, both_true}
use Rattle.fsrm_model.specs.commands.Commands.{is_owner, is_length, form_of_op, paths_of_op}
use Rattle.fsrm_model.specs.commands.Entry.{Path, path_bytes}
use Rattle.fsrm_model.specs.declared.command.FileOp.{FileOp}
use Rattle.fsrm_model.specs.declared.command.FileOp.TheVariants.{Mkdir, Create, Resize, Touch, Move, Remove}
use Rattle.fsrm_model.specs.store.Valued.{is_path, is_op, is_short_path}
use Rattle.record_codec.specs.Fields.{path}
use Rattle.record_codec.specs.Files.{file_kind_in, file_op, file_spelled}
use Rattle.record_codec.specs.Typed.{is_path_text}
use Rattle.record_codec.specs.Writing.{file_typed}
use Rattle.record_codec.proofs.Legal.{owner_legal, length_legal, path_legal, first_path, one_byte, eight_bytes, two, path_long}

one_path : (p : Path) → list_all is_path (p ∷ []) ≡ true → list_all is_short_path (p ∷ []) ≡ true → list_all is_path_text (p ∷ []) ≡ true → path.legal p ≡ true
one_path p names short utf8 = first_path p names short (both (is_path_text p) true utf8).0

pub file_legal : (op : FileOp) → is_op op ≡ true → list_all is_short_path (paths_of_op op) ≡ true → file_typed op ≡ true → (file_op (file_kind_in op)).legal op ≡ true
file_legal (Mkdir at who) legal short text =
    let l = both (list_all is_path (at ∷ [])) (is_owner who) legal in
    both_true _ _ (one_path at l.0 short text) (owner_legal who l.1)
file_legal (Create at size who) legal short text =
    let l = both (list_all is_path (at ∷ [])) (is_length size && is_owner who) legal in
    let v = both (is_length size) (is_owner who) l.1 in
    both_true _ _ (one_path at l.0 short text) (both_true _ _ (length_legal size v.0) (owner_legal who v.1))
file_legal (Resize at size) legal short text =
    let l = both (list_all is_path (at ∷ [])) (is_length size) legal in
    both_true _ _ (one_path at l.0 short text) (length_legal size l.1)
file_legal (Touch at) legal short text = one_path at (both (list_all is_path (at ∷ [])) true legal).0 short text
file_legal (Move from to) legal short text =
    let l = both (list_all is_path (from ∷ to ∷ [])) true legal in
    let p = both (is_path from) (list_all is_path (to ∷ [])) l.0 in
    let s = both (is_short_path from) (list_all is_short_path (to ∷ [])) short in
    let t = both (is_path_text from) (list_all is_path_text (to ∷ [])) text in
    both_true _ _ (path_legal from p.0 s.0 t.0) (one_path to p.1 s.1 t.1)
file_legal (Remove at) legal short text = one_path at (both (list_all is_path (at ∷ [])) true legal).0 short text

pub file_bytes : (op : FileOp) → length (file_spelled op) ≡ 1 + (sum_by path_bytes (paths_of_op op) + (form_of_op op).entry.bytes)
file_bytes (Mkdir at who) = two _ _ _ _ (one_byte 1) (two _ _ _ _ (path_long at) (eight_bytes who)) ∙ omega arith
file_bytes (Create at size who) = two _ _ _ _ (one_byte 2) (two _ _ _ _ (path_long at) (two _ _ _ _ (eight_bytes size) (eight_bytes who))) ∙ omega arith
file_bytes (Resize at size) = two _ _ _ _ (one_byte 3) (two _ _ _ _ (path_long at) (eight_bytes size)) ∙ omega arith
file_bytes (Touch at) = two _ _ _ _ (one_byte 4) (path_long at) ∙ omega arith
file_bytes (Move from to) = two _ _ _ _ (one_byte 5) (two _ _ _ _ (path_long from) (path_long to)) ∙ omega arith
file_bytes (Remove at) = two _ _ _ _ (one_byte 6) (path_long at) ∙ omega arith
