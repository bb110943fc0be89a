use Rattle.std.proofs.Common.{refl}
use Rattle.fsrm_base.proofs.TestLaws.{both_true}
use Rattle.record_fields.proofs.WriterLaws.{writes_then}
use Rattle.image_codec.proofs.nodes.put_node.Goals as goal

pub returns-clause-written : goal.returns-clause-written
returns-clause-written c =
    writes_then c.put-number_end.ensures.written (writes_then c.put-parent_end.ensures.written (writes_then c.put_name-name_end.ensures.written
    (writes_then c.put-folder_end.ensures.written (writes_then c.put-length_end.ensures.written (writes_then c.put-owner_end.ensures.written
    (writes_then c.put-created_end.ensures.written (writes_then c.put-modified_end.ensures.written c.put.ensures.written)))))))

pub returns-clause-legal : goal.returns-clause-legal
returns-clause-legal c = λ short.
    both_true _ _ (c.put-number_end.ensures.legal refl) (both_true _ _ (c.put-parent_end.ensures.legal refl) (both_true _ _ (c.put_name-name_end.ensures.legal short)
    (both_true _ _ (c.put-folder_end.ensures.legal refl) (both_true _ _ (c.put-length_end.ensures.legal refl) (both_true _ _ (c.put-owner_end.ensures.legal refl)
    (both_true _ _ (c.put-created_end.ensures.legal refl) (both_true _ _ (c.put-modified_end.ensures.legal refl) (c.put.ensures.legal refl))))))))
