use Rattle.std.proofs.Common.{◌≡◌, ◌∙◌, true, sym, subst}
use Rattle.std.specs.List.{list_all}
use Rattle.fsrm_model.specs.declared.row.Rows.{Rows}
use Rattle.fsrm_model.specs.store.Capacities.{is_capacity}
use Rattle.fsrm_store.proofs.ImageLaws.{fits_of}
use Rattle.image_codec.specs.Pieces.{pieces}
use Rattle.image_codec.specs.PiecesLeft.{piece_fits}
use Rattle.store_vectors.proofs.images.rows_of.Goals as goal

pub returns : goal.returns
returns g c =
    let legal = subst (λ K. is_capacity K ≡ true) (c.capacity-size.ensures.size ∙ c.tree.ensures.size) c.capacity-size.ensures.legal in
    let fits = fits_of c.args.engine.now.size c.args.engine.now.rows legal c.objects-objects.ensures.store in
    subst (λ (R : Rows). list_all piece_fits (pieces R) ≡ true) (sym c.in_ok-to_rows.ensures.rows) fits
