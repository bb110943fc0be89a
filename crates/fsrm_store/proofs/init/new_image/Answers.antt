use Rattle.std.proofs.Common.{◌≡◌, ◌≤◌, List, ℕ, length, drop, ◌∙◌, ap, arith}
use Rattle.std.proofs.lemmas.List.{take-append-le, take_all}
use Rattle.fsrm_model.specs.declared.row.Rows.{Rows}
use Rattle.fsrm_model.specs.store.Lasting.{lasting}
use Rattle.image_codec.specs.ImageOut.{image_left}
use Rattle.image_codec.specs.Images.{image}
use Rattle.image_codec.specs.NewImage.{new_image}
use Rattle.image_codec.proofs.NewImage.{new_spelled}
use Rattle.fsrm_store.proofs.InitLaws.{all_written}
use Rattle.fsrm_store.proofs.init.new_image.Goals as goal

pub returns : goal.returns
returns c =
    let made = c.in_ok-image.image in
    let into = c.next.new.into in
    let spelled : image.spell (lasting c.in_ok-rows.rows) ≡ new_image = ap (λ (R : Rows). image.spell (lasting R)) c.in_ok-rows.ensures ∙ new_spelled in
    let left : image_left c.in_ok-out.out ≡ new_image = c.in_ok-out.ensures.all ∙ spelled in
    let same : length into ≡ length c.deref_mut.result.now = c.next.auto.into in
    let room : length c.deref_mut.result.now ≡ length new_image = omega (arith, c.deref_mut.ensures.len, c.in_ok-image.ensures.len, c.image_len.ensures, ap (λ (l : List ℕ). length l) spelled) in
    let few : made.len ≤ length into = omega (arith, c.deref_mut.ensures.len, same) in
    let most : length into ≤ made.len = omega (arith, c.deref_mut.ensures.len, same) in
    take-append-le made.len into (drop (length into) made.items) few ∙ take_all made.len into most
    ∙ all_written (image_left c.in_ok-out.out) new_image (image_left c.next.new.self) into c.next.result (length c.deref_mut.result.now) left c.next.ensures.written c.next.ensures.count room same
