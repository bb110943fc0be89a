use Rattle.std.proofs.Common.{◌≡◌, sym, ◌∙◌, [], subst, List, ap}
use Rattle.fsrm_outside.specs.Contents.{parts_in}
use Rattle.fsrm_outside.specs.DiskModel.{IsImage}
use Rattle.fsrm_outside.specs.ImageLaws.{two_parts}
use Rattle.fsrm_outside.specs.Record.{since}
use Rattle.fsrm_outside.specs.declared.calls.Call.{Call}
use Rattle.fsrm_outside.proofs.memory.MemoryOutside.with_parts.Goals as goal

-- no call was made, so the parts at the start are the only image
pub returns-clause-stable : goal.returns-clause-stable
returns-clause-stable c image is =
    let h = c.in_ok-begin.field-0 in
    let none : since h.begun [] ≡ [] = ap (λ n. since n []) c.in_ok-begin.ensures.begun in
    let only : IsImage (parts_in h.start) [] image = subst (λ (l : List Call). IsImage (parts_in h.start) l image) none is in
    two_parts (parts_in h.start) image only.0 only.1 ∙ c.in_ok-begin.ensures.start ∙ sym c.in_ok-begin.ensures.parts
