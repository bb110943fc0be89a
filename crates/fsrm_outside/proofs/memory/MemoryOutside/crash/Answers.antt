use Rattle.std.proofs.Common.{◌≡◌, [], List, length, take, ap, subst, ◌∙◌, arith, length-take}
use Rattle.std.specs.Prelude.{reverse}
use Rattle.std.proofs.lemmas.List.{drop_all}
use Rattle.fsrm_outside.specs.Contents.{parts_in}
use Rattle.fsrm_outside.specs.DiskModel.{IsImage}
use Rattle.fsrm_outside.specs.ImageLaws.{two_parts}
use Rattle.fsrm_outside.specs.Record.{since}
use Rattle.fsrm_outside.specs.declared.calls.Call.{Call}
use Rattle.fsrm_outside.proofs.memory.MemoryOutside.crash.Goals as goal

-- no call was made since the crash, so what it left is the only image
pub returns-clause-stable : goal.returns-clause-stable
returns-clause-stable c image is =
    let h = c.crash.new.self in
    let calls = h.calls.items in
    let none : since h.begun (take (length calls) calls) ≡ [] = ap reverse (drop_all h.begun (take (length calls) calls) (omega (arith, c.crash.ensures.begun, length-take (length calls) calls))) in
    let only : IsImage (parts_in h.start) [] image = subst (λ (l : List Call). IsImage (parts_in h.start) l image) none is in
    two_parts (parts_in h.start) image only.0 only.1 ∙ c.crash.ensures.start
