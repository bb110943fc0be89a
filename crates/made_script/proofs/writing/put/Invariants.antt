use Rattle.std.proofs.Common.{◌≡◌, ◌++◌, take}
use Rattle.std.specs.Prelude.{flat_map}
use Rattle.line_parts.specs.Parts.{part_text}
use Rattle.made_script.proofs.writing.put.Given as goal

-- the parts up to a place are there
abbrev pub invariant-parts : goal.invariant-parts
invariant-parts l = l.text.items ≡ l.fn.text.items ++ flat_map part_text (take l.part-index l.parts)
