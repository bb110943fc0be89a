use Rattle.std.proofs.Common.{◌<◌, ◌∙◌, length}
use Rattle.name_index.proofs.WordLaws.{few_bytes, some_bytes}
use Rattle.name_index.proofs.hash.short_word.Goals as goal
use Rattle.name_index.proofs.hash.short_word.Goals.{in_default-via-in-Some+in_default, in_default-via-in_default}

pub returns : goal.returns
returns c =
    some_bytes c.args.bytes.now c.in-Some-Some.first.now c.in-Some-Some.last.now c.from-2.result c.from.result c.in-Some-Some.ensures.cases.enough c.requires (λ i. (c.type_inv.bytes i).fits)
    c.in-Some-Some.ensures.cases.same c.in-Some-Some.ensures'.cases.1.same (c.from-2.ensures ∙ c.from_le_bytes-2.ensures) (c.from.ensures ∙ c.from_le_bytes.ensures)

pub returns-in_default : goal.returns-in_default
returns-in_default c =
    elim c.in_default.branch [
      | in_default-via-in-Some+in_default w ↦
          let few : length c.args.bytes.now < 4 = w.in_default.ensures'.cases in
          few_bytes c.args.bytes.now c.byte_at.result c.byte_at-in_default.result c.byte_at-in_default-2.result few (λ i. (c.type_inv.bytes i).fits) c.byte_at.ensures c.byte_at-in_default.ensures c.byte_at-in_default-2.ensures
      | in_default-via-in_default w ↦
          let few : length c.args.bytes.now < 4 = w.in_default.ensures.cases in
          few_bytes c.args.bytes.now c.byte_at.result c.byte_at-in_default.result c.byte_at-in_default-2.result few (λ i. (c.type_inv.bytes i).fits) c.byte_at.ensures c.byte_at-in_default.ensures c.byte_at-in_default-2.ensures
    ]
