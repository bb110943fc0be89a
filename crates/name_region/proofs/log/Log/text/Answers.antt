-- The text stands between the ends of its record and the one before.
use Rattle.std.proofs.Common.{◌-◌, ◌<◌, ◌∙◌, ap, sym, subst, arith, length, take, drop}
use Rattle.std.specs.Str.{IsUtf8}
use Rattle.name_region.specs.Log.{Stored, Written, no_text, stored_at}
use Rattle.name_region.proofs.LogLaws.{length-stored_in, get-stored_in, placed}
use Rattle.name_region.proofs.log.Log.text.Goals as goal

pub start_of-start-requires : goal.start_of-start-requires
start_of-start-requires c = let i = c.self.inside in omega (arith, c.requires, length-stored_in 0 i.records.items i.block.items, ap (λ (w : Written). length w.stored) c.self.view_is)

pub index-requires : goal.index-requires
index-requires c = let i = c.self.inside in omega (arith, c.requires, i.records.ok, length-stored_in 0 i.records.items i.block.items, ap (λ (w : Written). length w.stored) c.self.view_is)

pub text_in-requires-clause-order : goal.text_in-requires-clause-order
text_in-requires-clause-order c =
    let i = c.self.inside in
    let rs = i.records.items in
    let within : c.args.index < length rs = omega (arith, c.requires, length-stored_in 0 rs i.block.items, ap (λ (w : Written). length w.stored) c.self.view_is) in
    let r = c.index.result.now in
    let at = placed 0 rs (length i.block.items) c.args.index r c.self.invariant.ends within c.index.ensures in
    omega (arith, at.ends, c.start_of-start.ensures)

pub text_in-requires-clause-within : goal.text_in-requires-clause-within
text_in-requires-clause-within c =
    let i = c.self.inside in
    let rs = i.records.items in
    let within : c.args.index < length rs = omega (arith, c.requires, length-stored_in 0 rs i.block.items, ap (λ (w : Written). length w.stored) c.self.view_is) in
    let r = c.index.result.now in
    let at = placed 0 rs (length i.block.items) c.args.index r c.self.invariant.ends within c.index.ensures in
    omega (arith, at.within, ap length c.deref.ensures.value)

pub text_in-requires-clause-utf8 : goal.text_in-requires-clause-utf8
text_in-requires-clause-utf8 c =
    let i = c.self.inside in
    let rs = i.records.items in
    let within : c.args.index < length rs = omega (arith, c.requires, length-stored_in 0 rs i.block.items, ap (λ (w : Written). length w.stored) c.self.view_is) in
    let r = c.index.result.now in
    let is = get-stored_in 0 rs i.block.items c.args.index r no_text within c.index.ensures in
    rw (c.deref.ensures.value, c.start_of-start.ensures) (subst (λ (s : Stored). IsUtf8 s.text) is (c.self.invariant.are_texts c.args.index))

pub returns : goal.returns
returns c =
    let i = c.self.inside in
    let rs = i.records.items in
    let within : c.args.index < length rs = omega (arith, c.requires, length-stored_in 0 rs i.block.items, ap (λ (w : Written). length w.stored) c.self.view_is) in
    let r = c.index.result.now in
    let is = get-stored_in 0 rs i.block.items c.args.index r no_text within c.index.ensures in
    c.text_in.ensures
    ∙ (ap (λ b. take (r.end - c.start_of-start.result) (drop c.start_of-start.result b)) c.deref.ensures.value
    ∙ (ap (λ n. take (r.end - n) (drop n i.block.items)) c.start_of-start.ensures ∙ (sym (ap (λ (s : Stored). s.text) is) ∙ ap (λ (w : Written). (stored_at w.stored c.args.index).text) c.self.view_is)))
