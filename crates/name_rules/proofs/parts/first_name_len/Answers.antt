use Rattle.std.proofs.Common.{sym, ◌∙◌}
use Rattle.name_rules.proofs.Taken.{front_within, front_bytes, not_ended, not_a_name, first_name}
use Rattle.name_rules.proofs.parts.first_name_len.Goals as goal

pub is_end-requires : goal.is_end-requires
is_end-requires c = front_within c.args.text.now c.name_len-count.result c.name_len-count.ensures

pub returns-then-not-is_end-clause-none : goal.returns-then-not-is_end-clause-none
returns-then-not-is_end-clause-none c =
    not_ended c.args.text.now c.name_len-count.result c.name_len-count.ensures (sym c.is_end.ensures ∙ c.if-not-is_end.true)

pub is_whole_name-requires : goal.is_whole_name-requires
is_whole_name-requires c = front_bytes c.args.text.now c.name_len-count.result c.name_len-count.ensures

pub returns-then-not-is_whole_name-clause-none : goal.returns-then-not-is_whole_name-clause-none
returns-then-not-is_whole_name-clause-none c =
    not_a_name c.args.text.now c.name_len-count.result c.name_len-count.ensures c.requires (sym c.is_end.ensures ∙ c.if-not-is_end.false) (sym c.is_whole_name.ensures ∙ c.if-not-is_whole_name.true)

pub returns-clause-name : goal.returns-clause-name
returns-clause-name c =
    first_name c.args.text.now c.name_len-count.result c.name_len-count.ensures c.requires (sym c.is_end.ensures ∙ c.if-not-is_end.false) (sym c.is_whole_name.ensures ∙ c.if-not-is_whole_name.false)
