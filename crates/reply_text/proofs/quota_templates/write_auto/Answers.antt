use Rattle.std.proofs.Common.{◌∙◌, refl}
use Rattle.reply_text.proofs.TemplateLines.{auto_node, auto_shown, auto_source, source_is, source_lent}
use Rattle.line_parts.proofs.Sent.{cut_first, cut_second, passed_on, three_texts}
use Rattle.reply_text.proofs.quota_templates.write_auto.Goals as goal

pub path_text-requires : goal.path_text-requires
path_text-requires g c = auto_node c.args.engine.now.size c.args.engine.now.rows c.args.auto.now c.requires.store c.requires.own

pub unwrap-template-requires : goal.unwrap-template-requires
unwrap-template-requires g c =
    let e = c.args.engine.now in
    source_lent c.template.result c.templates.result.now.templates e.rows.templates c.args.auto.now.template c.template.ensures c.templates.ensures.templates (auto_source e.size e.rows c.args.auto.now c.requires.store c.requires.own)

pub returns-in_err-write_word-clause-writes : goal.returns-in_err-write_word-clause-writes
returns-in_err-write_word-clause-writes g c =
    let rows = c.args.engine.now.rows in
    let auto = c.args.auto.now in
    let template = c.unwrap-template.result.now in
    let is = source_is c.template.result c.unwrap-template.result c.templates.result.now.templates rows.templates auto.template c.template.ensures c.templates.ensures.templates c.unwrap-template.ensures in
    passed_on c.from_residual-in_err-write_word.result c.from_residual-in_err-write_word.ensures.1
    (cut_first _
    (auto_shown rows.nodes rows.templates auto template c.as_str.result.now template.name auto.excluded is (c.as_str.ensures ∙ c.in_ok-path.ensures.text) refl refl)
    c.in_err-write_word.ensures.writes)

pub returns-in_err-write_labelled-clause-writes : goal.returns-in_err-write_labelled-clause-writes
returns-in_err-write_labelled-clause-writes g c =
    let rows = c.args.engine.now.rows in
    let auto = c.args.auto.now in
    let template = c.unwrap-template.result.now in
    let is = source_is c.template.result c.unwrap-template.result c.templates.result.now.templates rows.templates auto.template c.template.ensures c.templates.ensures.templates c.unwrap-template.ensures in
    passed_on c.from_residual-in_err-write_labelled.result c.from_residual-in_err-write_labelled.ensures.1
    (cut_second _ g.met.S.Sink.write_then
    (auto_shown rows.nodes rows.templates auto template c.as_str.result.now template.name auto.excluded is (c.as_str.ensures ∙ c.in_ok-path.ensures.text) refl refl)
    c.in_ok-write_word.ensures.writes c.in_err-write_labelled.ensures.writes)

pub returns-clause-writes : goal.returns-clause-writes
returns-clause-writes g c =
    let rows = c.args.engine.now.rows in
    let auto = c.args.auto.now in
    let template = c.unwrap-template.result.now in
    let is = source_is c.template.result c.unwrap-template.result c.templates.result.now.templates rows.templates auto.template c.template.ensures c.templates.ensures.templates c.unwrap-template.ensures in
    three_texts g.met.S.Sink.write_then
    (auto_shown rows.nodes rows.templates auto template c.as_str.result.now template.name c.as_slice.result.now is (c.as_str.ensures ∙ c.in_ok-path.ensures.text) refl c.as_slice.ensures)
    c.in_ok-write_word.ensures.writes c.in_ok-write_labelled.ensures.writes c.write_each_labelled.ensures.writes
