use Rattle.std.proofs.Common.{rules}
use Rattle.std.proofs.lemmas.List.Sorted.{answers_always}
use Rattle.fsrm_base.proofs.SortedRows.{searched_ok, searched_err}
use Rattle.fsrm_base.proofs.places.search.Goals as goal

pub returns-clause-found : goal.returns-clause-found
returns-clause-found g c =
    let key = g.K.Key.key in
    let facts = c.binary_search_by_key.ensures in
    searched_ok key c.args.number c.args.rows.now c.binary_search_by_key.result c.requires facts.bound (facts.position key (answers_always _ _ _ (λ f a r f' called. search rules)))

pub returns-clause-free : goal.returns-clause-free
returns-clause-free g c =
    let key = g.K.Key.key in
    let facts = c.binary_search_by_key.ensures in
    searched_err key c.args.number c.args.rows.now c.binary_search_by_key.result c.requires facts.bound (facts.position key (answers_always _ _ _ (λ f a r f' called. search rules)))
