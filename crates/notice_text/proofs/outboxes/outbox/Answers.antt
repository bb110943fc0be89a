use Rattle.std.proofs.Common.{◌∙◌, ap}
use Rattle.std.specs.List.{All, list_all}
use Rattle.notice_text.specs.Notices.{has_short_lists, is_short_screen, notices}
use Rattle.notice_text.specs.Named.{IsNotice}
use Rattle.notice_text.proofs.NamedLaws.{are_named}
use Rattle.notice_text.proofs.StoreLaws.{found_all, short_quotas, short_screens}
use Rattle.notice_text.proofs.outboxes.outbox.Goals as goal

pub in_order-requires : goal.in_order-requires
in_order-requires c = record {
  quotas = ap (list_all has_short_lists) c.objects.ensures.quotas ∙ short_quotas c.args.engine.now.rows.nodes c.args.engine.now.rows.quotas c.objects.ensures.store.quotas;
  screens = ap (list_all is_short_screen) c.objects.ensures.screens ∙ short_screens c.args.engine.now.size c.args.engine.now.rows c.objects.ensures.store;
}

pub returns-clause-named : goal.returns-clause-named
returns-clause-named c =
    let R = c.args.engine.now.rows in
    let objects = c.objects.result.now in
    let all : All (IsNotice R) (notices c.args.since objects.quotas objects.screens) = rw (c.objects.ensures.quotas, c.objects.ensures.screens) (are_named c.args.engine.now.size R c.args.since c.objects.ensures.store) in
    found_all (IsNotice R) (λ v. v.items) (notices c.args.since objects.quotas objects.screens) c.in_order.result c.in_order.ensures all
