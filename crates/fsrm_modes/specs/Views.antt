-- What a run shows of a store.
use Rattle.std.specs.Prelude.{ℕ, List, None, sum_by}
use Rattle.fsrm_model.specs.commands.Cost.{list_cost}
use Rattle.fsrm_model.specs.declared.command.Ask.TheVariants as asks
use Rattle.fsrm_model.specs.declared.row.Capacity.{Capacity}
use Rattle.fsrm_model.specs.declared.row.Rows.{Rows}
use Rattle.fsrm_model.specs.texts.Text.{list_lines}
use Rattle.notice_text.specs.Notices.{notices}
use Rattle.notice_text.specs.Outbox.{notice_cost, outbox_text}
use Rattle.fsrm_modes.specs.declared.show.View.{View}
use Rattle.fsrm_modes.specs.declared.show.View.TheVariants.{Quotas, Outbox}

abbrev pub view_text : View → Capacity → Rows → List ℕ
view_text Quotas K R = list_lines K R (asks.Quotas None)
view_text (Outbox since) K R = outbox_text K R since

-- the looks that an outbox takes: those at the paths of its notices
abbrev pub outbox_cost : Rows → ℕ → ℕ
outbox_cost R since = sum_by (notice_cost R) (notices since R.quotas R.screens)

abbrev pub view_cost : View → Rows → ℕ
view_cost Quotas R = list_cost R (asks.Quotas None)
view_cost (Outbox since) R = outbox_cost R since
