-- The text of all notices of a store.
use Rattle.std.specs.Prelude.{ℕ, List, flat_map, Option, None, option_map}
use Rattle.fsrm_model.specs.declared.command.Subject.{Subject}
use Rattle.fsrm_model.specs.declared.command.Subject.TheVariants.{Quota, Screen}
use Rattle.fsrm_model.specs.declared.row.Capacity.{Capacity}
use Rattle.fsrm_model.specs.declared.row.Rows.{Rows}
use Rattle.fsrm_model.specs.objects.Acts.{folder_in}
use Rattle.fsrm_model.specs.texts.ActText.{text_of}
use Rattle.fsrm_model.specs.commands.Cost.{path_cost}
use Rattle.fsrm_model.specs.texts.Printed.{path_text}
use Rattle.fsrm_model.specs.objects.Quota.{quota_of, used_of}
use Rattle.line_parts.specs.Moments.{moment_text}
use Rattle.notice_text.specs.declared.macros.QuotaFacts.{QuotaFacts}
use Rattle.notice_text.specs.declared.notice.Notice.{Notice}
use Rattle.notice_text.specs.Expand.{Values}
use Rattle.notice_text.specs.Notices.{notices}
use Rattle.notice_text.specs.NoticeText.{notice_text}

-- what is known of a quota, as it is now
abbrev pub facts_of : Capacity → Rows → Subject → Option QuotaFacts
facts_of K R (Quota folder percent) = option_map (λ quota. record { limit = quota.limit; used = used_of K R folder; peak = quota.peak; percent = percent }) (quota_of R folder)
facts_of K R (Screen folder) = None

abbrev pub values_at : Capacity → Rows → Notice → Values
values_at K R notice = record { path = path_text R.nodes (folder_in notice.act.subject); date = moment_text notice.moment; quota = facts_of K R notice.act.subject }

abbrev pub notice_lines : Capacity → Rows → Notice → List ℕ
notice_lines K R notice = notice_text notice.act (values_at K R notice) (text_of R notice.act)

abbrev pub outbox_text : Capacity → Rows → ℕ → List ℕ
outbox_text K R since = flat_map (notice_lines K R) (notices since R.quotas R.screens)

-- the looks at a notice's path
abbrev pub notice_cost : Rows → Notice → ℕ
notice_cost R notice = path_cost R.nodes (folder_in notice.act.subject)
