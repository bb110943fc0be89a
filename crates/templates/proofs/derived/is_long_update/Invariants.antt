use Rattle.std.proofs.Common.{◌≡◌, ◌+◌, ◌*◌, ◌<◌, drop}
use Rattle.std.specs.Prelude.{map}
use Rattle.fsrm_model.specs.objects.Templates.{updated}
use Rattle.fsrm_model.specs.values.Texts.{template_bytes}
use Rattle.fsrm_objects.specs.Tables.{quota_texts}
use Rattle.templates.proofs.derived.is_long_update.Given as goal

-- the texts of the quotas from this place on are still to come
abbrev pub invariant-loop-place : goal.invariant-loop-place
invariant-loop-place l = record {
  balance : l.after + quota_texts (map (updated l.mode l.old l.new) (drop l.place l.objects.quotas)) + (l.fn.room + (template_bytes l.old + quota_texts l.objects.quotas))
      ≡ l.before + quota_texts (drop l.place l.objects.quotas) + (template_bytes l.new + quota_texts (map (updated l.mode l.old l.new) l.objects.quotas));
  lost : l.before < 4294967296 * (l.place + 2);
  gained : l.after < 4294967296 * (l.place + 1);
}
