-- The laws of thresholds, as commands give them.
use Rattle.std.proofs.Common.{refl}
use Rattle.record_fields.specs.Formats.{◌⊗◌}
use Rattle.record_fields.specs.Laws.{Places}
use Rattle.record_fields.proofs.FollowedLaws.{◌also◌}
use Rattle.record_fields.proofs.StandingLaws.{shaped_places}
use Rattle.record_codec.specs.Fields.{percent, notice, many}
use Rattle.record_codec.specs.Notices.{new_thresholds, thresholds_of, threshold_values}
use Rattle.record_codec.proofs.FieldLaws.{percent_places, notice_places, many_places}

pub new_thresholds_places : Places new_thresholds
new_thresholds_places =
    shaped_places thresholds_of threshold_values (many percent ⊗ many notice) (many_places percent percent_places also many_places notice notice_places) (λ n. refl) (λ v. refl)
