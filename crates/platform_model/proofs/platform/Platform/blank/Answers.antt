use Rattle.platform_model.proofs.OpeningLemmas.{blank_is_whole}
use Rattle.platform_model.proofs.platform.Platform.blank.Goals as goal

pub invariant_of-result : goal.invariant_of-result
invariant_of-result c =
    blank_is_whole _ _ _ _ c.in_ok-ports.ensures c.in_ok-device.ensures c.in_ok-msrs.ensures c.in_ok-upper_msrs.ensures
