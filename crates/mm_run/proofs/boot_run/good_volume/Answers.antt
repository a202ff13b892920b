use Rattle.volume_reader.proofs.Offered.{files_in_bytes}
use Rattle.mm_run.proofs.boot_run.good_volume.Goals as goal

pub policy_of-requires-clause-within : goal.policy_of-requires-clause-within
policy_of-requires-clause-within c = files_in_bytes c.args.bytes.now c.in_ok-volume.volume c.in_ok-volume.ensures.volume
