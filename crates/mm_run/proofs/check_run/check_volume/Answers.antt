use Rattle.volume_reader.proofs.Offered.{files_in_bytes}
use Rattle.mm_run.proofs.check_run.check_volume.Goals as goal

pub catalog-requires-clause-within : goal.catalog-requires-clause-within
catalog-requires-clause-within c = files_in_bytes c.args.bytes.now c.in_ok-volume.volume c.in_ok-volume.ensures.volume

pub policy_of-requires-clause-within : goal.policy_of-requires-clause-within
policy_of-requires-clause-within c = files_in_bytes c.args.bytes.now c.in_ok-volume.volume c.in_ok-volume.ensures.volume
