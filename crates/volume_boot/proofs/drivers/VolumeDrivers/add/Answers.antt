use Rattle.file_words.proofs.Offered.{never_parts_and_cause}
use Rattle.volume_boot.proofs.FoundLemmas.{depex_lies, image_lies, one_kept}
use Rattle.volume_boot.proofs.drivers.VolumeDrivers.add.Goals as goal

pub unreachable-requires : goal.unreachable-requires
unreachable-requires c =
    never_parts_and_cause c.args.bytes.now c.args.file.now c.requires.driver.0 c.in-Err.field-0 c.requires.driver.1 c.in-Err.ensures.err

pub expression_of-requires-clause-within : goal.expression_of-requires-clause-within
expression_of-requires-clause-within c = depex_lies c.args.bytes.now c.args.file.now c.in-Ok.parts c.requires.within c.in-Ok.ensures.ok

pub data-requires : goal.data-requires
data-requires c = image_lies c.args.bytes.now c.args.file.now c.in-Ok.parts c.requires.within c.in-Ok.ensures.ok

pub returns : goal.returns
returns c = λ files kept.
    one_kept c.args.bytes.now files c.args.self.now.scheduled c.args.self.now.loaded.items kept c.args.file.now c.in-Ok.parts c.in_ok-depex.depex c.in-Ok.ensures.ok
    c.in_ok-depex.ensures _ c.data.result.now c.len-index.ensures c.data.ensures _ _ c.in_ok-push.ensures.ok c.in_ok-push-2.ensures.items
