use Rattle.std.proofs.Common.{take}
use Rattle.file_words.specs.CatalogLaws.{started_of}
use Rattle.volume_boot.proofs.FoundLemmas.{driver_at, few_so_far, one_looked_at}
use Rattle.volume_boot.proofs.drivers.find_drivers.Goals as goal

pub loop-place-init : goal.loop-place-init
loop-place-init c = c.none-drivers.ensures c.args.bytes.now

pub look_at-requires-clause-driver : goal.look_at-requires-clause-driver
look_at-requires-clause-driver c =
    driver_at c.args.bytes.now c.args.files.now c.args.words.now c.requires.words c.requires.one_each c.loop-place.place _ _ c.loop-place-test.true

pub look_at-requires-clause-few : goal.look_at-requires-clause-few
look_at-requires-clause-few c =
    few_so_far c.args.bytes.now c.args.files.now c.args.words.now c.requires.words c.requires.one_each c.loop-place.place _ _ c.loop-place-test.true c.requires.few
    c.loop-place.invariant

pub loop-place-preserved : goal.loop-place-preserved
loop-place-preserved c =
    one_looked_at c.args.bytes.now c.args.files.now c.args.words.now c.requires.words c.requires.one_each c.loop-place.place _ _ _ _ c.loop-place-test.true
    (c.in_ok-look_at.ensures (started_of (take c.loop-place.place c.args.files.now) (take c.loop-place.place c.args.words.now)) c.loop-place.invariant)
