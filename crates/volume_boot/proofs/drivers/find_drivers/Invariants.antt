use Rattle.std.proofs.Common.{take}
use Rattle.file_words.specs.CatalogLaws.{started_of}
use Rattle.volume_boot.specs.BootsInside.{IsKept}
use Rattle.volume_boot.proofs.drivers.find_drivers.Given as goal

abbrev pub invariant-loop-place : goal.invariant-loop-place
invariant-loop-place l =
    IsKept l.bytes (started_of (take l.place l.files) (take l.place l.words)) l.drivers.scheduled l.drivers.loaded.items
