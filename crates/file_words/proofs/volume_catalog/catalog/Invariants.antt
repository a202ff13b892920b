use Rattle.std.proofs.Common.{drop}
use Rattle.file_words.proofs.CatalogLemmas.{SoFar}
use Rattle.file_words.proofs.volume_catalog.catalog.Given as goal

abbrev pub invariant-loop-file : goal.invariant-loop-file
invariant-loop-file l = SoFar l.bytes l.volume.files (drop l.file-index l.file-items) l.words l.earlier
