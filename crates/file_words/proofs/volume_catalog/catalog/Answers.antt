use Rattle.std.proofs.Common.{List, subst, sym}
use Rattle.mm_base.specs.declared.volume.File.{File}
use Rattle.file_words.proofs.CatalogLemmas.{SoFar, so_far_none, so_far_more, so_far_all, one_each}
use Rattle.file_words.proofs.volume_catalog.catalog.Goals as goal

pub loop-file-init : goal.loop-file-init
loop-file-init c =
    let P : List File → Type 0 = λ left. SoFar c.args.bytes.now c.args.volume.now.files left c.new-words.result c.none-earlier.result in
    subst P (sym c.as_slice-file-items.ensures)
    (so_far_none c.args.bytes.now c.args.volume.now.files c.new-words.result c.none-earlier.result c.new-words.ensures
    c.none-earlier.ensures)

pub loop-file-preserved : goal.loop-file-preserved
loop-file-preserved c =
    so_far_more c.args.bytes.now c.args.volume.now.files c.as_slice-file-items.result.now c.loop-file.file-index c.loop-file.words
    c.loop-file.earlier c.loop-file.invariant _ c.word_of-word.result c.keep.new.self c.push.new.self c.loop-file-test.true
    c.word_of-word.ensures c.in_ok-push.ensures.ok c.in_ok-keep.ensures

pub returns-clause-words : goal.returns-clause-words
returns-clause-words c =
    so_far_all c.args.bytes.now c.args.volume.now.files c.as_slice-file-items.result.now c.loop-file.file-index c.loop-file.words
    c.loop-file.earlier c.loop-file.invariant c.loop-file-test.false

pub returns-clause-one_each : goal.returns-clause-one_each
returns-clause-one_each c =
    one_each c.args.bytes.now c.args.volume.now.files c.loop-file.words
    (so_far_all c.args.bytes.now c.args.volume.now.files c.as_slice-file-items.result.now c.loop-file.file-index c.loop-file.words
    c.loop-file.earlier c.loop-file.invariant c.loop-file-test.false)
