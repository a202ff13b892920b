use Rattle.std.proofs.Common.{true, false, refl, sym, ◌∙◌, arith}
use Rattle.image_groups.specs.Reach.{is_touched}
use Rattle.mm_groups.proofs.LoneLemmas.{apart_alone, count_of_writers, writer_at}
use Rattle.mm_groups.proofs.lone_images.is_apart_alone.Goals as goal

pub returns-then-not-is_written_beside : goal.returns-then-not-is_written_beside
returns-then-not-is_written_beside c =
    apart_alone c.args.core.now.site.supervised c.args.kind c.args.unit c.args.writers.now c.requires.writers c.args.image false
    (is_touched c.args.core.now.site.supervised c.args.image c.args.kind c.args.unit) c.requires.there
    (sym c.if-not-is_written_beside.true ∙ c.is_written_beside.ensures) refl

pub bounds-writers-image : goal.bounds-writers-image
bounds-writers-image c =
    omega (arith, count_of_writers c.args.core.now.site.supervised c.args.kind c.args.unit c.args.writers.now c.requires.writers, c.requires.there)

pub is_touched-requires-clause-written : goal.is_touched-requires-clause-written
is_touched-requires-clause-written c =
    writer_at c.args.core.now.site.supervised c.args.kind c.args.unit c.args.writers.now c.requires.writers c.args.image c.requires.there

pub returns : goal.returns
returns c =
    apart_alone c.args.core.now.site.supervised c.args.kind c.args.unit c.args.writers.now c.requires.writers c.args.image true
    c.is_touched.result c.requires.there
    (sym c.if-not-is_written_beside.false ∙ c.is_written_beside.ensures) c.is_touched.ensures
