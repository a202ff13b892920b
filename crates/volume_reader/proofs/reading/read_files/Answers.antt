use Rattle.std.proofs.Common.{List, Option, sym, subst}
use Rattle.std.proofs.lemmas.List.{append-nil}
use Rattle.mm_base.specs.declared.volume.File.{File}
use Rattle.volume_reader.specs.FindingInside.{FindsSpan}
use Rattle.volume_reader.proofs.WalkLemmas.{Walked, walked_more, next_moves}
use Rattle.volume_reader.proofs.reading.read_files.Goals as goal

pub loop-files-preserved-in_ok-push-in-Behind : goal.loop-files-preserved-in_ok-push-in-Behind
loop-files-preserved-in_ok-push-in-Behind c =
    let area = c.args.area.now in
    let first = c.args.first in
    let next = c.in-Behind.next in
    let P : Option File → Type 0 = λ file. FindsSpan area c.loop-files.at next file in
    let found = subst P c.in-Some.is c.in-Behind.ensures in
    let Q : List File → Type 0 = λ files. Walked area first files next in
    record {
      walked = subst Q (sym c.in_ok-push-in-Behind.ensures.ok) (walked_more area first _ c.loop-files.at next _ c.loop-files.invariant.walked found);
      within = (next_moves area c.loop-files.at next _ found).1;
    }

pub loop-files-preserved : goal.loop-files-preserved
loop-files-preserved c =
    let area = c.args.area.now in
    let first = c.args.first in
    let next = c.in-Behind.next in
    let P : Option File → Type 0 = λ file. FindsSpan area c.loop-files.at next file in
    let found = subst P c.in_default.is c.in-Behind.ensures in
    let Q : List File → Type 0 = λ files. Walked area first files next in
    record {
      walked = subst Q (append-nil c.loop-files.files) (walked_more area first _ c.loop-files.at next _ c.loop-files.invariant.walked found);
      within = (next_moves area c.loop-files.at next _ found).1;
    }
