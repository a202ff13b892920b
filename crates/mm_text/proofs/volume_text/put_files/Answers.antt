use Rattle.mm_text.proofs.PageLemmas.{files_lines-turn}
use Rattle.mm_text.proofs.volume_text.put_files.Goals as goal

pub loop-k-preserved : goal.loop-k-preserved
loop-k-preserved c =
    files_lines-turn c.args.files.now c.args.words.now c.loop-k.k _ _ _ c.loop-k-test.true c.requires c.loop-k.invariant c.in_ok-put_file.ensures
