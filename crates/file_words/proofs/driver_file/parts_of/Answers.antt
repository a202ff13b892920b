use Rattle.file_words.proofs.PartsLemmas.{judges_right, judged_ok, judged_err, judged_found, judged_first}
use Rattle.file_words.proofs.driver_file.parts_of.Goals as goal

pub returns : goal.returns
returns c =
    let is = judges_right c.args.bytes.now c.args.file.now c.judged.result c.judged.ensures in
    record {
      ok = judged_ok c.args.bytes.now c.args.file.now c.judged.result is;
      err = judged_err c.args.bytes.now c.args.file.now c.judged.result is;
      found = judged_found c.args.bytes.now c.args.file.now c.judged.result is;
      first = judged_first c.args.bytes.now c.args.file.now c.judged.result is;
    }
