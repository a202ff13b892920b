use Rattle.volume_reader.proofs.ContentsLemmas.{with_more}
use Rattle.volume_reader.proofs.section_contents.Contents.with.Goals as goal

pub returns : goal.returns
returns c = λ sections before. with_more sections c.args.section c.args.self _ _ _ _ before c.is_among.ensures c.is_among-2.ensures c.first_among.ensures c.first_among-2.ensures
