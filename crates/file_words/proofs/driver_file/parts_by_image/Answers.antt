use Rattle.file_words.proofs.PartsLemmas.{read_image_fault, read_expression_fault, read_parts}
use Rattle.file_words.proofs.driver_file.parts_by_image.Goals as goal

pub returns-in-Err : goal.returns-in-Err
returns-in-Err c = read_image_fault _ _ c.args.section c.args.depex c.data.ensures _ c.in-Err.ensures.fault

pub returns-in-Some : goal.returns-in-Some
returns-in-Some c =
    read_expression_fault _ _ c.args.section c.args.depex c.data.ensures c.in-Ok.image _ _ c.in-Ok.ensures.image c.expression_fault.ensures c.in-Some.is

pub returns-in-None : goal.returns-in-None
returns-in-None c =
    read_parts _ _ c.args.section c.args.depex c.data.ensures c.in-Ok.image _ c.in-Ok.ensures.image c.expression_fault.ensures c.in-None.is
