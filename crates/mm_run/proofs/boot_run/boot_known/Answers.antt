use Rattle.volume_reader.proofs.Offered.{files_in_bytes}
use Rattle.mm_run.proofs.BootLemmas.{refused_known}
use Rattle.mm_run.proofs.boot_run.boot_known.Goals as goal

pub catalog-requires-clause-within : goal.catalog-requires-clause-within
catalog-requires-clause-within c = files_in_bytes c.args.bytes.now c.args.volume.now c.requires.volume

pub returns-in_err-boot-clause-err : goal.returns-in_err-boot-clause-err
returns-in_err-boot-clause-err c =
    refused_known c.args.bytes.now c.args.volume.now.files _ c.requires.policy c.in_err-boot.field-0.0 c.in_err-boot.ensures.fault
    c.from_residual-in_err-boot.result c.from_residual-in_err-boot.ensures.1
