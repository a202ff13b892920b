use Rattle.std.specs.Option.{option_copied}
use Rattle.volume_reader.proofs.Offered.{files_in_bytes}
use Rattle.mm_run.proofs.BootLemmas.{refused_known}
use Rattle.mm_run.proofs.ServeLemmas.{booted_so}
use Rattle.mm_run.proofs.serve_run.booted.Goals as goal

pub catalog-requires-clause-within : goal.catalog-requires-clause-within
catalog-requires-clause-within c = files_in_bytes c.args.bytes.now c.args.volume.now c.requires.volume

pub returns-in_err-core-clause-err : goal.returns-in_err-core-clause-err
returns-in_err-core-clause-err c =
    refused_known c.args.bytes.now c.args.volume.now.files _ c.requires.policy c.in_err-core.field-0.0 c.in_err-core.ensures.fault
    c.from_residual-in_err-core.result c.from_residual-in_err-core.ensures.1

pub returns-clause-ok : goal.returns-clause-ok
returns-clause-ok c =
    booted_so c.args.bytes.now c.args.volume.now (option_copied c.args.policy) c.args.script.now c.in_ok-words.words c.in_ok-core.field-0
    c.in_ok-locked.locked c.in_ok-closed.closed c.requires.volume c.in_ok-words.ensures.words c.requires.policy c.in_ok-core.ensures.boot
    c.in_ok-words.ensures.one_each c.in_ok-locked.ensures c.in_ok-closed.ensures
