use Rattle.std.proofs.Common.{arith}
use Rattle.mm_core.proofs.CodeLemmas.{code_runs, nowhere_run, stub_run, version_run}
use Rattle.mm_core.proofs.invoke.run.Goals as goal

pub returns-in-Version : goal.returns-in-Version
returns-in-Version c =
    version_run c.args.core.now c.args.saved c.args.handler.now c.args.buffer.now c.args.records c.requires _ _ c.in-Version.is
    c.answer_version.ensures.status c.answer_version.ensures.message

pub returns-in-Stub : goal.returns-in-Stub
returns-in-Stub c =
    stub_run c.args.core.now c.args.saved c.args.handler.now c.args.buffer.now c.args.records c.requires _ c.in-Stub.is

pub returns-then-image-images : goal.returns-then-image-images
returns-then-image-images c =
    code_runs c.args.core.now c.args.saved c.args.handler.now c.args.buffer.now c.args.records c.requires _ _ _ _ _ c.in-Code.is
    c.invoke_code.ensures

pub returns-else-image-images : goal.returns-else-image-images
returns-else-image-images c =
    nowhere_run c.args.core.now c.args.saved c.args.handler.now c.args.buffer.now c.args.records c.requires _ _ c.in-Code.is
    (omega (arith, c.images.ensures, c.if-image-images.false))
