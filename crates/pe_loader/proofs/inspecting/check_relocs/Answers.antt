use Rattle.std.proofs.Common.{◌∙◌, sym, subst}
use Rattle.std.proofs.lemmas.Bool.{OnTrue_at, OnFalse_at}
use Rattle.std.proofs.lemmas.Result.{IfErr-weaker, on_ok_weaker}
use Rattle.pe_loader.specs.LayoutInside.{IsLaidOut}
use Rattle.pe_loader.proofs.ImageLemmas.{read_here, has_bad}
use Rattle.pe_loader.proofs.inspecting.check_relocs.Goals as goal

pub pass-requires-clause-laid_out : goal.pass-requires-clause-laid_out
pass-requires-clause-laid_out c = subst (IsLaidOut c.args.bytes.now) (sym c.of.ensures.layout) c.requires.laid_out

pub returns-clause-ok : goal.returns-clause-ok
returns-clause-ok c =
    on_ok_weaker _ (λ e. read_here c.args.bytes.now c.of.result c.relocs.result c.of.ensures.layout c.relocs.ensures.directory (OnTrue_at e c.pass.ensures.passes)) c.check.ensures.ok

pub returns-clause-fault : goal.returns-clause-fault
returns-clause-fault c =
    IfErr-weaker _ _ _ (λ fault e. has_bad c.args.bytes.now c.of.result c.relocs.result fault _ c.of.ensures.layout c.relocs.ensures.directory c.requires.passes
    (OnFalse_at e.0 c.pass.ensures.fails) (e.1 ∙ c.fault.ensures) c.optional_at.ensures.place) c.check.ensures.fault
