use Rattle.std.proofs.Common.{[], ◌∷◌, ◌+◌, ◌∙◌, sym, lit<, arith}
use Rattle.std.proofs.lemmas.Result.{IfErr-weaker}
use Rattle.pe_loader.specs.Sections.{entry_check}
use Rattle.pe_loader.proofs.HeaderLemmas.{fails}
use Rattle.pe_loader.proofs.sections.check_entry.Goals as goal

pub returns-clause-fault : goal.returns-clause-fault
returns-clause-fault c =
    IfErr-weaker _ _ _ (λ fault e. fails (entry_check c.args.bytes.now ∷ []) fault 0 (c.optional_at.result + 16) (lit< tt) tt (sym c.entry_passes.ensures ∙ e.0) (e.1 ∙ c.fault.ensures) (omega arith)) c.check.ensures.fault
