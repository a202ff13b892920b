use Rattle.std.proofs.Common.{arith}
use Rattle.std.proofs.lemmas.List.Sums.{length-filter, count_by-le-length}
use Rattle.mmi_registry.specs.Handlers.{is_built_in}
use Rattle.mm_core.proofs.script_core.add_built_in.Goals as goal

pub register-requires-clause-room : goal.register-requires-clause-room
register-requires-clause-room c =
    let handlers = c.args.registry.now.handlers in
    λ _. omega (
      arith,
      c.requires.few,
      length-filter (λ handler. is_built_in handler.body) handlers,
      count_by-le-length (λ handler. is_built_in handler.body) handlers,
    )
