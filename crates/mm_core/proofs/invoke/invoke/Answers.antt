use Rattle.std.proofs.Common.{[], ◌∷◌, ◌++◌, ◌∙◌, ap}
use Rattle.mm_base.specs.declared.invocation.Invocation.{Invocation}
use Rattle.mm_core.specs.Message.{status_of}
use Rattle.mm_core.proofs.invoke.invoke.Goals as goal

pub returns-clause-status : goal.returns-clause-status
returns-clause-status c =
    c.counted.ensures ∙ ap (λ (made : Invocation). status_of made.ended) c.run-records.ensures.invocation

pub returns-clause-message : goal.returns-clause-message
returns-clause-message c = c.run-records.ensures.message

pub returns-clause-invocation : goal.returns-clause-invocation
returns-clause-invocation c =
    let items = c.args.invocations.now.items in
    c.push.ensures
    ∙ ap (λ (made : Invocation). record { items = items ++ made ∷ []; room = c.args.invocations.now.room })
    (c.ended.ensures ∙ c.run-records.ensures.invocation)

pub returns-clause-core : goal.returns-clause-core
returns-clause-core c = c.run-records.ensures.left_is
