use Rattle.std.proofs.Common.{◌≡◌, Option, Some, slice_get, sym, ap, ◌∙◌, subst}
use Rattle.mm_core.specs.CodeInside.{IsInvoked}
use Rattle.mm_core.specs.CoreState.{CoreState, core_of_tables}
use Rattle.mm_core.specs.Invoked.{code_invoked}
use Rattle.mm_core.specs.PartsInside.{IsCore, core_seen}
use Rattle.mm_core.specs.declared.core_parts.CoreParts.TheVariants.{Booted}
use Rattle.mm_core.proofs.CodeLemmas.{invoked_over}
use Rattle.mm_core.proofs.machine_core.Core.invoke_code.Goals as goal
use Rattle.supervisor_calls.specs.Tables.{TablesState}
use Rattle.volume_boot.specs.Boots.{AreBooted}

pub returns : goal.returns
returns c =
    let tables = c.unwrap-tables.result in
    let there : c.in-Booted.place ≡ Some tables = sym c.take.ensures.value ∙ c.unwrap-tables.ensures in
    let parts : c.self.inside.parts ≡ Booted (Some tables) = c.in-Booted.is ∙ ap (λ (place : Option TablesState). Booted place) there in
    let core : c.args.self.now ≡ core_of_tables tables = sym c.self.view_is ∙ ap core_seen parts in
    let booted : AreBooted tables = subst IsCore parts c.self.invariant in
    let image = c.args.code.image in
    let address = c.args.code.address in
    let handler = c.args.handler.now in
    let given = c.args.buffer.now in
    let left = c.invoke_code-tables.result in
    subst
    (λ (now : CoreState).
    IsInvoked now handler.number
    (code_invoked now.site c.args.saved handler image address (slice_get now.site.supervised.images image) given.message now.live)
    given (left.1, left.2) (core_of_tables left.0) c.invoke_code-tables.new.buffer)
    (sym core)
    (invoked_over tables handler image address c.args.saved given left c.invoke_code-tables.new.buffer booted.locked
    (c.keeps.ensures.tables.frozen ∙ booted.locked) c.invoke_code-tables.ensures.invoked)
