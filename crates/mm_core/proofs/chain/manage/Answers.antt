use Rattle.std.proofs.Common.{◌≡◌, ◌+◌, ◌∙◌, ℕ, [], ◌∷◌, ◌++◌, Some, slice_get, refl, sym, ap, vec_len, arith}
use Rattle.mm_base.specs.declared.handler.Handler.{Handler}
use Rattle.mm_core.specs.CoreState.{CoreState, Site}
use Rattle.mm_core.specs.Invoked.{invoked}
use Rattle.mm_core.specs.Message.{Invoked, status_of}
use Rattle.supervisor_calls.specs.Tables.{Live}
use Rattle.mm_core.proofs.ChainRunLemmas.{Held, Managed, at_start, at_end, root_is, goes_on, ends, goes_past, has_place, core_with}
use Rattle.mm_core.proofs.chain.manage.Goals as goal
use Rattle.mm_core.proofs.chain.manage.Goals.{then-eq+else-stopped, else-eq}

-- the handler at a place is that of the core at the start
abbrev found_in : CoreState → CoreState → ℕ → Handler → Type 0
found_in start now k handler = now ≡ record start { live = now.live } → slice_get now.site.handlers k ≡ Some handler → slice_get start.site.handlers k ≡ Some handler

found_at : (start now : CoreState) (k : ℕ) (handler : Handler) → found_in start now k handler
found_at start now k handler same found = ap (λ (core : CoreState). slice_get core.site.handlers k) (sym same) ∙ found

-- a core that was left with this is left with what it has
left_with_live : (before after : CoreState) (live : Live) → after ≡ record before { live = live } → after ≡ record before { live = after.live }
left_with_live before after live is = is ∙ ap (λ l. record before { live = l }) (sym (ap (λ (core : CoreState). core.live) is))

pub loop-k-init : goal.loop-k-init
loop-k-init c = (at_start _ c.requires.given c.requires.room c.requires.blanks, refl)

pub invoke-status-requires-clause-room : goal.invoke-status-requires-clause-room
invoke-status-requires-clause-room c =
    let found = found_at c.args.core.now c.loop-k.core c.loop-k.k c.unwrap-handler.result c.loop-k.invariant.1
    (sym c.handler.ensures ∙ c.unwrap-handler.ensures) in
    (has_place _ _ c.unwrap-handler.result found (sym c.eq.ensures ∙ c.if-eq.true) _ c.loop-k.invariant.0).0

pub invoke-status-requires-clause-blanks : goal.invoke-status-requires-clause-blanks
invoke-status-requires-clause-blanks c =
    let found = found_at c.args.core.now c.loop-k.core c.loop-k.k c.unwrap-handler.result c.loop-k.invariant.1
    (sym c.handler.ensures ∙ c.unwrap-handler.ensures) in
    (has_place _ _ c.unwrap-handler.result found (sym c.eq.ensures ∙ c.if-eq.true) _ c.loop-k.invariant.0).1

pub returns-then-stopped : goal.returns-then-stopped
returns-then-stopped c =
    let found = found_at c.args.core.now c.loop-k.core c.loop-k.k c.unwrap-handler.result c.loop-k.invariant.1
    (sym c.handler.ensures ∙ c.unwrap-handler.ensures) in
    let after : Held = record {
      result = c.combine-after.result.0;
      live = c.invoke-status.new.core.live;
      buffer = c.invoke-status.new.buffer;
      made = c.invoke-status.new.invocations;
      blanks = vec_len c.invoke-status.new.blanks;
    } in
    let Run : Site → Invoked = λ site. invoked site c.args.saved c.unwrap-handler.result c.loop-k.buffer.message c.loop-k.core.live in
    let run : Run c.loop-k.core.site ≡ Run c.args.core.now.site = ap (λ (core : CoreState). Run core.site) c.loop-k.invariant.1 in
    let managed : Managed _ after =
    ends _ _ c.unwrap-handler.result found (sym c.eq.ensures ∙ c.if-eq.true)
    _ c.is_none-root.result c.invoke-status.result after c.loop-k.invariant.0 record {
      kind = root_is c.args.guid c.is_none-root.result c.is_none-root.ensures;
      status_is = c.invoke-status.ensures.status ∙ ap (λ (r : Invoked). status_of r.invocation.ended) run;
      result_is = c.combine-after.ensures.becomes;
      live_is = ap (λ (core : CoreState). core.live) c.invoke-status.ensures.core ∙ ap (λ (r : Invoked). r.live) run;
      buffer_is = c.invoke-status.ensures.message ∙ ap (λ (r : Invoked). record c.loop-k.buffer { message = r.message }) run;
      made_is =
          c.invoke-status.ensures.invocation
          ∙ ap (λ (r : Invoked). record { items = c.loop-k.invocations.items ++ r.invocation ∷ []; room = c.loop-k.invocations.room }) run;
      blanks_are = c.invoke-status.ensures.blanks;
    } (sym c.combine-after.ensures.stops ∙ c.if-stopped.true) in
    record {
      result = managed.result;
      message = managed.message;
      invocations = managed.invocations;
      core =
          core_with c.args.core.now c.loop-k.core c.invoke-status.new.core c.invoke-status.new.core.live c.loop-k.invariant.1
          (left_with_live c.loop-k.core c.invoke-status.new.core _ c.invoke-status.ensures.core)
          ∙ ap (λ live. record c.args.core.now { live = live }) managed.live;
      blanks = managed.blanks;
    }

pub loop-k-preserved : goal.loop-k-preserved
loop-k-preserved c =
    let found = found_at c.args.core.now c.loop-k.core c.loop-k.k c.unwrap-handler.result c.loop-k.invariant.1
    (sym c.handler.ensures ∙ c.unwrap-handler.ensures) in
    let after : Held = record {
      result = c.if-eq.result;
      live = c.if-eq.core.live;
      buffer = c.if-eq.buffer;
      made = c.if-eq.invocations;
      blanks = vec_len c.if-eq.blanks;
    } in
    let Run : Site → Invoked = λ site. invoked site c.args.saved c.unwrap-handler.result c.loop-k.buffer.message c.loop-k.core.live in
    let run : Run c.loop-k.core.site ≡ Run c.args.core.now.site = ap (λ (core : CoreState). Run core.site) c.loop-k.invariant.1 in
    elim c.if-eq.branch [
      | then-eq+else-stopped w ↦ (
        goes_on _ _ c.unwrap-handler.result found (sym c.eq.ensures ∙ w.if-eq.true)
            _ c.is_none-root.result w.invoke-status.result after c.loop-k.invariant.0 record {
              kind = root_is c.args.guid c.is_none-root.result c.is_none-root.ensures;
              status_is = w.invoke-status.ensures.status ∙ ap (λ (r : Invoked). status_of r.invocation.ended) run;
              result_is = w.result-is ∙ w.combine-after.ensures.becomes;
              live_is =
                  ap (λ (core : CoreState). core.live) (w.core-is ∙ w.invoke-status.ensures.core) ∙ ap (λ (r : Invoked). r.live) run;
              buffer_is =
                  w.buffer-is ∙ w.invoke-status.ensures.message ∙ ap (λ (r : Invoked). record c.loop-k.buffer { message = r.message }) run;
              made_is =
                  w.invocations-is ∙ w.invoke-status.ensures.invocation
                  ∙ ap (λ (r : Invoked). record { items = c.loop-k.invocations.items ++ r.invocation ∷ []; room = c.loop-k.invocations.room }) run;
              blanks_are = ap (λ v. vec_len v + 1) w.blanks-is ∙ w.invoke-status.ensures.blanks;
            } (sym w.combine-after.ensures.stops ∙ w.if-stopped.false),
        core_with c.args.core.now c.loop-k.core c.if-eq.core c.if-eq.core.live c.loop-k.invariant.1
            (left_with_live c.loop-k.core c.if-eq.core _ (w.core-is ∙ w.invoke-status.ensures.core)),
      )
      | else-eq w ↦ (
        goes_past _ _ c.unwrap-handler.result found (sym c.eq.ensures ∙ w.if-eq.false) _ after c.loop-k.invariant.0
            (λ i. record {
              result = w.result-is i;
              live = (w.core-is i).live;
              buffer = w.buffer-is i;
              made = w.invocations-is i;
              blanks = vec_len (w.blanks-is i);
            }),
        core_with c.args.core.now c.loop-k.core c.if-eq.core c.if-eq.core.live c.loop-k.invariant.1
            (left_with_live c.loop-k.core c.if-eq.core c.loop-k.core.live w.core-is),
      )
    ]

pub returns : goal.returns
returns c =
    let managed : Managed _ _ = at_end _ c.loop-k.k _ c.loop-k.invariant.0 (omega (arith, c.handlers-k-end.ensures, c.loop-k-test.false)) in
    record {
      result = managed.result;
      message = managed.message;
      invocations = managed.invocations;
      core = c.loop-k.invariant.1 ∙ ap (λ live. record c.args.core.now { live = live }) managed.live;
      blanks = managed.blanks;
    }
