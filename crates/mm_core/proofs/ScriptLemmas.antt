-- The core of a script, as its handlers are registered one after another.
use Rattle.std.proofs.Common.{◌≡◌, ℕ, ◌+◌, ◌≤◌, ◌<◌, true, false, List, [], ◌∷◌, ◌++◌, length, drop, Some, get_or, refl, sym, ap, subst}
use Rattle.std.proofs.Common.{◌∙◌, arith, append_assoc, length-append}
use Rattle.std.proofs.lemmas.List.{append-nil, at_drop_more, drop_all}
use Rattle.mm_base.specs.declared.handler.Handler.{Handler}
use Rattle.mm_base.specs.declared.handler.HandlerBody.{HandlerBody}
use Rattle.mm_base.specs.declared.handler.HandlerBody.TheVariants.{Version, Stub, Code}
use Rattle.mmi_registry.specs.Handlers.{is_built_in}
use Rattle.mmi_registry.specs.Registry.{RegistryState, with_handler}
use Rattle.mm_core.specs.Scripted.{is_stub, numbered, version_handler}
use Rattle.mm_core.specs.Version.{version_guid}

pub is_built_in-stub : (body : HandlerBody) → is_stub body ≡ true → is_built_in body ≡ true
is_built_in-stub Version h = refl
is_built_in-stub (Stub status) h = refl
is_built_in-stub (Code image address) h = absurd (cc)

-- the first k stubs are registered after the version handler
pub record Added (stubs : List Handler) (k : ℕ) (registry : RegistryState) : Type 0 where
  pub whole : registry.handlers ++ numbered registry.next (drop k stubs) ≡ version_handler ∷ numbered 1 stubs
  pub count : length registry.handlers ≡ k + 1
  pub next : registry.next ≡ k + 1
  pub is_open : registry.frozen ≡ false

module _ (stubs : List Handler) where
  -- after the version handler no stub is registered yet
  pub at_first : (empty after : RegistryState) → empty ≡ record { handlers = []; next = 0; frozen = false }
      → after ≡ with_handler (Some version_guid) Version empty → Added stubs 0 after
  at_first empty after none joined =
      let first : RegistryState = record { handlers = version_handler ∷ []; next = 1; frozen = false } in
      let same : after ≡ first = joined ∙ ap (with_handler (Some version_guid) Version) none in
      subst (Added stubs 0) (sym same) record { whole = refl; count = refl; next = refl; is_open = refl }

  module _ (k : ℕ) (registry : RegistryState) (added : Added stubs k registry) where
    with_stub : (d : Handler) → k < length stubs
        → Added stubs (k + 1) (with_handler (get_or stubs k d).guid (get_or stubs k d).body registry)
    with_stub d less =
        let stub = get_or stubs k d in
        let handler : Handler = record { number = registry.next; guid = stub.guid; body = stub.body } in
        let rest = numbered (registry.next + 1) (drop (k + 1) stubs) in
        let left : numbered registry.next (drop k stubs) ≡ handler ∷ rest = at_drop_more (numbered registry.next) stubs k d less in
        record {
          whole = append_assoc registry.handlers (handler ∷ []) rest ∙ ap (λ hs. registry.handlers ++ hs) (sym left) ∙ added.whole;
          count = omega (arith, added.count, length-append registry.handlers (handler ∷ []));
          next = omega (arith, added.next);
          is_open = added.is_open;
        }

    -- one stub more is registered
    pub one_more : (items : List Handler) (after : RegistryState) (d : Handler) → items ≡ stubs → k < length items
        → after ≡ with_handler (get_or items k d).guid (get_or items k d).body registry → Added stubs (k + 1) after
    one_more items after d same less joined =
        let More : List Handler → Type 0 = λ hs. Added stubs (k + 1) (with_handler (get_or hs k d).guid (get_or hs k d).body registry) in
        let Less : List Handler → Type 0 = λ hs. k < length hs in
        subst (Added stubs (k + 1)) (sym joined) (subst More (sym same) (with_stub d (subst Less same less)))

    -- each stub is registered
    pub all_added : length stubs ≤ k → registry.handlers ≡ version_handler ∷ numbered 1 stubs
    all_added past =
        sym (append-nil registry.handlers) ∙ ap (λ left. registry.handlers ++ numbered registry.next left) (sym (drop_all k stubs past))
        ∙ added.whole
