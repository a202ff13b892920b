-- The test of handlers two by two is exact: it comes out true where each GUID's handlers are all the group's, or none is.
use Rattle.std.proofs.Common.{◌≡◌, ◌⊎◌, ◌↔◌, Bool, true, false, List, [], ◌∷◌, Option, Some, None, refl, sym, ap, ◌∙◌, inl, inr}
use Rattle.std.specs.Prelude.{◌||◌, not, cond, filter, slice_index_or, All}
use Rattle.std.specs.List.{list_all}
use Rattle.std.specs.Option.{option_eq}
use Rattle.std.proofs.lemmas.Bool.{and_parts, both_ways}
use Rattle.std.proofs.lemmas.List.Elements.{All-cons, All-filter, All-head, All-nil, All-tail, All-weaker, filter_passes}
use Rattle.std.proofs.lemmas.List.Sums.{AllPass-from_list_all, list_all-from_AllPass}
use Rattle.std.proofs.lemmas.Slice.Eq.{bytes_eq-Decides}
use Rattle.mm_base.specs.Guid.{same_guid}
use Rattle.mm_base.specs.declared.guid.Guid.{Guid}
use Rattle.mm_base.specs.declared.handler.Handler.{Handler}
use Rattle.mmi_registry.specs.Handlers.{chain_of}
use Rattle.image_groups.specs.ClosedInside.{are_alike, are_same, have_one_guid, is_alike_with}
use Rattle.image_groups.specs.Groups.{AreAlike, Group, is_handler_of}

-- ---- GUIDs

guid_itself : (guid : Guid) → same_guid guid guid ≡ true
guid_itself guid = (bytes_eq-Decides guid.0 guid.0).1 refl

-- two that have the bytes of a third have the same
guid_by_third : (one other third : Guid) → same_guid one third ≡ true → same_guid other third ≡ true → same_guid one other ≡ true
guid_by_third one other third first second =
    (bytes_eq-Decides one.0 other.0).1 ((bytes_eq-Decides one.0 third.0).0 first ∙ sym ((bytes_eq-Decides other.0 third.0).0 second))

guid_turned : (one other : Guid) → same_guid one other ≡ true → same_guid other one ≡ true
guid_turned one other same = (bytes_eq-Decides other.0 one.0).1 (sym ((bytes_eq-Decides one.0 other.0).0 same))

-- whether something was registered for a GUID
abbrev is_for : Guid → Option Guid → Bool
is_for guid registered = option_eq same_guid registered (Some guid)

-- two that were registered for one GUID have one
one_guid : (guid : Guid) (first second : Option Guid) → is_for guid first ≡ true → is_for guid second ≡ true → have_one_guid first second ≡ true
one_guid guid None second is too = absurd cc
one_guid guid (Some first) None is too = absurd cc
one_guid guid (Some first) (Some second) is too = guid_by_third first second guid is too

-- ---- tests

same_from : (one other : Bool) → are_same one other ≡ true → other ≡ one
same_from true other e = e
same_from false true e = absurd cc
same_from false false e = refl

same_as_itself : (one other : Bool) → one ≡ other → are_same one other ≡ true
same_as_itself true other e = sym e
same_as_itself false other e = ap not (sym e)

where_one : (one alike : Bool) → (not one || alike) ≡ true → one ≡ true → alike ≡ true
where_one true alike e is = e
where_one false alike e is = absurd cc

to_where_one : (one alike : Bool) → (one ≡ true → alike ≡ true) → (not one || alike) ≡ true
to_where_one true alike e = e refl
to_where_one false alike e = refl

module _ (group : Group) where
  -- ---- from the test

  module _ (guid : Guid) where
    abbrev is_in_chain : Handler → Bool
    is_in_chain handler = is_for guid handler.guid

    -- what holds of each that is in the chain
    chain_all : (P : Handler → Type 0) (handlers : List Handler) → All (λ (handler : Handler). is_in_chain handler ≡ true → P handler) handlers
        → All P (chain_of (Some guid) handlers)
    chain_all P handlers each = λ k d within.
        All-filter is_in_chain (λ (handler : Handler). is_in_chain handler ≡ true → P handler) handlers each k d within
        (filter_passes is_in_chain handlers k d within)

    -- and the other way round
    each_in_chain : (P : Handler → Type 0) (handlers : List Handler) → All P (chain_of (Some guid) handlers)
        → All (λ (handler : Handler). is_in_chain handler ≡ true → P handler) handlers
    each_in_chain P [] all = All-nil (λ (handler : Handler). is_in_chain handler ≡ true → P handler)
    each_in_chain P (handler ∷ handlers) all =
        let parts = step (is_in_chain handler) all in
        All-cons (λ (handler : Handler). is_in_chain handler ≡ true → P handler) handler handlers parts.0 (each_in_chain P handlers parts.1)
      where
        step : (is : Bool) → All P (cond is (handler ∷ filter is_in_chain handlers) (filter is_in_chain handlers))
            → (is ≡ true → P handler) × All P (chain_of (Some guid) handlers)
        step true all = (λ e. All-head P handler (filter is_in_chain handlers) all, All-tail P handler (filter is_in_chain handlers) all)
        step false all = (λ e. absurd cc, all)

    -- some handler of the chain is like all that share a GUID with it, or the chain is empty
    pub record First (handlers : List Handler) : Type 0 where
      pub handler : Handler
      pub is : is_in_chain handler ≡ true
      pub alike : list_all (is_alike_with group handler) handlers ≡ true

    first_or_none : (all handlers : List Handler) → list_all (λ (handler : Handler). list_all (is_alike_with group handler) all) handlers ≡ true
        → First all ⊎ All (λ (handler : Handler). is_in_chain handler ≡ false) handlers
    first_or_none all [] e = inr (All-nil (λ (handler : Handler). is_in_chain handler ≡ false))
    first_or_none all (handler ∷ handlers) e =
        let parts = and_parts (list_all (is_alike_with group handler) all) _ e in
        step (is_in_chain handler) refl parts.0 (first_or_none all handlers parts.1)
      where
        step : (is : Bool) → is_in_chain handler ≡ is → list_all (is_alike_with group handler) all ≡ true
            → First all ⊎ All (λ (handler : Handler). is_in_chain handler ≡ false) handlers
            → First all ⊎ All (λ (handler : Handler). is_in_chain handler ≡ false) (handler ∷ handlers)
        step true is alike rest = inl record { handler = handler; is = is; alike = alike }
        step false is alike (inl found) = inl found
        step false is alike (inr none) = inr (All-cons (λ (handler : Handler). is_in_chain handler ≡ false) handler handlers is none)

    -- all of the chain are as the first
    as_first : (handlers : List Handler) (first : First handlers) (mine : Bool) → is_handler_of group first.handler ≡ mine
        → All (λ (handler : Handler). is_handler_of group handler ≡ mine) (chain_of (Some guid) handlers)
    as_first handlers first mine e =
        chain_all (λ (handler : Handler). is_handler_of group handler ≡ mine) handlers
        (All-weaker (λ (handler : Handler). is_alike_with group first.handler handler ≡ true)
        (λ (handler : Handler). is_in_chain handler ≡ true → is_handler_of group handler ≡ mine)
        (λ handler alike is.
        same_from (is_handler_of group first.handler) (is_handler_of group handler)
        (where_one (have_one_guid first.handler.guid handler.guid) _ alike (one_guid guid first.handler.guid handler.guid first.is is))
        ∙ e)
        handlers (AllPass-from_list_all (is_alike_with group first.handler) handlers first.alike))

    alike_by : (handlers : List Handler) → First handlers ⊎ All (λ (handler : Handler). is_in_chain handler ≡ false) handlers
        → AreAlike group handlers guid
    alike_by handlers (inr none) =
        inl (chain_all (λ (handler : Handler). is_handler_of group handler ≡ true) handlers
        (All-weaker (λ (handler : Handler). is_in_chain handler ≡ false)
        (λ (handler : Handler). is_in_chain handler ≡ true → is_handler_of group handler ≡ true)
        (λ handler other is. absurd (both_ways (is_in_chain handler) other is)) handlers none))
    alike_by handlers (inl first) = by (is_handler_of group first.handler) refl
      where
        by : (mine : Bool) → is_handler_of group first.handler ≡ mine → AreAlike group handlers guid
        by true e = inl (as_first handlers first true e)
        by false e = inr (as_first handlers first false e)

  -- ---- to the test

  -- whether the handlers of a GUID are the group's, where they are alike
  pub record Told (handlers : List Handler) (guid : Guid) : Type 0 where
    pub mine : Bool
    pub each : All (λ (handler : Handler). is_for guid handler.guid ≡ true → is_handler_of group handler ≡ mine) handlers

  told_by : (handlers : List Handler) (guid : Guid) → AreAlike group handlers guid → Told handlers guid
  told_by handlers guid (inl all) = record {
    mine = true;
    each = each_in_chain guid (λ (handler : Handler). is_handler_of group handler ≡ true) handlers all;
  }
  told_by handlers guid (inr none) = record {
    mine = false;
    each = each_in_chain guid (λ (handler : Handler). is_handler_of group handler ≡ false) handlers none;
  }

  -- what is known of two handlers, for one GUID
  abbrev IsKnown : Handler → Handler → Guid → Bool → Type 0
  IsKnown first second guid mine =
      (is_for guid first.guid ≡ true → is_handler_of group first ≡ mine) × (is_for guid second.guid ≡ true → is_handler_of group second ≡ mine)

  alike_pair : (first second : Handler) (one other : Option Guid) → first.guid ≡ one → second.guid ≡ other
      → ((guid : Guid) → (mine : Bool) × IsKnown first second guid mine)
      → have_one_guid one other ≡ true → is_handler_of group first ≡ is_handler_of group second
  alike_pair first second None other is too known same = absurd cc
  alike_pair first second (Some guid) None is too known same = absurd cc
  alike_pair first second (Some guid) (Some other) is too known same =
      let told = known guid in
      told.1.0 (ap (is_for guid) is ∙ guid_itself guid) ∙ sym (told.1.1 (ap (is_for guid) too ∙ guid_turned guid other same))

  to_alike : (handlers : List Handler) → ((guid : Guid) → AreAlike group handlers guid) → are_alike group handlers ≡ true
  to_alike handlers alike =
      list_all-from_AllPass (λ (handler : Handler). list_all (is_alike_with group handler) handlers) handlers
      (λ k d within.
      let first : Handler = slice_index_or handlers k d in
      list_all-from_AllPass (is_alike_with group first) handlers
      (λ j e inside.
      let second : Handler = slice_index_or handlers j e in
      to_where_one (have_one_guid first.guid second.guid) (are_same (is_handler_of group first) (is_handler_of group second))
      (λ one.
      same_as_itself (is_handler_of group first) (is_handler_of group second)
      (alike_pair first second first.guid second.guid refl refl
      (λ guid. let told = told_by handlers guid (alike guid) in (told.mine, (told.each k d within, told.each j e inside)))
      one))))

  pub alike_exactly : (handlers : List Handler) → (are_alike group handlers ≡ true) ↔ ((guid : Guid) → AreAlike group handlers guid)
  alike_exactly handlers = (λ e guid. alike_by guid handlers (first_or_none guid handlers handlers e), to_alike handlers)
