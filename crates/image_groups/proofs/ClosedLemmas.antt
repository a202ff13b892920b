-- Whether a group is closed, by tests: they are exact.
use Rattle.std.proofs.Common.{◌≡◌, ◌≢◌, ◌↔◌, true, List, refl}
use Rattle.std.proofs.lemmas.Bool.{and_from, and_parts}
use Rattle.mm_base.specs.declared.access.Kind.{Kind}
use Rattle.mm_base.specs.declared.access.Kind.TheVariants.{Memory, Io, Msr, Saved}
use Rattle.mm_base.specs.declared.handler.Handler.{Handler}
use Rattle.supervisor_calls.specs.Tables.{Site}
use Rattle.image_groups.specs.ClosedInside.{are_alike, is_apart, is_closed_by}
use Rattle.image_groups.specs.Groups.{Group, IsClosed}
use Rattle.image_groups.proofs.AlikeLemmas.{alike_exactly}
use Rattle.image_groups.proofs.ApartLemmas.{AreApart, apart_exactly}

module _ (group : Group) (site : Site) (handlers : List Handler) where
  -- each kind that counts is tested
  apart_by : is_apart group site Memory ≡ true → is_apart group site Io ≡ true → is_apart group site Msr ≡ true
      → (kind : Kind) → kind ≢ Saved → AreApart group site kind
  apart_by bytes ports registers Memory other = (apart_exactly group site Memory).0 bytes
  apart_by bytes ports registers Io other = (apart_exactly group site Io).0 ports
  apart_by bytes ports registers Msr other = (apart_exactly group site Msr).0 registers
  apart_by bytes ports registers Saved other = absurd (other refl)

  from_tests : is_closed_by group site handlers ≡ true → IsClosed group site handlers
  from_tests closed =
      let parts = and_parts (are_alike group handlers) _ closed in
      let bytes = and_parts (is_apart group site Memory) _ parts.1 in
      let rest = and_parts (is_apart group site Io) _ bytes.1 in
      record {
        alike = (alike_exactly group handlers).0 parts.0;
        apart = λ image kind unit there other. apart_by bytes.0 rest.0 rest.1 kind other image unit there;
      }

  test_of : (kind : Kind) → kind ≢ Saved → IsClosed group site handlers → is_apart group site kind ≡ true
  test_of kind other closed =
      (apart_exactly group site kind).1 (λ image unit there. closed.apart image kind unit there other)

  to_tests : IsClosed group site handlers → is_closed_by group site handlers ≡ true
  to_tests closed =
      and_from (are_alike group handlers) _ ((alike_exactly group handlers).1 closed.alike)
      (and_from (is_apart group site Memory) _ (test_of Memory (λ e. cc) closed)
      (and_from (is_apart group site Io) _ (test_of Io (λ e. cc) closed) (test_of Msr (λ e. cc) closed)))

-- the tests say whether a group is closed
pub closed_exactly : (group : Group) (site : Site) (handlers : List Handler)
    → (is_closed_by group site handlers ≡ true) ↔ IsClosed group site handlers
closed_exactly group site handlers = (from_tests group site handlers, to_tests group site handlers)
