-- No public clause cites this file.
--
-- What is kept of the files before one.
use Rattle.std.specs.Prelude.{◌≡◌, List}
use Rattle.std.specs.BTreeSet.{contains}
use Rattle.std.specs.Cmp.Lexicographic.{slice_cmp}
use Rattle.std.specs.Ordering.{nat_cmp}
use Rattle.mm_base.specs.declared.guid.Guid.{Guid}
use Rattle.file_words.specs.Causes.{Known, is_policy_among, is_driver_among}
use Rattle.file_words.specs.declared.earlier.Earlier.{Earlier}

-- This is kept of these files: whether the policy is among them, and the names of the drivers.
pub record Keeps (kept : Earlier) (earlier : List Known) : Type 0 where
  pub policy : kept.has_policy ≡ is_policy_among earlier
  pub drivers : (name : Guid) → contains (slice_cmp nat_cmp) kept.drivers name.0 ≡ is_driver_among earlier name
