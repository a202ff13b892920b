-- A bus of the tests: memory as of a flat bus, and two services. One answers with the address of its arguments as its status, and the
-- other one is denied a port.
use Rattle.std.specs.Prelude.{ℕ, ◌==◌, if◌then◌else◌}
use Rattle.mm_base.specs.Bus.{Meaning}
use Rattle.mm_base.specs.declared.access.Denial.{Denial}
use Rattle.mm_base.specs.declared.access.Kind.TheVariants as kinds
use Rattle.mm_base.specs.declared.access.Right.TheVariants as rights
use Rattle.mm_base.specs.declared.access.Why.TheVariants as whys
use Rattle.mm_base.specs.declared.bus.Served.{Served}
use Rattle.mm_base.specs.declared.bus.Served.TheVariants.{Status, Stop}
use Rattle.mm_base.specs.declared.bus.Target.{Target}
use Rattle.mm_base.specs.declared.bus.Target.TheVariants.{Service}
use Rattle.ebc_machine.specs.Flat.{FlatState, flat_meaning, target_at}

-- the port that the second service is denied
abbrev pub denied_port : Denial
denied_port = record { kind = kinds.Io; right = rights.Read; at = 0x70; n = 1; why = whys.NoRule }

-- their entries, which are no memory
abbrev pub serving_target : FlatState → ℕ → Target
serving_target flat at = if at == 0x8000 then Service 3 else if at == 0x8010 then Service 19 else target_at flat at

abbrev pub served_by : FlatState → ℕ → ℕ → Served × FlatState
served_by flat number stack = (if number == 3 then Status stack else Stop denied_port, flat)

abbrev pub serving_meaning : Meaning FlatState
serving_meaning = record flat_meaning { targets = serving_target; serves = served_by }
