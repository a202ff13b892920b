-- Registers and operands (UEFI 2.10, sections 22.3 and 22.7).
use Rattle.std.specs.Prelude.{◌≡◌, ◌⊎◌, ℕ, ◌+◌, ◌-◌, ◌%◌, ◌^◌, ◌<◌, ◌==◌, Bool, Option, Some, None, get_or, set, if◌then◌else◌}
use Rattle.ebc_decode.specs.declared.operand.Operand.{Operand}
use Rattle.ebc_decode.specs.declared.operand.Place.{Place}
use Rattle.ebc_decode.specs.declared.operand.Target.{Target}
use Rattle.ebc_decode.specs.declared.operand.Target.TheVariants as targets
use Rattle.ebc_alu.specs.Index.{offset_of, immediate_of}
use Rattle.ebc_machine.specs.declared.place.Source.{Source}
use Rattle.ebc_machine.specs.declared.place.Source.TheVariants.{Held, At}
use Rattle.ebc_machine.specs.declared.place.Destination.{Destination}
use Rattle.ebc_machine.specs.declared.place.Destination.TheVariants.{Register, Memory}
use Rattle.ebc_machine.specs.declared.regs.Regs.{Regs}

-- what stands in a register
abbrev pub register_in : ℕ → Regs → ℕ
register_in register regs = get_or regs.r register 0

-- the registers, with a value in one of them
abbrev pub with_register : ℕ → ℕ → Regs → Regs
with_register register value regs = record regs { r = set regs.r register value }

-- the registers on the way to an address
abbrev pub at_address : ℕ → Regs → Regs
at_address next regs = record regs { ip = next }

-- the stack pointer, lowered or raised by n bytes
abbrev pub lowered : ℕ → Regs → ℕ
lowered n regs = (register_in 0 regs + (2 ^ 64 - n)) % 2 ^ 64

abbrev pub raised : ℕ → Regs → ℕ
raised n regs = (register_in 0 regs + n) % 2 ^ 64

-- an address is odd, so that no code stands there
abbrev pub is_odd : ℕ → Bool
is_odd at = at % 2 == 1

-- an index or immediate has 2, 4 or 8 bytes
abbrev pub IsFieldWidth : ℕ → Type 0
IsFieldWidth bytes = (bytes ≡ 2) ⊎ ((bytes ≡ 4) ⊎ (bytes ≡ 8))

-- the stack takes 4 or 8 bytes
abbrev pub IsStackWidth : ℕ → Type 0
IsStackWidth n = (n ≡ 4) ⊎ (n ≡ 8)

-- what a natural index adds to a register, and what an immediate does: nothing where the field isn't there
abbrev pub index_in : ℕ → Option ℕ → ℕ
index_in bytes None = 0
index_in bytes (Some raw) = offset_of bytes raw

abbrev pub immediate_in : ℕ → Option ℕ → ℕ
immediate_in bytes None = 0
immediate_in bytes (Some raw) = immediate_of bytes raw

-- a register and what its operand's index, or immediate, adds
abbrev pub indexed : ℕ → Operand → Regs → ℕ
indexed bytes operand regs = (register_in operand.place.register regs + index_in bytes operand.field) % 2 ^ 64

abbrev pub added : ℕ → Operand → Regs → ℕ
added bytes operand regs = (register_in operand.place.register regs + immediate_in bytes operand.field) % 2 ^ 64

-- An indirect operand is what stands at its register and index. A direct one is its register and its field, which is an
-- immediate in comparisons, arithmetic, MOVSN and PUSH,
abbrev pub by_immediate : ℕ → Operand → Regs → Source
by_immediate bytes operand regs =
    if operand.place.indirect then At (indexed bytes operand regs) else Held (added bytes operand regs)

-- and an index in MOV and MOVN.
abbrev pub by_index : ℕ → Operand → Regs → Source
by_index bytes operand regs =
    if operand.place.indirect then At (indexed bytes operand regs) else Held (indexed bytes operand regs)

-- a place without a field
abbrev pub by_place : Place → Regs → Source
by_place place regs = if place.indirect then At (register_in place.register regs) else Held (register_in place.register regs)

-- Where a result goes: to the register of a direct operand, or to where an indirect one points.
abbrev pub destination : ℕ → Operand → Regs → Destination
destination bytes operand regs =
    if operand.place.indirect then Memory (indexed bytes operand regs) else Register operand.place.register

abbrev pub place_destination : Place → Regs → Destination
place_destination place regs =
    if place.indirect then Memory (register_in place.register regs) else Register place.register

-- a register that is there, or any memory
abbrev pub IsDestination : Destination → Type 0
IsDestination (Register register) = register < 8
IsDestination (Memory at) = Unit {0}

-- The register of a jump or a call, where R0 counts as 0.
abbrev pub jump_base : ℕ → Regs → ℕ
jump_base register regs = if register == 0 then 0 else register_in register regs

abbrev pub jump_operand : Operand → Regs → Source
jump_operand operand regs =
    if operand.place.indirect
    then At ((jump_base operand.place.register regs + index_in 4 operand.field) % 2 ^ 64)
    else Held ((jump_base operand.place.register regs + immediate_in 4 operand.field) % 2 ^ 64)

-- The value of a jump or a call: an immediate of 64 bits, or an operand whose field has 32.
abbrev pub by_jump : Target → Regs → Source
by_jump (targets.Immediate raw) regs = Held raw
by_jump (targets.Operand operand) regs = jump_operand operand regs
