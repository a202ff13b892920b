-- Status codes, as they stand in registers and in a lane's status word. The top bit marks an error.
use Rattle.std.specs.Prelude.{ℕ}

-- all went well (EFI_SUCCESS)
abbrev pub success : ℕ
success = 0

-- errors, by UEFI 2.10, appendix D
abbrev pub invalid_parameter : ℕ
invalid_parameter = 0x8000000000000002

abbrev pub unsupported : ℕ
unsupported = 0x8000000000000003

abbrev pub out_of_resources : ℕ
out_of_resources = 0x8000000000000009

abbrev pub not_found : ℕ
not_found = 0x800000000000000e

abbrev pub access_denied : ℕ
access_denied = 0x800000000000000f

abbrev pub timeout : ℕ
timeout = 0x8000000000000012

abbrev pub aborted : ℕ
aborted = 0x8000000000000015

-- what PI 1.8 (volume 4) lets a handler return of an interrupt; the three numbers are this project's own
abbrev pub interrupt_pending : ℕ
interrupt_pending = 0xa000000000000000

abbrev pub source_pending : ℕ
source_pending = 0x2000000000000000

abbrev pub source_quiesced : ℕ
source_quiesced = 0x2000000000000001
