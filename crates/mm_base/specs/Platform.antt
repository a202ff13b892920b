-- The platform's map, which is this project's own: where memory, windows and cells are.
use Rattle.std.specs.Prelude.{ℕ}
use Rattle.mm_base.specs.declared.range.Range.{Range}

-- management-mode memory (MMRAM): 8,192 pages of 4,096 bytes
abbrev pub mmram : Range
mmram = record { base = 0x80000000; length = 33554432 }

abbrev pub page_size : ℕ
page_size = 4096

-- the window that the lanes share with the operating system
abbrev pub lane_window : Range
lane_window = record { base = 0x40000000; length = 1048576 }

-- the window of device bytes
abbrev pub device_window : Range
device_window = record { base = 0xfe000000; length = 65536 }

-- how many I/O ports there are
abbrev pub port_count : ℕ
port_count = 65536

-- how many model-specific registers stand from 0 on, and as many from this number on
abbrev pub msr_count : ℕ
msr_count = 0x2000

abbrev pub first_upper_msr : ℕ
first_upper_msr = 0xc0000000

-- How many registers are saved: RAX, RBX, RCX, RDX, RSI, RDI, RBP, RSP, R8 to R15, RIP, RFLAGS, and the trapped access.
abbrev pub saved_count : ℕ
saved_count = 19

-- which of them is the trapped access
abbrev pub trapped_access : ℕ
trapped_access = 18
