-- The services that an image may call, by their numbers, and where their addresses stand. Both are this project's own.
use Rattle.std.specs.Prelude.{ℕ, ◌+◌, ◌*◌}
use Rattle.mm_base.specs.declared.service.Service.{Service}
use Rattle.mm_base.specs.declared.service.Service.TheVariants as services

-- the number of a service
abbrev pub number_of : Service → ℕ
number_of services.AllocatePool = 0
number_of services.FreePool = 1
number_of services.AllocatePages = 2
number_of services.FreePages = 3
number_of services.InstallProtocol = 4
number_of services.UninstallProtocol = 5
number_of services.HandleProtocol = 6
number_of services.LocateHandle = 7
number_of services.LocateProtocol = 8
number_of services.RegisterHandler = 9
number_of services.UnregisterHandler = 10
number_of services.ReadSaveState = 11
number_of services.IoRead = 12
number_of services.IoWrite = 13
number_of services.ReadMsr = 14
number_of services.WriteMsr = 15
number_of services.RegisterProtocolNotify = 16
number_of services.InstallConfigurationTable = 17
number_of services.StartupThisProcessor = 18
number_of services.Manage = 19

-- the place on the service page where the address of the service with this number stands, in 8 bytes
abbrev pub slot_of : ℕ → ℕ
slot_of number = 8 * number

-- the address of the service with this number, where the service page has this address
abbrev pub entry_of : ℕ → ℕ → ℕ
entry_of page number = page + 256 + 16 * number
