-- No public clause cites this file.
-- What the steps of a start ask.
use Rattle.std.specs.Prelude.{ℕ, ◌+◌, ◌<◌, ◌≤◌, Bool, List, length, All}
use Rattle.mm_base.specs.Regions.{pages_filled}
use Rattle.mm_base.specs.declared.image.Image.{Image}
use Rattle.mmi_registry.specs.Handlers.{without_image}
use Rattle.page_runs.specs.Runs.{AreTaken}
use Rattle.protocol_db.specs.Rows.{without_owner}
use Rattle.supervisor_calls.specs.Loading.{last_image}
use Rattle.supervisor_calls.specs.Tables.{TablesState}
use Rattle.driver_start.specs.Hosts.{AreAllLive}

-- An image fits on the pages from this one on.
abbrev pub IsRunFor : Image → ℕ → Type 0
IsRunFor image page = page + (pages_filled image.size + 38) ≤ 8192

-- The last image may be taken out again from n pages that begin with this one, with these next numbers.
pub record MayWithdraw (tables : TablesState) (taken : List Bool) (page n number handle : ℕ) : Type 0 where
  pub some : 1 ≤ length tables.site.images
  pub number_rose : number ≤ tables.registry.next
  pub handle_rose : handle ≤ tables.protocols.next
  pub numbers : All (λ handler. handler.number < number) (without_image (last_image tables) tables.registry.handlers)
  pub handles : All (λ row. row.handle < handle) (without_owner (last_image tables) tables.protocols.rows)
  pub live : AreAllLive tables.pages
  pub within : page + n ≤ 8192
  pub are_taken : AreTaken taken page n
