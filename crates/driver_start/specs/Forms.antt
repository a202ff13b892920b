-- A driver as it is loaded, as a function of its bytes.
use Rattle.std.specs.Prelude.{ℕ, zero, suc, ◌+◌, if◌then◌else◌, List, [], ◌∷◌}
use Rattle.mm_base.specs.declared.range.Range.{Range}
use Rattle.pe_loader.specs.Fixups.{Block, block_at, fixups_in, is_block}
use Rattle.pe_loader.specs.Forms.{plain_form}
use Rattle.pe_loader.specs.Headers.{relocs_of}
use Rattle.pe_loader.specs.Loading.{loaded}
use Rattle.pe_loader.specs.Sections.{parts}
use Rattle.driver_start.specs.Starts.{DriverState, Loadable}

-- the relocation blocks of a directory from a place on, one after another; no more are looked at than this number says
unfoldable pub blocks_along : ℕ → List ℕ → Range → ℕ → List Block
blocks_along zero form directory at = []
blocks_along (suc n) form directory at =
    if is_block form directory at
    then block_at form at ∷ blocks_along n form directory (at + (block_at form at).size)
    else []

-- the relocation blocks of an image: all from its directory's begin on; there are no more than the directory has bytes
unfoldable pub blocks_of : List ℕ → List Block
blocks_of bytes =
    let directory = relocs_of bytes in
    blocks_along directory.length (plain_form bytes) directory directory.base

-- A driver as it is loaded: its sections are those of its image's table, and its form at each address is the plain one
-- with all fixups applied.
unfoldable pub loadable_of : DriverState → Loadable
loadable_of driver = record {
  name = driver.name;
  image = driver.image;
  parts = parts driver.bytes;
  form = λ base. loaded driver.bytes driver.image (fixups_in (blocks_of driver.bytes)) base;
}
