-- The fixups of an image are those of the blocks that its directory begins with.
use Rattle.std.proofs.Common.{◌≡◌, ℕ, zero, suc, ◌+◌, ◌≤◌, Bool, true, false, if◌then◌else◌, List, [], ◌∷◌, refl, sym, ap, ◌∙◌, subst, arith}
use Rattle.mm_base.specs.declared.range.Range.{Range}
use Rattle.pe_loader.specs.Fixups.{AreRead, Block, BlocksLead, block_at, directory_end, fixups_in, is_block}
use Rattle.pe_loader.specs.Forms.{plain_form}
use Rattle.pe_loader.specs.Headers.{image_size, relocs_of}
use Rattle.pe_loader.specs.Images.{IsImageOf}
use Rattle.pe_loader.specs.Loading.{loaded}
use Rattle.pe_loader.proofs.BlockLemmas.{block_room, size_within}
use Rattle.driver_start.specs.Forms.{blocks_along, blocks_of, loadable_of}
use Rattle.driver_start.specs.Starts.{DriverState, IsLoadable}

module _ (form : List ℕ) (directory : Range) where
  -- what stands at a place, where a block is there or not
  by_test : (n at : ℕ) (b : Bool) → is_block form directory at ≡ b
      → blocks_along (suc n) form directory at
      ≡ if◌then◌else◌ {A = List Block} b (block_at form at ∷ blocks_along n form directory (at + (block_at form at).size)) []
  unfolding blocks_along
  by_test n at b is =
      ap (λ (b : Bool).
      if◌then◌else◌ {A = List Block} b (block_at form at ∷ blocks_along n form directory (at + (block_at form at).size)) []) is

  none_along : (n at : ℕ) → is_block form directory at ≡ false → [] ≡ blocks_along n form directory at
  unfolding blocks_along
  none_along zero at none = refl
  none_along (suc n) at none = sym (by_test n at false none)

  more_along : (n at : ℕ) (block : Block) (rest : List Block) → is_block form directory at ≡ true → block ≡ block_at form at
      → rest ≡ blocks_along n form directory (at + block.size) → block ∷ rest ≡ blocks_along (suc n) form directory at
  more_along n at block rest there is same =
      ap (λ (blocks : List Block). block ∷ blocks) same
      ∙ ap (λ (b : Block). b ∷ blocks_along n form directory (at + b.size)) is
      ∙ sym (by_test n at true there)

  module _ (size : ℕ) where
    -- each block has 8 bytes at least, so there are no more than the directory has bytes
    blocks_are : (n at : ℕ) (blocks : List Block) (end : ℕ) → directory_end directory ≤ at + n
        → BlocksLead form size directory at blocks end
        → is_block form directory end ≡ false → blocks ≡ blocks_along n form directory at
    blocks_are n at [] end few leads ends =
        let P : ℕ → Type 0 = λ place. is_block form directory place ≡ false in
        none_along n at (subst P (sym leads) ends)
    blocks_are zero at (block ∷ blocks) end few leads ends =
        let room : at + 8 ≤ directory_end directory = block_room form directory at leads.0.there in
        absurd (omega (arith, few, room))
    blocks_are (suc n) at (block ∷ blocks) end few leads ends =
        let sized : 8 ≤ (block_at form at).size = (size_within form size directory at leads.0.passes).0 in
        let long : block.size ≡ (block_at form at).size = ap (λ (b : Block). b.size) leads.0.is in
        more_along n at block blocks leads.0.there leads.0.is
        (blocks_are n (at + block.size) blocks end (omega (arith, few, sized, long)) leads.1 ends)

    pub fixups_are : (read : AreRead form size directory) → read.0 ≡ fixups_in (blocks_along directory.length form directory directory.base)
    fixups_are read =
        read.1.are
        ∙ ap fixups_in (blocks_are directory.length directory.base read.1.blocks read.1.end (omega arith) read.1.leads read.1.ends)

fixups_of_image : (bytes : List ℕ) (read : AreRead (plain_form bytes) (image_size bytes) (relocs_of bytes))
    → read.0 ≡ fixups_in (blocks_of bytes)
unfolding blocks_of
fixups_of_image bytes read = fixups_are (plain_form bytes) (relocs_of bytes) (image_size bytes) read

-- a driver is loaded so
pub loadable_of-is : (driver : DriverState) → IsImageOf driver.bytes driver.image → IsLoadable driver (loadable_of driver)
unfolding loadable_of
loadable_of-is driver is = record {
  name = refl;
  image = refl;
  parts = refl;
  form = λ base. record {
    image = driver.image;
    fixups = is.0;
    of = is.1;
    is = λ i. loaded driver.bytes driver.image (sym (fixups_of_image driver.bytes (is.0, is.1.relocations)) i) base;
  };
}
