-- The relocations of an image: PE32+ as UEFI images use it. The directory has blocks one behind another; a block has the address of a
-- page, its own size, and an entry of two bytes for each fixup. All is said of a form, which is what an image has in memory before any
-- fixup, of its size, and of the directory.
use Rattle.std.specs.Prelude.{◌≡◌, ◌⊎◌, ℕ, zero, suc, ◌+◌, ◌-◌, ◌/◌, ◌%◌, ◌≤◌, Bool, true, false, if◌then◌else◌, ◌==◌, ◌&&◌, not, nat_le, List, [], ◌∷◌}
use Rattle.std.specs.List.{list_all, flat_map}
use Rattle.courses.specs.Courses.{Leads}
use Rattle.mm_base.specs.Numbers.{number_in}
use Rattle.mm_base.specs.Range.{share_a_unit}
use Rattle.mm_base.specs.declared.range.Range.{Range}
use Rattle.pe_loader.specs.declared.fixup.Fixup.{Fixup}
use Rattle.pe_loader.specs.declared.fixup_kind.FixupKind.{FixupKind}
use Rattle.pe_loader.specs.declared.fixup_kind.FixupKind.TheVariants.{Absolute, High, Low, HighLow, Dir64, Unknown}

-- the kind that the upper 4 bits of an entry tell, IMAGE_REL_BASED_ABSOLUTE (0), IMAGE_REL_BASED_HIGH (1), IMAGE_REL_BASED_LOW (2),
-- IMAGE_REL_BASED_HIGHLOW (3) or IMAGE_REL_BASED_DIR64 (10); other numbers are none of these
abbrev pub kind_of : ℕ → FixupKind
kind_of bits =
    if bits == 0 then Absolute
    else if bits == 1 then High
    else if bits == 2 then Low
    else if bits == 3 then HighLow
    else if bits == 10 then Dir64
    else Unknown

-- what an entry of a block says: its upper 4 bits are the kind, its lower 12 a place in the page
abbrev pub fixup_of : ℕ → ℕ → Fixup
fixup_of page word = record { kind = kind_of (word / 4096); at = page + word % 4096 }

-- how many bytes a fixup of a kind changes: four of IMAGE_REL_BASED_HIGHLOW, eight of IMAGE_REL_BASED_DIR64, and two of
-- IMAGE_REL_BASED_HIGH and IMAGE_REL_BASED_LOW; fixups of other kinds change none, so for these it doesn't matter
abbrev pub width_of : FixupKind → ℕ
width_of HighLow = 4
width_of Dir64 = 8
width_of _ = 2

-- the bytes that a fixup changes
abbrev pub changed_by : Fixup → Range
changed_by fixup = record { base = fixup.at; length = width_of fixup.kind }

-- A fixup stays within so many bytes: one of IMAGE_REL_BASED_ABSOLUTE anyhow, since it does nothing.
abbrev pub StaysWithin : ℕ → Fixup → Type 0
StaysWithin size fixup = elim (fixup.kind) [ Absolute ↦ Unit {0} | _ ↦ fixup.at + (changed_by fixup).length ≤ size ]

-- Whether a fixup of an image of this size and with this directory passes: of IMAGE_REL_BASED_ABSOLUTE no place is asked; one of another
-- kind that there is stays in the image, and doesn't touch the directory.
abbrev pub fixup_passes : ℕ → Range → Fixup → Bool
fixup_passes size directory fixup =
    let changed = changed_by fixup in
    elim (fixup.kind) [
      | Absolute ↦ true
      | Unknown ↦ false
      | _ ↦ nat_le (changed.base + changed.length) size && not (share_a_unit changed directory)
    ]

-- so many entries one behind another, of a block for this page
abbrev pub fixups_from : List ℕ → ℕ → ℕ → ℕ → List Fixup
fixups_from form page at zero = []
fixups_from form page at (suc n) = fixup_of page (number_in form at 2) ∷ fixups_from form page (at + 2) n

-- a block: its page, its size, and what its entries say
pub record Block : Type 0 where
  pub page : ℕ
  pub size : ℕ
  pub fixups : List Fixup

-- the block at a place of a form
unfoldable pub block_at : List ℕ → ℕ → Block
block_at form at =
    let page = number_in form at 4 in
    let size = number_in form (at + 4) 4 in
    record { page = page; size = size; fixups = fixups_from form page (at + 8) ((size - 8) / 2) }

-- where a directory ends
abbrev pub directory_end : Range → ℕ
directory_end directory = directory.base + directory.length

-- whether a directory lies in an image of this size
abbrev pub directory_fits : ℕ → Range → Bool
directory_fits size directory = nat_le (directory_end directory) size

-- whether there is a block at a place: blocks end where fewer than 8 bytes are left, or one's size is 0
unfoldable pub is_block : List ℕ → Range → ℕ → Bool
is_block form directory at = nat_le (at + 8) (directory_end directory) && not ((block_at form at).size == 0)

-- whether the block at a place passes: it has at least its two numbers, an even size that doesn't lead past the directory, and
-- fixups that pass
unfoldable pub block_passes : List ℕ → ℕ → Range → ℕ → Bool
block_passes form size directory at =
    let block = block_at form at in
    nat_le 8 block.size
    && (block.size % 2 == 0)
    && nat_le (at + block.size) (directory_end directory)
    && list_all (fixup_passes size directory) block.fixups

-- there is this block at a place, and it passes
pub record IsBlockAt (form : List ℕ) (size : ℕ) (directory : Range) (at : ℕ) (block : Block) : Type 0 where
  pub there : is_block form directory at ≡ true
  pub is : block ≡ block_at form at
  pub passes : block_passes form size directory at ≡ true

-- Blocks that pass stand one behind another from a place on, and lead to another one.
abbrev pub BlocksLead : List ℕ → ℕ → Range → ℕ → List Block → ℕ → Type 0
BlocksLead form size directory at blocks to = Leads (IsBlockAt form size directory) (λ place block. place + block.size) at blocks to

-- the fixups of blocks, in order
abbrev pub fixups_in : List Block → List Fixup
fixups_in blocks = flat_map (λ (block : Block). block.fixups) blocks

-- The relocations are these fixups: the directory lies in the image, and blocks lead from its begin to where they end.
pub record AreFixups (form : List ℕ) (size : ℕ) (directory : Range) (fixups : List Fixup) : Type 0 where
  pub fits : directory_fits size directory ≡ true
  pub blocks : List Block
  pub end : ℕ
  pub leads : BlocksLead form size directory directory.base blocks end
  pub ends : is_block form directory end ≡ false
  pub are : fixups ≡ fixups_in blocks

-- blocks lead from the directory's begin to one that doesn't pass
pub record LeadsToBad (form : List ℕ) (size : ℕ) (directory : Range) : Type 0 where
  pub blocks : List Block
  pub at : ℕ
  pub leads : BlocksLead form size directory directory.base blocks at
  pub there : is_block form directory at ≡ true
  pub bad : block_passes form size directory at ≡ false

-- The relocations are read as some fixups.
abbrev pub AreRead : List ℕ → ℕ → Range → Type 0
AreRead form size directory = (fixups : List Fixup) × AreFixups form size directory fixups

-- The relocations are refused: the directory leaves the image, or leads to a block that doesn't pass.
abbrev pub AreRefused : List ℕ → ℕ → Range → Type 0
AreRefused form size directory =
    (directory_fits size directory ≡ false) ⊎ ((directory_fits size directory ≡ true) × LeadsToBad form size directory)
