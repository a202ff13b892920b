-- No public clause cites this file.
-- How the plain form and its relocations are read, without memory.
use Rattle.std.specs.Prelude.{◌≡◌, ℕ, ◌+◌, ◌*◌, ◌≤◌, ◌<◌, true, List, length, slice_index}
use Rattle.std.specs.List.{list_all}
use Rattle.mm_base.specs.declared.range.Range.{Range}
use Rattle.pe_loader.specs.Sections.{parts_of}
use Rattle.pe_loader.specs.Forms.{plain_byte, form_of}
use Rattle.pe_loader.specs.LayoutInside.{EndBefore, AreInOrder}
use Rattle.pe_loader.specs.Fixups.{fixup_passes, fixups_from, block_at, is_block, directory_end}
use Rattle.pe_loader.specs.declared.head.Head.{Head}
use Rattle.pe_loader.specs.declared.layout.Layout.{Layout}
use Rattle.pe_loader.specs.declared.window.Window.{Window}

-- the byte of the plain form at a place, and the form
abbrev pub byte_of : List ℕ → Layout → ℕ → ℕ
byte_of bytes layout place = plain_byte bytes layout.headers (parts_of bytes layout) place

abbrev pub form_in : List ℕ → Layout → List ℕ
form_in bytes layout = form_of bytes layout.headers layout.size (parts_of bytes layout)

-- A room has the bytes of the plain form from a place on.
abbrev pub Shows : List ℕ → Layout → ℕ → List ℕ → Type 0
Shows bytes layout begin room = (place : ℕ) → place < length room → slice_index room place ≡ byte_of bytes layout (begin + place)

-- what a window knows of the table is so
pub record IsWindow (bytes : List ℕ) (layout : Layout) (window : Window) : Type 0 where
  pub order : window.ordered ≡ true → AreInOrder bytes layout
  pub few : window.first ≤ layout.count
  pub ended : EndBefore bytes layout window.first window.begin

-- a window over a room can read at a place, and behind it
pub record IsReady (bytes : List ℕ) (layout : Layout) (window : Window) (room : List ℕ) (at : ℕ) : Type 0 where
  pub knows : IsWindow bytes layout window
  pub begun : window.begin ≤ at
  pub some : 0 < length room
  pub shows : Shows bytes layout window.begin room

-- a head is that of the block at a place of a form
pub record IsHead (form : List ℕ) (directory : Range) (at : ℕ) (head : Head) : Type 0 where
  pub there : is_block form directory at ≡ true
  pub page : head.page ≡ (block_at form at).page
  pub size : head.size ≡ (block_at form at).size

-- Two forms have the same bytes in a directory.
pub record AgreeIn (directory : Range) (one other : List ℕ) : Type 0 where
  pub long : length one ≡ length other
  pub same : (place : ℕ) → directory.base ≤ place → place < directory_end directory → slice_index one place ≡ slice_index other place

-- So many entries of a block lie in a directory of a form, and pass there.
pub record EntriesPass (form : List ℕ) (directory : Range) (page at count : ℕ) : Type 0 where
  pub from : directory.base ≤ at
  pub to : at + 2 * count ≤ directory_end directory
  pub fits : directory_end directory ≤ length form
  pub pass : list_all (fixup_passes (length form) directory) (fixups_from form page at count) ≡ true
