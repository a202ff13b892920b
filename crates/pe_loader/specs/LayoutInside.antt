-- No public clause cites this file.
-- What headers and sections that pass their checks say, as plain facts.
use Rattle.std.specs.Prelude.{◌≡◌, ◌⊎◌, ℕ, ◌+◌, ◌*◌, ◌≤◌, ◌<◌, true, false, List, length}
use Rattle.mm_base.specs.Range.{share_a_unit}
use Rattle.mm_base.specs.declared.image.Part.{Part}
use Rattle.pe_loader.specs.Headers.{optional_at, optional_size, image_size, headers_size, directory_count, table_end}
use Rattle.pe_loader.specs.Sections.{part_of, range_of, lies_in, overlaps_first, section_check}
use Rattle.pe_loader.specs.declared.layout.Layout.{Layout}
use Rattle.pe_loader.specs.declared.sections.Scan.{Scan}

-- the headers pass their checks
pub record HasHeaders (bytes : List ℕ) : Type 0 where
  pub room : optional_at bytes + 112 ≤ length bytes
  pub directories : 112 + 8 * directory_count bytes ≤ optional_size bytes
  pub some : 0 < image_size bytes
  pub most : image_size bytes ≤ 16777216
  pub table : table_end bytes ≤ headers_size bytes
  pub in_file : headers_size bytes ≤ length bytes
  pub in_image : headers_size bytes ≤ image_size bytes

-- the table lies in the file, and the headers in the file and in the image, which isn't too large
pub record HasTable (bytes : List ℕ) (layout : Layout) : Type 0 where
  pub table : layout.table + 40 * layout.count ≤ length bytes
  pub in_file : layout.headers ≤ length bytes
  pub in_image : layout.headers ≤ layout.size
  pub most : layout.size ≤ 16777216

-- What a section copies lies in the file, if it copies anything.
abbrev pub HasCopy : List ℕ → Part → Type 0
HasCopy bytes part = (part.copied ≡ 0) ⊎ (part.raw + part.copied ≤ length bytes)

-- a section lies where it may
pub record LiesIn (bytes : List ℕ) (layout : Layout) (part : Part) : Type 0 where
  pub from : layout.headers ≤ part.at
  pub to : part.at + part.length ≤ layout.size
  pub raw : HasCopy bytes part

-- the headers and all sections pass their checks
pub record IsLaidOut (bytes : List ℕ) (layout : Layout) : Type 0 where
  pub table : HasTable bytes layout
  pub each : (k : ℕ) → k < layout.count → LiesIn bytes layout (part_of bytes layout k)
  pub apart : (j k : ℕ) → j < k → k < layout.count
      → share_a_unit (range_of (part_of bytes layout j)) (range_of (part_of bytes layout k)) ≡ false

-- The first few sections end at a place, or before it.
abbrev pub EndBefore : List ℕ → Layout → ℕ → ℕ → Type 0
EndBefore bytes layout count place = (j : ℕ) → j < count → (part_of bytes layout j).at + (part_of bytes layout j).length ≤ place

-- Each section ends before the next of the table begins.
abbrev pub AreInOrder : List ℕ → Layout → Type 0
AreInOrder bytes layout =
    (j k : ℕ) → j < k → k < layout.count → (part_of bytes layout j).at + (part_of bytes layout j).length ≤ (part_of bytes layout k).at

-- What a first look at the table tells: how many sections from its front on lie where they may, and whether none of these begins in front
-- of the end of an earlier one.
pub record IsScan (bytes : List ℕ) (layout : Layout) (scan : Scan) : Type 0 where
  pub few : scan.count ≤ layout.count
  pub lies : (j : ℕ) → j < scan.count → lies_in bytes layout.headers layout.size (part_of bytes layout j) ≡ true
  pub stops : scan.count < layout.count → lies_in bytes layout.headers layout.size (part_of bytes layout scan.count) ≡ false
  pub order : scan.ordered ≡ true → (j : ℕ) → j < scan.count → overlaps_first (part_of bytes layout) (part_of bytes layout j) j ≡ false

-- So many sections from the front of the table on pass their checks, and the next one doesn't.
pub record ArePassed (bytes : List ℕ) (layout : Layout) (count : ℕ) : Type 0 where
  pub few : count ≤ layout.count
  pub pass : (j : ℕ) → j < count → (section_check bytes layout j).passes ≡ true
  pub fails : count < layout.count → (section_check bytes layout count).passes ≡ false
