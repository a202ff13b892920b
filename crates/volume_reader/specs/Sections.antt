-- The sections of a file: EFI_COMMON_SECTION_HEADER and EFI_COMMON_SECTION_HEADER2 of PI 1.8, volume 3. All numbers stand with the
-- lowest byte first.
use Rattle.std.specs.Prelude.{◌≡◌, ◌≤◌, ℕ, ◌+◌, ◌-◌, ◌*◌, ◌/◌, Bool, true, false, if◌then◌else◌, ◌==◌, ◌&&◌, nat_le, List, length, take, drop, Option, Some, None, Result, Ok, Err}
use Rattle.std.specs.List.{slice_get}
use Rattle.courses.specs.Courses.{Leads}
use Rattle.mm_base.specs.declared.volume.File.{File}
use Rattle.mm_base.specs.declared.volume.Section.{Section}
use Rattle.mm_base.specs.declared.volume.SectionFault.{SectionFault}
use Rattle.mm_base.specs.Numbers.{number_in}

-- the body of a file
abbrev pub body_of : List ℕ → File → List ℕ
body_of bytes file = take file.body (drop file.body_at bytes)

-- whether the section at a place of a body has an EFI_COMMON_SECTION_HEADER2, the longer header: its Size is FFFFFF
abbrev pub is_extended : List ℕ → ℕ → Bool
is_extended body at = number_in body at 3 == 0xffffff

-- how many bytes the section's header has
abbrev pub section_header : List ℕ → ℕ → ℕ
section_header body at = if is_extended body at then 8 else 4

-- how many bytes the section has with its header: ExtendedSize of a longer header, Size of another
abbrev pub section_size : List ℕ → ℕ → ℕ
section_size body at = if is_extended body at then number_in body (at + 4) 4 else number_in body at 3

-- whether a section stands at a place of a body: it has its header and lies in the body
abbrev pub has_section : List ℕ → ℕ → Bool
has_section body at =
    nat_le (at + section_header body at) (length body) && nat_le (section_header body at) (section_size body at)
    && nat_le (at + section_size body at) (length body)

-- the section at a place of a body that begins at this place of the bytes: its Type, and its data, which lie behind its header
abbrev pub section_at : List ℕ → ℕ → ℕ → Section
section_at body begin at = record {
  kind = number_in body (at + 3) 1;
  at = begin + at + section_header body at;
  length = section_size body at - section_header body at;
}

-- a number rounded up to a multiple of 4
abbrev pub up_to_4 : ℕ → ℕ
up_to_4 n = 4 * ((n + 3) / 4)

-- the place behind the section at a place: sections are padded to a multiple of 4
abbrev pub section_behind : List ℕ → ℕ → ℕ
section_behind body at = up_to_4 (at + section_size body at)

-- This section stands at a place of a body, which begins at this place of the bytes.
pub record HoldsSection (body : List ℕ) (begin at : ℕ) (section : Section) : Type 0 where
  pub room : nat_le (at + 4) (length body) ≡ true
  pub whole : has_section body at ≡ true
  pub is : section ≡ section_at body begin at

-- Sections stand one behind another from a place of a body on, and lead to another one.
abbrev pub SectionsLead : List ℕ → ℕ → ℕ → List Section → ℕ → Type 0
SectionsLead body begin at sections to = Leads (HoldsSection body begin) (λ place section. section_behind body place) at sections to

-- A place of a body is reached by so many sections.
pub record Reaches (body : List ℕ) (begin : ℕ) (sections : List Section) (to : ℕ) : Type 0 where
  pub leads : SectionsLead body begin 0 sections to

-- The sections of a body are these: they lead to where fewer bytes are left than a header has.
pub record AreSections (body : List ℕ) (begin : ℕ) (sections : List Section) : Type 0 where
  pub end : ℕ
  pub reached : Reaches body begin sections end
  pub ends : nat_le (end + 4) (length body) ≡ false

-- Behind these sections one is refused, at this place of the body.
pub record IsRefusedBehind (body : List ℕ) (begin : ℕ) (sections : List Section) (at : ℕ) : Type 0 where
  pub reached : Reaches body begin sections at
  pub there : nat_le (at + 4) (length body) ≡ true
  pub bad : has_section body at ≡ false

-- Behind some sections of a body one is refused; the fault is at its header.
pub record HasRefusal (body : List ℕ) (begin : ℕ) (fault : SectionFault) : Type 0 where
  pub sections : List Section
  pub at : ℕ
  pub refused : IsRefusedBehind body begin sections at
  pub place : fault.at ≡ begin + at

-- The sections of a file are these.
abbrev pub HasSections : List ℕ → File → List Section → Type 0
HasSections bytes file sections = AreSections (body_of bytes file) file.body_at sections

-- Behind some sections of a file one is refused.
abbrev pub HasRefusedSection : List ℕ → File → SectionFault → Type 0
HasRefusedSection bytes file fault = HasRefusal (body_of bytes file) file.body_at fault

-- A walk over the sections of a body that begins at this place of the bytes: the next one is looked for at a place of the body.
pub record Walk : Type 0 where
  pub body : List ℕ
  pub begin : ℕ
  pub place : ℕ

-- a walk over the sections of a file, from its first one on
abbrev pub walk_of : List ℕ → File → Walk
walk_of bytes file = record { body = body_of bytes file; begin = file.body_at; place = 0 }

-- what a walk gives next: a section; nothing, where sections end; or that what stands there is refused
abbrev pub given_next : Walk → Result (Option Section) SectionFault
given_next walk =
    if nat_le (walk.place + 4) (length walk.body) then
    (if has_section walk.body walk.place then Ok (Some (section_at walk.body walk.begin walk.place)) else Err (record { at = walk.begin + walk.place }))
    else Ok None

-- the walk behind that: it has moved where a section was given, and is the same else
abbrev pub walked_on : Walk → Walk
walked_on walk =
    if nat_le (walk.place + 4) (length walk.body) && has_section walk.body walk.place then
    record walk { place = section_behind walk.body walk.place }
    else walk

-- A body has this section behind so many others.
pub record HasSection (body : List ℕ) (begin : ℕ) (index : ℕ) (section : Section) : Type 0 where
  pub sections : List Section
  pub to : ℕ
  pub reached : Reaches body begin sections to
  pub there : slice_get sections index ≡ Some section

-- A body has at most so many sections, and no fault behind them.
pub record HasAtMost (body : List ℕ) (begin : ℕ) (index : ℕ) : Type 0 where
  pub sections : List Section
  pub are : AreSections body begin sections
  pub few : length sections ≤ index

-- Behind at most so many sections of a body one is refused.
pub record HasSectionFault (body : List ℕ) (begin : ℕ) (index : ℕ) (fault : SectionFault) : Type 0 where
  pub sections : List Section
  pub at : ℕ
  pub refused : IsRefusedBehind body begin sections at
  pub place : fault.at ≡ begin + at
  pub few : length sections ≤ index
