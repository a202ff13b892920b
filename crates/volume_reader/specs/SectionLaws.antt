-- Laws of the sections of a body: they are one list, or one is refused behind some; and a walk gives them.
use Rattle.std.specs.Prelude.{◌≡◌, ◌≤◌, ℕ, ◌+◌, ◌⊎◌, ◌↔◌, List, [], ◌∷◌, length, Option, Some, None, Result, Ok, Err}
use Rattle.std.specs.List.{slice_get}
use Rattle.mm_base.specs.declared.volume.File.{File}
use Rattle.mm_base.specs.declared.volume.Section.{Section}
use Rattle.mm_base.specs.declared.volume.SectionFault.{SectionFault}
use Rattle.volume_reader.specs.Sections.{AreSections, IsRefusedBehind, HasRefusal, HasSections, HasRefusedSection, Walk, walk_of, given_next, walked_on, HasSection, HasAtMost, HasSectionFault}

-- the sections of a body are a list, or one is refused behind some
abbrev pub ListOrRefusal : Type 0
ListOrRefusal =
    (body : List ℕ) (begin : ℕ)
    → ((sections : List Section) × AreSections body begin sections) ⊎ ((fault : SectionFault) × HasRefusal body begin fault)

-- and never both
abbrev pub NeverListAndRefusal : Type 0
NeverListAndRefusal =
    (body : List ℕ) (begin : ℕ) (sections : List Section) (fault : SectionFault)
    → AreSections body begin sections
    → HasRefusal body begin fault
    → ⊥

-- they are one list at most,
abbrev pub OneList : Type 0
OneList = (body : List ℕ) (begin : ℕ) (one other : List Section) → AreSections body begin one → AreSections body begin other → one ≡ other

-- or one fault at most is met
abbrev pub OneRefusal : Type 0
OneRefusal = (body : List ℕ) (begin : ℕ) (one other : SectionFault) → HasRefusal body begin one → HasRefusal body begin other → one ≡ other

-- The section of a body with a number is the one in its list of sections, and it has at most as many as this has.
abbrev pub NumbersList : Type 0
NumbersList =
    (body : List ℕ) (begin index : ℕ) (sections : List Section)
    → AreSections body begin sections
    → ((section : Section) → HasSection body begin index section ↔ (slice_get sections index ≡ Some section))
    × (HasAtMost body begin index ↔ (length sections ≤ index))

-- So it is in the list of those in front of one that is refused, and each greater number has this fault.
abbrev pub NumbersRefusal : Type 0
NumbersRefusal =
    (body : List ℕ) (begin index at : ℕ) (sections : List Section)
    → IsRefusedBehind body begin sections at
    → ((section : Section) → HasSection body begin index section ↔ (slice_get sections index ≡ Some section))
    × ((fault : SectionFault) → HasSectionFault body begin index fault ↔ ((length sections ≤ index) × (fault.at ≡ begin + at)))

-- A walk gives these sections one after another, and then this.
abbrev pub WalksOver : Walk → List Section → Result (Option Section) SectionFault → Type 0
WalksOver walk [] last = given_next walk ≡ last
WalksOver walk (section ∷ sections) last = (given_next walk ≡ Ok (Some section)) × WalksOver (walked_on walk) sections last

-- A walk over a file gives these sections, and then nothing, exactly where they are the sections of the file.
abbrev pub WalkGivesSections : Type 0
WalkGivesSections =
    (bytes : List ℕ) (file : File) (sections : List Section)
    → WalksOver (walk_of bytes file) sections (Ok None) ↔ HasSections bytes file sections

-- It comes to this fault exactly where one is refused behind some sections of the file.
abbrev pub WalkMeetsRefusal : Type 0
WalkMeetsRefusal =
    (bytes : List ℕ) (file : File) (fault : SectionFault)
    → ((sections : List Section) × WalksOver (walk_of bytes file) sections (Err fault)) ↔ HasRefusedSection bytes file fault
