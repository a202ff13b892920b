-- What is home to two images, for tests, which no program uses.
use Rattle.std.specs.Prelude.{ℕ, Bool, ◌==◌, ◌&&◌, ◌||◌, if◌then◌else◌, replicate}
use Rattle.mm_base.specs.Range.{encloses}
use Rattle.mm_base.specs.declared.access.Right.{Right}
use Rattle.mm_base.specs.declared.access.Right.TheVariants.{Read, Write, Execute}
use Rattle.mm_base.specs.declared.guid.Guid.{Guid}
use Rattle.mm_base.specs.declared.range.Range.{Range}

-- the code of the first image
abbrev pub code_of_test : Range
code_of_test = record { base = 0x80000000; length = 0x100 }

-- its stack or its communicate page covers a range
abbrev pub is_data_of_test : Range → Bool
is_data_of_test range =
    encloses (record { base = 0x80001000; length = 0x4000 }) range
    || encloses (record { base = 0x80005000; length = 0x1000 }) range

abbrev pub is_home_to_first : Range → Right → Bool
is_home_to_first range Read = encloses code_of_test range || is_data_of_test range
is_home_to_first range Write = is_data_of_test range
is_home_to_first range Execute = encloses code_of_test range

abbrev pub is_home_of_test : ℕ → Range → Right → Bool
is_home_of_test image range right = (image == 0) && is_home_to_first range right

-- names by one byte; the third image isn't there
abbrev pub name_of_test : ℕ → Guid
name_of_test image =
    if image == 0 then record { 0 = replicate 16 0xaa }
    else if image == 1 then record { 0 = replicate 16 0xbb }
    else record { 0 = replicate 16 0 }
