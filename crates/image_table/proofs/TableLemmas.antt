-- A table with one image more.
use Rattle.std.proofs.Common.{◌≡◌, ℕ, ◌+◌, ◌*◌, ◌≤◌, true, List, [], ◌∷◌, ◌++◌, length, sym, subst, arith, length-append}
use Rattle.std.proofs.lemmas.List.Elements.{All-push, All-weaker}
use Rattle.mm_base.specs.Platform.{mmram}
use Rattle.mm_base.specs.Range.{encloses}
use Rattle.mm_base.specs.Regions.{pages_filled, region_of}
use Rattle.mm_base.specs.declared.guid.Guid.{Guid}
use Rattle.mm_base.specs.declared.image.Image.{Image}
use Rattle.mm_base.specs.declared.image.Part.{Part}
use Rattle.image_table.specs.HomeRanges.{IsPlaced}
use Rattle.image_table.specs.ImageTable.{IsTable, placed, region_at}
use Rattle.image_table.specs.Sections.{AreApart, LieBetween, sections_of}
use Rattle.image_table.specs.declared.placed_image.PlacedImage.{PlacedImage}
use Rattle.image_table.proofs.SectionLemmas.{AllPairs-from_Chain, All-sections_of, Chain-sections_of, EndsBefore, HasBytes-sections_of}

-- the image that is admitted lies where it may
IsPlaced-placed : (name : Guid) (base : ℕ) (image : Image) (parts : List Part)
    → encloses mmram (region_of (region_at base image)) ≡ true
    → image.headers ≤ image.size
    → LieBetween image.headers image.size parts
    → AreApart parts
    → IsPlaced (placed name base image parts)
IsPlaced-placed name base image parts region header within apart = record {
  within = region;
  header = omega arith;
  between =
      All-sections_of (λ part. (image.headers ≤ part.at) × (part.at + part.length ≤ 4096 * pages_filled image.size)) parts
      (All-weaker
      (λ part. (image.headers ≤ part.at) × (part.at + part.length ≤ image.size))
      (λ part. (image.headers ≤ part.at) × (part.at + part.length ≤ 4096 * pages_filled image.size))
      (λ part lies. (lies.0, omega arith))
      parts within);
  bytes = HasBytes-sections_of parts;
  rising = AllPairs-from_Chain EndsBefore (sections_of parts) (Chain-sections_of parts apart);
}

-- a table with the image that the code makes
pub IsTable-admitted : (images : List PlacedImage) (capacity : ℕ) (name : Guid) (base : ℕ) (image : Image) (parts : List Part)
    (pages : ℕ) (sections : List Part)
    → IsTable images capacity
    → (length images ≡ 32 → ⊥)
    → pages ≡ pages_filled image.size
    → sections ≡ sections_of parts
    → encloses mmram (region_of (region_at base image)) ≡ true
    → image.headers ≤ image.size
    → LieBetween image.headers image.size parts
    → AreApart parts
    → IsTable
    (images
    ++ record { name = name; region = record { base = base; pages = pages }; headers = image.headers; sections = sections } ∷ [])
    capacity
IsTable-admitted images capacity name base image parts pages sections table some pages_are sections_are region header within apart =
    let one : PlacedImage = placed name base image parts in
    let Tables : ℕ → List Part → Type 0 =
    λ n list.
    IsTable
    (images ++ record { name = name; region = record { base = base; pages = n }; headers = image.headers; sections = list } ∷ [])
    capacity in
    let all : IsTable (images ++ one ∷ []) capacity =
    record {
      most = omega (arith, length-append images (one ∷ []), table.most, some);
      place = table.place;
      each = All-push IsPlaced images one table.each (IsPlaced-placed name base image parts region header within apart);
    } in
    subst (λ (n : ℕ). Tables n sections) (sym pages_are)
    (subst (Tables (pages_filled image.size)) (sym sections_are) all)
