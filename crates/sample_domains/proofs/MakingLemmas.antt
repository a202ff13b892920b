-- Memory of 8,192 pages, with a piece written to it.
use Rattle.std.proofs.Common.{◌≡◌, ◌∙◌, ℕ, zero, suc, ◌+◌, ◌≤◌, ◌<◌, Bool, true, false, Option, Some, None, List, ◌++◌, length, replicate, take, drop, get_or, All, Fits, w8, ap, sym, subst, refl, arith}
use Rattle.std.proofs.lemmas.Bool.Decides.{nat_tests}
use Rattle.std.proofs.lemmas.List.{get_or_default}
use Rattle.std.proofs.lemmas.List.Elements.{All-append, All-drop, All-replicate, All-take}
use Rattle.mm_base.specs.Frames.{zeros}
use Rattle.mm_base.specs.Numbers.{overwritten}
use Rattle.mm_base.specs.Platform.{mmram}
use Rattle.mm_base.specs.Range.{encloses}
use Rattle.mm_base.specs.Regions.{region_of}
use Rattle.mm_memory.specs.Flat.{MemoryState, PlainState, joined, pages_in}
use Rattle.mm_memory.proofs.PageLemmas.{joined-pages_in, length-overwritten, length-zeros}
use Rattle.image_table.specs.declared.placed_image.PlacedImage.{PlacedImage}
use Rattle.supervisor_calls.specs.Tables.{TablesState, with_image}
use Rattle.sample_domains.specs.TestTables.{IsWholeMemory, HaveAllPages}

abbrev Small : List ℕ → Type 0
Small = All (λ byte. byte < 256)

small_zeros : (n : ℕ) → Small (zeros n)
unfolding zeros
small_zeros n = All-replicate (λ byte. byte < 256) n 0 (omega arith)

-- bytes of a slice are below 256
pub small_bytes : (bytes : List ℕ) → ((i : ℕ) → Fits w8 (get_or bytes i 0)) → Small bytes
small_bytes bytes fits k d within = omega (arith, fits k, get_or_default bytes k d 0 within)

-- memory that is all zero
pub whole_zeros : (memory : MemoryState) (plain : PlainState)
    → memory ≡ record { bytes = joined (pages_in plain.pages plain.bytes); live = replicate plain.pages true }
    → plain ≡ record { pages = 8192; bytes = zeros 33554432 }
    → IsWholeMemory memory
whole_zeros memory plain is made =
    let seen : PlainState → MemoryState = λ plain. record { bytes = joined (pages_in plain.pages plain.bytes); live = replicate plain.pages true } in
    let all : joined (pages_in 8192 (zeros 33554432)) ≡ zeros 33554432 = joined-pages_in 8192 (zeros 33554432) (length-zeros 33554432) in
    subst IsWholeMemory (sym (is ∙ ap seen made)) record {
      size = ap length all ∙ length-zeros 33554432;
      small = subst Small (sym all) (small_zeros 33554432);
      live = refl;
    }

-- and with a piece written to it
pub whole_after : (memory after : MemoryState) (at : ℕ) (piece : List ℕ) → IsWholeMemory memory → Small piece → at + length piece ≤ 33554432
    → after.bytes ≡ overwritten memory.bytes at piece → after.live ≡ memory.live → IsWholeMemory after
whole_after memory after at piece whole small fits is same = record {
  size = ap length is ∙ length-overwritten memory.bytes piece at (omega (arith, fits, whole.size)) ∙ whole.size;
  small =
      subst Small (sym is)
      (All-append (λ byte. byte < 256) (take at memory.bytes ++ piece) (drop (at + length piece) memory.bytes)
      (All-append (λ byte. byte < 256) (take at memory.bytes) piece (All-take (λ byte. byte < 256) at memory.bytes whole.small) small)
      (All-drop (λ byte. byte < 256) (at + length piece) memory.bytes whole.small));
  live = same ∙ whole.live;
}

-- the region of an image of one page lies in memory where it begins no lower and ends no higher
pub region_within : (base : ℕ) → 0x80000000 ≤ base → base + 159744 ≤ 0x82000000 → encloses mmram (region_of (record { base = base; pages = 1 })) ≡ true
region_within base from to = grind (arith, nat_tests)

-- one more image changes no page
pub pages_stay : (number : Option ℕ) (image : PlacedImage) (tables : TablesState) → HaveAllPages tables → HaveAllPages (with_image number image tables)
pages_stay None image tables have = have
pages_stay (Some number) image tables have = record { live = have.live }

-- each of pages that are all live is live
pub all_live : (n page : ℕ) → page < n → get_or (replicate n true) page false ≡ true
all_live zero page few = absurd (omega (arith, few))
all_live (suc n) zero few = refl
all_live (suc n) (suc page) few = all_live n page (omega (arith, few))
