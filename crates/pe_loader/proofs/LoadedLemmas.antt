-- The loaded form of an image is one, and has its size.
use Rattle.std.proofs.Common.{◌≡◌, ℕ, ◌+◌, Bool, true, false, List, [], ◌∷◌, length, fold, refl, sym, ap, ◌∙◌, subst, arith}
use Rattle.std.specs.List.{list_all}
use Rattle.std.proofs.lemmas.Bool.{and_parts, and_from}
use Rattle.std.proofs.lemmas.List.Folds.{list_all-append}
use Rattle.mm_base.specs.declared.image.Image.{Image}
use Rattle.mm_base.specs.declared.range.Range.{Range}
use Rattle.pe_loader.specs.Headers.{image_size, relocs_of}
use Rattle.pe_loader.specs.Sections.{layout_of}
use Rattle.pe_loader.specs.LayoutInside.{IsLaidOut}
use Rattle.pe_loader.specs.ReadingInside.{Shows, IsWindow}
use Rattle.pe_loader.specs.declared.layout.Layout.{Layout}
use Rattle.pe_loader.specs.declared.window.Window.{Window}
use Rattle.pe_loader.specs.Forms.{plain_form}
use Rattle.pe_loader.specs.Fixups.{fixup_passes, StaysWithin, Block, BlocksLead, fixups_in, AreFixups, AreRead}
use Rattle.pe_loader.specs.Images.{image_of, AreRelocations, IsImage, IsImageOf}
use Rattle.pe_loader.specs.Loading.{difference, fixed, loaded, IsLoaded}
use Rattle.pe_loader.specs.declared.fixup.Fixup.{Fixup}
use Rattle.pe_loader.proofs.ImageLemmas.{one_image, size_of}
use Rattle.pe_loader.proofs.FormLemmas.{length-form}
use Rattle.pe_loader.proofs.LoadLemmas.{form_shown}
use Rattle.pe_loader.proofs.BlockLemmas.{fixups_pass}
use Rattle.pe_loader.proofs.ApplyLemmas.{stays_within, fixed_length}

-- ---- lengths

pub length-plain_form : (bytes : List ℕ) → length (plain_form bytes) ≡ image_size bytes
length-plain_form bytes = length-form bytes (layout_of bytes)

-- fixups that pass leave the length
module _ (by : ℕ) where
  length-fold : (passes : Fixup → Bool) (fixups : List Fixup) (size : ℕ) (form : List ℕ)
      → ((fixup : Fixup) → passes fixup ≡ true → StaysWithin size fixup) → length form ≡ size → list_all passes fixups ≡ true
      → length (fold (fixed by) form fixups) ≡ size
  length-fold passes [] size form stay long pass = long
  length-fold passes (fixup ∷ fixups) size form stay long pass =
      let both = and_parts _ _ pass in
      let here : StaysWithin (length form) fixup = subst (λ n. StaysWithin n fixup) (sym long) (stay fixup both.0) in
      length-fold passes fixups size (fixed by form fixup) stay (fixed_length by form fixup.kind fixup.at here ∙ long) both.1

-- ---- all fixups of an image pass

module _ (bytes : List ℕ) where
  abbrev pub passes_here : Fixup → Bool
  passes_here fixup = fixup_passes (image_size bytes) (relocs_of bytes) fixup

  blocks_pass : (at : ℕ) (blocks : List Block) (to : ℕ) → BlocksLead (plain_form bytes) (image_size bytes) (relocs_of bytes) at blocks to → list_all passes_here (fixups_in blocks) ≡ true
  blocks_pass at [] to leads = refl
  blocks_pass at (block ∷ blocks) to leads =
      let P : Block → Type 0 = λ b. list_all passes_here b.fixups ≡ true in
      let here = subst P (sym leads.0.is) (fixups_pass (plain_form bytes) (image_size bytes) (relocs_of bytes) at leads.0.passes) in
      list_all-append passes_here block.fixups (fixups_in blocks)
      ∙ and_from _ _ here (blocks_pass (at + block.size) blocks to leads.1)

  pub all_pass_there : (fixups : List Fixup) → AreRelocations bytes fixups → list_all passes_here fixups ≡ true
  all_pass_there fixups are =
      ap (list_all passes_here) are.are ∙ blocks_pass (relocs_of bytes).base are.blocks are.end are.leads

  pub length-loaded : (image : Image) (fixups : List Fixup) (base : ℕ) → IsImage bytes image fixups → length (loaded bytes image fixups base) ≡ image.size
  length-loaded image fixups base is =
      length-fold (difference base image.base) passes_here fixups (image_size bytes) (plain_form bytes)
      (λ fixup pass. stays_within (image_size bytes) (relocs_of bytes) fixup pass) (length-plain_form bytes) (all_pass_there fixups is.relocations)
      ∙ sym (size_of bytes image is.says)

-- ---- one form

pub loaded_is_there : (bytes : List ℕ) (image : Image) (base : ℕ) → IsImageOf bytes image → (form : List ℕ) × IsLoaded bytes base form
loaded_is_there bytes image base is =
    (loaded bytes image is.0 base, record { image = image; fixups = is.0; of = is.1; is = refl })

pub one_loaded_form : (bytes : List ℕ) (base : ℕ) (one other : List ℕ) → IsLoaded bytes base one → IsLoaded bytes base other → one ≡ other
one_loaded_form bytes base one other a b =
    let same = one_image bytes a.image b.image a.fixups b.fixups a.of b.of in
    a.is ∙ (λ i. loaded bytes (same.0 i) (same.1 i) base) ∙ sym b.is

pub loaded_has_its_size : (bytes : List ℕ) (image : Image) (base : ℕ) (form : List ℕ) → IsImageOf bytes image → IsLoaded bytes base form
    → length form ≡ image.size
loaded_has_its_size bytes image base form is has =
    let same = one_image bytes has.image image has.fixups is.0 has.of is.1 in
    ap length has.is ∙ length-loaded bytes has.image has.fixups base has.of ∙ ap (λ (i : Image). i.size) same.0

-- ---- what is placed

relocs_is : (bytes : List ℕ) (image : Image) → image ≡ image_of bytes → image.relocs ≡ relocs_of bytes
unfolding image_of
relocs_is bytes image is = ap (λ (i : Image). i.relocs) is

-- bytes that are the plain form have its relocations
relocations_there : (bytes out : List ℕ) (image : Image) (fixups : List Fixup) → image ≡ image_of bytes → out ≡ plain_form bytes
    → AreRelocations bytes fixups → AreFixups out (length out) image.relocs fixups
relocations_there bytes out image fixups says is are =
    let long : length out ≡ image_size bytes = ap length is ∙ length-plain_form bytes in
    let P : List ℕ → Type 0 = λ form. AreFixups form (image_size bytes) (relocs_of bytes) fixups in
    let Q : ℕ → Type 0 = λ size. AreFixups out size (relocs_of bytes) fixups in
    let R : Range → Type 0 = λ directory. AreFixups out (length out) directory fixups in
    subst R (sym (relocs_is bytes image says)) (subst Q (sym long) (subst P (sym is) are))

pub read_of : (bytes : List ℕ) (image : Image) (fixups : List Fixup) (out : List ℕ) → IsImage bytes image fixups → out ≡ plain_form bytes
    → AreRead out (length out) image.relocs
read_of bytes image fixups out is same = (fixups, relocations_there bytes out image fixups is.says same is.relocations)

-- and with its fixups applied they are the loaded form
pub applied_is_loaded : (bytes : List ℕ) (image : Image) (out new : List ℕ) (base by : ℕ) → out ≡ plain_form bytes → by ≡ difference base image.base
    → ((fixups : List Fixup) → AreFixups out (length out) image.relocs fixups → new ≡ fold (fixed by) out fixups)
    → (fixups : List Fixup) → IsImage bytes image fixups → new ≡ loaded bytes image fixups base
applied_is_loaded bytes image out new base by same e applied fixups is =
    applied fixups (relocations_there bytes out image fixups is.says same is.relocations) ∙ (λ i. fold (fixed (e i)) (same i) fixups)

-- ---- what is laid out

-- how an image says that it is laid out
abbrev pub says_layout : Image → Layout
says_layout image = record { headers = image.headers; size = image.size; table = image.table; count = image.parts }

layout_is : (bytes : List ℕ) (image : Image) (layout : Layout) → image ≡ image_of bytes → layout ≡ says_layout image → layout ≡ layout_of bytes
unfolding image_of
layout_is bytes image layout says is = is ∙ ap says_layout says

pub laid_by_image : (bytes : List ℕ) (image : Image) (layout : Layout) → image ≡ image_of bytes → layout ≡ says_layout image
    → IsLaidOut bytes (layout_of bytes) → IsLaidOut bytes layout
laid_by_image bytes image layout says is laid = subst (IsLaidOut bytes) (sym (layout_is bytes image layout says is)) laid

-- a window at the front
abbrev pub front_window : Window
front_window = record { ordered = false; first = 0; begin = 0 }

pub front_is_window : (bytes : List ℕ) (layout : Layout) (window : Window) → window ≡ front_window → IsWindow bytes layout window
front_is_window bytes layout window is =
    let front : IsWindow bytes layout front_window = record { order = λ e. cc; few = omega arith; ended = λ j h. absurd (omega arith) } in
    subst (IsWindow bytes layout) (sym is) front

pub front_shows_plain : (bytes out : List ℕ) (image : Image) (layout : Layout) (window : Window) → image ≡ image_of bytes → layout ≡ says_layout image
    → window ≡ front_window → length out ≡ image_size bytes → Shows bytes layout window.begin out → out ≡ plain_form bytes
front_shows_plain bytes out image layout window says is front long shows =
    let P : Layout → Type 0 = λ l. Shows bytes l window.begin out in
    let Q : ℕ → Type 0 = λ begin. Shows bytes (layout_of bytes) begin out in
    let begin : window.begin ≡ 0 = ap (λ (w : Window). w.begin) front in
    form_shown bytes (layout_of bytes) out long (subst Q begin (subst P (layout_is bytes image layout says is) shows))
