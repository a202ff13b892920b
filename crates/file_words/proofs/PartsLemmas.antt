-- A driver file has its parts, or is refused for one cause.
use Rattle.std.proofs.Common.{◌≡◌, ◌⊎◌, inl, inr, ℕ, ◌<◌, Bool, true, false, List, [], MatchBool, MatchOption, Option}
use Rattle.std.proofs.Common.{Some, None, Result, Ok, Err, IfOk, IfErr, refl, sym, ap, ◌∙◌, subst, arith}
use Rattle.std.proofs.lemmas.Bool.{cases_lt}
use Rattle.courses.specs.Verdicts.{IsVerdict}
use Rattle.courses.proofs.VerdictLemmas.{found, first, told}
use Rattle.mm_base.specs.declared.expression.DepexFault.{DepexFault}
use Rattle.mm_base.specs.declared.image.Image.{Image}
use Rattle.mm_base.specs.declared.image.PeFault.{PeFault}
use Rattle.mm_base.specs.declared.volume.File.{File}
use Rattle.mm_base.specs.declared.volume.Section.{Section}
use Rattle.mm_base.specs.declared.volume.SectionFault.{SectionFault}
use Rattle.depex.specs.Expressions.{Expression, BeginsExpression, HasFault as HasDepexFault}
use Rattle.depex.proofs.Offered.{expression_or_fault, never_expression_and_fault, one_expression, one_expression_fault}
use Rattle.pe_loader.proofs.Offered.{image_or_fault, never_image_and_fault, one_image, one_image_fault}
use Rattle.pe_loader.specs.Images.{IsImageOf, HasFault as HasPeFault}
use Rattle.volume_reader.proofs.Offered.{sections_or_refusal, never_sections_and_refusal, one_list_of_sections}
use Rattle.volume_reader.specs.Contents.{contents_of, HasContents}
use Rattle.volume_reader.specs.Sections.{body_of, HasSections, HasRefusedSection}
use Rattle.volume_reader.specs.declared.section_contents.Contents.{Contents}
use Rattle.file_words.specs.Causes.{Known, Fits, rank, IsRefusedFor}
use Rattle.file_words.specs.JudgingInside.{JudgesImage, ByImageFault, ByExpressionFault, ByImage, JudgesContents}
use Rattle.file_words.specs.JudgingInside.{Judges, ByBodySum, BySectionSize, ByContents}
use Rattle.file_words.specs.Parts.{data_of, HasImageIn, HasDepexIn, HasBadExpression, HasExpression, IsExpressionIn, HasParts}
use Rattle.file_words.specs.declared.driver_parts.DriverParts.{DriverParts}
use Rattle.file_words.specs.declared.file_word.Cause.{Cause}
use Rattle.file_words.specs.declared.file_word.Cause.TheVariants.{BodySum, SectionSize, Compressed, GuidDefined, NoImage, Pe, Depex, Duplicate}

-- ---- images and expressions

module _ (bytes : List ℕ) where
  one_image_of : (one other : Image) → IsImageOf bytes one → IsImageOf bytes other → one ≡ other
  one_image_of one other a b = (one_image bytes one other a.0 b.0 a.1 b.1).0

  never_image_and_bad : (image : Image) (fault : PeFault) → IsImageOf bytes image → HasPeFault bytes fault → ⊥
  never_image_and_bad image fault is bad = never_image_and_fault bytes image is.0 fault is.1 bad

  expression_or_bad : (depex : Option Section) → HasExpression bytes depex ⊎ ((fault : DepexFault) × HasBadExpression bytes depex fault)
  expression_or_bad None = inl tt
  expression_or_bad (Some section) = expression_or_fault (data_of bytes section)

  -- an expression that may be there is one
  pub expression_in : (depex : Option Section) → HasExpression bytes depex
      → (expression : Option Expression) × IsExpressionIn bytes depex expression
  expression_in None has = (None, refl)
  expression_in (Some section) has = (Some has.0, has.1)

  pub one_expression_in : (depex : Option Section) (one other : Option Expression) → IsExpressionIn bytes depex one
      → IsExpressionIn bytes depex other → one ≡ other
  one_expression_in None one other a b = a ∙ sym b
  one_expression_in (Some section) None other a b = absurd a
  one_expression_in (Some section) (Some one) None a b = absurd b
  one_expression_in (Some section) (Some one) (Some other) a b = ap (λ (e : Expression). Some e) (one_expression (data_of bytes section) one other a b)

-- ---- contents

module _ (bytes : List ℕ) (file : File) where
  abbrev HasRefused : Type 0
  HasRefused = (fault : SectionFault) × HasRefusedSection bytes file fault

  contents_or_refused : ((contents : Contents) × HasContents bytes file contents) ⊎ HasRefused
  contents_or_refused = by_list (sections_or_refusal (body_of bytes file) file.body_at)
    where
      by_list : ((sections : List Section) × HasSections bytes file sections) ⊎ HasRefused
          → ((contents : Contents) × HasContents bytes file contents) ⊎ HasRefused
      by_list (inl (sections, are)) = inl (contents_of sections, record { sections = sections; has = are; are = refl })
      by_list (inr refused) = inr refused

  never_contents_and_refused : (contents : Contents) (fault : SectionFault) → HasContents bytes file contents
      → HasRefusedSection bytes file fault → ⊥
  never_contents_and_refused contents fault has refused =
      never_sections_and_refusal (body_of bytes file) file.body_at has.sections fault has.has refused

  one_contents : (one other : Contents) → HasContents bytes file one → HasContents bytes file other → one ≡ other
  one_contents one other a b =
      a.are ∙ ap contents_of (one_list_of_sections (body_of bytes file) file.body_at a.sections b.sections a.has b.has) ∙ sym b.are

  -- two contents tell the same
  compressed_once : (one other : Contents) → HasContents bytes file one → HasContents bytes file other → one.compressed ≡ other.compressed
  compressed_once one other a b = ap (λ (told : Contents). told.compressed) (one_contents one other a b)

  defined_once : (one other : Contents) → HasContents bytes file one → HasContents bytes file other → one.guid_defined ≡ other.guid_defined
  defined_once one other a b = ap (λ (told : Contents). told.guid_defined) (one_contents one other a b)

  image_once : (one other : Contents) → HasContents bytes file one → HasContents bytes file other → one.image ≡ other.image
  image_once one other a b = ap (λ (told : Contents). told.image) (one_contents one other a b)

  depex_once : (one other : Contents) → HasContents bytes file one → HasContents bytes file other → one.depex ≡ other.depex
  depex_once one other a b = ap (λ (told : Contents). told.depex) (one_contents one other a b)

-- ---- parts, and causes that don't fit

some_once : (one other : Section) (o p : Option Section) → o ≡ Some one → p ≡ Some other → o ≡ p → one ≡ other
some_once one other o p a b same = let e : Some one ≡ Some other = sym a ∙ same ∙ b in cc

module _ (bytes : List ℕ) (file : File) (parts : DriverParts) (has : HasParts bytes file parts) where
  -- the section of the first image is this one
  image_there : (section : Section) → HasImageIn bytes file section → section ≡ parts.section
  image_there section there =
      some_once section parts.section there.contents.image has.contents.image there.first has.section_is
      (image_once bytes file there.contents has.contents there.has has.has)

  depex_there : (section : Section) → HasDepexIn bytes file section → parts.depex ≡ Some section
  depex_there section there = sym has.depex_is ∙ sym (depex_once bytes file there.contents has.contents there.has has.has) ∙ there.first

  expression_or_not : (depex : Option Section) (section : Section) (fault : DepexFault) → HasExpression bytes depex → depex ≡ Some section
      → HasDepexFault (data_of bytes section) fault → ⊥
  expression_or_not None section fault is there bad = let e : None ≡ Some section = there in cc
  expression_or_not (Some other) section fault is there bad =
      let same : other ≡ section = cc in
      let P : Section → Type 0 = λ s. BeginsExpression (data_of bytes s) in
      let here = subst P same is in
      never_expression_and_fault (data_of bytes section) here.0 fault here.1 bad

  -- no cause fits but that of the files before it
  pub none_fits : (earlier : List Known) (cause : Cause) → rank cause < 7 → Fits bytes earlier file cause → ⊥
  none_fits earlier BodySum low fits = let e : false ≡ true = sym fits ∙ has.sound in cc
  none_fits earlier SectionSize low fits = never_contents_and_refused bytes file has.contents fits.0 has.has fits.1
  none_fits earlier Compressed low fits =
      let e : true ≡ false = sym fits.1.1 ∙ compressed_once bytes file fits.0 has.contents fits.1.0 has.has ∙ has.whole in cc
  none_fits earlier GuidDefined low fits =
      let e : true ≡ false = sym fits.1.1 ∙ defined_once bytes file fits.0 has.contents fits.1.0 has.has ∙ has.plain in cc
  none_fits earlier NoImage low fits =
      let e : None ≡ Some parts.section = sym fits.1.1 ∙ image_once bytes file fits.0 has.contents fits.1.0 has.has ∙ has.section_is in cc
  none_fits earlier (Pe fault) low fits =
      let P : Section → Type 0 = λ s. HasPeFault (data_of bytes s) fault in
      never_image_and_bad (data_of bytes parts.section) parts.image fault has.image_is (subst P (image_there fits.0 fits.1.0) fits.1.1)
  none_fits earlier (Depex fault) low fits =
      expression_or_not parts.depex fits.0 fault has.expression (depex_there fits.0 fits.1.0) fits.1.1
  none_fits earlier Duplicate low fits = absurd (omega arith)

-- the parts are one
pub one_parts : (bytes : List ℕ) (file : File) (one other : DriverParts) → HasParts bytes file one → HasParts bytes file other → one ≡ other
one_parts bytes file one other a b =
    let section : one.section ≡ other.section = image_there bytes file other b one.section (record { contents = a.contents; has = a.has; first = a.section_is }) in
    let depex : one.depex ≡ other.depex = sym a.depex_is ∙ depex_once bytes file a.contents b.contents a.has b.has ∙ b.depex_is in
    let P : Section → Type 0 = λ s. IsImageOf (data_of bytes s) one.image in
    let image : one.image ≡ other.image = one_image_of (data_of bytes other.section) one.image other.image (subst P section a.image_is) b.image_is in
    λ i. record { section = section i; image = image i; depex = depex i }

-- ---- one cause

-- causes of one rank that fit are one
fits_once : (bytes : List ℕ) (earlier : List Known) (file : File) (one other : Cause) → Fits bytes earlier file one → Fits bytes earlier file other
    → rank one ≡ rank other → one ≡ other
fits_once bytes earlier file BodySum BodySum a b same = refl
fits_once bytes earlier file SectionSize SectionSize a b same = refl
fits_once bytes earlier file Compressed Compressed a b same = refl
fits_once bytes earlier file GuidDefined GuidDefined a b same = refl
fits_once bytes earlier file NoImage NoImage a b same = refl
fits_once bytes earlier file (Pe f) (Pe g) a b same =
    let there = some_once a.0 b.0 a.1.0.contents.image b.1.0.contents.image a.1.0.first b.1.0.first
    (image_once bytes file a.1.0.contents b.1.0.contents a.1.0.has b.1.0.has) in
    let P : Section → Type 0 = λ s. HasPeFault (data_of bytes s) f in
    ap (λ (fault : PeFault). Pe fault) (one_image_fault (data_of bytes b.0) f g (subst P there a.1.1) b.1.1)
fits_once bytes earlier file (Depex f) (Depex g) a b same =
    let there = some_once a.0 b.0 a.1.0.contents.depex b.1.0.contents.depex a.1.0.first b.1.0.first
    (depex_once bytes file a.1.0.contents b.1.0.contents a.1.0.has b.1.0.has) in
    let P : Section → Type 0 = λ s. HasDepexFault (data_of bytes s) f in
    ap (λ (fault : DepexFault). Depex fault) (one_expression_fault (data_of bytes b.0) f g (subst P there a.1.1) b.1.1)
fits_once bytes earlier file Duplicate Duplicate a b same = refl
fits_once bytes earlier file one other a b same = absurd (omega arith)

pub one_cause : (bytes : List ℕ) (earlier : List Known) (file : File) (one other : Cause) → IsRefusedFor bytes earlier file one
    → IsRefusedFor bytes earlier file other → one ≡ other
one_cause bytes earlier file one other a b =
    fits_once bytes earlier file one other a.fits b.fits
    (elim (cases_lt (rank one) (rank other)) [
      | inl below ↦ absurd (b.first one below a.fits)
      | inr from ↦ elim (cases_lt (rank other) (rank one)) [ inl above ↦ absurd (a.first other above b.fits) | inr to ↦ omega arith ]
    ])

-- ---- parts or a cause

-- after no files no driver is among them
pub rank_low : (bytes : List ℕ) (file : File) (cause : Cause) → Fits bytes [] file cause → rank cause < 7
rank_low bytes file BodySum fits = omega arith
rank_low bytes file SectionSize fits = omega arith
rank_low bytes file Compressed fits = omega arith
rank_low bytes file GuidDefined fits = omega arith
rank_low bytes file NoImage fits = omega arith
rank_low bytes file (Pe fault) fits = omega arith
rank_low bytes file (Depex fault) fits = omega arith
rank_low bytes file Duplicate fits = let e : false ≡ true = fits in cc

pub never_parts_and_cause : (bytes : List ℕ) (file : File) (parts : DriverParts) (cause : Cause) → HasParts bytes file parts
    → IsRefusedFor bytes [] file cause → ⊥
never_parts_and_cause bytes file parts cause has refused =
    none_fits bytes file parts has [] cause (rank_low bytes file cause refused.fits) refused.fits

-- what is judged of a file
abbrev pub IsJudged : List ℕ → File → Result DriverParts Cause → Type 0
IsJudged bytes file verdict = IsVerdict (HasParts bytes file) (IsRefusedFor bytes [] file) verdict

module _ (bytes : List ℕ) (file : File) (result : Result DriverParts Cause) (is : IsJudged bytes file result) where
  ok_of : (result : Result DriverParts Cause) → IsJudged bytes file result → IfOk result (HasParts bytes file)
  ok_of (Ok parts) is = is
  ok_of (Err cause) is = tt

  err_of : (result : Result DriverParts Cause) → IsJudged bytes file result → IfErr result (IsRefusedFor bytes [] file)
  err_of (Ok parts) is = tt
  err_of (Err cause) is = is

  pub judged_ok : IfOk result (HasParts bytes file)
  judged_ok = ok_of result is

  pub judged_err : IfErr result (IsRefusedFor bytes [] file)
  judged_err = err_of result is

  pub judged_found : (parts : DriverParts) → HasParts bytes file parts → result ≡ Ok parts
  judged_found = found (HasParts bytes file) (IsRefusedFor bytes [] file) (never_parts_and_cause bytes file) (one_parts bytes file) result judged_ok judged_err

  pub judged_first : (cause : Cause) → IsRefusedFor bytes [] file cause → result ≡ Err cause
  judged_first = first (HasParts bytes file) (IsRefusedFor bytes [] file) (never_parts_and_cause bytes file) (one_cause bytes [] file) result judged_ok judged_err

-- ---- how it is judged, step by step

module _ (bytes : List ℕ) (file : File) (sound : file.sound ≡ true) (contents : Contents) (has : HasContents bytes file contents)
    (whole : contents.compressed ≡ false) (plain : contents.guid_defined ≡ false) (section : Section) (there : contents.image ≡ Some section) where
  -- what doesn't fit in front of the image
  before_image : (cause : Cause) → rank cause < 5 → Fits bytes [] file cause → ⊥
  before_image BodySum low fits = let e : false ≡ true = sym fits ∙ sound in cc
  before_image SectionSize low fits = never_contents_and_refused bytes file contents fits.0 has fits.1
  before_image Compressed low fits = let e : true ≡ false = sym fits.1.1 ∙ compressed_once bytes file fits.0 contents fits.1.0 has ∙ whole in cc
  before_image GuidDefined low fits = let e : true ≡ false = sym fits.1.1 ∙ defined_once bytes file fits.0 contents fits.1.0 has ∙ plain in cc
  before_image NoImage low fits = let e : None ≡ Some section = sym fits.1.1 ∙ image_once bytes file fits.0 contents fits.1.0 has ∙ there in cc
  before_image (Pe fault) low fits = absurd (omega arith)
  before_image (Depex fault) low fits = absurd (omega arith)
  before_image Duplicate low fits = absurd (omega arith)

  -- and in front of the expression
  before_expression : (image : Image) → IsImageOf (data_of bytes section) image → (cause : Cause) → rank cause < 6 → Fits bytes [] file cause → ⊥
  before_expression image is (Pe fault) low fits =
      let same = some_once fits.0 section fits.1.0.contents.image contents.image fits.1.0.first there (image_once bytes file fits.1.0.contents contents fits.1.0.has has) in
      let P : Section → Type 0 = λ s. HasPeFault (data_of bytes s) fault in
      never_image_and_bad (data_of bytes section) image fault is (subst P same fits.1.1)
  before_expression image is (Depex fault) low fits = absurd (omega arith)
  before_expression image is Duplicate low fits = absurd (omega arith)
  before_expression image is BodySum low fits = before_image BodySum (omega arith) fits
  before_expression image is SectionSize low fits = before_image SectionSize (omega arith) fits
  before_expression image is Compressed low fits = before_image Compressed (omega arith) fits
  before_expression image is GuidDefined low fits = before_image GuidDefined (omega arith) fits
  before_expression image is NoImage low fits = before_image NoImage (omega arith) fits

  bad_expression : (depex : Option Section) (fault : DepexFault) → contents.depex ≡ depex → HasBadExpression bytes depex fault
      → Fits bytes [] file (Depex fault)
  bad_expression None fault is bad = absurd bad
  bad_expression (Some section) fault is bad = (section, (record { contents = contents; has = has; first = is }, bad))

  by_image : (result : Result DriverParts Cause) → JudgesImage bytes section contents.depex result → IsJudged bytes file result
  by_image result (ByImageFault fault bad is) =
      subst (IsJudged bytes file) (sym is) (record {
        fits = (section, (record { contents = contents; has = has; first = there }, bad));
        first = λ other low fits. before_image other (omega arith) fits;
      })
  by_image result (ByExpressionFault image there_is fault bad is) =
      subst (IsJudged bytes file) (sym is) (record {
        fits = bad_expression contents.depex fault refl bad;
        first = λ other low fits. before_expression image there_is other (omega arith) fits;
      })
  by_image result (ByImage image there_is expression is) =
      subst (IsJudged bytes file) (sym is) (record {
        sound = sound;
        contents = contents;
        has = has;
        whole = whole;
        plain = plain;
        section_is = there;
        image_is = there_is;
        depex_is = refl;
        expression = expression;
      })

module _ (bytes : List ℕ) (file : File) (sound : file.sound ≡ true) (contents : Contents) (has : HasContents bytes file contents) where
  -- what doesn't fit in front of the contents
  before_contents : (cause : Cause) → rank cause < 2 → Fits bytes [] file cause → ⊥
  before_contents BodySum low fits = let e : false ≡ true = sym fits ∙ sound in cc
  before_contents SectionSize low fits = never_contents_and_refused bytes file contents fits.0 has fits.1
  before_contents _ low fits = absurd (omega arith)

  before_defined : contents.compressed ≡ false → (cause : Cause) → rank cause < 3 → Fits bytes [] file cause → ⊥
  before_defined whole BodySum low fits = before_contents BodySum (omega arith) fits
  before_defined whole SectionSize low fits = before_contents SectionSize (omega arith) fits
  before_defined whole Compressed low fits = let e : true ≡ false = sym fits.1.1 ∙ compressed_once bytes file fits.0 contents fits.1.0 has ∙ whole in cc
  before_defined whole _ low fits = absurd (omega arith)

  before_none : contents.compressed ≡ false → contents.guid_defined ≡ false → (cause : Cause) → rank cause < 4 → Fits bytes [] file cause → ⊥
  before_none whole plain BodySum low fits = before_contents BodySum (omega arith) fits
  before_none whole plain SectionSize low fits = before_contents SectionSize (omega arith) fits
  before_none whole plain Compressed low fits = before_defined whole Compressed (omega arith) fits
  before_none whole plain GuidDefined low fits = let e : true ≡ false = sym fits.1.1 ∙ defined_once bytes file fits.0 contents fits.1.0 has ∙ plain in cc
  before_none whole plain _ low fits = absurd (omega arith)

  -- part by part
  by_parts : (compressed guid_defined : Bool) (image : Option Section) (result : Result DriverParts Cause)
      → contents.compressed ≡ compressed → contents.guid_defined ≡ guid_defined → contents.image ≡ image
      → MatchBool compressed (result ≡ Err Compressed) (MatchBool guid_defined (result ≡ Err GuidDefined)
      (MatchOption image (result ≡ Err NoImage) (λ section. JudgesImage bytes section contents.depex result)))
      → IsJudged bytes file result
  by_parts true guid_defined image result c g i is =
      subst (IsJudged bytes file) (sym is) (record { fits = (contents, (has, c)); first = λ other low fits. before_contents other (omega arith) fits })
  by_parts false true image result c g i is =
      subst (IsJudged bytes file) (sym is) (record { fits = (contents, (has, g)); first = λ other low fits. before_defined c other (omega arith) fits })
  by_parts false false None result c g i is =
      subst (IsJudged bytes file) (sym is) (record { fits = (contents, (has, i)); first = λ other low fits. before_none c g other (omega arith) fits })
  by_parts false false (Some section) result c g i is = by_image bytes file sound contents has c g section i result is

  by_contents : (result : Result DriverParts Cause) → JudgesContents bytes contents result → IsJudged bytes file result
  by_contents result is = by_parts contents.compressed contents.guid_defined contents.image result refl refl refl is

-- what is judged step by step is what there is
pub judges_right : (bytes : List ℕ) (file : File) (result : Result DriverParts Cause) → Judges bytes file result → IsJudged bytes file result
judges_right bytes file result (ByBodySum unsound is) =
    subst (IsJudged bytes file) (sym is) (record { fits = unsound; first = λ other low fits. absurd (omega arith) })
judges_right bytes file result (BySectionSize sound fault refused is) =
    subst (IsJudged bytes file) (sym is) (record { fits = (fault, refused); first = λ other low fits. before_size other low fits })
  where
    before_size : (cause : Cause) → rank cause < 1 → Fits bytes [] file cause → ⊥
    before_size BodySum low fits = let e : false ≡ true = sym fits ∙ sound in cc
    before_size _ low fits = absurd (omega arith)
judges_right bytes file result (ByContents sound contents has by) = by_contents bytes file sound contents has result by

-- ---- what a reader finds

module _ (bytes seen : List ℕ) (section : Section) (depex : Option Section) (same : seen ≡ data_of bytes section) where
  -- the image's fault
  pub read_image_fault : (fault : PeFault) → HasPeFault seen fault → JudgesImage bytes section depex (Err (Pe fault))
  read_image_fault fault has =
      let P : List ℕ → Type 0 = λ taken. HasPeFault taken fault in
      ByImageFault fault (subst P same has) refl

  -- the expression's
  pub read_expression_fault : (image : Image) (read : Option DepexFault) (fault : DepexFault) → IsImageOf seen image
      → MatchOption read (HasExpression bytes depex) (HasBadExpression bytes depex) → read ≡ Some fault
      → JudgesImage bytes section depex (Err (Depex fault))
  read_expression_fault image read fault is has said =
      let P : List ℕ → Type 0 = λ taken. IsImageOf taken image in
      let Q : Option DepexFault → Type 0 = λ read. MatchOption read (HasExpression bytes depex) (HasBadExpression bytes depex) in
      ByExpressionFault image (subst P same is) fault (subst Q said has) refl

  -- or neither
  pub read_parts : (image : Image) (read : Option DepexFault) → IsImageOf seen image
      → MatchOption read (HasExpression bytes depex) (HasBadExpression bytes depex) → read ≡ None
      → JudgesImage bytes section depex (Ok (record { section = section; image = image; depex = depex }))
  read_parts image read is has said =
      let P : List ℕ → Type 0 = λ taken. IsImageOf taken image in
      let Q : Option DepexFault → Type 0 = λ read. MatchOption read (HasExpression bytes depex) (HasBadExpression bytes depex) in
      ByImage image (subst P same is) (subst Q said has) refl

-- by what the sections say, where none is compressed or defined by a GUID, and one is an image
pub read_contents : (bytes : List ℕ) (contents : Contents) (section : Section) (result : Result DriverParts Cause)
    → contents.compressed ≡ false → contents.guid_defined ≡ false → contents.image ≡ Some section
    → JudgesImage bytes section contents.depex result → JudgesContents bytes contents result
read_contents bytes contents section result whole plain is has =
    let R : Option Section → Type 0 = λ image. MatchOption image (result ≡ Err NoImage) (λ section. JudgesImage bytes section contents.depex result) in
    let Q : Bool → Type 0 = λ test. MatchBool test (result ≡ Err GuidDefined) (R contents.image) in
    let P : Bool → Type 0 = λ test. MatchBool test (result ≡ Err Compressed) (Q contents.guid_defined) in
    subst P (sym whole) (subst Q (sym plain) (subst R (sym is) has))

-- ---- each file is judged

judged_image : (bytes : List ℕ) (section : Section) (depex : Option Section) → (result : Result DriverParts Cause) × JudgesImage bytes section depex result
judged_image bytes section depex = by_image_there (image_or_fault (data_of bytes section)) (expression_or_bad bytes depex)
  where
    by_image_there : ((image : Image) × IsImageOf (data_of bytes section) image) ⊎ ((fault : PeFault) × HasPeFault (data_of bytes section) fault)
        → HasExpression bytes depex ⊎ ((fault : DepexFault) × HasBadExpression bytes depex fault)
        → (result : Result DriverParts Cause) × JudgesImage bytes section depex result
    by_image_there (inl (image, is)) (inl has) = (Ok (record { section = section; image = image; depex = depex }), ByImage image is has refl)
    by_image_there (inl (image, is)) (inr (fault, bad)) = (Err (Depex fault), ByExpressionFault image is fault bad refl)
    by_image_there (inr (fault, bad)) other = (Err (Pe fault), ByImageFault fault bad refl)

judged_by : (bytes : List ℕ) (compressed guid_defined : Bool) (image depex : Option Section)
    → (result : Result DriverParts Cause) × MatchBool compressed (result ≡ Err Compressed) (MatchBool guid_defined (result ≡ Err GuidDefined)
    (MatchOption image (result ≡ Err NoImage) (λ section. JudgesImage bytes section depex result)))
judged_by bytes true guid_defined image depex = (Err Compressed, refl)
judged_by bytes false true image depex = (Err GuidDefined, refl)
judged_by bytes false false None depex = (Err NoImage, refl)
judged_by bytes false false (Some section) depex = judged_image bytes section depex

pub is_judged : (bytes : List ℕ) (file : File) → (result : Result DriverParts Cause) × Judges bytes file result
is_judged bytes file = by_sound file.sound refl (contents_or_refused bytes file)
  where
    by_sound : (sound : Bool) → file.sound ≡ sound → ((contents : Contents) × HasContents bytes file contents) ⊎ HasRefused bytes file
        → (result : Result DriverParts Cause) × Judges bytes file result
    by_sound false is either = (Err BodySum, ByBodySum is refl)
    by_sound true is (inl (contents, has)) =
        let there = judged_by bytes contents.compressed contents.guid_defined contents.image contents.depex in
        (there.0, ByContents is contents has there.1)
    by_sound true is (inr (fault, refused)) = (Err SectionSize, BySectionSize is fault refused refl)

pub verdict_of : (bytes : List ℕ) (file : File) → (result : Result DriverParts Cause) × IsJudged bytes file result
verdict_of bytes file = ((is_judged bytes file).0, judges_right bytes file (is_judged bytes file).0 (is_judged bytes file).1)

pub parts_or_cause : (bytes : List ℕ) (file : File)
    → ((parts : DriverParts) × HasParts bytes file parts) ⊎ ((cause : Cause) × IsRefusedFor bytes [] file cause)
parts_or_cause bytes file = told (HasParts bytes file) (IsRefusedFor bytes [] file) (verdict_of bytes file).0 (verdict_of bytes file).1

pub one_expression_of : (bytes : List ℕ) (file : File) (parts : DriverParts) → HasParts bytes file parts
    → ((expression : Option Expression) × IsExpressionIn bytes parts.depex expression)
    × ((one other : Option Expression) → IsExpressionIn bytes parts.depex one → IsExpressionIn bytes parts.depex other → one ≡ other)
one_expression_of bytes file parts has = (expression_in bytes parts.depex has.expression, one_expression_in bytes parts.depex)
