-- A file has one word after others.
use Rattle.std.proofs.Common.{◌≡◌, ℕ, ◌<◌, ◌==◌, Bool, true, false, if◌then◌else◌, List, [], MatchBool}
use Rattle.std.proofs.Common.{Result, Ok, Err, refl, sym, ap, ◌∙◌, subst, arith, eq-eqb}
use Rattle.mm_base.specs.declared.volume.File.{File}
use Rattle.file_words.specs.Catalog.{byte_code_machine, standalone_type, word_of_other, IsDriver, HasDriverWord, HasWord}
use Rattle.file_words.specs.Causes.{Known, is_driver_among, Fits, rank, IsRefusedFor}
use Rattle.file_words.specs.JudgingInside.{word_of_machine}
use Rattle.file_words.specs.KnownFilesInside.{Keeps}
use Rattle.file_words.specs.Parts.{HasParts}
use Rattle.file_words.specs.declared.driver_parts.DriverParts.{DriverParts}
use Rattle.file_words.specs.declared.earlier.Earlier.{Earlier}
use Rattle.file_words.specs.declared.file_word.Cause.{Cause}
use Rattle.file_words.specs.declared.file_word.Cause.TheVariants.{BodySum, SectionSize, Compressed, GuidDefined, NoImage, Pe, Depex, Duplicate}
use Rattle.file_words.specs.declared.file_word.FileWord.{FileWord}
use Rattle.file_words.specs.declared.file_word.FileWord.TheVariants.{Driver, Native, Policy, Pad, Passed, Refused}
use Rattle.file_words.proofs.PartsLemmas.{none_fits, one_parts, one_cause, rank_low, IsJudged, verdict_of}

-- ---- what other files have to do with it

-- all causes but that of the files before it ask for the file alone
fits_anywhere : (bytes : List ℕ) (earlier others : List Known) (file : File) (cause : Cause) → rank cause < 7
    → Fits bytes earlier file cause → Fits bytes others file cause
fits_anywhere bytes earlier others file BodySum low fits = fits
fits_anywhere bytes earlier others file SectionSize low fits = fits
fits_anywhere bytes earlier others file Compressed low fits = fits
fits_anywhere bytes earlier others file GuidDefined low fits = fits
fits_anywhere bytes earlier others file NoImage low fits = fits
fits_anywhere bytes earlier others file (Pe fault) low fits = fits
fits_anywhere bytes earlier others file (Depex fault) low fits = fits
fits_anywhere bytes earlier others file Duplicate low fits = absurd (omega arith)

module _ (bytes : List ℕ) (known : List Known) (file : File) where
  -- a file that is refused by itself is refused after others
  pub refused_anywhere : (cause : Cause) → IsRefusedFor bytes [] file cause → IsRefusedFor bytes known file cause
  refused_anywhere cause refused =
      let low = rank_low bytes file cause refused.fits in
      record {
        fits = fits_anywhere bytes [] known file cause low refused.fits;
        first = λ other less fits. refused.first other less (fits_anywhere bytes known [] file other (omega arith) fits);
      }

  -- ---- the word of a driver

  module _ (parts : DriverParts) (has : HasParts bytes file parts) where
    by_machine : (among byte_code : Bool) → is_driver_among known file.name ≡ among → (parts.image.machine == byte_code_machine) ≡ byte_code
        → HasDriverWord bytes known file (if among then Refused Duplicate else (if byte_code then Driver else Native))
    by_machine true byte_code there machine =
        record { fits = there; first = λ other less fits. none_fits bytes file parts has known other less fits }
    by_machine false true alone machine = record { parts = parts; has = has; machine = machine; alone = alone }
    by_machine false false alone machine = record { parts = parts; has = has; machine = machine; alone = alone }

    pub word_by_machine : (word : FileWord) → word ≡ word_of_machine known file parts.image.machine → HasDriverWord bytes known file word
    word_by_machine word is =
        subst (HasDriverWord bytes known file) (sym is)
        (by_machine (is_driver_among known file.name) (parts.image.machine == byte_code_machine) refl refl)

  pub driver_word_is_there : (word : FileWord) × HasDriverWord bytes known file word
  driver_word_is_there = by_verdict (verdict_of bytes file).0 (verdict_of bytes file).1
    where
      by_verdict : (verdict : Result DriverParts Cause) → IsJudged bytes file verdict → (word : FileWord) × HasDriverWord bytes known file word
      by_verdict (Ok parts) has =
          (word_of_machine known file parts.image.machine, word_by_machine parts has (word_of_machine known file parts.image.machine) refl)
      by_verdict (Err cause) refused = (Refused cause, refused_anywhere cause refused)

  -- a driver is not refused
  never_driver_and_refused : (byte_code : Bool) (cause : Cause) → IsDriver bytes known file byte_code → IsRefusedFor bytes known file cause → ⊥
  never_driver_and_refused byte_code cause driver refused = by_cause cause refused.fits
    where
      by_cause : (cause : Cause) → Fits bytes known file cause → ⊥
      by_cause Duplicate fits = let e : true ≡ false = sym fits ∙ driver.alone in cc
      by_cause BodySum fits = none_fits bytes file driver.parts driver.has known BodySum (omega arith) fits
      by_cause SectionSize fits = none_fits bytes file driver.parts driver.has known SectionSize (omega arith) fits
      by_cause Compressed fits = none_fits bytes file driver.parts driver.has known Compressed (omega arith) fits
      by_cause GuidDefined fits = none_fits bytes file driver.parts driver.has known GuidDefined (omega arith) fits
      by_cause NoImage fits = none_fits bytes file driver.parts driver.has known NoImage (omega arith) fits
      by_cause (Pe fault) fits = none_fits bytes file driver.parts driver.has known (Pe fault) (omega arith) fits
      by_cause (Depex fault) fits = none_fits bytes file driver.parts driver.has known (Depex fault) (omega arith) fits

  never_both_machines : IsDriver bytes known file true → IsDriver bytes known file false → ⊥
  never_both_machines a b =
      let same = one_parts bytes file a.parts b.parts a.has b.has in
      let e : true ≡ false = sym a.machine ∙ ap (λ (parts : DriverParts). parts.image.machine == byte_code_machine) same ∙ b.machine in
      cc

  pub one_driver_word : (one other : FileWord) → HasDriverWord bytes known file one → HasDriverWord bytes known file other → one ≡ other
  one_driver_word Policy other a b = absurd a
  one_driver_word Pad other a b = absurd a
  one_driver_word Passed other a b = absurd a
  one_driver_word one Policy a b = absurd b
  one_driver_word one Pad a b = absurd b
  one_driver_word one Passed a b = absurd b
  one_driver_word (Refused one) (Refused other) a b = ap (λ (cause : Cause). Refused cause) (one_cause bytes known file one other a b)
  one_driver_word (Refused cause) Driver a b = absurd (never_driver_and_refused true cause b a)
  one_driver_word (Refused cause) Native a b = absurd (never_driver_and_refused false cause b a)
  one_driver_word Driver (Refused cause) a b = absurd (never_driver_and_refused true cause a b)
  one_driver_word Native (Refused cause) a b = absurd (never_driver_and_refused false cause a b)
  one_driver_word Driver Driver a b = refl
  one_driver_word Native Native a b = refl
  one_driver_word Driver Native a b = absurd (never_both_machines a b)
  one_driver_word Native Driver a b = absurd (never_both_machines b a)

  -- ---- the word of a file

  word_by_kind : (driver : Bool)
      → (word : FileWord) × MatchBool driver (HasDriverWord bytes known file word) (word ≡ word_of_other known file)
  word_by_kind true = driver_word_is_there
  word_by_kind false = (word_of_other known file, refl)

  one_word_by_kind : (driver : Bool) (one other : FileWord)
      → MatchBool driver (HasDriverWord bytes known file one) (one ≡ word_of_other known file)
      → MatchBool driver (HasDriverWord bytes known file other) (other ≡ word_of_other known file) → one ≡ other
  one_word_by_kind true one other a b = one_driver_word one other a b
  one_word_by_kind false one other a b = a ∙ sym b

  pub word_is_there : (word : FileWord) × HasWord bytes known file word
  word_is_there = word_by_kind (file.kind == standalone_type)

  pub one_word : (one other : FileWord) → HasWord bytes known file one → HasWord bytes known file other → one ≡ other
  one_word one other a b = one_word_by_kind (file.kind == standalone_type) one other a b

-- ---- words that are found, whatever is kept

abbrev pub Found : Earlier → (List Known → FileWord → Type 0) → FileWord → Type 0
Found kept Has word = (known : List Known) → Keeps kept known → Has known word

module _ (bytes : List ℕ) (kept : Earlier) (file : File) where
  pub by_parts : (parts : DriverParts) (word : FileWord) → HasParts bytes file parts
      → Found kept (λ known word. word ≡ word_of_machine known file parts.image.machine) word
      → Found kept (λ known word. HasDriverWord bytes known file word) word
  by_parts parts word has is = λ known keeps. word_by_machine bytes known file parts has word (is known keeps)

  pub by_cause : (cause : Cause) → IsRefusedFor bytes [] file cause → Found kept (λ known word. HasDriverWord bytes known file word) (Refused cause)
  by_cause cause refused = λ known keeps. refused_anywhere bytes known file cause refused

  -- the word of a driver is the word of such a file
  pub driver_has_word : (word : FileWord) → file.kind ≡ standalone_type
      → Found kept (λ known word. HasDriverWord bytes known file word) word
      → Found kept (λ known word. HasWord bytes known file word) word
  driver_has_word word is has = λ known keeps.
      let P : Bool → Type 0 = λ driver. MatchBool driver (HasDriverWord bytes known file word) (word ≡ word_of_other known file) in
      subst P (sym (eq-eqb file.kind standalone_type is)) (has known keeps)
