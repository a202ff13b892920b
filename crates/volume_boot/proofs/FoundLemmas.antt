-- What is found of the files of a volume.
use Rattle.std.proofs.Common.{◌≡◌, ℕ, zero, suc, ◌+◌, ◌≤◌, ◌<◌, ◌^◌, ◌==◌, Bool, true, false, if◌then◌else◌, List, [], ◌∷◌, ◌++◌, length, take, map, filter}
use Rattle.std.proofs.Common.{Option, Some, None, IfSome, get_or, refl, sym, ap, ◌∙◌, subst, arith}
use Rattle.std.specs.List.{zip, slice_get, All, AllPairs}
use Rattle.std.proofs.lemmas.Bool.{cases_Bool}
use Rattle.std.proofs.lemmas.List.Elements.{All-nil, All-cons, All-head, All-tail}
use Rattle.std.proofs.lemmas.List.{append-nil, length-take-le}
use Rattle.std.proofs.lemmas.Option.{slice_get-get_or}
use Rattle.std.proofs.lemmas.List.Kept.{AllPairs-cons}
use Rattle.depex.proofs.Offered.{never_expression_and_fault}
use Rattle.depex.specs.Expressions.{Expression, HasFault}
use Rattle.dispatcher.specs.Drivers.{NamesDiffer}
use Rattle.dispatcher.specs.declared.driver.Driver.{Driver}
use Rattle.driver_start.specs.Forms.{loadable_of}
use Rattle.driver_start.specs.Starts.{DriverState, Loadable, IsLoadable}
use Rattle.driver_start.proofs.Offered.{loadable_of-is}
use Rattle.file_words.proofs.Offered.{driver_has_parts}
use Rattle.file_words.proofs.ContentsLemmas.{contents_lie}
use Rattle.file_words.proofs.PartsLemmas.{expression_in}
use Rattle.file_words.specs.Catalog.{AreWords}
use Rattle.file_words.specs.CatalogLaws.{files_with, is_started_word, started_of}
use Rattle.file_words.specs.Parts.{data_of, HasExpression, HasParts, IsExpressionIn}
use Rattle.file_words.specs.declared.driver_parts.DriverParts.{DriverParts}
use Rattle.file_words.specs.declared.file_word.FileWord.{FileWord}
use Rattle.file_words.specs.declared.file_word.FileWord.TheVariants.{Driver as FileDriver, Native, Policy, Pad, Passed, Refused}
use Rattle.mm_base.specs.End.{EndsBy}
use Rattle.mm_base.specs.Guid.{same_guid}
use Rattle.mm_base.specs.declared.end.End.{End}
use Rattle.mm_base.specs.declared.end.End.TheVariants.{Fault}
use Rattle.mm_base.specs.declared.expression.DepexFault.{DepexFault}
use Rattle.mm_base.specs.declared.guid.Guid.{Guid}
use Rattle.mm_base.specs.declared.volume.File.{File}
use Rattle.mm_base.specs.declared.volume.Section.{Section}
use Rattle.volume_boot.specs.Boots.{BootDriver, IsBootDriver, AreBootDrivers, loadables, numbered_from}
use Rattle.volume_boot.specs.BootsInside.{FoundDriver, IsFound, AreFound, AreNumbered, Holds, IsKept, IsSound, boot_drivers, loaded_in, more_if}

-- ---- one more

-- a driver by a number
abbrev as_driver : ℕ → BootDriver → Driver
as_driver number driver = record { index = number; name = driver.loadable.name; depex = driver.depex }

pub numbered_more : (number : ℕ) (drivers : List BootDriver) (one : BootDriver)
    → numbered_from number (drivers ++ one ∷ [])
    ≡ numbered_from number drivers ++ (record { index = number + length drivers; name = one.loadable.name; depex = one.depex }) ∷ []
numbered_more number [] one =
    let none : number ≡ number + 0 = omega arith in
    ap (λ (n : ℕ). as_driver n one ∷ []) none
numbered_more number (driver ∷ drivers) one =
    let more = numbered_more (number + 1) drivers one in
    let same : number + 1 + length drivers ≡ number + length (driver ∷ drivers) = omega arith in
    ap (λ rest. (record { index = number; name = driver.loadable.name; depex = driver.depex }) ∷ rest) more
    ∙ ap (λ (n : ℕ). (record { index = number; name = driver.loadable.name; depex = driver.depex })
    ∷ (numbered_from (number + 1) drivers ++ (record { index = n; name = one.loadable.name; depex = one.depex }) ∷ [])) same

pub boot_drivers_more : (found : List FoundDriver) (one : FoundDriver)
    → boot_drivers (found ++ one ∷ []) ≡ boot_drivers found ++ (record { depex = one.depex; loadable = loadable_of one.loaded }) ∷ []
boot_drivers_more [] one = refl
boot_drivers_more (first ∷ found) one = ap (λ rest. (record { depex = first.depex; loadable = loadable_of first.loaded }) ∷ rest) (boot_drivers_more found one)

pub loaded_more : (found : List FoundDriver) (one : FoundDriver) → loaded_in (found ++ one ∷ []) ≡ loaded_in found ++ one.loaded ∷ []
loaded_more [] one = refl
loaded_more (first ∷ found) one = ap (λ rest. first.loaded ∷ rest) (loaded_more found one)

pub length-boot_drivers : (found : List FoundDriver) → length (boot_drivers found) ≡ length found
length-boot_drivers [] = refl
length-boot_drivers (one ∷ found) = ap suc (length-boot_drivers found)

pub length-numbered : (number : ℕ) (drivers : List BootDriver) → length (numbered_from number drivers) ≡ length drivers
length-numbered number [] = refl
length-numbered number (driver ∷ drivers) = ap suc (length-numbered (number + 1) drivers)

module _ (bytes : List ℕ) where
  pub found_more : (files : List File) (found : List FoundDriver) (file : File) (one : FoundDriver)
      → AreFound bytes files found → IsFound bytes file one → AreFound bytes (files ++ file ∷ []) (found ++ one ∷ [])
  found_more [] found file one are is = (one, ([], (ap (λ f. f ++ one ∷ []) are, (is, refl))))
  found_more (first ∷ files) found file one (driver, (others, (eq, (has, rest)))) is =
      (driver, (others ++ one ∷ [], (ap (λ f. f ++ one ∷ []) eq, (has, found_more files others file one rest is))))

-- ---- the files that are started, one more of them looked at

private_cons : (chosen : Bool) (file : File) (rest : List (File × FileWord)) (word : FileWord)
    → map (λ (pair : File × FileWord). pair.0) (if chosen then (file, word) ∷ rest else rest)
    ≡ (if chosen then file ∷ map (λ (pair : File × FileWord). pair.0) rest else map (λ (pair : File × FileWord). pair.0) rest)
private_cons true file rest word = refl
private_cons false file rest word = refl

started_cons : (file : File) (files : List File) (word : FileWord) (words : List FileWord)
    → started_of (file ∷ files) (word ∷ words)
    ≡ (if is_started_word word then file ∷ started_of files words else started_of files words)
started_cons file files word words =
    private_cons (is_started_word word) file (filter (λ (pair : File × FileWord). is_started_word pair.1) (zip files words)) word

cons_more : (chosen : Bool) (first : File) (some more : List File)
    → (if chosen then first ∷ (some ++ more) else some ++ more) ≡ (if chosen then first ∷ some else some) ++ more
cons_more true first some more = refl
cons_more false first some more = refl

one_later : (k : ℕ) → suc k + 1 ≡ suc (k + 1)
one_later k = omega arith

pub started_more : (files : List File) (words : List FileWord) (k : ℕ) (file : File) (word : FileWord)
    → slice_get files k ≡ Some file → slice_get words k ≡ Some word
    → started_of (take (k + 1) files) (take (k + 1) words) ≡ started_of (take k files) (take k words) ++ more_if file word
started_more [] words k file word here there = let e : None ≡ Some file = here in absurd cc
started_more (first ∷ files) [] k file word here there = let e : None ≡ Some word = there in absurd cc
started_more (first ∷ files) (head ∷ words) zero file word here there =
    let a : Some first ≡ Some file = here in
    let b : Some head ≡ Some word = there in
    let same : first ≡ file = cc in
    let also : head ≡ word = cc in
    started_cons first [] head [] ∙ ap (λ (pair : File × FileWord). if is_started_word pair.1 then pair.0 ∷ [] else []) (λ i. (same i, also i))
started_more (first ∷ files) (head ∷ words) (suc k) file word here there =
    ap (λ (n : ℕ). started_of (take n (first ∷ files)) (take n (head ∷ words))) (one_later k)
    ∙ started_cons first (take (k + 1) files) head (take (k + 1) words)
    ∙ ap (λ rest. if is_started_word head then first ∷ rest else rest) (started_more files words k file word here there)
    ∙ cons_more (is_started_word head) first (started_of (take k files) (take k words)) (more_if file word)
    ∙ ap (λ some. some ++ more_if file word) (sym (started_cons first (take k files) head (take k words)))

-- ---- what was found is what a boot starts

module _ (bytes : List ℕ) where
  sound_one : (file : File) (one : FoundDriver) → IsFound bytes file one → IsSound one.loaded
  sound_one file one is = subst IsSound (sym is.loaded) is.has.image_is

  one_driver : (file : File) (one : FoundDriver) → IsFound bytes file one
      → IsBootDriver bytes file (record { depex = one.depex; loadable = loadable_of one.loaded })
  one_driver file one is = record {
    parts = is.parts;
    has = is.has;
    depex = is.depex;
    loadable =
        subst (λ (driver : DriverState). IsLoadable driver (loadable_of one.loaded)) is.loaded
        (loadable_of-is one.loaded (sound_one file one is));
  }

  pub are_drivers : (files : List File) (found : List FoundDriver) → AreFound bytes files found
      → AreBootDrivers bytes files (boot_drivers found)
  are_drivers [] found are = ap boot_drivers are
  are_drivers (file ∷ files) found (one, (others, (eq, (is, rest)))) = (
    record { depex = one.depex; loadable = loadable_of one.loaded },
    (boot_drivers others, (ap boot_drivers eq, (one_driver file one is, are_drivers files others rest))),
  )

  pub all_sound : (files : List File) (found : List FoundDriver) → AreFound bytes files found → All IsSound (loaded_in found)
  all_sound [] found are = subst (λ f. All IsSound (loaded_in f)) (sym are) (All-nil IsSound)
  all_sound (file ∷ files) found (one, (others, (eq, (is, rest)))) =
      subst (λ f. All IsSound (loaded_in f)) (sym eq)
      (All-cons IsSound one.loaded (loaded_in others) (sound_one file one is) (all_sound files others rest))

  pub found_length : (files : List File) (found : List FoundDriver) → AreFound bytes files found → length found ≡ length files
  found_length [] found are = ap length are
  found_length (file ∷ files) found (one, (others, (eq, (is, rest)))) = ap length eq ∙ ap suc (found_length files others rest)

  -- ---- names that differ

  name_of : (file : File) (one : FoundDriver) → IsFound bytes file one → (loadable_of one.loaded).name ≡ file.name
  unfolding loadable_of
  name_of file one is = ap (λ (driver : DriverState). driver.name) is.loaded

pub loadables_are : (found : List FoundDriver) → loadables (boot_drivers found) ≡ map loadable_of (loaded_in found)
loadables_are [] = refl
loadables_are (one ∷ found) = ap (λ rest. loadable_of one.loaded ∷ rest) (loadables_are found)

-- the name of one isn't that of a later one
abbrev Differ : File → File → Type 0
Differ one later = same_guid one.name later.name ≡ false

-- no driver has this name
abbrev IsNew : Guid → Driver → Type 0
IsNew name driver = same_guid name driver.name ≡ false

first_apart : (file : File) (files : List File) → AllPairs Differ (file ∷ files)
    → All (λ (later : File). same_guid file.name later.name ≡ false) files
first_apart file files apart = λ i d within. apart 0 (suc i) d (omega arith) (omega arith)

rest_apart : (file : File) (files : List File) → AllPairs Differ (file ∷ files) → AllPairs Differ files
rest_apart file files apart = λ i j d h within. apart (suc i) (suc j) d (omega arith) (omega arith)

module _ (bytes : List ℕ) where
  new_name : (name : Guid) (number : ℕ) (files : List File) (found : List FoundDriver) → AreFound bytes files found
      → All (λ (file : File). same_guid name file.name ≡ false) files → All (IsNew name) (numbered_from number (boot_drivers found))
  new_name name number [] found are new = subst (λ f. All (IsNew name) (numbered_from number (boot_drivers f))) (sym are) (All-nil (IsNew name))
  new_name name number (file ∷ files) found (one, (others, (eq, (is, rest)))) new =
      let P : File → Type 0 = λ file. same_guid name file.name ≡ false in
      subst (λ f. All (IsNew name) (numbered_from number (boot_drivers f))) (sym eq)
      (All-cons (IsNew name) _ (numbered_from (number + 1) (boot_drivers others))
      (subst (λ n. same_guid name n ≡ false) (sym (name_of bytes file one is)) (All-head P file files new))
      (new_name name (number + 1) files others rest (All-tail P file files new)))

  pub names_differ : (number : ℕ) (files : List File) (found : List FoundDriver) → AreFound bytes files found
      → AllPairs Differ files → NamesDiffer (numbered_from number (boot_drivers found))
  names_differ number [] found are apart =
      subst (λ f. NamesDiffer (numbered_from number (boot_drivers f))) (sym are) (λ i j d h within. absurd (omega arith))
  names_differ number (file ∷ files) found (one, (others, (eq, (is, rest)))) apart =
      subst (λ f. NamesDiffer (numbered_from number (boot_drivers f))) (sym eq)
      (AllPairs-cons (λ (one : Driver) (later : Driver). same_guid one.name later.name ≡ false) _
      (numbered_from (number + 1) (boot_drivers others))
      (new_name (loadable_of one.loaded).name (number + 1) files others rest
      (subst (λ n. All (λ (file : File). same_guid n file.name ≡ false) files) (sym (name_of bytes file one is)) (first_apart file files apart)))
      (names_differ (number + 1) files others rest (rest_apart file files apart)))

-- ---- numbers

numbers_below : (number most : ℕ) (drivers : List BootDriver) → number + length drivers ≤ most
    → All (λ (driver : Driver). driver.index < most) (numbered_from number drivers)
numbers_below number most [] h = All-nil (λ (driver : Driver). driver.index < most)
numbers_below number most (driver ∷ drivers) h =
    All-cons (λ (driver : Driver). driver.index < most) _ (numbered_from (number + 1) drivers) (omega arith)
    (numbers_below (number + 1) most drivers (omega arith))

pub are_numbered : (drivers : List BootDriver) → AreNumbered (numbered_from 0 drivers)
are_numbered drivers = numbers_below 0 (length (numbered_from 0 drivers)) drivers (omega (arith, length-numbered 0 drivers))

-- ---- what is kept

name_is : (driver : DriverState) → driver.name ≡ (loadable_of driver).name
unfolding loadable_of
name_is driver = refl

none_more : (n : ℕ) → n ≡ 0 + n
none_more n = omega arith

module _ (bytes : List ℕ) where
  pub none_kept : (scheduled : List Driver) (loaded : List DriverState) → scheduled ≡ [] → loaded ≡ [] → IsKept bytes [] scheduled loaded
  none_kept scheduled loaded a b = record { found = []; are = refl; holds = record { scheduled_are = a; loaded_are = b } }

  module _ (files : List File) (scheduled : List Driver) (loaded : List DriverState) (kept : IsKept bytes files scheduled loaded) where
    pub kept_length : length scheduled ≡ length files
    kept_length =
        ap length kept.holds.scheduled_are ∙ length-numbered 0 (boot_drivers kept.found) ∙ length-boot_drivers kept.found
        ∙ found_length bytes files kept.found kept.are

    -- one more file is kept, whose driver this is
    pub one_kept : (file : File) (parts : DriverParts) (depex : Option Expression) → HasParts bytes file parts → IsExpressionIn bytes parts.depex depex
        → (index : ℕ) (piece : List ℕ) → index ≡ length scheduled → piece ≡ data_of bytes parts.section
        → (more : List Driver) (others : List DriverState)
        → more ≡ scheduled ++ (record { index = index; name = file.name; depex = depex }) ∷ []
        → others ≡ loaded ++ (record { name = file.name; bytes = piece; image = parts.image }) ∷ []
        → IsKept bytes (files ++ file ∷ []) more others
    one_kept file parts depex has is index piece at seen more others a b =
        let one : FoundDriver = record {
          depex = depex;
          loaded = record { name = file.name; bytes = data_of bytes parts.section; image = parts.image };
        } in
        let found_is : IsFound bytes file one = record { parts = parts; has = has; depex = is; loaded = refl } in
        let as_boot : BootDriver = record { depex = depex; loadable = loadable_of one.loaded } in
        let long : length scheduled ≡ 0 + length (boot_drivers kept.found) =
        ap length kept.holds.scheduled_are ∙ length-numbered 0 (boot_drivers kept.found) ∙ none_more (length (boot_drivers kept.found)) in
        record {
          found = kept.found ++ one ∷ [];
          are = found_more bytes files kept.found file one kept.are found_is;
          holds = record {
            scheduled_are =
                a
                ∙ ap (λ (n : ℕ). scheduled ++ (record { index = n; name = file.name; depex = depex }) ∷ []) at
                ∙ ap (λ some. some ++ (record { index = length scheduled; name = file.name; depex = depex }) ∷ []) kept.holds.scheduled_are
                ∙ (λ i. numbered_from 0 (boot_drivers kept.found) ++ (record { index = long i; name = name_is one.loaded i; depex = depex }) ∷ [])
                ∙ sym (numbered_more 0 (boot_drivers kept.found) as_boot)
                ∙ ap (numbered_from 0) (sym (boot_drivers_more kept.found one));
            loaded_are =
                b
                ∙ ap (λ (d : List ℕ). loaded ++ (record { name = file.name; bytes = d; image = parts.image }) ∷ []) seen
                ∙ ap (λ some. some ++ one.loaded ∷ []) kept.holds.loaded_are ∙ sym (loaded_more kept.found one);
          };
        }

    pub none_more_kept : IsKept bytes (files ++ []) scheduled loaded
    none_more_kept = subst (λ fs. IsKept bytes fs scheduled loaded) (sym (append-nil files)) kept

-- ---- what the parts of a driver are

module _ (bytes : List ℕ) where
  no_fault : (section : Section) (expression : Option Expression) → IsExpressionIn bytes (Some section) expression
      → (fault : DepexFault) → HasFault (data_of bytes section) fault → ⊥
  no_fault section None is fault has = is
  no_fault section (Some expression) is fault has = never_expression_and_fault (data_of bytes section) expression fault is has

  -- an expression that is there has no fault
  pub expression_not_faulty : (depex : Option Section) (section : Section) → depex ≡ Some section → HasExpression bytes depex
      → (piece : List ℕ) → piece ≡ data_of bytes section
      → (end : End DepexFault) (fault : DepexFault) → end ≡ Fault fault → EndsBy (HasFault piece) end → ⊥
  expression_not_faulty depex section there has piece seen end fault ends by =
      let here : HasExpression bytes (Some section) = subst (HasExpression bytes) there has in
      let found = expression_in bytes (Some section) here in
      let faulty : HasFault piece fault = subst (EndsBy (HasFault piece)) ends by in
      no_fault section found.0 found.1 fault (subst (λ d. HasFault d fault) seen faulty)

  module _ (file : File) (parts : DriverParts) (within : file.body_at + file.body ≤ length bytes) (has : HasParts bytes file parts) where
    pub depex_lies : IfSome parts.depex (λ section. section.at + section.length ≤ length bytes)
    depex_lies =
        subst (λ (o : Option Section). IfSome o (λ section. section.at + section.length ≤ length bytes)) has.depex_is
        (contents_lie bytes file has.contents within has.has).depex

    pub image_lies : parts.section.at + parts.section.length ≤ length bytes
    image_lies =
        subst (λ (o : Option Section). IfSome o (λ section. section.at + section.length ≤ length bytes)) has.section_is
        (contents_lie bytes file has.contents within has.has).image

-- the word of a driver
pub driver_word : (word : FileWord) → is_started_word word ≡ true → word ≡ FileDriver
driver_word FileDriver is = refl
driver_word Native is = absurd (let e : false ≡ true = is in cc)
driver_word Policy is = absurd (let e : false ≡ true = is in cc)
driver_word Pad is = absurd (let e : false ≡ true = is in cc)
driver_word Passed is = absurd (let e : false ≡ true = is in cc)
driver_word (Refused cause) is = absurd (let e : false ≡ true = is in cc)

few_by : (chosen : Bool) (file : File) (some : List File) (n : ℕ) → length some ≤ n → length (if chosen then file ∷ some else some) ≤ suc n
few_by true file some n h = omega arith
few_by false file some n h = omega arith

pub started_few : (files : List File) (words : List FileWord) → length (started_of files words) ≤ length files
started_few [] words = omega arith
started_few (file ∷ files) [] = omega arith
started_few (file ∷ files) (word ∷ words) =
    let rest = started_few files words in
    subst (λ fs. length fs ≤ length (file ∷ files)) (sym (started_cons file files word words)) (few_by (is_started_word word) file (started_of files words) (length files) rest)

module _ (bytes : List ℕ) (files : List File) (words : List FileWord) (are : AreWords bytes files words) (same : length words ≡ length files) where
  -- a driver of a volume has its parts
  pub driver_at : (place : ℕ) (file : File) (word : FileWord) → place < length files → is_started_word (get_or words place word) ≡ true
      → (parts : DriverParts) × HasParts bytes (get_or files place file) parts
  driver_at place file word less is =
      let there : slice_get files place ≡ Some (get_or files place file) = slice_get-get_or files place file less in
      let said : slice_get words place ≡ Some (get_or words place word) = slice_get-get_or words place word (omega (arith, same)) in
      let found = driver_has_parts bytes files words place (get_or files place file) are there (said ∙ ap Some (driver_word (get_or words place word) is)) in
      (found.0, found.1.0)

  -- of the first files there are no more drivers
  pub few_so_far : (place : ℕ) (scheduled : List Driver) (loaded : List DriverState) → place < length files → length files < 2 ^ 32
      → IsKept bytes (started_of (take place files) (take place words)) scheduled loaded → length scheduled < 2 ^ 32
  few_so_far place scheduled loaded less few kept =
      let long = kept_length bytes (started_of (take place files) (take place words)) scheduled loaded kept in
      let most = started_few (take place files) (take place words) in
      let cut = length-take-le place files (omega arith) in
      omega (arith, long, most, cut, few)

  pub one_looked_at : (place : ℕ) (file : File) (word : FileWord) (scheduled : List Driver) (loaded : List DriverState) → place < length files
      → IsKept bytes (started_of (take place files) (take place words) ++ more_if (get_or files place file) (get_or words place word)) scheduled loaded
      → IsKept bytes (started_of (take (place + 1) files) (take (place + 1) words)) scheduled loaded
  one_looked_at place file word scheduled loaded less kept =
      let there : slice_get files place ≡ Some (get_or files place file) = slice_get-get_or files place file less in
      let said : slice_get words place ≡ Some (get_or words place word) = slice_get-get_or words place word (omega (arith, same)) in
      subst (λ fs. IsKept bytes fs scheduled loaded) (sym (started_more files words place (get_or files place file) (get_or words place word) there said)) kept
