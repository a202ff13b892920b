-- The files of a volume have a list of words, and only one; drivers have names that differ, and there is one policy.
use Rattle.std.proofs.Common.{◌≡◌, inl, inr, ℕ, zero, suc, ◌+◌, ◌≤◌, ◌==◌, Bool, true, false, ◌&&◌, ◌||◌, not, if◌then◌else◌, List, [], ◌∷◌, ◌++◌, MatchBool}
use Rattle.std.proofs.Common.{map, filter, Some, None, refl, sym, ap, ◌∙◌, subst, arith, count_by}
use Rattle.std.specs.List.{zip, slice_get, All, AllPairs}
use Rattle.std.proofs.lemmas.Bool.{cases_Bool, or_parts, or_right}
use Rattle.std.proofs.lemmas.Bool.Decides.{nat_tests}
use Rattle.std.proofs.lemmas.List.Elements.{All-nil, All-cons, All-head, All-tail, All-weaker}
use Rattle.std.proofs.lemmas.List.Sums.{sum_by-cons}
use Rattle.std.proofs.lemmas.List.Kept.{AllPairs-cons}
use Rattle.mm_base.specs.Guid.{same_guid}
use Rattle.mm_base.specs.declared.volume.File.{File}
use Rattle.file_words.specs.Catalog.{byte_code_machine, standalone_type, pad_type, word_of_other, IsDriver, HasDriverWord, HasWord, AreWordsAfter, AreWords}
use Rattle.file_words.specs.CatalogLaws.{files_with, drivers_of, started_of, is_started_word, is_policy_word}
use Rattle.file_words.specs.Causes.{Known, is_driver_word, is_policy_file, is_policy_among, is_driver_among}
use Rattle.file_words.specs.Parts.{HasParts}
use Rattle.file_words.specs.declared.driver_parts.DriverParts.{DriverParts}
use Rattle.file_words.specs.declared.file_word.FileWord.{FileWord}
use Rattle.file_words.specs.declared.file_word.FileWord.TheVariants.{Driver, Native, Policy, Pad, Passed, Refused}
use Rattle.file_words.proofs.CatalogLemmas.{policy-push, driver-push}
use Rattle.file_words.proofs.WordLemmas.{word_is_there, one_word}

-- ---- the words of files

module _ (bytes : List ℕ) where
  words_are_there : (earlier : List Known) (files : List File) → (words : List FileWord) × AreWordsAfter bytes earlier files words
  words_are_there earlier [] = ([], refl)
  words_are_there earlier (file ∷ files) =
      let first = word_is_there bytes earlier file in
      let rest = words_are_there (earlier ++ record { file = file; word = first.0 } ∷ []) files in
      (first.0 ∷ rest.0, (first.0, (rest.0, (refl, (first.1, rest.1)))))

  one_list_of_words : (earlier : List Known) (files : List File) (one other : List FileWord)
      → AreWordsAfter bytes earlier files one → AreWordsAfter bytes earlier files other → one ≡ other
  one_list_of_words earlier [] one other a b = a ∙ sym b
  one_list_of_words earlier (file ∷ files) one other (word, (rest, (is, (has, are)))) (second, (others, (was, (had, were)))) =
      let same : word ≡ second = one_word bytes earlier file word second has had in
      let P : FileWord → Type 0 = λ word. AreWordsAfter bytes (earlier ++ record { file = file; word = word } ∷ []) files rest in
      let later : rest ≡ others =
      one_list_of_words (earlier ++ record { file = file; word = second } ∷ []) files rest others (subst P same are) were in
      is ∙ (λ i. same i ∷ later i) ∙ sym was

  pub catalog_is_there : (files : List File) → (words : List FileWord) × AreWords bytes files words
  catalog_is_there files = words_are_there [] files

  pub one_catalog : (files : List File) (one other : List FileWord) → AreWords bytes files one → AreWords bytes files other → one ≡ other
  one_catalog files one other a b = one_list_of_words [] files one other a b

-- ---- drivers have names that differ

-- the name of one isn't that of a later one
abbrev Differ : File → File → Type 0
Differ one later = same_guid one.name later.name ≡ false

-- no driver has the name of this file
abbrev IsNew : List Known → File → Type 0
IsNew earlier file = is_driver_among earlier file.name ≡ false

other_no_driver : (pad policy : Bool) → is_driver_word (if pad then Pad else (if policy then Policy else Passed)) ≡ false
other_no_driver true policy = refl
other_no_driver false true = refl
other_no_driver false false = refl

module _ (bytes : List ℕ) (earlier : List Known) (file : File) where
  other_is_no_driver : is_driver_word (word_of_other earlier file) ≡ false
  other_is_no_driver = other_no_driver (file.kind == pad_type) (is_policy_file file && not (is_policy_among earlier))

  -- a driver's word is given to a file of a new name
  new_by_kind : (driver : Bool) (word : FileWord)
      → MatchBool driver (HasDriverWord bytes earlier file word) (word ≡ word_of_other earlier file) → is_driver_word word ≡ true → IsNew earlier file
  new_by_kind true Driver has is = has.alone
  new_by_kind true Native has is = has.alone
  new_by_kind true (Refused cause) has is = let e : false ≡ true = is in cc
  new_by_kind true Policy has is = absurd has
  new_by_kind true Pad has is = absurd has
  new_by_kind true Passed has is = absurd has
  new_by_kind false word has is =
      let e : true ≡ false = sym is ∙ ap is_driver_word has ∙ other_is_no_driver in
      cc

  new_name : (word : FileWord) → HasWord bytes earlier file word → is_driver_word word ≡ true → IsNew earlier file
  new_name word has is = new_by_kind (file.kind == standalone_type) word has is

  -- what is new after one more file is new before it, and has another name where that one is a driver
  new_before : (word : FileWord) (other : File) → IsNew (earlier ++ record { file = file; word = word } ∷ []) other → IsNew earlier other
  new_before word other new = (or_parts _ _ (sym (driver-push earlier file word other.name) ∙ new)).0

  new_differs : (word : FileWord) (other : File) → is_driver_word word ≡ true
      → IsNew (earlier ++ record { file = file; word = word } ∷ []) other → Differ file other
  new_differs word other is new =
      let both = or_parts (is_driver_among earlier other.name) _ (sym (driver-push earlier file word other.name) ∙ new) in
      sym (ap (λ b. b && same_guid file.name other.name) is) ∙ both.1

record AllDiffer (earlier : List Known) (files : List File) : Type 0 where
  pub apart : AllPairs Differ files
  pub new : All (IsNew earlier) files

module _ (test : FileWord → Bool) (drives : (word : FileWord) → test word ≡ true → is_driver_word word ≡ true) (bytes : List ℕ) where
  none_differ : (earlier : List Known) → AllDiffer earlier []
  none_differ earlier = record { apart = λ i j d h within. absurd (omega arith); new = All-nil (IsNew earlier) }

  module _ (earlier : List Known) (file : File) (word : FileWord) (has : HasWord bytes earlier file word) (later : List (File × FileWord)) where
    abbrev names_of : List (File × FileWord) → List File
    names_of pairs = map (λ (pair : File × FileWord). pair.0) pairs

    one_more : AllDiffer (earlier ++ record { file = file; word = word } ∷ []) (names_of later) → (chosen : Bool) → test word ≡ chosen
        → AllDiffer earlier (names_of (if chosen then (file, word) ∷ later else later))
    one_more rest true is =
        let driver = drives word is in
        record {
          apart = AllPairs-cons Differ file (names_of later)
              (All-weaker (IsNew (earlier ++ record { file = file; word = word } ∷ [])) (Differ file)
              (λ other new. new_differs bytes earlier file word other driver new) (names_of later) rest.new)
              rest.apart;
          new = All-cons (IsNew earlier) file (names_of later) (new_name bytes earlier file word has driver)
              (All-weaker (IsNew (earlier ++ record { file = file; word = word } ∷ [])) (IsNew earlier)
              (λ other new. new_before bytes earlier file word other new) (names_of later) rest.new);
        }
    one_more rest false is = record {
      apart = rest.apart;
      new = All-weaker (IsNew (earlier ++ record { file = file; word = word } ∷ [])) (IsNew earlier)
          (λ other new. new_before bytes earlier file word other new) (names_of later) rest.new;
    }

  all_differ : (earlier : List Known) (files : List File) (words : List FileWord) → AreWordsAfter bytes earlier files words
      → AllDiffer earlier (files_with test files words)
  all_differ earlier [] words are = none_differ earlier
  all_differ earlier (file ∷ files) words (word, (others, (is, (has, are)))) =
      let rest = all_differ (earlier ++ record { file = file; word = word } ∷ []) files others are in
      let P : List FileWord → Type 0 = λ ws. AllDiffer earlier (files_with test (file ∷ files) ws) in
      subst P (sym is)
      (one_more earlier file word has (filter (λ (pair : File × FileWord). test pair.1) (zip files others)) rest (test word) refl)

pub drivers_differ : (bytes : List ℕ) (files : List File) (words : List FileWord) → AreWords bytes files words
    → AllPairs (λ (one : File) (later : File). same_guid one.name later.name ≡ false) (drivers_of files words)
drivers_differ bytes files words are = (all_differ is_driver_word (λ word is. is) bytes [] files words are).apart

started_drives : (word : FileWord) → is_started_word word ≡ true → is_driver_word word ≡ true
started_drives Driver is = refl
started_drives Native is = refl
started_drives Policy is = is
started_drives Pad is = is
started_drives Passed is = is
started_drives (Refused cause) is = is

pub started_differ : (bytes : List ℕ) (files : List File) (words : List FileWord) → AreWords bytes files words
    → AllPairs (λ (one : File) (later : File). same_guid one.name later.name ≡ false) (started_of files words)
started_differ bytes files words are = (all_differ is_started_word started_drives bytes [] files words are).apart

-- ---- one policy

other_policy : (pad policy among : Bool) → is_policy_word (if pad then Pad else (if policy && not among then Policy else Passed)) ≡ true
    → (among ≡ false) × (policy ≡ true)
other_policy true policy among is = let e : false ≡ true = is in cc
other_policy false true false is = (refl, refl)
other_policy false true true is = let e : false ≡ true = is in cc
other_policy false false among is = let e : false ≡ true = is in cc

module _ (bytes : List ℕ) (earlier : List Known) (file : File) where
  policy_by_kind : (driver : Bool) (word : FileWord)
      → MatchBool driver (HasDriverWord bytes earlier file word) (word ≡ word_of_other earlier file) → is_policy_word word ≡ true
      → (is_policy_among earlier ≡ false) × (is_policy_file file ≡ true)
  policy_by_kind true Driver has is = let e : false ≡ true = is in cc
  policy_by_kind true Native has is = let e : false ≡ true = is in cc
  policy_by_kind true (Refused cause) has is = let e : false ≡ true = is in cc
  policy_by_kind true Policy has is = absurd has
  policy_by_kind true Pad has is = absurd has
  policy_by_kind true Passed has is = absurd has
  policy_by_kind false word has is =
      other_policy (file.kind == pad_type) (is_policy_file file) (is_policy_among earlier) (sym (ap is_policy_word has) ∙ is)

  policy_has : (word : FileWord) → HasWord bytes earlier file word → is_policy_word word ≡ true
      → (is_policy_among earlier ≡ false) × (is_policy_file file ≡ true)
  policy_has word has is = policy_by_kind (file.kind == standalone_type) word has is

module _ (bytes : List ℕ) where
  -- after the policy there is none
  no_more : (earlier : List Known) (files : List File) (words : List FileWord) → AreWordsAfter bytes earlier files words
      → is_policy_among earlier ≡ true → All (λ (word : FileWord). is_policy_word word ≡ false) words
  no_more earlier [] words are among = subst (All (λ (word : FileWord). is_policy_word word ≡ false)) (sym are) (All-nil (λ (word : FileWord). is_policy_word word ≡ false))
  no_more earlier (file ∷ files) words (word, (others, (is, (has, are)))) among =
      let still = policy-push earlier file word ∙ ap (λ b. b || is_policy_file file) among in
      let rest = no_more (earlier ++ record { file = file; word = word } ∷ []) files others are still in
      let here : is_policy_word word ≡ false = elim (cases_Bool (is_policy_word word)) [
        | inl policy ↦ let e : true ≡ false = sym among ∙ (policy_has bytes earlier file word has policy).0 in cc
        | inr other ↦ other
      ] in
      subst (All (λ (word : FileWord). is_policy_word word ≡ false)) (sym is)
      (All-cons (λ (word : FileWord). is_policy_word word ≡ false) word others here rest)

  counted : (word : FileWord) (others : List FileWord) (policy : Bool) → is_policy_word word ≡ policy
      → count_by is_policy_word (word ∷ others) ≡ (if policy then 1 else 0) + count_by is_policy_word others
  counted word others policy is =
      sum_by-cons (λ (w : FileWord). if is_policy_word w then 1 else 0) word others
      ∙ ap (λ (b : Bool). (if b then 1 else 0) + count_by is_policy_word others) is

  none_counted : (words : List FileWord) → All (λ (word : FileWord). is_policy_word word ≡ false) words → count_by is_policy_word words ≡ 0
  none_counted [] none = refl
  none_counted (word ∷ words) none =
      counted word words false (All-head (λ (w : FileWord). is_policy_word w ≡ false) word words none)
      ∙ omega (arith, none_counted words (All-tail (λ (w : FileWord). is_policy_word w ≡ false) word words none))

  one_more_counted : (earlier : List Known) (file : File) (word : FileWord) (files : List File) (others : List FileWord)
      → HasWord bytes earlier file word → AreWordsAfter bytes (earlier ++ record { file = file; word = word } ∷ []) files others
      → count_by is_policy_word others ≤ 1 → (policy : Bool) → is_policy_word word ≡ policy → count_by is_policy_word (word ∷ others) ≤ 1
  one_more_counted earlier file word files others has are most true is =
      let policy = policy_has bytes earlier file word has is in
      let among = policy-push earlier file word ∙ or_right (is_policy_among earlier) (is_policy_file file) policy.1 in
      let none = none_counted others (no_more (earlier ++ record { file = file; word = word } ∷ []) files others are among) in
      omega (arith, counted word others true is)
  one_more_counted earlier file word files others has are most false is = omega (arith, counted word others false is)

  at_most_one : (earlier : List Known) (files : List File) (words : List FileWord) → AreWordsAfter bytes earlier files words
      → count_by is_policy_word words ≤ 1
  at_most_one earlier [] words are = subst (λ (ws : List FileWord). count_by is_policy_word ws ≤ 1) (sym are) (omega arith)
  at_most_one earlier (file ∷ files) words (word, (others, (is, (has, are)))) =
      let most = at_most_one (earlier ++ record { file = file; word = word } ∷ []) files others are in
      subst (λ (ws : List FileWord). count_by is_policy_word ws ≤ 1) (sym is)
      (one_more_counted earlier file word files others has are most (is_policy_word word) refl)

pub one_policy : (bytes : List ℕ) (files : List File) (words : List FileWord) → AreWords bytes files words → count_by is_policy_word words ≤ 1
one_policy bytes files words are = at_most_one bytes [] files words are

-- ---- a driver has its parts

module _ (bytes : List ℕ) (earlier : List Known) (file : File) where
  abbrev HasItsParts : Type 0
  HasItsParts = (parts : DriverParts) × (HasParts bytes file parts × (parts.image.machine ≡ byte_code_machine))

  parts_by_kind : (driver : Bool) (word : FileWord)
      → MatchBool driver (HasDriverWord bytes earlier file word) (word ≡ word_of_other earlier file) → word ≡ Driver → HasItsParts
  parts_by_kind true word has is =
      let driver : IsDriver bytes earlier file true = subst (HasDriverWord bytes earlier file) is has in
      let machine = driver.machine in
      (driver.parts, (driver.has, grind (arith, nat_tests)))
  parts_by_kind false word has is =
      let e : true ≡ false = ap is_driver_word (sym is ∙ has) ∙ other_is_no_driver bytes earlier file in
      cc

parts_there : (bytes : List ℕ) (earlier : List Known) (files : List File) (words : List FileWord) (k : ℕ) (file : File)
    → AreWordsAfter bytes earlier files words → slice_get files k ≡ Some file → slice_get words k ≡ Some Driver → HasItsParts bytes earlier file
parts_there bytes earlier [] words k file are there word_there = let e : None ≡ Some file = there in cc
parts_there bytes earlier (first ∷ files) words zero file (word, (others, (is, (has, are)))) there word_there =
    let same : first ≡ file = cc in
    let word_is : Some word ≡ Some Driver = sym (ap (λ (ws : List FileWord). slice_get ws 0) is) ∙ word_there in
    let driver : word ≡ Driver = cc in
    let P : File → Type 0 = λ f. HasItsParts bytes earlier f in
    subst P same (parts_by_kind bytes earlier first (first.kind == standalone_type) word has driver)
parts_there bytes earlier (first ∷ files) words (suc k) file (word, (others, (is, (has, are)))) there word_there =
    parts_there bytes (earlier ++ record { file = first; word = word } ∷ []) files others k file are there
    (sym (ap (λ (ws : List FileWord). slice_get ws (suc k)) is) ∙ word_there)

pub driver_has_parts : (bytes : List ℕ) (files : List File) (words : List FileWord) (k : ℕ) (file : File) → AreWords bytes files words
    → slice_get files k ≡ Some file → slice_get words k ≡ Some Driver → HasItsParts bytes [] file
driver_has_parts bytes files words k file are there word_there = parts_there bytes [] files words k file are there word_there
