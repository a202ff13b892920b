-- What is kept of files, and their words, one after another.
use Rattle.std.proofs.Common.{◌≡◌, ℕ, suc, ◌+◌, ◌<◌, ◌≤◌, Bool, true, false, ◌||◌, ◌&&◌, cond, List, [], ◌∷◌, ◌++◌, length, drop}
use Rattle.std.proofs.Common.{get_or, refl, sym, ap, ◌∙◌, subst, append_assoc}
use Rattle.std.specs.BTreeSet.{contains}
use Rattle.std.specs.Cmp.Lexicographic.{slice_cmp}
use Rattle.std.specs.Ordering.{nat_cmp, is_eq}
use Rattle.std.proofs.Math.Bool.{or-false}
use Rattle.std.proofs.lemmas.List.Folds.{list_any-append}
use Rattle.std.proofs.lemmas.List.{drop_more, drop_all, append-nil}
use Rattle.std.proofs.lemmas.Map.Text.{is_eq-slice_cmp}
use Rattle.mm_base.specs.Guid.{same_guid}
use Rattle.mm_base.specs.declared.guid.Guid.{Guid}
use Rattle.mm_base.specs.declared.volume.File.{File}
use Rattle.file_words.specs.Catalog.{HasWord, AreWordsAfter, AreWords}
use Rattle.file_words.specs.Causes.{Known, is_policy_file, is_driver_word, is_policy_among, is_driver_among}
use Rattle.file_words.specs.KnownFilesInside.{Keeps}
use Rattle.file_words.specs.declared.earlier.Earlier.{Earlier}
use Rattle.file_words.specs.declared.file_word.FileWord.{FileWord}

-- ---- what is kept of files

or_cond : (b c : Bool) → cond b true c ≡ (c || b)
or_cond true true = refl
or_cond true false = refl
or_cond false true = refl
or_cond false false = refl

-- the policy is among files, or is one more
pub kept_before : (before last after : Bool) → before ≡ true → after ≡ before → after ≡ (before || last)
kept_before before last after e is = is ∙ e ∙ sym (ap (λ b. b || last) e)

pub kept_now : (before last after : Bool) → before ≡ false → after ≡ last → after ≡ (before || last)
kept_now before last after e is = is ∙ sym (ap (λ b. b || last) e)

-- one file more, with its word
module _ (earlier : List Known) (file : File) (word : FileWord) where
  abbrev pub more : List Known
  more = earlier ++ record { file = file; word = word } ∷ []

  pub policy-push : is_policy_among more ≡ (is_policy_among earlier || is_policy_file file)
  policy-push =
      list_any-append (λ (known : Known). is_policy_file known.file) earlier (record { file = file; word = word } ∷ [])
      ∙ ap (λ b. is_policy_among earlier || b) (or-false (is_policy_file file))

  pub driver-push : (name : Guid)
      → is_driver_among more name ≡ (is_driver_among earlier name || (is_driver_word word && same_guid file.name name))
  driver-push name =
      list_any-append (λ (known : Known). is_driver_word known.word && same_guid known.file.name name) earlier
      (record { file = file; word = word } ∷ [])
      ∙ ap (λ b. is_driver_among earlier name || b) (or-false (is_driver_word word && same_guid file.name name))

module _ (before after : Earlier) (earlier : List Known) (file : File) (word : FileWord)
    (policy : after.has_policy ≡ (before.has_policy || is_policy_file file)) (keeps : Keeps before earlier) where
  policy_kept : after.has_policy ≡ is_policy_among (earlier ++ record { file = file; word = word } ∷ [])
  policy_kept = policy ∙ ap (λ b. b || is_policy_file file) keeps.policy ∙ sym (policy-push earlier file word)

  -- a driver's name is put in
  pub keeps_driver : is_driver_word word ≡ true
      → ((name : List ℕ) → contains (slice_cmp nat_cmp) after.drivers name
      ≡ cond (is_eq (slice_cmp nat_cmp file.name.0 name)) true (contains (slice_cmp nat_cmp) before.drivers name))
      → Keeps after (earlier ++ record { file = file; word = word } ∷ [])
  keeps_driver is drivers = record {
    policy = policy_kept;
    drivers = λ name.
        let was = contains (slice_cmp nat_cmp) before.drivers name.0 in
        drivers name.0 ∙ ap (λ b. cond b true was) (is_eq-slice_cmp file.name.0 name.0)
        ∙ or_cond (same_guid file.name name) was
        ∙ ap (λ b. b || same_guid file.name name) (keeps.drivers name)
        ∙ ap (λ b. is_driver_among earlier name || (b && same_guid file.name name)) (sym is)
        ∙ sym (driver-push earlier file word name);
  }

-- ---- all files of a volume

-- The words so far: whatever the words of the files that are left are, put after these they are the words of all. And what is
-- kept of the files so far.
pub record SoFar (bytes : List ℕ) (files left : List File) (words : List FileWord) (kept : Earlier) : Type 0 where
  pub earlier : List Known
  pub rest : (others : List FileWord) → AreWordsAfter bytes earlier left others → AreWords bytes files (words ++ others)
  pub keeps : Keeps kept earlier

module _ (bytes : List ℕ) (files : List File) where
  pub so_far_none : (words : List FileWord) (kept : Earlier) → words ≡ [] → Keeps kept [] → SoFar bytes files files words kept
  so_far_none words kept none keeps = record {
    earlier = [];
    rest = λ others are. let P : List FileWord → Type 0 = λ front. AreWords bytes files (front ++ others) in subst P (sym none) are;
    keeps = keeps;
  }

  module _ (all : List File) (k : ℕ) (words : List FileWord) (before : Earlier) (so_far : SoFar bytes files (drop k all) words before) where
    pub so_far_more : (d : File) (word : FileWord) (after : Earlier) (now : List FileWord) → k < length all
        → ((earlier : List Known) → Keeps before earlier → HasWord bytes earlier (get_or all k d) word)
        → now ≡ words ++ word ∷ []
        → ((earlier : List Known) → Keeps before earlier → Keeps after (earlier ++ record { file = get_or all k d; word = word } ∷ []))
        → SoFar bytes files (drop (k + 1) all) now after
    so_far_more d word after now h has are keep = record {
      earlier = so_far.earlier ++ record { file = get_or all k d; word = word } ∷ [];
      rest = λ others later.
          let there : drop k all ≡ get_or all k d ∷ drop (k + 1) all = drop_more all k d h in
          let P : List File → Type 0 = λ left. AreWordsAfter bytes so_far.earlier left (word ∷ others) in
          let Q : List FileWord → Type 0 = λ ws. AreWords bytes files ws in
          let R : List FileWord → Type 0 = λ front. AreWords bytes files (front ++ others) in
          let step : P (get_or all k d ∷ drop (k + 1) all) = (word, (others, (refl, (has so_far.earlier so_far.keeps, later)))) in
          subst R (sym are)
          (subst Q (sym (append_assoc words (word ∷ []) others)) (so_far.rest (word ∷ others) (subst P (sym there) step)));
      keeps = keep so_far.earlier so_far.keeps;
    }

    pub so_far_all : length all ≤ k → AreWords bytes files words
    so_far_all h =
        let P : List File → Type 0 = λ left. AreWordsAfter bytes so_far.earlier left [] in
        let Q : List FileWord → Type 0 = λ ws. AreWords bytes files ws in
        subst Q (append-nil words) (so_far.rest [] (subst P (sym (drop_all k all h)) refl))

-- there is a word for each file
words-length : (bytes : List ℕ) (earlier : List Known) (files : List File) (words : List FileWord)
    → AreWordsAfter bytes earlier files words → length words ≡ length files
words-length bytes earlier [] words are = ap length are
words-length bytes earlier (file ∷ files) words (word, (others, (is, (has, rest)))) =
    ap length is ∙ ap suc (words-length bytes (earlier ++ record { file = file; word = word } ∷ []) files others rest)

pub one_each : (bytes : List ℕ) (files : List File) (words : List FileWord) → AreWords bytes files words → length words ≡ length files
one_each bytes files words are = words-length bytes [] files words are
