-- The policy of a volume is one, or its policy file has one fault.
use Rattle.std.proofs.Common.{◌≡◌, ◌⊎◌, inl, inr, ℕ, ◌<◌, Bool, true, false, List, [], ◌∷◌, find, All, Option, Some, None, Result, Ok, Err, IfOk, IfErr, refl, sym, ap, ◌∙◌, subst}
use Rattle.std.proofs.lemmas.List.Elements.{All-take, All-drop, All-head, All-tail}
use Rattle.courses.proofs.VerdictLemmas.{found_or_end, first_or_end}
use Rattle.mm_base.specs.End.{EndsBy, out_of_memory}
use Rattle.mm_base.specs.declared.end.End.{End}
use Rattle.mm_base.specs.declared.end.End.TheVariants.{Fault, NoMemory}
use Rattle.mm_base.specs.declared.policy.Policy.{Policy}
use Rattle.mm_base.specs.declared.policy.PolicyFault.{PolicyFault}
use Rattle.mm_base.specs.declared.policy.PolicyKind.TheVariants as kinds
use Rattle.mm_base.specs.declared.volume.File.{File}
use Rattle.mm_base.specs.declared.volume.Section.{Section}
use Rattle.mm_base.specs.declared.volume.SectionFault.{SectionFault}
use Rattle.file_words.specs.Parts.{data_of}
use Rattle.policy_blob.specs.Faults.{HasFault}
use Rattle.policy_blob.specs.Spelling.{IsPolicy}
use Rattle.policy_blob.proofs.Offered.{policy_or_fault as blob_or_fault, never_both as never_policy_and_fault, one_policy as one_of_blob, one_fault as one_fault_of_blob}
use Rattle.volume_reader.specs.Search.{first_section, HasFirstSection}
use Rattle.volume_reader.specs.Sections.{body_of, AreSections, HasRefusal}
use Rattle.volume_reader.proofs.Offered.{sections_or_refusal, never_sections_and_refusal, one_list_of_sections}
use Rattle.volume_policy.specs.Laws.{PolicyOrFault, NeverBoth, OnePolicy, OneFault}
use Rattle.volume_policy.specs.PolicyFiles.{raw_type, policy_file, HasPolicyBytes, HasNoPolicyBytes, Unsound, BadSection, NoRawSection, IsPolicyInFile, HasFaultInFile, IsPolicyOfFile, IsVolumePolicy, HasFaultOfFile, HasVolumePolicyFault}

module _ (bytes : List ℕ) (file : File) where
  one_section : (one other : Option Section) → HasFirstSection bytes file raw_type one → HasFirstSection bytes file raw_type other → one ≡ other
  one_section one other a b =
      a.is ∙ ap (first_section raw_type) (one_list_of_sections (body_of bytes file) file.body_at a.sections b.sections a.has b.has) ∙ sym b.is

  one_blob : (one other : List ℕ) → HasPolicyBytes bytes file one → HasPolicyBytes bytes file other → one ≡ other
  one_blob one other a b =
      let e : Some a.section ≡ Some b.section = one_section (Some a.section) (Some b.section) a.first b.first in
      let same : a.section ≡ b.section = cc in
      a.is ∙ ap (data_of bytes) same ∙ sym b.is

  bytes_or_none : (blob : List ℕ) → HasPolicyBytes bytes file blob → HasNoPolicyBytes bytes file → ⊥
  bytes_or_none blob has (Unsound unsound) = let e : true ≡ false = sym has.sound ∙ unsound in cc
  bytes_or_none blob has (BadSection fault sound refused) =
      never_sections_and_refusal (body_of bytes file) file.body_at has.first.sections fault has.first.has refused
  bytes_or_none blob has (NoRawSection sound none) =
      let e : Some has.section ≡ None = one_section (Some has.section) None has.first none in
      cc

  -- ---- of the policy file

  policy_not_fault : (policy : Policy) (fault : PolicyFault) → IsPolicyInFile bytes file policy → HasFaultInFile bytes file fault → ⊥
  policy_not_fault policy fault is (inl none) = bytes_or_none is.blob is.has none.0
  policy_not_fault policy fault is (inr has) =
      let P : List ℕ → Type 0 = λ blob. HasFault blob fault in
      never_policy_and_fault is.blob policy fault is.is (subst P (one_blob has.blob is.blob has.has is.has) has.fault_is)

  one_in_file : (one other : Policy) → IsPolicyInFile bytes file one → IsPolicyInFile bytes file other → one ≡ other
  one_in_file one other a b =
      let P : List ℕ → Type 0 = λ blob. IsPolicy blob other in
      one_of_blob a.blob one other a.is (subst P (one_blob b.blob a.blob b.has a.has) b.is)

  one_fault_in_file : (one other : PolicyFault) → HasFaultInFile bytes file one → HasFaultInFile bytes file other → one ≡ other
  one_fault_in_file one other (inl a) (inl b) = a.1 ∙ sym b.1
  one_fault_in_file one other (inl a) (inr b) = absurd (bytes_or_none b.blob b.has a.0)
  one_fault_in_file one other (inr a) (inl b) = absurd (bytes_or_none a.blob a.has b.0)
  one_fault_in_file one other (inr a) (inr b) =
      let P : List ℕ → Type 0 = λ blob. HasFault blob other in
      one_fault_of_blob a.blob one other a.fault_is (subst P (one_blob b.blob a.blob b.has a.has) b.fault_is)

  abbrev Judged : Type 0
  Judged = ((policy : Policy) × IsPolicyInFile bytes file policy) ⊎ ((fault : PolicyFault) × HasFaultInFile bytes file fault)

  abbrev no_bytes : HasNoPolicyBytes bytes file → Judged
  no_bytes none = inr (record { at = 0; kind = kinds.File }, inl (none, refl))

  judged_bytes : (blob : List ℕ) → HasPolicyBytes bytes file blob
      → (((policy : Policy) × IsPolicy blob policy) ⊎ ((fault : PolicyFault) × HasFault blob fault)) → Judged
  judged_bytes blob has (inl policy) = inl (policy.0, record { blob = blob; has = has; is = policy.1 })
  judged_bytes blob has (inr fault) = inr (fault.0, inr (record { blob = blob; has = has; fault_is = fault.1 }))

  module _ (small : All (λ byte. byte < 256) bytes) where
    judged_section : (sections : List Section) → AreSections (body_of bytes file) file.body_at sections → file.sound ≡ true
        → (found : Option Section) → found ≡ first_section raw_type sections → Judged
    judged_section sections are sound None is = no_bytes (NoRawSection sound (record { sections = sections; has = are; is = is }))
    judged_section sections are sound (Some section) is =
        let has : HasPolicyBytes bytes file (data_of bytes section) =
        record { sound = sound; section = section; first = record { sections = sections; has = are; is = is }; is = refl } in
        judged_bytes (data_of bytes section) has
        (blob_or_fault (data_of bytes section)
        (All-take (λ byte. byte < 256) section.length _ (All-drop (λ byte. byte < 256) section.at bytes small)))

    judged_sections : file.sound ≡ true
        → (((sections : List Section) × AreSections (body_of bytes file) file.body_at sections)
        ⊎ ((fault : SectionFault) × HasRefusal (body_of bytes file) file.body_at fault)) → Judged
    judged_sections sound (inl are) = judged_section are.0 are.1 sound (first_section raw_type are.0) refl
    judged_sections sound (inr refused) = no_bytes (BadSection refused.0 sound refused.1)

    judged_file : (sound : Bool) → file.sound ≡ sound → Judged
    judged_file false is = no_bytes (Unsound is)
    judged_file true is = judged_sections is (sections_or_refusal (body_of bytes file) file.body_at)

-- ---- of the volume

never_of : (bytes : List ℕ) (found : Option File) (policy : Option Policy) (fault : PolicyFault) → IsPolicyOfFile bytes found policy
    → HasFaultOfFile bytes found fault → ⊥
never_of bytes None policy fault is has = has
never_of bytes (Some file) None fault is has = is
never_of bytes (Some file) (Some policy) fault is has = policy_not_fault bytes file policy fault is has

pub never_both : NeverBoth
never_both bytes files policy fault is has = never_of bytes (policy_file files) policy fault is has

one_of : (bytes : List ℕ) (found : Option File) (one other : Option Policy) → IsPolicyOfFile bytes found one → IsPolicyOfFile bytes found other
    → one ≡ other
one_of bytes None one other a b = a ∙ sym b
one_of bytes (Some file) None other a b = absurd a
one_of bytes (Some file) (Some one) None a b = absurd b
one_of bytes (Some file) (Some one) (Some other) a b = ap Some (one_in_file bytes file one other a b)

pub one_policy : OnePolicy
one_policy bytes files one other a b = one_of bytes (policy_file files) one other a b

one_fault_of : (bytes : List ℕ) (found : Option File) (one other : PolicyFault) → HasFaultOfFile bytes found one → HasFaultOfFile bytes found other
    → one ≡ other
one_fault_of bytes None one other a b = absurd a
one_fault_of bytes (Some file) one other a b = one_fault_in_file bytes file one other a b

pub one_fault : OneFault
one_fault bytes files one other a b = one_fault_of bytes (policy_file files) one other a b

either_of : (bytes : List ℕ) (found : Option File) → All (λ byte. byte < 256) bytes
    → ((policy : Option Policy) × IsPolicyOfFile bytes found policy) ⊎ ((fault : PolicyFault) × HasFaultOfFile bytes found fault)
either_of bytes None small = inl (None, refl)
either_of bytes (Some file) small = lifted (judged_file bytes file small file.sound refl)
  where
    lifted : Judged bytes file
        → ((policy : Option Policy) × IsPolicyOfFile bytes (Some file) policy) ⊎ ((fault : PolicyFault) × HasFaultOfFile bytes (Some file) fault)
    lifted (inl policy) = inl (Some policy.0, policy.1)
    lifted (inr fault) = inr fault

pub policy_or_fault : PolicyOrFault
policy_or_fault bytes files small = either_of bytes (policy_file files) small

-- ---- what is answered

module _ (bytes : List ℕ) (files : List File) (result : Result (Option Policy) (End PolicyFault)) (ok : IfOk result (IsVolumePolicy bytes files))
    (err : IfErr result (EndsBy (HasVolumePolicyFault bytes files))) where
  pub told_found : (policy : Option Policy) → IsVolumePolicy bytes files policy → (result ≡ Ok policy) ⊎ (result ≡ Err (NoMemory out_of_memory))
  told_found policy is =
      found_or_end (IsVolumePolicy bytes files) (HasVolumePolicyFault bytes files) (never_both bytes files) (one_policy bytes files) result ok err policy is

  pub told_first : (fault : PolicyFault) → HasVolumePolicyFault bytes files fault
      → (result ≡ Err (Fault fault)) ⊎ (result ≡ Err (NoMemory out_of_memory))
  told_first fault has =
      first_or_end (IsVolumePolicy bytes files) (HasVolumePolicyFault bytes files) (never_both bytes files) (one_fault bytes files) result ok err fault has

-- ---- the file that is found

by_test : (P : File → Type 0) (p : File → Bool) (file found : File) (files : List File) (test : Bool) → p file ≡ test → P file
    → (find p files ≡ Some found → P found) → find p (file ∷ files) ≡ Some found → P found
by_test P p file found files true is here rest e =
    let same : Some file ≡ Some found = sym (rw is refl) ∙ e in
    let one : file ≡ found = cc in
    subst P one here
by_test P p file found files false is here rest e = rest (sym (rw is refl) ∙ e)

-- what holds of each file holds of the one that is found
pub holds_of_found : (P : File → Type 0) (p : File → Bool) (files : List File) → All P files → (found : File) → find p files ≡ Some found → P found
holds_of_found P p [] all found e = absurd cc
holds_of_found P p (file ∷ files) all found e =
    by_test P p file found files (p file) refl (All-head P file files all) (holds_of_found P p files (All-tail P file files all) found) e
