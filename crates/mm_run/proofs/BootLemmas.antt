-- What a boot comes to, and the names of images one after another.
use Rattle.std.proofs.Common.{◌≡◌, ◌<◌, ℕ, zero, suc, ◌+◌, add-one, Bool, List, [], ◌∷◌, ◌++◌, length, map, take, Option, Result, Ok, Err, IfErr, refl, sym, ap, ◌∙◌, arith}
use Rattle.std.proofs.lemmas.List.{length-map}
use Rattle.std.specs.Result.{IsErrAnd}
use Rattle.image_table.specs.ImageTable.{name_at}
use Rattle.image_table.specs.declared.placed_image.PlacedImage.{PlacedImage}
use Rattle.mm_base.specs.End.{EndsBy, out_of_memory}
use Rattle.mm_base.specs.declared.end.End.{End}
use Rattle.mm_base.specs.declared.end.End.TheVariants as end
use Rattle.mm_base.specs.declared.guid.Guid.{Guid}
use Rattle.mm_base.specs.declared.policy.Policy.{Policy}
use Rattle.mm_base.specs.declared.policy.PolicyFault.{PolicyFault}
use Rattle.mm_base.specs.declared.volume.File.{File}
use Rattle.mm_core.specs.CoreState.{CoreState}
use Rattle.mm_groups.specs.Closed.{AreAloneClosed}
use Rattle.mm_text.specs.declared.parts.Locked.{Locked}
use Rattle.mm_run.specs.BootRun.{locked_in}
use Rattle.mm_run.specs.Status.{status_of_policy}
use Rattle.mm_run.specs.declared.status.Status.{Status}
use Rattle.mm_run.specs.declared.status.Status.TheVariants.{NoMemory}
use Rattle.volume_policy.specs.PolicyFiles.{HasVolumePolicyFault, IsVolumePolicy}
use Rattle.volume_policy.proofs.Offered.{never_policy_and_fault}

abbrev names : List PlacedImage → List Guid
names images = map (λ image. image.name) images

-- one name more
names_suc : (images : List PlacedImage) (k : ℕ) → k < length images
    → names (take k images) ++ name_at images k ∷ [] ≡ names (take (suc k) images)
names_suc [] k less = absurd (omega (arith, less))
names_suc (image ∷ images) zero less = refl
names_suc (image ∷ images) (suc k) less = ap (λ ns. image.name ∷ ns) (names_suc images k (omega (arith, less)))

pub names_more : (images : List PlacedImage) (k : ℕ) → k < length images
    → names (take k images) ++ name_at images k ∷ [] ≡ names (take (k + 1) images)
names_more images k less = rw add-one (names_suc images k less)

-- the fault of a boot whose policy is known is out of memory
known : (bytes : List ℕ) (files : List File) (policy : Option Policy) → IsVolumePolicy bytes files policy
    → (end_of : End PolicyFault) → EndsBy (HasVolumePolicyFault bytes files) end_of
    → status_of_policy end_of ≡ NoMemory out_of_memory
known bytes files policy is (end.Fault fault) has = absurd (never_policy_and_fault bytes files policy fault is has)
known bytes files policy is (end.NoMemory refused) has = refl

-- a boot of a volume whose policy is known is refused out of memory alone
pub refused_known : {A : Type 0} (bytes : List ℕ) (files : List File) (policy : Option Policy) → IsVolumePolicy bytes files policy
    → (end_of : End PolicyFault) → EndsBy (HasVolumePolicyFault bytes files) end_of
    → (result : Result A Status) → IsErrAnd result (λ status. status ≡ status_of_policy end_of)
    → IfErr result (λ status. status ≡ NoMemory out_of_memory)
refused_known bytes files policy is end_of has (Ok made) told = tt
refused_known bytes files policy is end_of has (Err status) told = told ∙ known bytes files policy is end_of has

-- the flags of images stand beside their names
pub flags_beside : (core : CoreState) (locked : Locked) (closed : List Bool) → locked ≡ locked_in core → AreAloneClosed core.site closed
    → length closed ≡ length locked.names
flags_beside core locked closed locked_is closed_are =
    closed_are.count ∙ sym (length-map core.site.supervised.images (λ (image : PlacedImage). image.name))
    ∙ sym (ap (λ (l : Locked). length l.names) locked_is)
