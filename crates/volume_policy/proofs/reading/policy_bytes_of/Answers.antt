use Rattle.std.proofs.Common.{Option, Some, subst, refl}
use Rattle.mm_base.specs.declared.volume.Section.{Section}
use Rattle.volume_policy.specs.PolicyFiles.{BadSection}
use Rattle.volume_reader.specs.Search.{HasFirstSection}
use Rattle.file_words.proofs.Offered.{first_section_lies}
use Rattle.volume_policy.proofs.reading.policy_bytes_of.Goals as goal

pub data-requires : goal.data-requires
data-requires c =
    let P : Option Section → Type 0 = λ found. HasFirstSection c.args.bytes.now c.args.file.now 0x19 found in
    first_section_lies c.args.bytes.now c.args.file.now 0x19 (Some c.in-Ok-Some.section) c.requires.within (subst P c.in-Ok-Some.field-0-is c.in-Ok-Some.ensures.ok)

pub returns-in-Err-clause-fault : goal.returns-in-Err-clause-fault
returns-in-Err-clause-fault c = (BadSection c.in-Err.field-0 c.if-not-file.false c.in-Err.ensures.fault, refl)
