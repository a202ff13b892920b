use Rattle.std.proofs.Common.{sym, ap, ◌∙◌, length}
use Rattle.uuid.specs.Text.{hyphenated_text, lower}
use Rattle.mm_base.proofs.GuidLemmas.{length-hyphenated_text}
use Rattle.mm_base.proofs.guid.Guid.text.Goals as goal

pub copy_from_slice-requires : goal.copy_from_slice-requires
copy_from_slice-requires c = sym (ap length (c.as_bytes-written.ensures.value ∙ c.encode_lower.ensures.text) ∙ length-hyphenated_text _)

pub returns : goal.returns
returns c =
    c.copy_from_slice.ensures.after ∙ c.as_bytes-written.ensures.value ∙ c.encode_lower.ensures.text
    ∙ ap (hyphenated_text lower) (c.hyphenated.ensures ∙ c.from_bytes_le-uuid.ensures)
