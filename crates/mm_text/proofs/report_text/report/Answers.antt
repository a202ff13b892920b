use Rattle.std.proofs.Common.{refl, ◌∙◌}
use Rattle.mm_text.proofs.PageLemmas.{◌▸◌}
use Rattle.mm_text.specs.Report.{report_of}
use Rattle.mm_text.proofs.report_text.report.Goals as goal

pub returns : goal.returns
unfolding report_of
returns c =
    c.into_bytes.ensures
    ∙ (c.in_ok-put_volume_part.ensures ▸ c.in_ok-put_files_part.ensures ▸ c.in_ok-put_boot_part.ensures ▸ c.in_ok-put_waiting_part.ensures
    ▸ c.in_ok-put_locked_part.ensures ▸ c.in_ok-put_images_part.ensures ▸ c.in_ok-put_entries_part.ensures
    ▸ c.in_ok-put_lanes_part.ensures).is
    ∙ rw c.new-page.ensures refl
