use Rattle.std.proofs.Common.{ap}
use Rattle.mm_text.specs.Report.{bytes_text}
use Rattle.mm_text.proofs.PageLemmas.{◌▸◌, as_known}
use Rattle.mm_text.specs.Report.{request_line}
use Rattle.mm_text.proofs.entry_text.put_request.Goals as goal

pub returns : goal.returns
unfolding request_line
returns c =
    c.in_ok-put.ensures ▸ c.in_ok-put_x16.ensures ▸ c.in_ok-put-2.ensures
    ▸ as_known _ c.in_ok-put_bytes.ensures (ap bytes_text c.as_slice.ensures) ▸ c.in_ok-put-3.ensures
