use Rattle.std.proofs.Common.{◌≡◌, ◌+◌, ◌%◌, ◌<◌, ℕ, List, length, take, drop, get_or, eqb, sum, ap, ◌∙◌, arith}
use Rattle.std.proofs.Math.ListN.{set}
use Rattle.std.proofs.lemmas.Grind.{common_steps}
use Rattle.std.proofs.lemmas.Bool.Decides.{nat_tests}
use Rattle.volume_reader.specs.FileHeader.{Area, header_size}
use Rattle.volume_reader.proofs.AreaLemmas.{header_sum}
use Rattle.volume_reader.proofs.area.Area.header_sums_up.Goals as goal

pub returns : goal.returns
returns c =
    let header : List ℕ = c.split_at-2.result.0.now in
    let e = c.split_at.ensures.back in
    let f = c.split_at-2.ensures.front in
    let h = c.header_size.ensures in
    let bytes = ap (λ (area : Area). area.bytes) c.self.view_is in
    let is : header ≡ take (header_size c.args.self.now c.args.at) (drop c.args.at c.args.self.now.bytes) = cc in
    let long : 23 < length header = grind (arith, nat_tests, common_steps) in
    ap (λ n. eqb n ((get_or header 17 0 + get_or header 23 0) % 256)) c.sum_of_bytes.ensures
    ∙ header_sum header long
    ∙ ap (λ (header : List ℕ). eqb (sum (set (set header 17 0) 23 0) % 256) 0) is
