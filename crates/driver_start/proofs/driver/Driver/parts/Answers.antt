use Rattle.std.proofs.Common.{◌≡◌, ◌∙◌, ◌++◌, ◌∷◌, [], List, map, ap, sym, arith}
use Rattle.std.specs.List.{range_with_len}
use Rattle.mm_base.specs.declared.image.Part.{Part}
use Rattle.pe_loader.specs.Sections.{part_at}
use Rattle.driver_start.specs.Starts.{DriverState}
use Rattle.driver_start.proofs.LoadLemmas.{map_range-suc, parts_is}
use Rattle.driver_start.proofs.driver.Driver.parts.Goals as goal

pub loop-k-preserved : goal.loop-k-preserved
loop-k-preserved c =
    let k = c.loop-k.k in
    let bytes = c.args.self.now.bytes in
    c.in_ok-push.ensures.ok
    ∙ ap (λ (parts : List Part). parts ++ c.part.result ∷ []) c.loop-k.invariant
    ∙ ap (λ (part : Part). map (part_at bytes) (range_with_len 0 k) ++ part ∷ [])
    (c.part.ensures ∙ ap (λ (d : DriverState). part_at d.bytes k) c.self.view_is)
    ∙ sym (map_range-suc (part_at bytes) k)

pub returns : goal.returns
returns c =
    let k_is : c.loop-k.k ≡ c.self.inside.image.parts = omega (arith, c.loop-k-test.false, c.loop-k.auto.k-end) in
    c.loop-k.invariant
    ∙ ap (λ n. map (part_at c.args.self.now.bytes) (range_with_len 0 n))
    (k_is ∙ ap (λ (d : DriverState). d.image.parts) c.self.view_is ∙ parts_is c.args.self.now.bytes c.args.self.now.image c.requires)
