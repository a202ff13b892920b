use Rattle.std.proofs.Common.{◌≡◌, length, ◌∙◌}
use Rattle.image_table.proofs.TableLemmas.{IsTable-admitted}
use Rattle.image_table.proofs.table.ImageTable.admit.Goals as goal

pub invariant_of-self : goal.invariant_of-self
invariant_of-self c =
    let some : length c.self.inside.images.items ≡ 32 → ⊥ =
    λ full. c.if-number-eq-MOST_IMAGES.false (c.len-number.ensures ∙ c.self.inside.images.ok.0 ∙ full) in
    rw (c.push_reserved.ensures.items, c.push_reserved.ensures.capacity)
    (IsTable-admitted c.self.inside.images.items _ c.args.name c.args.base c.args.image.now c.args.parts _ _ c.self.invariant some
    c.pages_for.ensures c.by_address-sections.ensures c.requires.region c.requires.header c.requires.within c.requires.apart)
