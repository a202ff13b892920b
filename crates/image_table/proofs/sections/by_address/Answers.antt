use Rattle.std.proofs.Common.{◌∙◌, ap, rules}
use Rattle.std.specs.List.{filter}
use Rattle.std.proofs.lemmas.Fn.{filter_same}
use Rattle.std.proofs.lemmas.List.Sorted.{IsNonDecreasingBy-from_sort_by_key}
use Rattle.image_table.proofs.SectionLemmas.{sorted_is_sections_of}
use Rattle.image_table.specs.Sections.{has_bytes}
use Rattle.image_table.proofs.sections.by_address.Goals as goal

pub returns : goal.returns
returns c =
    c.from_vec.ensures
    ∙ sorted_is_sections_of c.args.parts _ _ c.requires
    (filter_same _ has_bytes _ (λ x b f' k. search rules) _ _ c.retain.ensures.filtered ∙ ap (filter has_bytes) c.into_vec-sections.ensures)
    c.sort_unstable_by_key.ensures.permutation
    (IsNonDecreasingBy-from_sort_by_key (λ part. part.at) _ c.sort_unstable_by_key.ensures.sorted (λ a r q k. search rules))
