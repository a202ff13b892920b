-- What other crates cite: these names stay.
pub use Rattle.file_words.proofs.CatalogLawLemmas.{catalog_is_there, one_catalog, drivers_differ, started_differ, one_policy, driver_has_parts}
pub use Rattle.file_words.proofs.ContentsLemmas.{first_section_lies}
pub use Rattle.file_words.proofs.PartsLemmas.{parts_or_cause, never_parts_and_cause, one_parts, one_cause}
