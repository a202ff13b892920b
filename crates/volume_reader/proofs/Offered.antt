-- What other crates cite: these names stay.
pub use Rattle.volume_reader.proofs.LawLemmas.{either as volume_or_fault, never_both as never_volume_and_fault, one_volume, one_fault as one_volume_fault}
pub use Rattle.volume_reader.proofs.FileLemmas.{files_in_bytes}
pub use Rattle.volume_reader.proofs.PlaceLemmas.{files_aligned, files_apart, files_whole}
pub use Rattle.volume_reader.proofs.SectionLawLemmas.{either as sections_or_refusal}
pub use Rattle.volume_reader.proofs.SectionLemmas.{list_or_refusal as never_sections_and_refusal, one_list as one_list_of_sections, one_refusal}
