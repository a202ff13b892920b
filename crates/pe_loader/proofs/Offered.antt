-- What other crates cite: these names stay.
pub use Rattle.pe_loader.proofs.ImageLemmas.{either as image_or_fault, never_both as never_image_and_fault, one_image, one_fault as one_image_fault}
