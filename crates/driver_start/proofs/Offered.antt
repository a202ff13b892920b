-- What other crates cite: these names stay.
pub use Rattle.driver_start.proofs.FormLemmas.{loadable_of-is}
