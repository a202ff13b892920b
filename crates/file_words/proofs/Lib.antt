pub mod CatalogLawLemmas
pub mod CatalogLemmas
pub mod ContentsLemmas
pub mod Offered
pub mod PartsLemmas
pub mod WordLemmas
