pub mod Catalog
pub mod CatalogLaws
pub mod Causes
pub mod JudgingInside
pub mod KnownFilesInside
pub mod Parts
