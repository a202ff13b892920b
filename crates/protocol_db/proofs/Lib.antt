pub mod CountLemmas
pub mod DbLemmas
pub mod KeyLemmas
pub mod LawLemmas
pub mod ListLemmas
pub mod RowLemmas
