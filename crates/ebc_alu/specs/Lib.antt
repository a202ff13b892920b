pub mod Index
pub mod Laws
pub mod Reading
pub mod Results
pub mod Tests
