pub mod Laws
pub mod PolicyFiles
