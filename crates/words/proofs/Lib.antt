pub mod Laws
pub mod Minutes
pub mod Division
