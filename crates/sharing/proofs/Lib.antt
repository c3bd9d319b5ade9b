pub mod Same
pub mod Theorems
pub mod Large
