pub mod Remembered
pub mod Clock
