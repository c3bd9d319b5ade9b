-- Laws that belong to no one function.
pub mod Numbered
pub mod Putting
pub mod Lines
pub mod Splits
pub mod Reading
pub mod Ways
pub mod Examples
pub mod Digits
