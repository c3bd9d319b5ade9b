pub mod Answers
pub mod Order
pub mod Formula
pub mod Checks
