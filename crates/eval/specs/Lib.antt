pub mod Answers
pub mod Equals
