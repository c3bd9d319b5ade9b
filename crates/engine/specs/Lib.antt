pub mod Seen
pub mod Answers
pub mod Sets
pub mod Handling
pub mod Inputs
pub mod Asked
