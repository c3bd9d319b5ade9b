pub mod Reading
pub mod Searching
pub mod Writing
pub mod Written
