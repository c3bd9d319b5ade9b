-- Laws that belong to no one function.
pub mod Gathering
pub mod Calling
pub mod Standing
pub mod Example
