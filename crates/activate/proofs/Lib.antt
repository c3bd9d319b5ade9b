-- Laws that belong to no one function.
pub mod Written
pub mod Continues
pub mod Running
pub mod Activating
