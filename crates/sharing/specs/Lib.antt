pub mod Unshared
pub mod Sharing
pub mod Large
