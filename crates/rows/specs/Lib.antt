-- What the contracts of `rows` cite.
pub mod Places
pub mod Rows
pub mod Sizes
