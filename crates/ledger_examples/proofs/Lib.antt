pub mod Examples
pub mod User
