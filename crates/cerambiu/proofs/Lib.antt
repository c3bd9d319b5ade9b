pub mod Lent
pub mod Seeing
pub mod Sending
