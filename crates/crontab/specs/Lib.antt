pub mod Programme
pub mod Scanned
pub mod Fields
