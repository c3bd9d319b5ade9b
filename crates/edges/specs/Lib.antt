pub mod Samples
pub mod Edges
pub mod Examples
pub mod Play
pub mod SetBack
pub mod Sharing
pub mod Numbers
