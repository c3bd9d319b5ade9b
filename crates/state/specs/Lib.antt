-- What the contracts of `state` cite.
pub mod Cuts
pub mod Meaning
pub mod Tables
pub mod Pending
pub mod Named
pub mod Selection
pub mod Reasons
