-- Laws that belong to no one function.
pub mod Follows
pub mod Cases
pub mod Stepped
pub mod Bounds
pub mod Going
pub mod DryLaws
pub mod DryGoing
