-- What the contracts of `wheel` cite.
pub mod Wall
pub mod Deadline
pub mod Tick
pub mod Given
pub mod Turns
