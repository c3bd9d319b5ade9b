-- What the contracts of `activate` cite.
pub mod Carried
pub mod Handled
pub mod Outcomes
pub mod Decisions
pub mod Executes
