pub mod Runs
pub mod Demand3
pub mod Functions
pub mod Logs
