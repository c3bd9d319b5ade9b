-- What the contracts of `exec` cite.
pub mod Done
pub mod Results
pub mod Paid
pub mod Runs
pub mod DryRuns
