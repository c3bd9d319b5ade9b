-- What the proofs of several functions use, and the theorems of flat steps.
pub mod Words
pub mod Induction
pub mod Lengths
mod Definition
mod Rows
mod Outcomes
mod Lists
mod Copies
mod Starts
mod Forms
mod Calls
pub mod Parts
pub mod ListsOf
pub mod EachRule
pub mod RuleSays
pub mod RuleLists
pub mod Checked
pub mod Counts
pub mod NearSteps
pub mod Decoded
pub mod OpenBound
pub mod FlatPart
