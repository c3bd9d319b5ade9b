pub mod Fields
pub mod Counts
pub mod ReadBack
pub mod Inside
pub mod Written
pub mod Theorems
pub mod Behind
pub mod Mentioned
pub mod Turns
pub mod Sizes
pub mod Grown
pub mod Leading
pub mod Walking
pub mod CodeLaws
pub mod Counting
pub mod Right
pub mod Whole
pub mod Answers
pub mod Placed
pub mod Kept
pub mod AcceptedFields
pub mod AcceptedRange
pub mod AcceptedTables
pub mod AcceptedSteps
pub mod Accepted
pub mod Claims
mod Examples
mod AcceptedExamples
