pub mod Printed
pub mod Playing
pub mod Gathered
pub mod Example
pub mod Played
