pub mod Words
pub mod Near
pub mod Stands
pub mod Outcome
pub mod Flattens
pub mod Load
pub mod OpenLists
pub mod Facts
