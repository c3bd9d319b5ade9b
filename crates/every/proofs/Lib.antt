-- Laws that belong to no one function.
pub mod KeptSlots
pub mod Slots
