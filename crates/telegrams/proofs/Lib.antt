pub mod KeptLaws
pub mod ShortestLaws
pub mod PlacesLaws
pub mod Theorems
pub mod CodeLaws
pub mod Examples
