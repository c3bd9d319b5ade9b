pub mod Saturating
pub mod Pairs
pub mod Signed
pub mod Solar
