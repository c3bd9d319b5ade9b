pub mod Mention
pub mod Frames
pub mod Walk
