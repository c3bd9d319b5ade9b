-- Laws that belong to no one function.
pub mod Places
pub mod Windows
pub mod DueKind
pub mod Least
pub mod RuleParts
pub mod Fires
pub mod Going
pub mod Each
pub mod Names
pub mod Due
pub mod WallTurns
pub mod Loops
pub mod Fired
pub mod WallParts
pub mod Ticks
