-- What the contracts of `every` cite.
pub mod Joined
