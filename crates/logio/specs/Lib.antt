-- What the contracts of this crate cite.
pub mod Agreeing
pub mod Turns
