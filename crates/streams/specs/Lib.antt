-- What the contracts of this crate cite.
pub mod Filling
pub mod Writing
