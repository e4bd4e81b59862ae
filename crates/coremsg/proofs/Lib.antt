pub mod Changed
pub mod Fields
pub mod Moves
pub mod OneTick
pub mod Room
