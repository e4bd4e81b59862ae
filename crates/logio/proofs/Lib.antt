pub mod Agreements
pub mod Blocks
pub mod Room
