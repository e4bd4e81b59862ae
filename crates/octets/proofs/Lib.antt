pub mod NumberBytes
pub mod ZeroBytes
