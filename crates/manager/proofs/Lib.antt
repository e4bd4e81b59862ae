pub mod Called
pub mod Calls
pub mod Directives
pub mod Ticks
